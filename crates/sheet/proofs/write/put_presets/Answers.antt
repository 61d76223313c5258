-- `put_presets`: a law for a turn and one for the end.
use Rattle.sheet.proofs.WriteLaws.{presetting_next, presetting_done}
use Rattle.sheet.proofs.write.put_presets.Goals as goal

pub loop-r-preserved : goal.loop-r-preserved
loop-r-preserved c = presetting_next _ _ _ _ _ _ c.loop-r.invariant c.loop-r-test.true c.register.ensures c.preset_record.ensures

pub returns : goal.returns
returns c = presetting_done _ _ _ _ c.loop-r.invariant c.loop-r-test.false
