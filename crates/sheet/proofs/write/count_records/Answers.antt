-- `count_records`: a law for a turn and one for the end.
use Rattle.sheet.proofs.WriteLaws.{counting_next, counting_done}
use Rattle.sheet.proofs.write.count_records.Goals as goal

pub loop-word-preserved : goal.loop-word-preserved
loop-word-preserved c = counting_next _ _ _ _ _ c.loop-word.invariant c.loop-word-test.true c.needed-count.ensures

pub returns : goal.returns
returns c = counting_done _ _ _ _ c.loop-word.invariant c.loop-word-test.false
