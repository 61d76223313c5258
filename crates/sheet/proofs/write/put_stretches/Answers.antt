-- `put_stretches`: a law for a turn and one for the end, and each word has room.
use Rattle.std.proofs.Common.{arith}
use Rattle.sheet.proofs.WriteLaws.{stretching_room, stretching_next, stretching_done}
use Rattle.sheet.proofs.write.put_stretches.Goals as goal

pub put_word-at-requires : goal.put_word-at-requires
put_word-at-requires c = (stretching_room _ _ _ _ _ _ c.loop-address.invariant c.loop-address-test.true c.requires.1, omega arith)

pub loop-address-preserved : goal.loop-address-preserved
loop-address-preserved c = stretching_next _ _ _ _ _ _ _ _ c.loop-address.invariant c.loop-address-test.true c.put_word-at.ensures.value c.put_word-at.ensures.sheet_after

pub returns : goal.returns
returns c = stretching_done _ _ _ _ _ _ c.loop-address.invariant c.loop-address-test.false
