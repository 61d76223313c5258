-- `put_records`: a law for a turn and one for the end.
use Rattle.std.proofs.Common.{arith}
use Rattle.sheet.proofs.InputLaws.{input_next, input_last}
use Rattle.sheet.proofs.input.put_records.Goals as goal

pub loop-i-preserved : goal.loop-i-preserved
loop-i-preserved c = input_next c.loop-i.invariant c.as_chunks.ensures.front (omega arith) c.from_le_bytes.ensures

pub returns : goal.returns
returns c = input_last c.loop-i.invariant (omega arith) (omega arith)
