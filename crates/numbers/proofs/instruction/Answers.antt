-- `instruction`: where the number names no kind, and the arm of kind 2, whose number the check does
-- not put in by itself.
use Rattle.std.proofs.Common.{rules}
use Rattle.numbers.proofs.KindLaws.{no_kind}
use Rattle.numbers.proofs.instruction.Goals as goal

pub returns-in_default : goal.returns-in_default
returns-in_default c = search no_kind

pub returns-in_err-dest-in-2 : goal.returns-in_err-dest-in-2
returns-in_err-dest-in-2 c = rw c.in-2.is (search rules)

pub returns-in_ok-dest-in-2 : goal.returns-in_ok-dest-in-2
returns-in_ok-dest-in-2 c = rw c.in-2.is (search rules)
