-- `test_records`: what is left of the sheet reads as the whole.
use Rattle.sheet.proofs.SheetLaws.{Testing}
use Rattle.sheet.proofs.load.test_records.Given as goal

abbrev pub invariant-loop-before : goal.invariant-loop-before
invariant-loop-before l = Testing l.sheet l.size l.before l.address
