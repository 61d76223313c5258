-- `test_records`: a law for each answer.
use Rattle.std.proofs.lemmas.Result.{err_from_is_err_and}
use Rattle.sheet.proofs.SheetLaws.{test_none, test_past, test_count, test_after, test_done, test_refused}
use Rattle.sheet.proofs.load.test_records.Goals as goal

pub returns-in_err-place : goal.returns-in_err-place
returns-in_err-place c =
    let p = err_from_is_err_and c.from_residual.result c.from_residual.ensures.1 in
    rw (p.1, p.2) (test_refused c.loop-before.invariant c.loop-before-test.true c.in_err-place.ensures)

pub returns-then-size-address : goal.returns-then-size-address
returns-then-size-address c = test_past c.loop-before.invariant c.loop-before-test.true c.in_ok-place.ensures c.in-Word.is c.if-size-address.true

pub returns-then-count-before : goal.returns-then-count-before
returns-then-count-before c = test_count c.loop-before.invariant c.loop-before-test.true c.in_ok-place.ensures c.in-End.is c.if-count-before.true

pub returns-then-before-sheet : goal.returns-then-before-sheet
returns-then-before-sheet c =
    test_after c.loop-before.invariant c.loop-before-test.true c.in_ok-place.ensures c.in-End.is c.if-count-before.false c.if-before-sheet.true

pub returns-in-End : goal.returns-in-End
returns-in-End c =
    test_done c.loop-before.invariant c.loop-before-test.true c.in_ok-place.ensures c.in-End.is c.if-count-before.false c.if-before-sheet.false

pub returns : goal.returns
returns c = test_none c.loop-before.invariant c.loop-before-test.false
