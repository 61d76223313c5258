-- `check_lengths`: a law for each answer.
use Rattle.std.proofs.lemmas.Result.{err_from_is_err_and}
use Rattle.emulator.proofs.Laws.{test_length, test_marks, test_none}
use Rattle.emulator.proofs.check.check_lengths.Goals as goal

pub returns-in_err-check_length : goal.returns-in_err-check_length
returns-in_err-check_length c =
    let p = err_from_is_err_and c.from_residual.result c.from_residual.ensures.1 in
    rw (p.1, p.2) (test_length _ _ c.in_err-check_length.ensures)

pub returns-then-marks-memory : goal.returns-then-marks-memory
returns-then-marks-memory c = test_marks _ _ c.in_ok-check_length.ensures c.if-marks-memory.true

pub returns : goal.returns
returns c = test_none _ _ c.in_ok-check_length.ensures c.if-marks-memory.false
