-- `Core::step`: the host tests, and a run of at most one turn.
use Rattle.emulator.proofs.Whole.{step_refused, step_answered}
use Rattle.emulator.proofs.core_record.Core.step.Goals as goal

pub returns-in-Err : goal.returns-in-Err
returns-in-Err c = step_refused _ _ _ _ _ c.in-Err.ensures.number

pub returns : goal.returns
returns c = step_answered _ _ _ _ _ _ c.in-Ok.ensures.number c.in-Ok.ensures.edition c.marked_turns-run.ensures c.answered.ensures
