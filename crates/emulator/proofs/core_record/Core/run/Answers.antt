-- `Core::run`: the host tests, and the turns from marks that are all 0.
use Rattle.std.specs.Prelude.{None}
use Rattle.emulator.proofs.Whole.{run_refused, run_accepted}
use Rattle.emulator.proofs.core_record.Core.run.Goals as goal

pub returns-in-Err : goal.returns-in-Err
returns-in-Err c = rw c.no_run.ensures (run_refused None _ _ _ _ _ _ c.in-Err.ensures.number)

pub returns : goal.returns
returns c = run_accepted None _ _ _ _ _ c.in-Ok.ensures.number c.in-Ok.ensures.edition (c.fill.ensures.after (λ y e. e)) c.marked_turns.ensures
