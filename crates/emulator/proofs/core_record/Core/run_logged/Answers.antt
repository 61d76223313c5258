-- `Core::run_logged`: the host tests, and the turns from marks that are all 0.
use Rattle.std.specs.Prelude.{None}
use Rattle.emulator.proofs.Whole.{logged_refused, logged_accepted}
use Rattle.emulator.proofs.core_record.Core.run_logged.Goals as goal

pub returns-in-Err : goal.returns-in-Err
returns-in-Err c = rw c.no_logged_run.ensures (logged_refused None _ _ _ _ _ _ c.in-Err.ensures.number _)

pub returns : goal.returns
returns c = logged_accepted None _ _ _ _ _ c.in-Ok.ensures.number c.in-Ok.ensures.edition (c.fill.ensures.after (λ y e. e)) _ c.logged_turns.ensures
