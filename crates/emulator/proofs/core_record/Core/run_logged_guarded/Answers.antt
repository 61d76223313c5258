-- `Core::run_logged_guarded`: the host tests, and the turns from marks that are all 0.
use Rattle.std.specs.Prelude.{Some}
use Rattle.emulator.proofs.Whole.{logged_refused, logged_accepted}
use Rattle.emulator.proofs.core_record.Core.run_logged_guarded.Goals as goal

pub returns-in-Err : goal.returns-in-Err
returns-in-Err c = rw c.no_logged_run.ensures (logged_refused (Some c.args.rights.now) _ _ _ _ _ _ c.in-Err.ensures.number _)

pub returns : goal.returns
returns c =
    rw (← c.in-Ok.ensures.rights)
    (logged_accepted (Some _) _ _ _ _ _ (rw (← c.in-Ok.ensures.rights) at c.in-Ok.ensures.number) c.in-Ok.ensures.edition (c.fill.ensures.after (λ y e. e)) _ c.logged_turns.ensures)
