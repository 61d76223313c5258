-- `replay_guarded`: the host tests, and the turns.
use Rattle.std.specs.Prelude.{Some}
use Rattle.replay.proofs.Replays.{replay_refused, replay_accepted}
use Rattle.replay.proofs.replay_guarded.Goals as goal

pub returns-in-Ok : goal.returns-in-Ok
returns-in-Ok c =
    rw (← c.in-Ok.ensures.rights)
    (replay_accepted (Some _) _ _ _ _ _ (rw (← c.in-Ok.ensures.rights) at c.in-Ok.ensures.number) c.in-Ok.ensures.edition c.tape_turns.ensures)

pub returns-in-Err : goal.returns-in-Err
returns-in-Err c = rw c.no_run.ensures (replay_refused (Some c.args.rights.now) _ _ _ _ _ _ c.in-Err.ensures.number)
