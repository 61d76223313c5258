-- `replay`: the host tests, and the turns.
use Rattle.std.specs.Prelude.{None}
use Rattle.replay.proofs.Replays.{replay_refused, replay_accepted}
use Rattle.replay.proofs.replay.Goals as goal

pub returns-in-Ok : goal.returns-in-Ok
returns-in-Ok c = replay_accepted None _ _ _ _ _ c.in-Ok.ensures.number c.in-Ok.ensures.edition c.tape_turns.ensures

pub returns-in-Err : goal.returns-in-Err
returns-in-Err c = rw c.no_run.ensures (replay_refused None _ _ _ _ _ _ c.in-Err.ensures.number)
