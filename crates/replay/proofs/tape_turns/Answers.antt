-- `tape_turns`: what the loop leaves of the tape.
use Rattle.replay.proofs.Replays.{turns_seen, turns_off}
use Rattle.replay.proofs.tape_turns.Goals as goal

pub returns-then-is_read : goal.returns-then-is_read
returns-then-is_read c =
    turns_seen _ _ _ _ _ _ c.turns-run.ensures.noted.1 c.turns-run.ensures.noted.0 c.is_read.ensures c.turns-run.ensures.run c.if-is_read.true

pub returns-else-is_read : goal.returns-else-is_read
returns-else-is_read c =
    rw c.no_run.ensures
    (turns_off _ _ _ _ _ _ c.turns-run.ensures.noted.1 c.turns-run.ensures.noted.0 c.is_read.ensures c.if-is_read.false)
