-- What a host sees of a replay (docs/MACHINE.md, Logs and replays), in the layout of
-- include/nilguseg.h.
use Rattle.std.specs.Prelude.{[]}
use Rattle.nilguseg.specs.Host.{Call, ended_call}
use Rattle.replay.specs.Replay.{Replayed}

-- as for a run, without memory
abbrev pub replay_call : Replayed → Call
replay_call replayed = ended_call replayed.end replayed.steps replayed.core []
