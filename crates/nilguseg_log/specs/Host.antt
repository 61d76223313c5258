-- What a host sees of a logged run (docs/MACHINE.md, Logs and replays), in the layout of
-- include/nilguseg.h.
use Rattle.std.specs.Prelude.{ℕ, ◌/◌, ◌^◌, ◌≡◌, List, [], ◌∷◌, length}
use Rattle.memory.specs.Memory.{Memory}
use Rattle.emulator.specs.Machine.{plan_of, RanLogged, Setting, refusal_in, run_in}
use Rattle.emulator.specs.declared.core_record.Core.{Core}
use Rattle.nilguseg.specs.Host.{Call, ended_call}
use Rattle.replay.specs.Replay.{replay_of}
use Rattle.run_laws.specs.Agreement.{HasRoom}

-- as for a run, with the log, and the number of its words
abbrev pub logged_call : RanLogged → Call
logged_call ran =
    let run = ran.run in
    ended_call run.end run.steps run.core (run.memory.words ∷ run.memory.marks ∷ ran.log.buffer ∷ (ran.log.count ∷ []) ∷ [])

-- how the answer of a run says that its log ended it
abbrev pub IsEndedByLog : ℕ → Type 0
IsEndedByLog answer = answer / 2 ^ 56 ≡ 5

-- the replay of a log, with a run's own core, length of memory, rights, edition and limit, shows a
-- host what it has seen of the run, if no host test refuses the run and its log doesn't end it
abbrev pub ReplaysAs : Setting → Core → Memory → ℕ → List ℕ → Call → Type 0
ReplaysAs given core memory limit log seen =
    refusal_in given memory ≡ 0 → HasRoom (run_in plan_of given core memory limit)
    → let again = replay_of plan_of given.rights given.edition core (length memory.words) limit log in
    ended_call again.end again.steps again.core [] ≡ seen
