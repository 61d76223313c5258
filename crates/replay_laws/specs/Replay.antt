-- The replay of a run's log is the run (docs/MACHINE.md, Logs and replays). The claim is over what
-- a word is planned to do, and mentions no instruction.
use Rattle.std.specs.Prelude.{ℕ, ◌≡◌, length, get_or}
use Rattle.execute.specs.Registers.{registers}
use Rattle.execute_laws.specs.Words.{IsWord, RegistersFit}
use Rattle.memory.specs.Log.{Logged}
use Rattle.memory.specs.Memory.{Memory}
use Rattle.emulator.specs.Machine.{plan_of, Ran, Setting, refusal_in, run_in}
use Rattle.emulator.specs.declared.core_record.Core.{Core}
use Rattle.replay.specs.Replay.{Replayed, replayed, replay_of}
use Rattle.run_laws.specs.Agreement.{HasRoom}

-- words are 16-bit: in the registers, and in memory
abbrev pub CoreFits : Core → Type 0
CoreFits core = RegistersFit (registers core.gprs core.ip core.rp core.sp core.ef)

abbrev pub MemoryFits : Memory → Type 0
MemoryFits memory = (address : ℕ) → IsWord (get_or memory.words address 0)

-- what a replay owes for a run: its end, with number and value, its steps, and its twelve registers
abbrev pub seen_again : Logged (Ran Memory) → Replayed
seen_again run = replayed run.result.end run.result.steps run.result.core

-- for every run that no host test refuses and that doesn't end by 30, logged or not, with rights or
-- without: the replay of its log, with its rights, its edition, its core, its memory's length and
-- its limit
abbrev pub ReplayIsRun : Type 0
ReplayIsRun =
    (given : Setting) (core : Core) (memory : Memory) (limit : ℕ)
    → CoreFits core → MemoryFits memory → refusal_in given memory ≡ 0 → HasRoom (run_in plan_of given core memory limit)
    → replay_of plan_of given.rights given.edition core (length memory.words) limit (run_in plan_of given core memory limit).log
    ≡ seen_again (run_in plan_of given core memory limit)
