-- Two runs agree: one claim over every two accepted runs of one core and one limit, with equal
-- rights and in one edition. It rests on the definitions of the machine (docs/MACHINE.md, The run,
-- Rights, Editions) and mentions no instruction.
use Rattle.std.specs.Prelude.{ℕ, ◌≡◌, List, length, get_or}
use Rattle.memory.specs.Log.{Logged}
use Rattle.memory.specs.Memory.{Memory, was_read, was_written}
use Rattle.memory.specs.Outcome.{ended}
use Rattle.execute.specs.declared.edition.Edition.{Edition}
use Rattle.emulator.specs.Machine.{Plan, plan_of, Ran, Setting, plain, refusal_in, run_in, run_of}
use Rattle.emulator.specs.declared.core_record.Core.{Core}

-- the word, and the mark, at an address
abbrev pub word_at : Memory → ℕ → ℕ
word_at memory address = get_or memory.words address 0

abbrev pub mark_at : Memory → ℕ → ℕ
mark_at memory address = get_or memory.marks address 0

-- What is equal when both runs have ended: the first, run, started with memory, the second, run',
-- with memory'.
pub record Agree (memory memory' : Memory) (run run' : Ran Memory) : Type 0 where
  -- the end, with its number and its value
  pub end : run'.end ≡ run.end
  -- the steps counted
  pub steps : run'.steps ≡ run.steps
  -- the twelve registers
  pub core : run'.core ≡ run.core
  -- the mark of every address
  pub marks : run'.memory.marks ≡ run.memory.marks
  -- the final word at every address whose mark includes 2
  pub written : (address : ℕ) → was_written (mark_at run.memory address) ≡ 1
      → word_at run'.memory address ≡ word_at run.memory address
  -- every other address keeps the word that it had at its own run's start
  pub first_kept : (address : ℕ) → was_written (mark_at run.memory address) ≡ 0
      → word_at run.memory address ≡ word_at memory address
  pub second_kept : (address : ℕ) → was_written (mark_at run'.memory address) ≡ 0
      → word_at run'.memory address ≡ word_at memory' address
  -- the lengths
  pub first_length : length run.memory.words ≡ length memory.words
  pub second_length : length run'.memory.words ≡ length memory'.words
  pub marks_length : length run.memory.marks ≡ length memory.words

-- the same, and the logs
pub record AgreeLogged (memory memory' : Memory) (run run' : Logged (Ran Memory)) : Type 0 where
  pub runs : Agree memory memory' run.result run'.result
  pub logs : run'.log ≡ run.log

-- a run that doesn't end by 30
abbrev pub HasRoom : Logged (Ran Memory) → Type 0
HasRoom run = run.result.end ≡ ended 30 → ⊥

-- two runs are compared that both log with equal room, or both don't log; or of which neither ends
-- by 30
pub data Compared (given given' : Setting) (run run' : Logged (Ran Memory)) : Type 0 where
  equal_room : given'.room ≡ given.room → Compared given given' run run'
  enough_room : HasRoom run → HasRoom run' → Compared given given' run run'

-- Their editions are equal; their rights are equal, or both have none; no host test refuses the
-- runs, whatever marks they are lent; the memories are equally long, and equal as they stand when
-- the runs start wherever the first run's final mark includes 1.
abbrev pub AgreementOf : (Edition → Core → ℕ → Plan) → Type 0
AgreementOf plan =
    (given given' : Setting) (core : Core) (limit : ℕ) (memory memory' : Memory)
    → given'.edition ≡ given.edition → given'.rights ≡ given.rights
    → refusal_in given memory ≡ 0 → refusal_in given' memory' ≡ 0 → length memory.words ≡ length memory'.words
    → Compared given given' (run_in plan given core memory limit) (run_in plan given' core memory' limit)
    → ((address : ℕ) → was_read (mark_at (run_in plan given core memory limit).result.memory address) ≡ 1
    → word_at memory address ≡ word_at memory' address)
    → AgreeLogged memory memory' (run_in plan given core memory limit) (run_in plan given' core memory' limit)

-- the agreement of this machine's runs
abbrev pub Agreement : Type 0
Agreement = AgreementOf plan_of

-- and its instance for two runs without a log and without rights
abbrev pub PlainAgreement : Type 0
PlainAgreement =
    (edition : ℕ) (core : Core) (limit : ℕ) (memory memory' : Memory)
    → refusal_in (plain edition) memory ≡ 0 → refusal_in (plain edition) memory' ≡ 0 → length memory.words ≡ length memory'.words
    → ((address : ℕ) → was_read (mark_at (run_of plan_of core memory edition limit).memory address) ≡ 1
    → word_at memory address ≡ word_at memory' address)
    → Agree memory memory' (run_of plan_of core memory edition limit) (run_of plan_of core memory' edition limit)

-- what the agreement says of one run in a setting, which left these marks: every accepted run of
-- the same core and limit in the same setting agrees with it, if its memory is as long, and starts
-- equal wherever the marks include 1
abbrev pub AgreesWithOthers : Setting → Core → Memory → ℕ → List ℕ → Type 0
AgreesWithOthers given core memory limit marks =
    (memory' : Memory) → refusal_in given memory ≡ 0 → refusal_in given memory' ≡ 0 → length memory.words ≡ length memory'.words
    → ((address : ℕ) → was_read (get_or marks address 0) ≡ 1 → word_at memory address ≡ word_at memory' address)
    → AgreeLogged memory memory' (run_in plan_of given core memory limit) (run_in plan_of given core memory' limit)
