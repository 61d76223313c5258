-- What is claimed of a logged run and of its log (docs/MACHINE.md, Logs and replays).
use Rattle.std.specs.Prelude.{ℕ, ◌+◌, ◌*◌, ◌≤◌, List, [], ◌++◌, ◌≡◌, length, Option}
use Rattle.execute.specs.declared.edition.Edition.{Edition}
use Rattle.memory.specs.Log.{entry_of, Logged, words}
use Rattle.memory.specs.Memory.{Memory}
use Rattle.memory.specs.Outcome as outcome
use Rattle.memory.specs.Store.{memory_store}
use Rattle.emulator.specs.Machine.{plan_of, cycle_of, Ran, ran, Setting, unlogged, logging_in, run_in}
use Rattle.emulator.specs.declared.core_record.Core.{Core}
use Rattle.memory.specs.declared.log.Purpose.{Purpose}
use Rattle.run_laws.specs.Agreement.{HasRoom}

-- a logged run that doesn't end by 30 is the run without a log with the same rights and in the same
-- edition, in everything
abbrev pub LoggedIsPlain : Type 0
LoggedIsPlain =
    (given : Setting) (core : Core) (memory : Memory) (limit : ℕ) → HasRoom (run_in plan_of given core memory limit)
    → run_in plan_of given core memory limit ≡ run_in plan_of (unlogged given.rights given.edition) core memory limit

-- one that ends by 30 is the run without a log with the limit set to its steps, but for the end
abbrev pub cut_at : Logged (Ran Memory) → Ran Memory
cut_at run = ran outcome.limit run.result.steps run.result.core run.result.memory

abbrev pub FullIsPlain : Type 0
FullIsPlain =
    (given : Setting) (core : Core) (memory : Memory) (limit : ℕ) → (run_in plan_of given core memory limit).result.end ≡ outcome.ended 30
    → (run_in plan_of (unlogged given.rights given.edition) core memory (run_in plan_of given core memory limit).result.steps).result
    ≡ cut_at (run_in plan_of given core memory limit)

-- the log of so many reads
pub data Reads : ℕ → List ℕ → Type 0 where
  no_read : Reads 0 []
  one_more : {n : ℕ} {l : List ℕ} → Reads n l → (purpose : Purpose) (address value : ℕ) → Reads (n + 1) (l ++ entry_of purpose address value)

-- a log of some reads, at most so many
pub record AtMost (most : ℕ) (log : List ℕ) : Type 0 where
  pub count : ℕ
  pub reads : Reads count log
  pub within : count ≤ most

-- a log has two words a read, and at most two reads a step; a step that faults, which isn't
-- counted, makes at most one. It never passes the buffer that is lent for it.
pub record LogSize : Type 0 where
  pub two_words : {n : ℕ} {l : List ℕ} → Reads n l → length l ≡ 2 * n
  pub two_reads : (rights : Option (List ℕ)) (edition : Edition) (core : Core) (memory : Memory)
      → AtMost 2 (cycle_of (memory_store rights) (plan_of edition) core memory).log
  pub run_reads : (given : Setting) (core : Core) (memory : Memory) (limit : ℕ)
      → AtMost (2 * (run_in plan_of given core memory limit).result.steps + 1) (run_in plan_of given core memory limit).log
  pub in_buffer : (core : Core) (memory : Memory) (limit : ℕ) (buffer : List ℕ) (rights : Option (List ℕ)) (edition : ℕ)
      → length (run_in plan_of (logging_in buffer rights edition) core memory limit).log ≤ length buffer

-- a logged run with room for four words a step of its limit doesn't end by 30
abbrev pub FourWordsSuffice : Type 0
FourWordsSuffice =
    (given : Setting) (core : Core) (memory : Memory) (limit size : ℕ) → given.room ≡ words size → 4 * limit ≤ size
    → HasRoom (run_in plan_of given core memory limit)
