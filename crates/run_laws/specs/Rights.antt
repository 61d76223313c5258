-- What is claimed of rights over pages: what a page without a right keeps, and that 256 sevens are
-- the run without rights (docs/MACHINE.md, Rights).
use Rattle.std.specs.Prelude.{ℕ, ◌<◌, ◌≡◌, ◌^◌, true, false, List, length, get_or, replicate, Option, None, Some}
use Rattle.memory.specs.Log.{address_word, Logged, Room}
use Rattle.memory.specs.Memory.{Memory, was_read, was_written}
use Rattle.memory.specs.Rights.{right_of, has_right}
use Rattle.emulator.specs.Machine.{plan_of, Ran, Setting, setting, refusal_in, run_in}
use Rattle.emulator.specs.declared.core_record.Core.{Core}
use Rattle.memory.specs.declared.log.Purpose.{Purpose}
use Rattle.memory.specs.declared.rights.Right.{Right}
use Rattle.run_laws.specs.Agreement.{word_at, mark_at, AgreeLogged}

-- an address whose page lacks a right, and one whose page has none
abbrev pub Lacks : Option (List ℕ) → Right → ℕ → Type 0
Lacks rights right address = has_right rights right address ≡ false

abbrev pub Closed : Option (List ℕ) → ℕ → Type 0
Closed rights address = (right : Right) → Lacks rights right address

-- no word of a log names an address as read for a purpose
abbrev pub Unnamed : Purpose → ℕ → List ℕ → Type 0
Unnamed purpose address log = (k : ℕ) → get_or log k 0 ≡ address_word purpose address → ⊥

-- what a run that started with this memory leaves of an address on a page without any right: its
-- mark is 0, its word is the one at the start, and no log word names it
pub record Untouched (memory : Memory) (address : ℕ) (run : Logged (Ran Memory)) : Type 0 where
  pub mark : mark_at run.result.memory address ≡ 0
  pub word : word_at run.result.memory address ≡ word_at memory address
  pub unnamed : (purpose : Purpose) → Unnamed purpose address run.log

-- what such a run leaves of memory: on every page without any right the words of the start, and
-- mark 0
abbrev pub ClosedKept : Option (List ℕ) → Memory → Memory → Type 0
ClosedKept rights start left =
    (address : ℕ) → Closed rights address → (word_at left address ≡ word_at start address) × (mark_at left address ≡ 0)

-- two memories are equal wherever a page has some right
abbrev pub EqualButClosed : Option (List ℕ) → Memory → Memory → Type 0
EqualButClosed rights memory memory' =
    (address : ℕ) (right : Right) → has_right rights right address ≡ true → word_at memory address ≡ word_at memory' address

-- two runs agree in everything but the words on pages without any right
pub record AgreeButClosed (rights : Option (List ℕ)) (memory memory' : Memory) (run run' : Logged (Ran Memory)) : Type 0 where
  pub agree : AgreeLogged memory memory' run run'
  pub words : EqualButClosed rights run.result.memory run'.result.memory

-- of every accepted run
pub record Isolation : Type 0 where
  -- every address, which is a 16-bit word, on a page without any right
  pub untouched : (given : Setting) (core : Core) (memory : Memory) (limit address : ℕ)
      → address < 2 ^ 16 → refusal_in given memory ≡ 0 → Closed given.rights address
      → Untouched memory address (run_in plan_of given core memory limit)
  -- two runs whose memories differ only on such pages
  pub unseen : (given : Setting) (core : Core) (memory memory' : Memory) (limit : ℕ)
      → refusal_in given memory ≡ 0 → refusal_in given memory' ≡ 0 → length memory.words ≡ length memory'.words
      → EqualButClosed given.rights memory memory'
      → AgreeButClosed given.rights memory memory' (run_in plan_of given core memory limit) (run_in plan_of given core memory' limit)
  -- a page without write keeps its words, and no mark on it includes 2
  pub unwritten : (given : Setting) (core : Core) (memory : Memory) (limit address : ℕ)
      → refusal_in given memory ≡ 0 → Lacks given.rights Right.Write address
      → (word_at (run_in plan_of given core memory limit).result.memory address ≡ word_at memory address)
      × (was_written (mark_at (run_in plan_of given core memory limit).result.memory address) ≡ 0)
  -- an address on a page without read and execute is never marked 1
  pub unread : (given : Setting) (core : Core) (memory : Memory) (limit address : ℕ) → refusal_in given memory ≡ 0
      → Lacks given.rights Right.Read address → Lacks given.rights Right.Execute address
      → was_read (mark_at (run_in plan_of given core memory limit).result.memory address) ≡ 0
  -- no log word names an address as read for a purpose whose right its page lacks
  pub unnamed : (given : Setting) (core : Core) (memory : Memory) (limit address : ℕ) (purpose : Purpose)
      → address < 2 ^ 16 → refusal_in given memory ≡ 0
      → Lacks given.rights (right_of purpose) address → Unnamed purpose address (run_in plan_of given core memory limit).log

-- a run with 256 sevens is the run without rights, refusals too, with a log or without
abbrev pub SevensArePlain : Type 0
SevensArePlain =
    (room : Room) (edition : ℕ) (core : Core) (memory : Memory) (limit : ℕ)
    → run_in plan_of (setting room (Some (replicate 256 7)) edition) core memory limit ≡ run_in plan_of (setting room None edition) core memory limit
