-- Loading a plain word list (docs/MACHINE.md, Word lists and their order) or a rule sheet
-- (docs/SHEETS.md, The records), with the tests by which a load is refused (docs/NUMBERS.md, The
-- order of the tests).
use Rattle.std.specs.Prelude.{ℕ, Result, Ok, Err, ◌+◌, ◌-◌, List, [], ◌∷◌, ◌++◌, length, set, replicate, ltb, eqb, if◌then◌else◌}
use Rattle.emulator.specs.declared.core_record.Core.{Core}
use Rattle.emulator.specs.Core.{new_core}
use Rattle.memory.specs.Memory.{refused_length}
use Rattle.memory.specs.declared.refusal.Refusal.TheVariants.{MemoryLength}
use Rattle.sheet.specs.declared.refusal.SheetRefusal.{SheetRefusal}
use Rattle.sheet.specs.declared.refusal.SheetRefusal.TheVariants.{Host, LongList, PastMemory, NoEnd, AfterEnd, WrongCount}
use Rattle.sheet.specs.declared.fields.Record.{Record}
use Rattle.sheet.specs.declared.fields.Record.TheVariants.{Place, Word, Preset, Edition, End}
use Rattle.sheet.specs.Record.{record_of, with_register}

-- what a load leaves: its answer, the core, the number of the edition, and what the lent memory
-- holds
pub record Left : Type 0 where
  pub answer : Result (Unit {0}) SheetRefusal
  pub core : Core
  pub edition : ℕ
  pub memory : List ℕ

abbrev pub left : Result (Unit {0}) SheetRefusal → Core → ℕ → List ℕ → Left
left answer core edition mem = record { answer = answer; core = core; edition = edition; memory = mem }

-- a refused load hands back a fresh core and edition 1 and changes nothing
abbrev pub refused_with : SheetRefusal → List ℕ → Left
refused_with refusal mem = left (Err refusal) new_core 1 mem

-- a plain word list: host test 1, then whether it is longer than memory; else
-- memory is the words from address 0 on, and 0 past them; its edition is 1
unfoldable pub load_words_of : List ℕ → List ℕ → Left
load_words_of words mem =
    if refused_length (length mem) then refused_with (Host MemoryLength) mem
    else if ltb (length mem) (length words) then refused_with LongList mem
    else left (Ok tt) new_core 1 (words ++ replicate (length mem - length words) 0)

-- what a sheet gives: the core, the edition and the memory that it describes, or the first test
-- that failed
pub data Reading : Type 0 where
  gives : Core → ℕ → List ℕ → Reading
  fails : SheetRefusal → Reading

-- after an end that counts right no record may stand
abbrev pub closed : List ℕ → Core → ℕ → List ℕ → Reading
closed [] core edition mem = Reading.gives core edition mem
closed (w ∷ rest) core edition mem = Reading.fails AfterEnd

-- what a record counts for the end: 1, of every kind
abbrev pub every_record : Record → ℕ
every_record r = 1

module _ (counts : Record → ℕ) where
  -- one record, with the records `rest` after it, where the load address is `address` and the
  -- records before it count `before`; `more` reads `rest`
  abbrev pub record_reads : Result Record SheetRefusal → List ℕ → (ℕ → ℕ → Core → ℕ → List ℕ → Reading) → ℕ → ℕ → Core → ℕ → List ℕ → Reading
  record_reads (Ok (Place place)) rest more address before core edition mem = more place (before + counts (Place place)) core edition mem
  record_reads (Ok (Word value)) rest more address before core edition mem =
      if ltb address (length mem) then more (address + 1) (before + counts (Word value)) core edition (set mem address value)
      else Reading.fails PastMemory
  record_reads (Ok (Preset register value)) rest more address before core edition mem =
      more address (before + counts (Preset register value)) (with_register core register value) edition mem
  record_reads (Ok (Edition chosen)) rest more address before core edition mem = more address (before + counts (Edition chosen)) core chosen mem
  record_reads (Ok (End count)) rest more address before core edition mem =
      if eqb count before then closed rest core edition mem else Reading.fails WrongCount
  record_reads (Err refusal) rest more address before core edition mem = Reading.fails refusal

  -- the records in order, up to an end record
  unfoldable pub read_from : List ℕ → ℕ → ℕ → Core → ℕ → List ℕ → Reading
  read_from [] address before core edition mem = Reading.fails NoEnd
  read_from (w ∷ rest) address before core edition mem = record_reads (record_of w) rest (read_from rest) address before core edition mem

-- the sheet, for a memory of `size` words: load address 0, no record yet, a fresh core, edition 1
-- and zero memory
abbrev pub sheet_reads : List ℕ → ℕ → Reading
sheet_reads sheet size = read_from every_record sheet 0 0 new_core 1 (replicate size 0)

-- whether the sheet passes, after host test 1
abbrev pub tested_of : Reading → Result (Unit {0}) SheetRefusal
tested_of (Reading.gives core edition mem) = Ok tt
tested_of (Reading.fails refusal) = Err refusal

abbrev pub sheet_test : List ℕ → ℕ → Result (Unit {0}) SheetRefusal
sheet_test sheet size = if refused_length size then Err (Host MemoryLength) else tested_of (sheet_reads sheet size)

abbrev pub settled : List ℕ → Reading → Left
settled mem (Reading.gives core edition loaded) = left (Ok tt) core edition loaded
settled mem (Reading.fails refusal) = refused_with refusal mem

-- a rule sheet: host test 1, then the sheet
unfoldable pub load_sheet_of : List ℕ → List ℕ → Left
load_sheet_of sheet mem = if refused_length (length mem) then refused_with (Host MemoryLength) mem else settled mem (sheet_reads sheet (length mem))
