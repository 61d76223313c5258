-- The definitions at small sheets (docs/SHEETS.md), computed.
use Prim.Native.Nat.{ℕ}
use mathlib.Core.List.{List, [], ◌∷◌, map}
use mathlib.Core.Path.{◌≡◌, refl}
use lib.ListN.{drop}
use Rattle.emulator.specs.Core.{new_core}
use Rattle.execute.specs.Edition.{refused_edition}
use Rattle.memory.specs.Memory.{refused_length}
use Rattle.memory.specs.declared.refusal.Refusal.TheVariants.{MemoryLength}
use Rattle.std.specs.Prelude.{Result, Ok, Err}
use Rattle.sheet.specs.declared.refusal.SheetRefusal.{SheetRefusal}
use Rattle.sheet.specs.declared.refusal.SheetRefusal.TheVariants.{Host, ShortBuffer, UnknownKind, NonzeroBit, UnknownRegister, UnknownEdition, PastMemory, NoEnd, AfterEnd, WrongCount}
use Rattle.sheet.specs.Record.{record_of, register_of, with_register}
use Rattle.sheet.specs.Load.{left, read_from, load_sheet_of, load_words_of}
use Rattle.sheet.specs.Write.{edition_records, presets_from, records_at, stretches_from, sheet_of, wrote, write_sheet_of}

-- the answer to a sheet in a memory of two words, and the edition
abbrev pub answer : List ℕ → Result (Unit {0}) SheetRefusal
answer sheet = (load_sheet_of sheet (7 ∷ 7 ∷ [])).answer

abbrev pub edition : List ℕ → ℕ
edition sheet = (load_sheet_of sheet (7 ∷ 7 ∷ [])).edition

pub refusals : map answer
    ((0x00000000 ∷ [])
    ∷ (0x10010000 ∷ [])
    ∷ (0x20010000 ∷ [])
    ∷ (0x30100000 ∷ [])
    ∷ (0x300C0000 ∷ [])
    ∷ (0x10000002 ∷ 0x20000001 ∷ 0xF0000001 ∷ [])
    ∷ (0x20000001 ∷ 0xF0000000 ∷ [])
    ∷ (0x30000001 ∷ 0xF0000000 ∷ [])
    ∷ (0x10000001 ∷ 0x20000001 ∷ 0xF0000001 ∷ [])
    ∷ (0x20000001 ∷ 0xF0000002 ∷ [])
    ∷ (0xF0000000 ∷ 0 ∷ [])
    ∷ []
    ∷ (0x30001234 ∷ [])
    ∷ (0x10000001 ∷ 0x20000001 ∷ 0x30001234 ∷ 0xF0000003 ∷ [])
    ∷ [])
    ≡ Err UnknownKind
    ∷ Err NonzeroBit
    ∷ Err NonzeroBit
    ∷ Err NonzeroBit
    ∷ Err UnknownRegister
    ∷ Err PastMemory
    ∷ Err WrongCount
    ∷ Err WrongCount
    ∷ Err WrongCount
    ∷ Err WrongCount
    ∷ Err AfterEnd
    ∷ Err NoEnd
    ∷ Err NoEnd
    ∷ Ok tt
    ∷ []
unfolding load_sheet_of refused_length read_from record_of with_register
refusals = refl

-- kind 7: bits that must be 0, an edition neither 1 nor 2, the first of two bad records, and an
-- edition that the end counts or doesn't
pub edition_refusals : map answer
    ((0x70010002 ∷ [])
    ∷ (0x78000002 ∷ [])
    ∷ (0x70010000 ∷ [])
    ∷ (0x70000000 ∷ [])
    ∷ (0x70000003 ∷ [])
    ∷ (0x7000FFFF ∷ [])
    ∷ (0x300C0000 ∷ 0x70000000 ∷ [])
    ∷ (0x70000000 ∷ 0x300C0000 ∷ [])
    ∷ (0x70000002 ∷ 0xF0000001 ∷ [])
    ∷ (0x70000002 ∷ 0xF0000000 ∷ [])
    ∷ [])
    ≡ Err NonzeroBit
    ∷ Err NonzeroBit
    ∷ Err NonzeroBit
    ∷ Err UnknownEdition
    ∷ Err UnknownEdition
    ∷ Err UnknownEdition
    ∷ Err UnknownRegister
    ∷ Err UnknownEdition
    ∷ Ok tt
    ∷ Err WrongCount
    ∷ []
unfolding load_sheet_of refused_length refused_edition read_from record_of with_register
edition_refusals = refl

-- the last record of an edition is its sheet's; 1 with none, and where the load is refused
pub editions : map edition
    ((0x70000001 ∷ 0xF0000001 ∷ [])
    ∷ (0x70000002 ∷ 0xF0000001 ∷ [])
    ∷ (0x70000001 ∷ 0x70000002 ∷ 0xF0000002 ∷ [])
    ∷ (0x70000002 ∷ 0x70000001 ∷ 0xF0000002 ∷ [])
    ∷ (0x20000001 ∷ 0x30000001 ∷ 0x70000002 ∷ 0xF0000003 ∷ [])
    ∷ (0xF0000000 ∷ [])
    ∷ (0x70000002 ∷ [])
    ∷ [])
    ≡ 1 ∷ 2 ∷ 2 ∷ 1 ∷ 2 ∷ 1 ∷ 1 ∷ []
unfolding load_sheet_of refused_length refused_edition read_from record_of with_register
editions = refl

-- the program's example
pub program : load_sheet_of (0x20001003 ∷ 0x2000FFFF ∷ 0xF0000002 ∷ []) (7 ∷ 7 ∷ 7 ∷ []) ≡ left (Ok tt) new_core 1 (0x1003 ∷ 0xFFFF ∷ 0 ∷ [])
unfolding load_sheet_of refused_length read_from record_of
program = refl

-- two stretches, and a fresh core, in edition 1
pub stretches : sheet_of new_core 1 (5 ∷ 0 ∷ 6 ∷ 7 ∷ [])
    ≡ 0x30000000 ∷ 0x30010000 ∷ 0x30020000 ∷ 0x30030000 ∷ 0x30040000 ∷ 0x30050000 ∷ 0x30060000 ∷ 0x30070000
    ∷ 0x30080000 ∷ 0x30090000 ∷ 0x300AFFFF ∷ 0x300B0000
    ∷ 0x10000000 ∷ 0x20000005 ∷ 0x10000002 ∷ 0x20000006 ∷ 0x20000007 ∷ 0xF0000011 ∷ []
unfolding sheet_of edition_records presets_from stretches_from records_at register_of
stretches = refl

-- a memory of zeros, in either edition
pub empty : drop 12 (sheet_of new_core 1 (0 ∷ [])) ∷ drop 12 (sheet_of new_core 2 (0 ∷ [])) ∷ []
    ≡ (0xF000000C ∷ []) ∷ (0x300B0000 ∷ 0xF000000D ∷ []) ∷ []
unfolding sheet_of edition_records presets_from stretches_from records_at register_of
empty = refl

-- the writer's tests, with no room at all: memory's length, the edition, the buffer
pub unwritten :
    write_sheet_of new_core 0 [] []
    ∷ write_sheet_of new_core 0 (5 ∷ []) []
    ∷ write_sheet_of new_core 3 (5 ∷ []) []
    ∷ write_sheet_of new_core 65535 (5 ∷ []) []
    ∷ write_sheet_of new_core 1 (5 ∷ []) []
    ∷ write_sheet_of new_core 2 (5 ∷ []) []
    ∷ []
    ≡ wrote (Err (Host MemoryLength)) []
    ∷ wrote (Err UnknownEdition) []
    ∷ wrote (Err UnknownEdition) []
    ∷ wrote (Err UnknownEdition) []
    ∷ wrote (Err ShortBuffer) []
    ∷ wrote (Err ShortBuffer) []
    ∷ []
unfolding write_sheet_of refused_length refused_edition sheet_of edition_records presets_from stretches_from records_at register_of
unwritten = refl

pub words : load_words_of (1 ∷ 2 ∷ []) (7 ∷ 7 ∷ 7 ∷ []) ≡ left (Ok tt) new_core 1 (1 ∷ 2 ∷ 0 ∷ [])
unfolding load_words_of refused_length
words = refl
