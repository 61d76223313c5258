-- The tests by which a call may be refused (docs/NUMBERS.md, The order of the tests): each with its
-- number and whether it fails, and for each call their list in order.
use Rattle.std.specs.Prelude.{ℕ, ◌+◌, ◌%◌, Bool, false, not, ◌&&◌, ◌||◌, ◌==◌, nat_lt, nat_le, List, [], ◌∷◌, ◌++◌, length, Option, Some, None, if◌then◌else◌}
use Rattle.std.specs.List.{list_any}
use Rattle.execute.specs.Edition.{refused_edition}
use Rattle.memory.specs.Memory.{Memory, refused_length}
use Rattle.memory.specs.Rights.{refused_rights}
use Rattle.emulator.specs.declared.core_record.Core.{Core}
use Rattle.sheet.specs.Input.{records_of}
use Rattle.sheet.specs.Record.{kind, above16, above20, register, low, count}
use Rattle.sheet.specs.Write.{sheet_of}

-- a test by its number, and whether it fails
pub data Test : Type 0 where
  test : ℕ → Bool → Test

-- the number of the first test that fails, if one does
unfoldable pub first_failing : List Test → Option ℕ
first_failing [] = None
first_failing (test n fails ∷ rest) = if fails then Some n else first_failing rest

-- What the host hands over.

-- memory has 1 to 65,536 words
abbrev pub memory_test : ℕ → Test
memory_test size = test 1 (refused_length size)

-- and as many marks
abbrev pub marks_test : Memory → Test
marks_test m = test 2 (not (length m.marks == length m.words))

-- the rights, where they are given, are 256 bytes of at most 7
abbrev pub rights_tests : Option (List ℕ) → List Test
rights_tests None = []
rights_tests (Some bytes) = test 32 (refused_rights bytes) ∷ []

-- the edition is 1 or 2
abbrev pub known_edition_test : ℕ → Test
known_edition_test edition = test 34 (refused_edition edition)

-- a step or a run; a replay
abbrev pub run_tests : Option (List ℕ) → ℕ → Memory → List Test
run_tests rights edition m = memory_test (length m.words) ∷ marks_test m ∷ (rights_tests rights ++ known_edition_test edition ∷ [])

abbrev pub replay_tests : Option (List ℕ) → ℕ → ℕ → List Test
replay_tests rights edition size = memory_test size ∷ (rights_tests rights ++ known_edition_test edition ∷ [])

-- a word list, which is not longer than memory
abbrev pub words_tests : List ℕ → ℕ → List Test
words_tests words size = memory_test size ∷ test 3 (nat_lt size (length words)) ∷ []

-- the writer, whose buffer has room for the sheet
abbrev pub write_tests : Core → ℕ → List ℕ → ℕ → List Test
write_tests c edition mem room =
    memory_test (length mem) ∷ known_edition_test edition ∷ test 4 (nat_lt room (length (sheet_of c edition mem))) ∷ []

-- What the sheet's author wrote.

-- the five kinds: place, word, preset, edition, end
abbrev pub is_known : ℕ → Bool
is_known k = k == 1 || k == 2 || k == 3 || k == 7 || k == 15

-- a bit is set that must be 0: of a preset among bits 27..20, of an end none, of any other record
-- among bits 27..16
abbrev pub has_stray_bit : ℕ → Bool
has_stray_bit w =
    if kind w == 3 then not (above20 w == 0)
    else if kind w == 15 then false
    else not (above16 w == 0)

-- a record w in its place, with the load address there: `before` counts the records that stand
-- before it, and those of `after` stand after it
abbrev pub record_tests : ℕ → ℕ → ℕ → ℕ → List ℕ → List Test
record_tests size address before w after =
    test 20 (not (is_known (kind w)))
    ∷ test 21 (has_stray_bit w)
    ∷ test 22 (kind w == 3 && nat_lt 11 (register w))
    ∷ test 34 (kind w == 7 && refused_edition (low w))
    ∷ test 23 (kind w == 2 && nat_le size address)
    ∷ test 26 (kind w == 15 && not (count w == before))
    ∷ test 25 (kind w == 15 && not (length after == 0))
    ∷ []

-- the load address after it
abbrev pub address_past : ℕ → ℕ → ℕ
address_past w address = if kind w == 1 then low w else if kind w == 2 then address + 1 else address

-- record by record
unfoldable pub each_record_tests : ℕ → ℕ → ℕ → List ℕ → List Test
each_record_tests size address before [] = []
each_record_tests size address before (w ∷ after) =
    record_tests size address before w after ++ each_record_tests size (address_past w address) (before + 1) after

-- some record is an end
abbrev pub has_end : List ℕ → Bool
has_end sheet = list_any (λ w. kind w == 15) sheet

-- a sheet, for a memory of `size` words
abbrev pub sheet_tests : List ℕ → ℕ → List Test
sheet_tests sheet size = memory_test size ∷ (each_record_tests size 0 0 sheet ++ test 24 (not (has_end sheet)) ∷ [])

-- What the program's user gives: whole 32-bit records, of at most 32,768 bytes.

abbrev pub input_test : List ℕ → Test
input_test input = test 27 (not (length input % 4 == 0) || nat_lt 32768 (length input))

-- the program `berth`, which loads into 32,768 words
abbrev pub program_tests : List ℕ → List Test
program_tests input = input_test input ∷ sheet_tests (records_of input) 32768
