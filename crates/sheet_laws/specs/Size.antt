-- How long the sheet that the writer gives can be.
use Rattle.std.specs.Prelude.{ℕ, ◌+◌, ◌/◌, ◌≤◌, List, length}
use Rattle.emulator.specs.declared.core_record.Core.{Core}
use Rattle.sheet.specs.Write.{sheet_of}

-- the records of the edition, the end and twelve presets, one for each word of memory, and one
-- place for every other word, rounded up
abbrev pub SheetFits : Type 0
SheetFits = (c : Core) (edition : ℕ) (mem : List ℕ) → length (sheet_of c edition mem) ≤ 14 + length mem + (length mem + 1) / 2
