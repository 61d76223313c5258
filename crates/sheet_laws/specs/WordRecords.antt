-- The rule of old sheets (docs/SHEETS.md, Old sheets), by which the end counted word records alone,
-- beside that of today, by which it counts every record.
use Rattle.std.specs.Prelude.{ℕ, Ok, ◌+◌, ◌^◌, ◌<◌, List, [], ◌∷◌, ◌++◌, ◌≡◌, length, get_or, replicate}
use Rattle.emulator.specs.Core.{new_core}
use Rattle.sheet.specs.declared.fields.Record.{Record}
use Rattle.sheet.specs.declared.fields.Record.TheVariants.{Place, Word, Preset, Edition, End}
use Rattle.sheet.specs.Record.{kind}
use Rattle.sheet.specs.Load.{Reading, read_from, sheet_reads, tested_of}
use Rattle.sheet.specs.Write.{end_record}

-- what a record counted: 1 for a word, 0 for every other
abbrev pub words_only : Record → ℕ
words_only (Place p) = 0
words_only (Word v) = 1
words_only (Preset r v) = 0
words_only (Edition e) = 0
words_only (End k) = 0

-- what a sheet gave
abbrev pub gave : List ℕ → ℕ → Reading
gave sheet size = read_from words_only sheet 0 0 new_core 1 (replicate size 0)

-- all records but the last are words
abbrev pub WordsFirst : List ℕ → Type 0
WordsFirst sheet = (i : ℕ) → i + 1 < length sheet → kind (get_or sheet i 0) ≡ 2

pub record BothRules : Type 0 where
  -- such a sheet gives what it gave, or fails the test that it failed
  pub same : (sheet : List ℕ) (size : ℕ) → WordsFirst sheet → sheet_reads sheet size ≡ gave sheet size
  -- no other sheet that passed passes
  pub only : (sheet : List ℕ) (size : ℕ) → tested_of (gave sheet size) ≡ Ok tt → tested_of (sheet_reads sheet size) ≡ Ok tt → WordsFirst sheet
  -- and a sheet that passed gives what it gave once its end is redone
  pub redone : (ws : List ℕ) (e size : ℕ) → length ws < 2 ^ 28 → tested_of (gave (ws ++ e ∷ []) size) ≡ Ok tt
      → sheet_reads (ws ++ end_record (length ws) ∷ []) size ≡ gave (ws ++ e ∷ []) size
