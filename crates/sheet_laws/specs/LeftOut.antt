-- What the count of all records is for (docs/SHEETS.md, The records): a sheet that lost a record is
-- refused.
use Rattle.std.specs.Prelude.{ℕ, false, Result, Ok, Err, ◌+◌, ◌<◌, ◌≤◌, List, [], ◌∷◌, ◌≡◌, length, get_or}
use Rattle.std.specs.List.{remove}
use Rattle.execute.specs.Edition.{refused_edition}
use Rattle.emulator.specs.declared.core_record.Core.{Core}
use Rattle.sheet.specs.declared.fields.Record.{Record}
use Rattle.sheet.specs.declared.fields.Record.TheVariants.{Place, Word, Preset, Edition, End}
use Rattle.sheet.specs.declared.refusal.SheetRefusal.{SheetRefusal}
use Rattle.sheet.specs.declared.refusal.SheetRefusal.TheVariants.{NoEnd, WrongCount}
use Rattle.sheet.specs.Record.{record_of}
use Rattle.sheet.specs.Load.{refused_with, sheet_test, load_sheet_of}
use Rattle.sheet.specs.Write.{before_end, sheet_of}
use Rattle.sheet_laws.specs.RoundTrip.{Words, WholeCore}

abbrev pub Passes : List ℕ → ℕ → Type 0
Passes sheet size = sheet_test sheet size ≡ Ok tt

-- the last record is the end, has the number of those before it, and none of them is an end
pub record Counted (sheet : List ℕ) : Type 0 where
  pub before : ℕ
  pub all : length sheet ≡ before + 1
  pub last : record_of (get_or sheet before 0) ≡ Ok (End before)
  pub others : (i k : ℕ) → i < before → record_of (get_or sheet i 0) ≡ Ok (End k) → ⊥

-- so is every sheet that passes
abbrev pub EndCounts : Type 0
EndCounts = (sheet : List ℕ) (size : ℕ) → Passes sheet size → Counted sheet

-- the load address after a record, where it was a before it
abbrev pub address_after : Result Record SheetRefusal → ℕ → ℕ
address_after (Ok (Place p)) a = p
address_after (Ok (Word v)) a = a + 1
address_after (Ok (Preset r v)) a = a
address_after (Ok (Edition e)) a = a
address_after (Ok (End k)) a = a
address_after (Err k) a = a

-- the load address never goes back
unfoldable pub Rising : List ℕ → ℕ → Type 0
Rising [] a = Unit {0}
Rising (w ∷ ws) a = (a ≤ address_after (record_of w) a) × Rising ws (address_after (record_of w) a)

-- one record, whichever it is, left out of a sheet that passes: no memory takes what is left. It is
-- refused by 24 if that was the end, and by 26 if it was another and the load address never goes
-- back. (Where it does, a word may come to stand past memory, which is 23, before the end.)
pub record LeftOut : Type 0 where
  pub any : (sheet : List ℕ) (size size' i : ℕ) → Passes sheet size → i < length sheet → Passes (remove sheet i) size' → ⊥
  pub end : (sheet : List ℕ) (size i : ℕ) → Passes sheet size → i + 1 ≡ length sheet → sheet_test (remove sheet i) size ≡ Err NoEnd
  pub other : (sheet : List ℕ) (size i : ℕ) → Passes sheet size → Rising sheet 0 → i + 1 < length sheet → sheet_test (remove sheet i) size ≡ Err WrongCount

-- of a sheet that the writer gave: `held` is whatever the memory held that is loaded into, and
-- holds then
abbrev pub LeftOutOfWritten : Type 0
LeftOutOfWritten =
    (c : Core) (ed : ℕ) (mem held : List ℕ) → WholeCore c → refused_edition ed ≡ false → Words mem → 1 ≤ length mem → length mem ≤ 65536
    → length held ≡ length mem → (i : ℕ) → i < length (before_end c ed mem)
    → load_sheet_of (remove (sheet_of c ed mem) i) held ≡ refused_with WrongCount held
