-- Writing a rule sheet (docs/SHEETS.md, What the writer gives), with the tests by which a write is
-- refused (docs/NUMBERS.md, The order of the tests).
use Rattle.std.specs.Prelude.{ℕ, Result, Ok, Err, zero, suc, ◌+◌, ◌*◌, ◌^◌, List, [], ◌∷◌, ◌++◌, length, drop, ltb, eqb, if◌then◌else◌}
use Rattle.emulator.specs.declared.core_record.Core.{Core}
use Rattle.execute.specs.Edition.{refused_edition}
use Rattle.memory.specs.Memory.{refused_length}
use Rattle.memory.specs.declared.refusal.Refusal.TheVariants.{MemoryLength}
use Rattle.sheet.specs.declared.refusal.SheetRefusal.{SheetRefusal}
use Rattle.sheet.specs.declared.refusal.SheetRefusal.TheVariants.{Host, ShortBuffer, UnknownEdition}
use Rattle.sheet.specs.Record.{register_of}

-- what a write leaves: how many records it wrote, and what the lent buffer holds
pub record Wrote : Type 0 where
  pub answer : Result ℕ SheetRefusal
  pub buffer : List ℕ

abbrev pub wrote : Result ℕ SheetRefusal → List ℕ → Wrote
wrote answer buffer = record { answer = answer; buffer = buffer }

-- records put at the front of the buffer, which is unchanged past them
abbrev pub in_front : List ℕ → List ℕ → Wrote
in_front records buffer = wrote (Ok (length records)) (records ++ drop (length records) buffer)

-- the five kinds of record
abbrev pub place_record : ℕ → ℕ
place_record address = 1 * 2 ^ 28 + address

abbrev pub word_record : ℕ → ℕ
word_record value = 2 * 2 ^ 28 + value

abbrev pub preset_record : ℕ → ℕ → ℕ
preset_record register value = 3 * 2 ^ 28 + register * 2 ^ 16 + value

abbrev pub edition_record : ℕ → ℕ
edition_record edition = 7 * 2 ^ 28 + edition

abbrev pub end_record : ℕ → ℕ
end_record count = 15 * 2 ^ 28 + count

-- the record of the edition, for edition 2 only
unfoldable pub edition_records : ℕ → List ℕ
edition_records edition = if eqb edition 2 then edition_record edition ∷ [] else []

-- the presets of so many registers, from `register` on
unfoldable pub presets_from : Core → ℕ → ℕ → List ℕ
presets_from core zero register = []
presets_from core (suc more) register = preset_record register (register_of core register) ∷ presets_from core more (register + 1)

-- the records of a word at an address: none if it is 0; a place first if it begins a stretch, so if
-- the word before it is 0
unfoldable pub records_at : ℕ → ℕ → ℕ → List ℕ
records_at address before value =
    if eqb value 0 then []
    else if eqb before 0 then place_record address ∷ word_record value ∷ []
    else word_record value ∷ []

-- for each longest stretch of nonzero words a place and its words, from an address on
unfoldable pub stretches_from : ℕ → ℕ → List ℕ → List ℕ
stretches_from address before [] = []
stretches_from address before (value ∷ values) = records_at address before value ++ stretches_from (address + 1) value values

-- what stands before the end: the edition, presets 0 to 11, the stretches
abbrev pub before_end : Core → ℕ → List ℕ → List ℕ
before_end core edition mem = edition_records edition ++ presets_from core 12 0 ++ stretches_from 0 0 mem

-- the sheet: that, and the end with the number of records before it
unfoldable pub sheet_of : Core → ℕ → List ℕ → List ℕ
sheet_of core edition mem = before_end core edition mem ++ end_record (length (before_end core edition mem)) ∷ []

-- writing it: host test 1, then whether the edition is neither 1 nor 2, then whether the buffer is
-- too short
unfoldable pub write_sheet_of : Core → ℕ → List ℕ → List ℕ → Wrote
write_sheet_of core edition mem sheet =
    if refused_length (length mem) then wrote (Err (Host MemoryLength)) sheet
    else if refused_edition edition then wrote (Err UnknownEdition) sheet
    else if ltb (length sheet) (length (sheet_of core edition mem)) then wrote (Err ShortBuffer) sheet
    else in_front (sheet_of core edition mem) sheet
