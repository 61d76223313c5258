-- A program's input as records, low byte first (docs/SHEETS.md, What the program reads).
use Rattle.std.specs.Prelude.{ℕ, Result, Ok, Err, ◌+◌, ◌*◌, ◌%◌, ◌^◌, List, [], ◌∷◌, length, ltb, eqb, if◌then◌else◌}
use Rattle.sheet.specs.declared.refusal.SheetRefusal.{SheetRefusal}
use Rattle.sheet.specs.declared.refusal.SheetRefusal.TheVariants.{Input}
use Rattle.sheet.specs.Write.{Wrote, wrote, in_front}

abbrev pub low_first : ℕ → ℕ → ℕ → ℕ → ℕ
low_first a b c d = a + b * 2 ^ 8 + c * 2 ^ 16 + d * 2 ^ 24

unfoldable pub records_of : List ℕ → List ℕ
records_of [] = []
records_of (a ∷ []) = []
records_of (a ∷ b ∷ []) = []
records_of (a ∷ b ∷ c ∷ []) = []
records_of (a ∷ b ∷ c ∷ d ∷ bytes) = low_first a b c d ∷ records_of bytes

-- refused: not whole 32-bit words or above 32,768 bytes
unfoldable pub input_records : List ℕ → Result (List ℕ) SheetRefusal
input_records bytes = if eqb (length bytes % 4) 0 then (if ltb 32768 (length bytes) then Err Input else Ok (records_of bytes)) else Err Input

-- the records of an input, put at the front of a buffer that has room for them
abbrev pub put_in : Result (List ℕ) SheetRefusal → List ℕ → Wrote
put_in (Ok records) out = in_front records out
put_in (Err refusal) out = wrote (Err refusal) out

abbrev pub input_of : List ℕ → List ℕ → Wrote
input_of bytes out = put_in (input_records bytes) out
