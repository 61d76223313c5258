-- The definitions at small values (docs/SHEETS.md, The line), computed. None decodes a word.
use mathlib.Core.List.{[], ◌∷◌, ◌++◌, map}
use mathlib.Core.Path.{◌≡◌, refl}
use Rattle.emulator.specs.Core.{core_of}
use Rattle.memory.specs.Outcome.{halted, limit, fault, refused}
use Rattle.line.specs.Decimal.{digits_of, decimal_of}
use Rattle.line.specs.Line.{fields, row, end_line}

-- 0, 9, 10, 65535 and 1000000
pub decimals : map decimal_of (0 ∷ 9 ∷ 10 ∷ 65535 ∷ 1000000 ∷ [])
    ≡ (48 ∷ []) ∷ (57 ∷ []) ∷ (49 ∷ 48 ∷ []) ∷ (54 ∷ 53 ∷ 53 ∷ 51 ∷ 53 ∷ []) ∷ (49 ∷ 48 ∷ 48 ∷ 48 ∷ 48 ∷ 48 ∷ 48 ∷ []) ∷ []
unfolding decimal_of digits_of
decimals = refl

-- `halted 2 2 0 65535 1 3 0 0 0 0 0 0 0`
pub example : end_line halted 2 (core_of (3 ∷ 0 ∷ 0 ∷ 0 ∷ 0 ∷ 0 ∷ 0 ∷ 0 ∷ []) 2 0 65535 1)
    ≡ 104 ∷ 97 ∷ 108 ∷ 116 ∷ 101 ∷ 100 ∷ 32 ∷ 50 ∷ 32 ∷ 50 ∷ 32 ∷ 48 ∷ 32 ∷ 54 ∷ 53 ∷ 53 ∷ 51 ∷ 53 ∷ 32 ∷ 49 ∷ 32 ∷ 51
    ∷ 32 ∷ 48 ∷ 32 ∷ 48 ∷ 32 ∷ 48 ∷ 32 ∷ 48 ∷ 32 ∷ 48 ∷ 32 ∷ 48 ∷ 32 ∷ 48 ∷ 10 ∷ []
unfolding end_line row fields decimal_of digits_of
example = refl

-- `fault 11 32768 0 32768 7 65535 0 1 2 3 4 5 6 7 8`: number and value stand before the steps
pub faulted : end_line (fault 11 32768) 0 (core_of (1 ∷ 2 ∷ 3 ∷ 4 ∷ 5 ∷ 6 ∷ 7 ∷ 8 ∷ []) 32768 7 65535 0)
    ≡ 102 ∷ 97 ∷ 117 ∷ 108 ∷ 116 ∷ 32 ∷ 49 ∷ 49 ∷ 32 ∷ 51 ∷ 50 ∷ 55 ∷ 54 ∷ 56 ∷ 32 ∷ 48 ∷ 32 ∷ 51 ∷ 50 ∷ 55 ∷ 54 ∷ 56 ∷ 32 ∷ 55
    ∷ 32 ∷ 54 ∷ 53 ∷ 53 ∷ 51 ∷ 53 ∷ 32 ∷ 48 ∷ 32 ∷ 49 ∷ 32 ∷ 50 ∷ 32 ∷ 51 ∷ 32 ∷ 52 ∷ 32 ∷ 53 ∷ 32 ∷ 54 ∷ 32 ∷ 55 ∷ 32 ∷ 56 ∷ 10 ∷ []
unfolding end_line row fields decimal_of digits_of
faulted = refl

-- `limit 1000000 ..` and `refused 27`
pub others : end_line limit 1000000 (core_of [] 0 0 0 0) ++ end_line (refused 27) 0 (core_of [] 0 0 0 0)
    ≡ 108 ∷ 105 ∷ 109 ∷ 105 ∷ 116 ∷ 32 ∷ 49 ∷ 48 ∷ 48 ∷ 48 ∷ 48 ∷ 48 ∷ 48 ∷ 32 ∷ 48 ∷ 32 ∷ 48 ∷ 32 ∷ 48 ∷ 32 ∷ 48 ∷ 10
    ∷ 114 ∷ 101 ∷ 102 ∷ 117 ∷ 115 ∷ 101 ∷ 100 ∷ 32 ∷ 50 ∷ 55 ∷ 10 ∷ []
unfolding end_line row fields decimal_of digits_of
others = refl
