-- Numbers in decimal, as ASCII codes (docs/SHEETS.md, The line).
use Rattle.std.specs.Prelude.{ℕ, zero, suc, ◌+◌, ◌/◌, ◌%◌, List, [], ◌∷◌, ◌++◌, ltb, if◌then◌else◌}

-- a digit: 0 is 48
abbrev pub digit : ℕ → ℕ
digit d = 48 + d

-- the digits of n, of which there are at most `more` past the first. The branch stands in a `let`
-- so that it is computed only where it is taken.
unfoldable pub digits_of : ℕ → ℕ → List ℕ
digits_of zero n = digit n ∷ []
digits_of (suc more) n =
    let rest = digits_of more (n / 10) ++ digit (n % 10) ∷ [] in
    if ltb n 10 then digit n ∷ [] else rest

-- the fewest digits that hold n, the highest first: no number has more than n past the first
unfoldable pub decimal_of : ℕ → List ℕ
decimal_of n = digits_of n n
