-- The core that a host hands over has 16-bit words.
use Rattle.std.proofs.Common.{ℕ, ◌<◌, ◌^◌, List, get_or, take, inl, inr, arith}
use Rattle.std.proofs.lemmas.Bool.{cases_lt}
use Rattle.std.proofs.lemmas.List.{get_or-take, get_or_past, length-take}

-- the words at the front of such are such
pub front_fits : (ws : List ℕ) (n : ℕ) → ((k : ℕ) → get_or ws k 0 < 2 ^ 16) → (k : ℕ) → get_or (take n ws) k 0 < 2 ^ 16
front_fits ws n fits k =
    elim (cases_lt k n) [
      | inl l ↦ rw (get_or-take n ws k 0 l) (fits k)
      | inr l ↦ rw (get_or_past (take n ws) k 0 (omega (arith, length-take n ws))) (omega arith)
    ]
