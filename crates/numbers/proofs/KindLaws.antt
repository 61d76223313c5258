-- The kinds above 42.
use Rattle.std.proofs.Common.{◌≡◌, ℕ, zero, suc, ◌≤◌, None, ap, sym, arith}
use lib.ListN.{get_or-eq_default}
use Rattle.numbers.specs.Instruction.{Kind, kinds, instruction_of}

-- k is none of the numbers below n
abbrev pub Apart : ℕ → ℕ → Type 0
Apart zero k = Unit
Apart (suc n) k = Apart n k × (k ≡ n → ⊥)

apart : (n k : ℕ) → Apart n k → n ≤ k
apart zero k a = omega arith
apart (suc n) k a =
    let below : n ≤ k = apart n k a.0 in
    let other : k ≡ n → ⊥ = a.1 in
    omega arith

-- there are 43 kinds
pub no_kind : (k a b : ℕ) → Apart 43 k → None ≡ instruction_of k a b
no_kind k a b other = ap (λ (x : Kind). x a b) (sym (get_or-eq_default kinds (λ a b. None) (apart 43 k other)))
