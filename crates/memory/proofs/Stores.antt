-- Runs of stores, `sets`, and the elements that a loop takes four at a time.
use Rattle.std.specs.Prelude.{◌≡◌, ℕ, suc, ◌+◌, ◌<◌, ◌≤◌, List, [], ◌∷◌, ◌++◌, length, get_or, drop, set}
use mathlib.Core.Path.{◌∙◌}
use native.Mathlib.Numerals.{add-one, add-two, add-three, add-four}
use native.Mathlib.Nat.{add-zero, zero-add, suc-add, add-suc}
use native.Mathlib.Omega.{arith}
use lib.Seq.{sets, sets-eq, drop-cons}

-- one run after another
pub sets_append : (xs ys d : List ℕ) (i : ℕ) → sets d i (xs ++ ys) ≡ sets (sets d i xs) (i + length xs) ys
sets_append [] ys d i = rw add-zero
sets_append (x ∷ xs) ys d i = rw (add-suc, ← suc-add) (sets_append xs ys (set d i x) (suc i))

-- a run from the front
pub sets_front : (vs d : List ℕ) → length vs ≤ length d → sets d 0 vs ≡ vs ++ drop (length vs) d
sets_front vs d l = let h : 0 + length vs ≤ length d = omega arith in sets-eq vs d 0 h ∙ rw (zero-add (length vs))

-- the next four elements
pub four : (l : List ℕ) (i : ℕ) → i + 4 ≤ length l
    → drop i l ≡ get_or l i 0 ∷ get_or l (i + 1) 0 ∷ get_or l (i + 2) 0 ∷ get_or l (i + 3) 0 ∷ drop (i + 4) l
four l i h =
    let h₀ : i < length l = omega arith in
    let h₁ : suc i < length l = omega arith in
    let h₂ : suc (suc i) < length l = omega arith in
    let h₃ : suc (suc (suc i)) < length l = omega arith in
    rw (
      add-one i,
      add-two i,
      add-three i,
      add-four i,
      drop-cons l i 0 h₀,
      drop-cons l (suc i) 0 h₁,
      drop-cons l (suc (suc i)) 0 h₂,
      drop-cons l (suc (suc (suc i))) 0 h₃,
    )
