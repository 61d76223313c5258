-- The first of n places at which a test passes, or n.
use Rattle.std.proofs.Common.{◌≡◌, ℕ, ◌<◌, ◌≤◌, Bool, true, false, Option, get_or, unwrap_or, zero-add, ◌∙◌, arith}
use Rattle.std.proofs.lemmas.Grind.{common_steps}
use Rattle.std.proofs.lemmas.List.FromFn.{length-range_with_len, get_or-range_with_len}
use Rattle.std.proofs.lemmas.List.Sums.{prefix_len-le-length, fails_before_first, passes_at_first}
use Rattle.std.specs.List.{position, position_or_len, range_with_len}

module _ (p : ℕ → Bool) (n : ℕ) where
  pub first_within : position_or_len p (range_with_len 0 n) ≤ n
  first_within = grind (arith, prefix_len-le-length, length-range_with_len)

  pub first_or_end : {o : Option ℕ} {m r : ℕ} → o ≡ position p (range_with_len 0 n) → m ≡ n → r ≡ unwrap_or o m → r ≡ position_or_len p (range_with_len 0 n)
  first_or_end e f g = grind (arith, common_steps, first_within, length-range_with_len)

  -- the number at a place is the place
  place_in : (k : ℕ) → k < n → get_or (range_with_len 0 n) k 0 ≡ k
  place_in k l = get_or-range_with_len 0 n k 0 l ∙ zero-add k

  pub fails_before : (k : ℕ) → k < position_or_len p (range_with_len 0 n) → p k ≡ false
  fails_before k l = let w = first_within in rw (← place_in k (omega arith)) (fails_before_first p (range_with_len 0 n) k 0 l)

  pub passes_there : position_or_len p (range_with_len 0 n) < n → p (position_or_len p (range_with_len 0 n)) ≡ true
  passes_there l =
      let passes = passes_at_first p (range_with_len 0 n) 0 (rw length-range_with_len l) in
      rw (place_in (position_or_len p (range_with_len 0 n)) l) at passes
