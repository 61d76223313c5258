-- Numbers taken in by rows.
-- Assumes nothing.
use mathlib.Core.Path.{◌≡◌, ◌∙◌, refl, ap}
use Prim.Native.Nat.{ℕ, zero, suc, ◌+◌, ◌*◌, ◌<◌}
use native.Mathlib.Nat.{add-zero, add-suc, zero-mul, suc-mul}
use native.Mathlib.Omega.{arith}
use Rattle.encoding_laws.specs.Count.{over}

module _ {A : Type 0} where
  -- n numbers more
  further : (f : ℕ → A → A) (a n : ℕ) (x : A) → over f (a + n) x ≡ over (λ k. f (a + k)) n (over f a x)
  further f a zero x = rw (add-zero a)
  further f a (suc n) x = rw (add-suc a n, further f a n x)

  -- h * n numbers, by rows of n
  pub by_rows : (f : ℕ → A → A) (n h : ℕ) (x : A) → over f (h * n) x ≡ over (λ r. over (λ k. f (r * n + k)) n) h x
  by_rows f n zero x = rw (zero-mul n)
  by_rows f n (suc h) x = rw (suc-mul h n, further f (h * n) n x, by_rows f n h x)

  pub over_same : (f g : ℕ → A → A) (n : ℕ) (x : A) → ((k : ℕ) → k < n → (y : A) → f k y ≡ g k y) → over f n x ≡ over g n x
  over_same f g zero x e = refl
  over_same f g (suc n) x e = e n (omega arith) (over f n x) ∙ ap (g n) (over_same f g n x (λ k h. e k (omega arith)))
