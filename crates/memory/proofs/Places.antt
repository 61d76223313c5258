-- Where an access may be made.
use Rattle.std.specs.Prelude.{◌≡◌, ℕ, ◌<◌, ltb, true, List, Option, Result, Ok, Err}
use Rattle.instructions.proofs.Cases.{if_elim}
use native.Mathlib.Omega.{arith}
use borrow.Author.Tests.{ltb-true}
use Rattle.memory.specs.Memory.{place_of}
use Rattle.memory.specs.Rights.{has_right}
use Rattle.memory.specs.declared.rights.Right.{Right}
use Rattle.memory.specs.declared.stop.Stop.{Stop}

-- a property of the place of an access: it may be made there, or it stops
pub place_elim : (rights : Option (List ℕ)) (size : ℕ) (r : Right) (a : ℕ) (P : Result ℕ Stop → Type 0)
    → (a < size → has_right rights r a ≡ true → P (Ok a)) → ((s : Stop) → P (Err s)) → P (place_of rights size r a)
unfolding place_of
place_elim rights size r a P f g =
    if_elim P (ltb a size) (λ t. if_elim P (has_right rights r a) (λ h. f (ltb-true _ _ t) h) (λ _. g _)) (λ _. g _)

-- a property of the places of one access in two memories that are equally long
pub place_both : (rights : Option (List ℕ)) (r : Right) (a : ℕ) {n n' : ℕ} → n ≡ n' → (P : Result ℕ Stop → Result ℕ Stop → Type 0)
    → (a < n → has_right rights r a ≡ true → P (Ok a) (Ok a)) → ((s : Stop) → P (Err s) (Err s))
    → P (place_of rights n r a) (place_of rights n' r a)
place_both rights r a {n} e P f g = rw (← e) (place_elim rights n r a (λ x. P x x) f g)

-- it is in range
pub placed : (rights : Option (List ℕ)) (size : ℕ) (r : Right) (a : ℕ) {k : ℕ} → Ok k ≡ place_of rights size r a → k < size
placed rights size r a {k} = place_elim rights size r a (λ (x : Result ℕ Stop). Ok k ≡ x → k < size) (λ l _ e. let same : k ≡ a = cc in rw same l) (λ s e. absurd (none (cc)))
  where
    none : ◌≡◌ {A = ℕ} 0 1 → ⊥
    none z = omega arith
