-- Laws of the host tests that look at one list.
use Rattle.std.specs.Prelude.{◌≡◌, ℕ, zero, suc, ◌<◌, ◌≤◌, Bool, true, false, ltb, List, [], ◌∷◌, length, get_or, Ok, Err}
use mathlib.Core.Path.{refl, sym, ◌∙◌}
use mathlib.Core.Logic.{⊎_elim}
use Rattle.std.proofs.lemmas.Bool.{cases_lt, true≢false}
use native.Mathlib.Omega.{arith}
use borrow.Author.Tests.{lt-ltb, le-ltb, eq-eqb, ne_eqb}
use Rattle.memory.specs.Memory.{refused_length, length_test}
use Rattle.memory.specs.Outcome.{refusal_number}
use Rattle.memory.specs.Rights.{all_rights, refused_rights, rights_test}
use Rattle.memory.specs.declared.refusal.Refusal.{Refusal}
use Rattle.instructions.proofs.Cases.{by_test, if_elim}

-- the host tests
pub length_accepted : (n : ℕ) → 1 ≤ n → n ≤ 65536 → refused_length n ≡ false
unfolding refused_length
length_accepted n l m = rw (ne_eqb n 0 (λ z. omega arith), le-ltb 65536 n m)

pub length_none : (n : ℕ) → n < 1 → refused_length n ≡ true
unfolding refused_length
length_none n l = let none : n ≡ 0 = omega arith in rw (eq-eqb n 0 none)

pub length_past : (n : ℕ) → 65537 ≤ n → refused_length n ≡ true
unfolding refused_length
length_past n l = rw (ne_eqb n 0 (λ z. omega arith), lt-ltb 65536 n l)

pub length_least : (n : ℕ) → refused_length n ≡ false → 1 ≤ n
length_least n f = ⊎_elim (λ l. absurd (true≢false (sym (length_none n l) ∙ f))) (λ l. l) (cases_lt n 1)

pub length_most : (n : ℕ) → refused_length n ≡ false → n ≤ 65536
length_most n f = ⊎_elim (λ l. omega arith) (λ l. absurd (true≢false (sym (length_past n l) ∙ f))) (cases_lt n 65537)

module _ (n : ℕ) where
  pub length_passes : {u : Unit {0}} → Ok u ≡ length_test n → refused_length n ≡ false
  length_passes e = by_test (refused_length n) (λ t. let both = rw t at e in cc) (λ f. f)

  pub length_fails : {r : Refusal} → Err r ≡ length_test n → (refused_length n ≡ true) × (r ≡ Refusal.MemoryLength)
  length_fails e = by_test (refused_length n) (λ t. (t, let both = rw t at e in cc)) (λ f. let both = rw f at e in cc)

-- a refusal is no 0
pub refuses : (r : Refusal) {n : ℕ} → refusal_number r ≡ n → n ≡ 0 → ⊥
refuses Refusal.MemoryLength e z = omega arith
refuses Refusal.MarksLength e z = omega arith
refuses Refusal.Rights e z = omega arith
refuses Refusal.Edition e z = omega arith

-- host test 32
module _ (bytes : List ℕ) where
  pub rights_length : (length bytes ≡ 256 → ⊥) → refused_rights bytes ≡ true
  unfolding refused_rights
  rights_length n = rw (ne_eqb (length bytes) 256 n)

  module _ (e : length bytes ≡ 256) where
    pub rights_above : all_rights bytes ≡ false → refused_rights bytes ≡ true
    unfolding refused_rights
    rights_above f = rw (eq-eqb (length bytes) 256 e, f)

    pub rights_within : all_rights bytes ≡ true → refused_rights bytes ≡ false
    unfolding refused_rights
    rights_within t = rw (eq-eqb (length bytes) 256 e, t)

-- a byte that is above 7, and none
pub one_above : (bytes : List ℕ) (k : ℕ) → k < length bytes → 7 < get_or bytes k 0 → all_rights bytes ≡ false
unfolding all_rights
one_above [] k l h = absurd (omega arith)
one_above (b ∷ bs) zero l h = rw (lt-ltb 7 b h)
one_above (b ∷ bs) (suc k) l h = if_elim (λ (x : Bool). x ≡ false) (ltb 7 b) (λ _. refl) (λ _. one_above bs k (omega arith) h)

pub none_above : (bytes : List ℕ) → ((k : ℕ) → k < length bytes → get_or bytes k 0 ≤ 7) → all_rights bytes ≡ true
unfolding all_rights
none_above [] h = refl
none_above (b ∷ bs) h = rw (le-ltb 7 b (h 0 (omega arith))) (none_above bs (λ k l. h (suc k) (omega arith)))

-- what host test 32 answers says of the bytes
module _ (bytes : List ℕ) where
  pub rights_pass : {b : List ℕ} → Ok b ≡ rights_test bytes → (refused_rights bytes ≡ false) × (b ≡ bytes)
  rights_pass e = by_test (refused_rights bytes) (λ t. let both = rw t at e in cc) (λ f. (f, let both = rw f at e in cc))

  pub rights_fail : {r : Refusal} → Err r ≡ rights_test bytes → (refused_rights bytes ≡ true) × (r ≡ Refusal.Rights)
  rights_fail e = by_test (refused_rights bytes) (λ t. (t, let both = rw t at e in cc)) (λ f. let both = rw f at e in cc)
