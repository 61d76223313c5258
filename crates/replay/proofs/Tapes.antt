-- Laws of the log in memory's place: when it begins with what a run logs, and when it is that.
use Rattle.std.specs.Prelude.{◌≡◌, ℕ, ◌/◌, ◌%◌, ◌<◌, ◌≤◌, Bool, true, false, ◌&&◌, List, [], ◌∷◌, ◌++◌, length, get_or, take, drop, eqb}
use mathlib.Core.Path.{refl, sym, ap, ◌∙◌}
use native.Mathlib.Omega.{arith}
use lib.ListN.{length-append, drop_of_length-le}
use lib.Seq.{drop-drop}
use borrow.Author.Tests.{eq-eqb, ne_eqb, eqb-true, eqb-false}
use Rattle.instructions.proofs.Cases.{by_test}
use Rattle.memory.specs.Log.{address_word, value_word, entry_of}
use Rattle.memory.specs.declared.log.Purpose.{Purpose}
use Rattle.replay.specs.Places.{begins, is_entry}
use Rattle.replay.specs.Replay.{same}

-- one part after another
pub begins_append : (l m k : List ℕ) → begins (l ++ m) k ≡ (begins l k && begins m (drop (length l) k))
unfolding begins
begins_append [] m k = refl
begins_append (x ∷ l) m [] = refl
begins_append (x ∷ l) m (y ∷ k) = by_test (eqb x y) (λ t. rw t (begins_append l m k)) (λ f. rw f)

and_assoc : (a b c : Bool) → ((a && b) && c) ≡ (a && (b && c))
and_assoc true b c = refl
and_assoc false b c = refl

and_false : (a : Bool) → (a && false) ≡ false
and_false true = refl
and_false false = refl

-- two lists are the same just if one begins with the other and nothing is left over
pub same_is : (l k : List ℕ) → same l k ≡ (begins l k && eqb (length (drop (length l) k)) 0)
unfolding same begins
same_is [] [] = refl
same_is [] (y ∷ k) = sym (ne_eqb (length (y ∷ k)) 0 (λ z. omega arith))
same_is (x ∷ l) [] = refl
same_is (x ∷ l) (y ∷ k) = by_test (eqb x y) (λ t. rw t (same_is l k)) (λ f. rw f)

pub same_self : (l : List ℕ) → same l l ≡ true
unfolding same
same_self [] = refl
same_self (x ∷ xs) = rw (eq-eqb x x refl) (same_self xs)

-- two log words are the read, and they aren't
module _ (p : Purpose) (a named value : ℕ) where
  read_is : named ≡ address_word p a → value / 65536 ≡ 20480 → true ≡ is_entry p a named value
  unfolding is_entry begins
  read_is e h =
      let v : value_word (value % 65536) ≡ value = omega arith in
      rw (eq-eqb (address_word p a) named (sym e), eq-eqb (value_word (value % 65536)) value v)

  pub read_other : (named ≡ address_word p a → ⊥) → false ≡ is_entry p a named value
  unfolding is_entry begins
  read_other n = rw (ne_eqb (address_word p a) named (λ e. n (sym e)))

  read_kind : named ≡ address_word p a → (value / 65536 ≡ 20480 → ⊥) → false ≡ is_entry p a named value
  unfolding is_entry begins
  read_kind e n = rw (eq-eqb (address_word p a) named (sym e), ne_eqb (value_word (value % 65536)) value (λ v. n (omega arith)))

  pub read_named : named ≡ address_word p a → eqb (value / 65536) 20480 ≡ is_entry p a named value
  read_named e =
      by_test (eqb (value / 65536) 20480) (λ t. t ∙ read_is e (eqb-true _ _ t)) (λ f. f ∙ read_kind e (eqb-false _ _ f))

-- what is noted of a read: b and k are at the start, m and r before it
module _ (b : Bool) (l k : List ℕ) (p : Purpose) (a : ℕ) {m : Bool} {r : List ℕ} (at : r ≡ drop (length l) k) (so : m ≡ (b && begins l k)) where
  past : (w : ℕ) → drop (length (l ++ entry_of p a w)) k ≡ drop 2 r
  past w = rw (length-append, at) (sym (drop-drop 2 (length l) k))

  both : (w : ℕ) → (b && begins (l ++ entry_of p a w) k) ≡ (m && begins (entry_of p a w) r)
  both w = rw (begins_append l (entry_of p a w) k, ← at, ← (and_assoc b (begins l k) (begins (entry_of p a w) r)), so)

  two : (r : List ℕ) → 2 ≤ length r → begins (entry_of p a (get_or (take 2 r) 1 0 % 65536)) r ≡ is_entry p a (get_or (take 2 r) 0 0) (get_or (take 2 r) 1 0)
  unfolding is_entry begins
  two [] h = absurd (omega arith)
  two (x ∷ []) h = absurd (omega arith)
  two (x ∷ y ∷ r) h = refl

  pub noted_two : {entry rest : List ℕ} {e : Bool} → entry ≡ take 2 r → rest ≡ drop 2 r → 2 ≤ length r → e ≡ is_entry p a (get_or entry 0 0) (get_or entry 1 0)
      → (rest ≡ drop (length (l ++ entry_of p a (get_or entry 1 0 % 65536))) k) × ((m && e) ≡ (b && begins (l ++ entry_of p a (get_or entry 1 0 % 65536)) k))
  noted_two front after long h =
      let w = get_or (take 2 r) 1 0 % 65536 in
      rw front (after ∙ sym (past w), ap (λ (x : Bool). m && x) ((rw front at h) ∙ sym (two r long)) ∙ sym (both w))

  pub noted_short : length r < 2 → ([] ≡ drop (length (l ++ entry_of p a 0)) k) × (false ≡ (b && begins (l ++ entry_of p a 0) k))
  unfolding begins
  noted_short short =
      let few : length r ≤ 2 = omega arith in
      let none : drop 2 r ≡ [] = drop_of_length-le r few in
      (sym (past 0 ∙ none), sym (both 0 ∙ (ap (λ (x : Bool). m && x) (off r short) ∙ and_false m)))
    where
      off : (r : List ℕ) → length r < 2 → begins (entry_of p a 0) r ≡ false
      off [] h = refl
      off (x ∷ []) h = by_test (eqb (address_word p a) x) (λ t. rw t) (λ f. rw f)
      off (x ∷ y ∷ r) h = absurd (omega arith)
