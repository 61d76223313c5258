-- Why two lists compare as they do: a first place where they differ, or none. That the order is
-- total and transitive follows from this alone.
use Rattle.std.proofs.Common.{◌≡◌, ℕ, ◌<◌, ◌≤◌, max, List, length, refl, sym, ◌∙◌, ⊎_elim, arith}
use Rattle.std.proofs.lemmas.Bool.{cases_lt, cases_order}
use Rattle.std.proofs.lemmas.Bool.Decides.{nat_tests}
use Rattle.std.proofs.lemmas.Cmp.{ranked, by_ranked}
use Rattle.std.proofs.lemmas.List.{get_or_past}
use Rattle.std.specs.declared.cmp.Ordering.{Ordering}
use Rattle.std.specs.Ordering.{ordering_reverse}
use Rattle.order.specs.Order.{word_in, differ_at, place_of, order_of}
use Rattle.order.proofs.Laws.{first_within, fails_before, passes_there}

-- the words agree at every place, or at every place below p
abbrev pub Same : List ℕ → List ℕ → Type 0
Same a b = (k : ℕ) → word_in a k ≡ word_in b k

abbrev pub SameBelow : List ℕ → List ℕ → ℕ → Type 0
SameBelow a b p = (k : ℕ) → k < p → word_in a k ≡ word_in b k

pub data Compared (a b : List ℕ) : Ordering → Type 0 where
  first : (p : ℕ) → SameBelow a b p → word_in a p < word_in b p → Compared a b Ordering.Less
  second : (p : ℕ) → SameBelow a b p → word_in b p < word_in a p → Compared a b Ordering.Greater
  equal : Same a b → Compared a b Ordering.Equal

module _ (a b : List ℕ) where
  pub same_before : SameBelow a b (place_of a b)
  unfolding place_of
  same_before k l = grind (arith, nat_tests, fails_before (differ_at a b) (max (length a) (length b)) k l)

  -- where the words agree at the place, it is the end of the longer
  pub end_place : word_in a (place_of a b) ≡ word_in b (place_of a b) → place_of a b ≡ max (length a) (length b)
  unfolding place_of
  end_place s =
      let end = max (length a) (length b) in
      grind (arith, nat_tests, first_within (differ_at a b) end, passes_there (differ_at a b) end)

  pub same_all : word_in a (place_of a b) ≡ word_in b (place_of a b) → Same a b
  same_all s k =
      let end = end_place s in
      ⊎_elim
      (same_before k)
      (λ (past : place_of a b ≤ k). get_or_past a k 0 (omega arith) ∙ sym (get_or_past b k 0 (omega arith)))
      (cases_lt k (place_of a b))

  pub compared : Compared a b (order_of a b)
  compared =
      let p = place_of a b in
      by_ranked _ _ _ (order_of a b) (ranked (word_in a p) (word_in b p) (order_of a b) refl)
      (λ e l. rw e (Compared.first p same_before l))
      (λ e s. rw e (Compared.equal (same_all s)))
      (λ e l. rw e (Compared.second p same_before l))

-- two lists compare in one way only
clash : (a b : List ℕ) (p q : ℕ) → SameBelow a b p → word_in a p < word_in b p → SameBelow a b q → word_in b q < word_in a q → ⊥
clash a b p q f l g m =
    ⊎_elim
    (λ e. let h = rw (← e) at m in omega arith)
    (⊎_elim (λ t. let h = g p t in omega arith) (λ t. let h = f q t in omega arith))
    (cases_order p q)

pub unique : {a b : List ℕ} {o x : Ordering} → Compared a b o → Compared a b x → o ≡ x
unique {a} {b} (first p f l) (first q g m) = refl
unique {a} {b} (first p f l) (second q g m) = absurd (clash a b p q f l g m)
unique {a} {b} (first p f l) (equal g) = absurd (let h = g p in omega arith)
unique {a} {b} (second p f l) (first q g m) = absurd (clash a b q p g m f l)
unique {a} {b} (second p f l) (second q g m) = refl
unique {a} {b} (second p f l) (equal g) = absurd (let h = g p in omega arith)
unique {a} {b} (equal f) (first q g m) = absurd (let h = f q in omega arith)
unique {a} {b} (equal f) (second q g m) = absurd (let h = f q in omega arith)
unique {a} {b} (equal f) (equal g) = refl

pub decided : {a b : List ℕ} {o : Ordering} → Compared a b o → order_of a b ≡ o
decided {a} {b} c = unique (compared a b) c

-- the lists exchanged
pub turned : {a b : List ℕ} {o : Ordering} → Compared a b o → Compared b a (ordering_reverse o)
turned (first p f l) = Compared.second p (λ k h. sym (f k h)) l
turned (second p f l) = Compared.first p (λ k h. sym (f k h)) l
turned (equal f) = Compared.equal (λ k. sym (f k))

-- a list for the first that has the same words
pub replaced : {a b c : List ℕ} {o : Ordering} → Same a b → Compared a c o → Compared b c o
replaced e (first p f l) = Compared.first p (λ k h. sym (e k) ∙ f k h) (rw (← e p) l)
replaced e (second p f l) = Compared.second p (λ k h. sym (e k) ∙ f k h) (rw (← e p) l)
replaced e (equal f) = Compared.equal (λ k. sym (e k) ∙ f k)

pub joined : {a b c : List ℕ} → Compared a b Ordering.Less → Compared b c Ordering.Less → Compared a c Ordering.Less
joined (first p f l) (first q g m) =
    ⊎_elim
    (λ e. Compared.first p (λ k h. f k h ∙ g k (omega arith)) (let n = rw (← e) at m in omega arith))
    (⊎_elim
    (λ t. Compared.first p (λ k h. f k h ∙ g k (omega arith)) (rw (← g p t) l))
    (λ t. Compared.first q (λ k h. f k (omega arith) ∙ g k h) (rw (f q t) m)))
    (cases_order p q)

pub all_same : {a b : List ℕ} → Compared a b Ordering.Equal → Same a b
all_same (equal f) = f
