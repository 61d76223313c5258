-- The claims of the order of word lists.
use Rattle.std.proofs.Common.{◌≡◌, ℕ, zero, suc, ◌-◌, ◌<◌, ◌≤◌, min, true, false, ltb, List, [], ◌∷◌, ◌++◌, length, drop, replicate, refl, sym, ap, ◌∙◌, subst, ⊎_elim, inl, inr, arith, length-append, length-drop, drop-cons}
use Rattle.std.proofs.lemmas.Bool.{cases_Bool, cases_lt, ltb-false}
use Rattle.std.proofs.Math.Nat.{le_refl, sub_self, le_of_lt}
use Rattle.std.proofs.lemmas.Cmp.{ranked, by_ranked, alike_right, tied_itself}
use Rattle.std.proofs.lemmas.List.{ext_get_or, append-nil, get_or_past, get_or-replicate, length-replicate}
use Rattle.std.specs.Cmp.{IsTotalOrder}
use Rattle.std.specs.Ordering.{ordering_reverse}
use Rattle.std.specs.declared.cmp.Ordering.{Ordering}
use Rattle.memory.specs.Memory.{refused_length}
use Rattle.order.specs.Order.{word_in, place_of, order_of, Slice, earlier_part}
use Rattle.std.specs.Prelude.{Err}
use Rattle.sheet.specs.declared.refusal.SheetRefusal.TheVariants.{LongList}
use Rattle.sheet.specs.Load.{load_words_of}
use Rattle.order_laws.specs.Claims.{Before, Equal, OneOf, Total, Transitive, TrailingZeros, Equality, LoadAlike, Smaller, FirstDifference}
use Rattle.order_laws.proofs.Compared.{Same, same_before, end_place, same_all, Compared, compared, decided, turned, replaced, joined, all_same}

-- total
exchange : (a b : List ℕ) → order_of b a ≡ ordering_reverse (order_of a b)
exchange a b = decided (turned (compared a b))

one_of : {x y : Ordering} (o : Ordering) → x ≡ o → y ≡ ordering_reverse o → OneOf (x ≡ Ordering.Less) (y ≡ Ordering.Less) (x ≡ Ordering.Equal)
one_of Ordering.Less e f = OneOf.the_first e (λ z. cc) (λ z. cc)
one_of Ordering.Greater e f = OneOf.the_second (λ z. cc) f (λ z. cc)
one_of Ordering.Equal e f = OneOf.the_third (λ z. cc) (λ z. cc) e

pub total : Total
total = record { one_of = λ a b. one_of (order_of a b) refl (exchange a b); exchange = exchange }

-- transitive; equal lists have the same words
why : (a b : List ℕ) {o : Ordering} → order_of a b ≡ o → Compared a b o
why a b e = subst (Compared a b) e (compared a b)

same : (a b : List ℕ) → Equal a b → Same a b
same a b e = all_same (why a b e)

before : (a b c : List ℕ) → Before a b → Before b c → Before a c
before a b c e f = decided (joined (why a b e) (why b c f))

alike_first : (a b c : List ℕ) → Equal a b → order_of a c ≡ order_of b c
alike_first a b c e = sym (decided (replaced (same a b e) (compared a c)))

ordered : IsTotalOrder order_of
ordered = record { antisymm = λ a b. exchange b a; trans = before; congr = alike_first }

pub transitive : Transitive
transitive =
    record {
      before = λ a b c e f. before a b c e f;
      equal = λ a b c e f. alike_first a b c e ∙ f;
      before_or_equal = λ a b c x y.
          ⊎_elim
          (λ e. ⊎_elim (λ f. inl (before a b c e f)) (λ f. inl (sym (alike_right ordered b c a f) ∙ e)) y)
          (λ e. ⊎_elim (λ f. inl (alike_first a b c e ∙ f)) (λ f. inr (alike_first a b c e ∙ f)) y)
          x;
    }

-- zeros after a list change no word of it
unseen : (a : List ℕ) (n k : ℕ) → word_in (a ++ replicate n 0) k ≡ word_in a k
unseen [] n k = ⊎_elim (get_or-replicate n k 0 0) (λ (l : n ≤ k). get_or_past (replicate n 0) k 0 (rw length-replicate l)) (cases_lt k n)
unseen (v ∷ a) n zero = refl
unseen (v ∷ a) n (suc k) = unseen a n k

-- a list padded with zeros to n words
abbrev padded : ℕ → List ℕ → List ℕ
padded n a = a ++ replicate (n - length a) 0

length_padded : (n : ℕ) (a : List ℕ) → length a ≤ n → length (padded n a) ≡ n
length_padded n a l = simp (length-append, length-replicate) (omega arith)

module _ (a b : List ℕ) (e : Same a b) where
  padded_alike : (n : ℕ) → length a ≤ n → length b ≤ n → padded n a ≡ padded n b
  padded_alike n l m =
      ext_get_or 0 (padded n a) (padded n b) (length_padded n a l ∙ sym (length_padded n b m))
      (λ k h. unseen a (n - length a) k ∙ (e k ∙ sym (unseen b (n - length b) k)))

  longer : length a ≤ length b → b ≡ padded (length b) a
  longer l =
      let itself : padded (length b) b ≡ b = rw (sub_self (length b)) (append-nil b) in
      sym (padded_alike (length b) l (le_refl (length b)) ∙ itself)

zeros_only : (a b : List ℕ) → Equal a b → TrailingZeros a b
zeros_only a b q =
    let e = same a b q in
    ⊎_elim
    (λ l.
    record {
      common = b;
      first_zeros = length a - length b;
      second_zeros = 0;
      first = longer b a (λ k. sym (e k)) (le_of_lt l);
      second = sym (append-nil b);
    })
    (λ l.
    record {
      common = a;
      first_zeros = 0;
      second_zeros = length b - length a;
      first = sym (append-nil a);
      second = longer a b e l;
    })
    (cases_lt (length b) (length a))

zeros_equal : (a b : List ℕ) → TrailingZeros a b → Equal a b
zeros_equal a b z =
    decided {a = a} {b = b} (Compared.equal (λ k. rw (z.first, z.second) (unseen z.common z.first_zeros k ∙ sym (unseen z.common z.second_zeros k))))

pub equality : Equality
equality =
    record {
      reflexive = tied_itself ordered;
      alike_first = alike_first;
      alike_second = alike_right ordered;
      zeros_only = zeros_only;
      zeros_equal = zeros_equal;
    }

-- loading
too_long : (l mem : List ℕ) → refused_length (length mem) ≡ false → ltb (length mem) (length l) ≡ true → (load_words_of l mem).answer ≡ Err LongList
unfolding load_words_of
too_long l mem r t = rw (r, t)

pub load_alike : LoadAlike
unfolding load_words_of
load_alike a b mem q x y =
    elim (cases_Bool (refused_length (length mem))) [
      | inl r ↦ rw r
      | inr r ↦
          elim (cases_Bool (ltb (length mem) (length a))) [
            | inl t ↦ absurd (x (too_long a mem r t))
            | inr t ↦
                elim (cases_Bool (ltb (length mem) (length b))) [
                  | inl u ↦ absurd (y (too_long b mem r u))
                  | inr u ↦ rw (r, t, u, padded_alike a b (same a b q) (length mem) (ltb-false _ _ t) (ltb-false _ _ u))
                ]
          ]
    ]

-- the first word of a list from place p on, if it has one there
begins : (l : List ℕ) (p w : ℕ) (ws : List ℕ) → drop (min p (length l)) l ≡ w ∷ ws → (p < length l) × (word_in l p ≡ w)
begins l p w ws q =
    let left : length l - min p (length l) ≡ suc (length ws) = sym (length-drop (min p (length l)) l) ∙ ap length q in
    let there : p < length l = omega arith in
    let here : min p (length l) ≡ p = omega arith in
    let word : word_in (drop p l) 0 ≡ w = ap (λ (r : List ℕ). word_in r 0) (rw here at q) in
    (there, rw (drop-cons l p 0 there) at word)

part_begins : (a b : Slice) (w : ℕ) (ws : List ℕ) → (earlier_part a b).words ≡ w ∷ ws → Smaller a.words b.words w
part_begins a b w ws q =
    let p = place_of a.words b.words in
    by_ranked _ _ _ (order_of a.words b.words) (ranked (word_in a.words p) (word_in b.words p) _ refl)
    (λ e l. let s = (begins a.words p w ws (rw e at q)).1 in record { is_least = omega arith; below_other = omega arith })
    (λ e s.
    let over = end_place a.words b.words s in
    let there = (begins a.words p w ws (rw e at q)).0 in
    absurd (omega arith))
    (λ e l. let s = (begins b.words p w ws (rw e at q)).1 in record { is_least = omega arith; below_other = omega arith })

pub first_difference : FirstDifference
first_difference =
    record {
      same_before = same_before;
      differ_there = λ a b n e. n (decided (Compared.equal (same_all a b e)));
      part_begins = part_begins;
    }
