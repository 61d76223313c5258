-- What is claimed of the order of word lists (docs/MACHINE.md, Word lists and their order).
use Rattle.std.specs.Ordering.{ordering_reverse}
use Rattle.std.specs.declared.cmp.Ordering.{Ordering}
use Rattle.std.specs.Prelude.{ℕ, ◌<◌, min, max, List, ◌∷◌, ◌++◌, ◌⊎◌, ◌≡◌, replicate, Err}
use Rattle.order.specs.Order.{word_in, place_of, order_of, Slice, earlier_part}
use Rattle.sheet.specs.declared.refusal.SheetRefusal.TheVariants.{LongList}
use Rattle.sheet.specs.Load.{load_words_of}

abbrev pub Before : List ℕ → List ℕ → Type 0
Before a b = order_of a b ≡ Ordering.Less

abbrev pub Equal : List ℕ → List ℕ → Type 0
Equal a b = order_of a b ≡ Ordering.Equal

abbrev pub BeforeOrEqual : List ℕ → List ℕ → Type 0
BeforeOrEqual a b = Before a b ⊎ Equal a b

-- exactly one of three
pub data OneOf (P Q R : Type 0) : Type 0 where
  the_first : P → (Q → ⊥) → (R → ⊥) → OneOf P Q R
  the_second : (P → ⊥) → Q → (R → ⊥) → OneOf P Q R
  the_third : (P → ⊥) → (Q → ⊥) → R → OneOf P Q R

pub record Total : Type 0 where
  pub one_of : (a b : List ℕ) → OneOf (Before a b) (Before b a) (Equal a b)
  -- the lists exchanged
  pub exchange : (a b : List ℕ) → order_of b a ≡ ordering_reverse (order_of a b)

-- a relation of lists is transitive
abbrev pub TransitiveFor : (List ℕ → List ℕ → Type 0) → Type 0
TransitiveFor R = (a b c : List ℕ) → R a b → R b c → R a c

pub record Transitive : Type 0 where
  pub before : TransitiveFor Before
  pub equal : TransitiveFor Equal
  pub before_or_equal : TransitiveFor BeforeOrEqual

-- two lists that are one list with some zeros after it, and with some others
pub record TrailingZeros (a b : List ℕ) : Type 0 where
  pub common : List ℕ
  pub first_zeros : ℕ
  pub second_zeros : ℕ
  pub first : a ≡ common ++ replicate first_zeros 0
  pub second : b ≡ common ++ replicate second_zeros 0

pub record Equality : Type 0 where
  pub reflexive : (a : List ℕ) → Equal a a
  -- equal lists answer alike against every third, before it and after it
  pub alike_first : (a b c : List ℕ) → Equal a b → order_of a c ≡ order_of b c
  pub alike_second : (a b c : List ℕ) → Equal a b → order_of c a ≡ order_of c b
  -- they are exactly those that differ in trailing zeros only
  pub zeros_only : (a b : List ℕ) → Equal a b → TrailingZeros a b
  pub zeros_equal : (a b : List ℕ) → TrailingZeros a b → Equal a b

-- equal lists load alike into every memory where neither gets stop 3
abbrev pub LoadAlike : Type 0
LoadAlike =
    (a b mem : List ℕ) → Equal a b → ((load_words_of a mem).answer ≡ Err LongList → ⊥) → ((load_words_of b mem).answer ≡ Err LongList → ⊥)
    → load_words_of a mem ≡ load_words_of b mem

-- w is the smaller of the two words at the first place where two lists differ
pub record Smaller (a b : List ℕ) (w : ℕ) : Type 0 where
  pub is_least : w ≡ min (word_in a (place_of a b)) (word_in b (place_of a b))
  pub below_other : w < max (word_in a (place_of a b)) (word_in b (place_of a b))

-- that place is the first where they differ, if they are not equal; the first word of the part, if
-- it has one, is the smaller one there
pub record FirstDifference : Type 0 where
  pub same_before : (a b : List ℕ) (k : ℕ) → k < place_of a b → word_in a k ≡ word_in b k
  pub differ_there : (a b : List ℕ) → (Equal a b → ⊥) → word_in a (place_of a b) ≡ word_in b (place_of a b) → ⊥
  pub part_begins : (a b : Slice) (w : ℕ) (ws : List ℕ) → (earlier_part a b).words ≡ w ∷ ws → Smaller a.words b.words w
