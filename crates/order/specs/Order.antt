-- Which of two word lists comes first (docs/MACHINE.md, Word lists and their order): they are
-- compared at the first place where they differ, the shorter taken as followed by zeros.
use Rattle.std.specs.Prelude.{ℕ, ◌+◌, ◌*◌, min, max, Bool, not, ◌==◌, List, length, drop, slice_index}
use Rattle.std.specs.List.{position_or_len, range_with_len}
use Rattle.std.specs.Ordering.{nat_cmp, min_by_ordering}
use Rattle.std.specs.Borrow.{Bor}
use Rattle.std.specs.declared.cmp.Ordering.{Ordering}
use Rattle.order.specs.declared.Part.{Part}

-- the word at a place: 0 past the end
abbrev pub word_in : List ℕ → ℕ → ℕ
word_in words place = slice_index words place

-- whether their words at a place differ
abbrev pub differ_at : List ℕ → List ℕ → ℕ → Bool
differ_at first second place = not (word_in first place == word_in second place)

-- the first place where they differ; if there is none, the end of the longer, from which on both
-- have only zeros
unfoldable pub place_of : List ℕ → List ℕ → ℕ
place_of first second = position_or_len (differ_at first second) (range_with_len 0 (max (length first) (length second)))

-- the order of two lists, that of their words at that place: `Less` where the first comes first,
-- `Greater` where the second does
abbrev pub order_of : List ℕ → List ℕ → Ordering
order_of first second = nat_cmp (word_in first (place_of first second)) (word_in second (place_of first second))

-- the part of the earlier list from that place on, as the order and the part's first place: of a
-- list that is over there, its empty end, and of two that are equal, that of the first
abbrev pub part_of : List ℕ → List ℕ → Part
part_of first second =
    record {
      order = order_of first second;
      from = min (place_of first second) (length (min_by_ordering (order_of first second) first second));
    }

-- a lent list: where it starts, a block of memory and a byte in it, and its words
pub record Slice : Type 0 where
  pub block : ℕ
  pub byte : ℕ
  pub words : List ℕ

abbrev pub slice_of : Bor (List ℕ) → Slice
slice_of lent = record { block = lent.ref_ptr.0; byte = lent.ref_ptr.1; words = lent.now }

-- the same list from a place on; a word has two bytes
abbrev pub from_place : Slice → ℕ → Slice
from_place slice place = record { block = slice.block; byte = slice.byte + place * 2; words = drop place slice.words }

-- the part as it is handed back
abbrev pub earlier_part : Slice → Slice → Slice
earlier_part first second =
    let part = part_of first.words second.words in from_place (min_by_ordering part.order first second) part.from
