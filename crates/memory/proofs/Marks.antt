-- What a read and a write do to marks.
use Rattle.std.specs.Prelude.{◌≡◌, ℕ, ◌+◌, ◌/◌, ◌%◌, eqb, ltb, ◌≢◌, ◌⊎◌, List, length, get_or, set}
use mathlib.Core.Path.{refl, ap, ◌∙◌}
use mathlib.Core.Logic.{⊎_elim, inl, inr}
use native.Mathlib.Omega.{arith}
use lib.ListN.{length-set}
use lib.Seq.{get_or-set_same, get_or-set_other, set_out}
use borrow.Author.Tests.{eqb-true, eqb-false, ltb-true, ltb-false}
use Rattle.memory.specs.Memory.{lent, was_read, was_written, read_mark, write_mark, mark_read, mark_write, Below, Kept}
use Rattle.instructions.proofs.Cases.{by_test, if_elim}

-- a property of a mark after a read, by the three cases
read_cases : (m : ℕ) (P : ℕ → Type 0) → (was_written m ≡ 1 → P m) → (was_read m ≡ 1 → P m) → ((was_written m ≡ 1 → ⊥) → (was_read m ≡ 1 → ⊥) → P (m + 1)) → P (read_mark m)
unfolding read_mark
read_cases m P f g h =
    if_elim P (eqb (was_written m) 1) (λ e. f (eqb-true _ _ e))
    (λ e. if_elim P (eqb (was_read m) 1) (λ d. g (eqb-true _ _ d)) (λ d. h (eqb-false _ _ e) (eqb-false _ _ d)))

write_cases : (m : ℕ) (P : ℕ → Type 0) → (was_written m ≡ 1 → P m) → ((was_written m ≡ 1 → ⊥) → P (m + 2)) → P (write_mark m)
unfolding write_mark
write_cases m P f g = if_elim P (eqb (was_written m) 1) (λ e. f (eqb-true _ _ e)) (λ e. g (eqb-false _ _ e))

-- a read keeps bit 1 and the upper bits, and leaves bit 0 set unless bit 1 is
read_written_bit : (m : ℕ) → was_written (read_mark m) ≡ was_written m
read_written_bit m =
    read_cases m (λ x. was_written x ≡ was_written m) (λ _. refl) (λ _. refl)
    (λ _ n. let half : (m + 1) / 2 ≡ m / 2 = omega arith in ap (λ (x : ℕ). x % 2) half)

read_upper : (m : ℕ) → read_mark m / 4 ≡ m / 4
read_upper m = read_cases m (λ x. x / 4 ≡ m / 4) (λ _. refl) (λ _. refl) (λ _ n. omega arith)

pub read_sets : (m : ℕ) → was_written m ≡ 0 → was_read (read_mark m) ≡ 1
read_sets m z = read_cases m (λ x. was_read x ≡ 1) (λ e. omega arith) (λ e. e) (λ e d. omega arith)

read_keeps : (m : ℕ) → was_read m ≡ 1 → was_read (read_mark m) ≡ 1
read_keeps m h = read_cases m (λ x. was_read x ≡ 1) (λ _. h) (λ _. h) (λ e d. omega arith)

-- a write sets bit 1, and keeps the others
pub write_sets : (m : ℕ) → was_written (write_mark m) ≡ 1
write_sets m =
    write_cases m (λ x. was_written x ≡ 1) (λ e. e)
    (λ e. let half : (m + 2) / 2 ≡ m / 2 + 1 = omega arith in ap (λ (x : ℕ). x % 2) half ∙ omega arith)

write_read_bit : (m : ℕ) → was_read (write_mark m) ≡ was_read m
write_read_bit m = write_cases m (λ x. was_read x ≡ was_read m) (λ _. refl) (λ e. omega arith)

write_upper : (m : ℕ) → write_mark m / 4 ≡ m / 4
write_upper m = write_cases m (λ x. x / 4 ≡ m / 4) (λ _. refl) (λ e. omega arith)

pub written_cases : (m : ℕ) → (was_written m ≡ 0) ⊎ (was_written m ≡ 1)
written_cases m = by_test (eqb (was_written m) 0) (λ e. inl (eqb-true _ _ e)) (λ e. inr (omega (arith, eqb-false)))

pub same_or_not : (i j : ℕ) → (j ≡ i) ⊎ (j ≢ i)
same_or_not i j = by_test (eqb j i) (λ e. inl (eqb-true _ _ e)) (λ e. inr (eqb-false _ _ e))

-- a list with f done to one element: what f keeps of each element holds at every place
at_one : (P : ℕ → ℕ → Type 0) (f : ℕ → ℕ) → ((m : ℕ) → P m (f m)) → ((m : ℕ) → P m m) → (ms : List ℕ) (a b : ℕ)
    → P (get_or ms b 0) (get_or (set ms a (f (get_or ms a 0))) b 0)
at_one P f h k ms a b = ⊎_elim same other (same_or_not a b)
  where
    new : ℕ
    new = f (get_or ms a 0)

    same : b ≡ a → P (get_or ms b 0) (get_or (set ms a new) b 0)
    same e =
        rw e
        (by_test (ltb a (length ms))
        (λ t. rw (get_or-set_same ms a new 0 (ltb-true _ _ t)) (h (get_or ms a 0)))
        (λ t. rw (set_out ms a new (ltb-false _ _ t)) (k (get_or ms a 0))))

    other : b ≢ a → P (get_or ms b 0) (get_or (set ms a new) b 0)
    other n = rw (get_or-set_other ms a b new 0 n) (k (get_or ms b 0))

-- what f keeps of each mark, it keeps where one mark is changed by it
below : (bit f : ℕ → ℕ) → ((m : ℕ) → bit m ≡ 1 → bit (f m) ≡ 1) → (ms : List ℕ) (a : ℕ) → Below bit ms (set ms a (f (get_or ms a 0)))
below bit f h ms a b = at_one (λ m n. bit m ≡ 1 → bit n ≡ 1) f h (λ m e. e) ms a b

others : (f : ℕ → ℕ) → ((m : ℕ) → f m / 4 ≡ m / 4) → (ms : List ℕ) (a b : ℕ) → get_or (set ms a (f (get_or ms a 0))) b 0 / 4 ≡ get_or ms b 0 / 4
others f h ms a b = at_one (λ m n. n / 4 ≡ m / 4) f h (λ m. refl) ms a b

-- what a read and a write keep
pub kept_read : (ws ms : List ℕ) (a : ℕ) → Kept (lent ws ms) (lent ws (mark_read ms a))
kept_read ws ms a =
    record {
      read = below was_read read_mark read_keeps ms a;
      written = below was_written read_mark (λ m e. read_written_bit m ∙ e) ms a;
      others = others read_mark read_upper ms a;
      words_length = refl;
      marks_length = length-set ms a (read_mark (get_or ms a 0));
    }

pub kept_write : (ws ms : List ℕ) (a v : ℕ) → Kept (lent ws ms) (lent (set ws a v) (mark_write ms a))
kept_write ws ms a v =
    record {
      read = below was_read write_mark (λ m e. write_read_bit m ∙ e) ms a;
      written = below was_written write_mark (λ m _. write_sets m) ms a;
      others = others write_mark write_upper ms a;
      words_length = length-set ws a v;
      marks_length = length-set ms a (write_mark (get_or ms a 0));
    }

-- a read keeps every bit 1
pub written_read : (ms : List ℕ) (a b : ℕ) → was_written (get_or (mark_read ms a) b 0) ≡ was_written (get_or ms b 0)
written_read ms a b = at_one (λ m n. was_written n ≡ was_written m) read_mark read_written_bit (λ m. refl) ms a b

-- and a write every bit 0
pub read_written : (ms : List ℕ) (a b : ℕ) → was_read (get_or (mark_write ms a) b 0) ≡ was_read (get_or ms b 0)
read_written ms a b = at_one (λ m n. was_read n ≡ was_read m) write_mark write_read_bit (λ m. refl) ms a b
