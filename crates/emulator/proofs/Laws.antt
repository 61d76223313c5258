-- Laws of what is lent: the host tests, and what a call leaves.
use Rattle.std.specs.Prelude.{◌≡◌, ℕ, ◌≤◌, Bool, false, eqb, List, length, Ok, Err}
use mathlib.Core.Path.{sym}
use native.Mathlib.Omega.{arith}
use borrow.Author.Tests.{eqb-true, eqb-false, eq-eqb, ne_eqb}
use Rattle.memory.specs.Memory.{Memory, lent, refused_length, length_test}
use Rattle.memory.specs.Outcome.{refusal_number}
use Rattle.execute.specs.Edition.{refused_edition}
use Rattle.emulator.specs.Machine.{Setting, then_test, refusal_of, refusal_in}
use Rattle.memory.specs.Rights.{refused_bytes}
use Rattle.memory.specs.declared.refusal.Refusal.{Refusal}
use Rattle.memory.proofs.Laws.{length_most, length_passes, length_fails}
use Rattle.instructions.proofs.Cases.{by_test, if_elim}

module _ (mem ms : List ℕ) where
  pub test_length : {r : Refusal} → Err r ≡ length_test (length mem) → refusal_number r ≡ refusal_of (lent mem ms)
  unfolding refusal_of
  test_length e = let f = length_fails (length mem) e in rw (f.0, f.1)

  module _ {u : Unit {0}} (passed : Ok u ≡ length_test (length mem)) where
    pub test_marks : (length ms ≡ length mem → ⊥) → 2 ≡ refusal_of (lent mem ms)
    unfolding refusal_of
    test_marks n = rw (length_passes (length mem) passed, ne_eqb (length ms) (length mem) n)

    pub test_none : length ms ≡ length mem → 0 ≡ refusal_of (lent mem ms)
    unfolding refusal_of
    test_none e = rw (length_passes (length mem) passed, eq-eqb (length ms) (length mem) e)

-- where a test after others doesn't refuse, those before it don't either
then_accepted : (before : ℕ) (refuses : Bool) (n : ℕ) → (n ≡ 0 → ⊥) → then_test before refuses n ≡ 0 → (before ≡ 0) × (refuses ≡ false)
then_accepted before refuses n nz ok =
    by_test refuses
    (λ t. by_test (eqb before 0) (λ z. absurd (nz (rw (t, z) at ok))) (λ z. absurd (eqb-false _ _ z (rw (t, z) at ok))))
    (λ f. (rw f at ok, f))

-- where no host test of a run refuses, none of 1 and 2, 32 and 34 does
module _ (given : Setting) (m : Memory) (ok : refusal_in given m ≡ 0) where
  pub edition_accepted : refused_edition given.edition ≡ false
  edition_accepted = (then_accepted (then_test (refusal_of m) (refused_bytes given.rights) 32) (refused_edition given.edition) 34 (λ z. omega arith) ok).1

  before_edition : then_test (refusal_of m) (refused_bytes given.rights) 32 ≡ 0
  before_edition = (then_accepted _ (refused_edition given.edition) 34 (λ z. omega arith) ok).0

  pub with_accepted : refusal_of m ≡ 0
  with_accepted = (then_accepted _ (refused_bytes given.rights) 32 (λ z. omega arith) before_edition).0

  pub rights_accepted : refused_bytes given.rights ≡ false
  rights_accepted = (then_accepted (refusal_of m) (refused_bytes given.rights) 32 (λ z. omega arith) before_edition).1

-- no host test refuses: the lists are equally long
pub accepted_marked : (m : Memory) → refusal_of m ≡ 0 → length m.marks ≡ length m.words
unfolding refusal_of
accepted_marked m =
    if_elim Says (refused_length (length m.words)) (λ _ z. omega arith)
    (λ _. if_elim Says (eqb (length m.marks) (length m.words)) (λ e _. eqb-true _ _ e) (λ _ z. omega arith))
  where
    Says : ℕ → Type 0
    Says x = x ≡ 0 → length m.marks ≡ length m.words

-- and no longer than 65,536
pub accepted_length : (m : Memory) → refusal_of m ≡ 0 → length m.words ≤ 65536
unfolding refusal_of
accepted_length m = if_elim Says (refused_length (length m.words)) (λ _ z. absurd (omega arith)) (λ f _. length_most (length m.words) f)
  where
    Says : ℕ → Type 0
    Says x = x ≡ 0 → length m.words ≤ 65536

pub accepted : (mem ms : List ℕ) → 0 ≡ refusal_of (lent mem ms) → length ms ≡ length mem
accepted mem ms z = accepted_marked (lent mem ms) (sym z)

-- what a call left of the words and the marks stands in what was lent
pub relent : {A : Type 0} (f : Memory → A) {a b a' b' : List ℕ} {x : A} → a' ≡ a → b' ≡ b → f (lent a b) ≡ x → f (lent a' b') ≡ x
relent f p q e = rw (p, q) e
