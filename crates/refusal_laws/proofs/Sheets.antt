-- A load of a sheet is refused by the first of its tests that fails: by induction over its records.
use Rattle.std.specs.Prelude.{ℕ, ◌≡◌, ◌+◌, false, not, ltb, eqb, List, [], ◌∷◌, ◌++◌, length, set, replicate, Option, Some, None}
use mathlib.Core.Path.{refl, ◌∙◌}
use native.Mathlib.Omega.{arith}
use lib.ListN.{length-set, length-replicate}
use borrow.Author.Tests.{ltb-true, ltb-false, le-leb, lt-leb, eqb-true, ne_eqb}
use Rattle.instructions.proofs.Cases.{by_test}
use Rattle.execute.specs.Edition.{refused_edition}
use Rattle.memory.specs.Memory.{refused_length}
use Rattle.emulator.specs.declared.core_record.Core.{Core}
use Rattle.emulator.specs.Core.{new_core}
use Rattle.sheet.specs.Record.{kind, above16, above20, register, low, count, record_of, with_register}
use Rattle.sheet.specs.Refusal.{sheet_refusal_number}
use Rattle.sheet.specs.Load.{Reading, every_record, read_from, sheet_reads, settled, left, load_sheet_of}
use Rattle.refusal_laws.specs.Tests.{Test, test, first_failing, each_record_tests, has_end, sheet_tests}
use Rattle.refusal_laws.specs.Refused.{RefusedBy, answer_refusal}

-- the number of the test that a sheet fails, if it fails one
abbrev number_of : Reading → Option ℕ
number_of (Reading.gives c ed mem) = None
number_of (Reading.fails k) = Some (sheet_refusal_number k)

-- the tests of the records that are left, from a load address on, after n records
abbrev rest_tests : ℕ → ℕ → ℕ → List ℕ → List Test
rest_tests size a n ws = each_record_tests size a n ws ++ test 24 (not (has_end ws)) ∷ []

-- records fail the first of their tests that fails, whatever stands before them
abbrev Fails : ℕ → List ℕ → Type 0
Fails size ws =
    (a n : ℕ) (c : Core) (ed : ℕ) (mem : List ℕ) → length mem ≡ size
    → number_of (read_from every_record ws a n c ed mem) ≡ first_failing (rest_tests size a n ws)

-- no record: 24
fails_none : (size : ℕ) → Fails size []
unfolding read_from first_failing each_record_tests
fails_none size a n c ed mem s = refl

-- so do those that a record of each kind but the end stands before, if they do without it
module _ (size w : ℕ) (ws : List ℕ) (later : Fails size ws) (a n : ℕ) (c : Core) (ed : ℕ) (mem : List ℕ) (s : length mem ≡ size) where
  abbrev Goal : Type 0
  Goal = number_of (read_from every_record (w ∷ ws) a n c ed mem) ≡ first_failing (rest_tests size a n (w ∷ ws))

  -- a place sets the load address
  place : kind w ≡ 1 → Goal
  unfolding read_from record_of first_failing each_record_tests
  place k = by_test (eqb (above16 w) 0) (λ z. rw (k, z) (later (low w) (n + 1) c ed mem s)) (λ z. rw (k, z))

  -- a word has to stand within memory
  word : kind w ≡ 2 → Goal
  unfolding read_from record_of first_failing each_record_tests
  word k =
      by_test (eqb (above16 w) 0)
      (λ z. by_test (ltb a (length mem))
      (λ b.
      let in_range = ltb-true a (length mem) b in
      rw (k, z, b, lt-leb size a (omega arith)) (later (a + 1) (n + 1) c ed (set mem a (low w)) (length-set mem a (low w) ∙ s)))
      (λ b. let past = ltb-false a (length mem) b in rw (k, z, b, le-leb size a (omega arith))))
      (λ z. rw (k, z))

  -- a preset has to name a register
  preset : kind w ≡ 3 → Goal
  unfolding read_from record_of first_failing each_record_tests
  preset k =
      by_test (eqb (above20 w) 0)
      (λ z. by_test (ltb 11 (register w))
      (λ b. rw (k, z, b))
      (λ b. rw (k, z, b) (later a (n + 1) (with_register c (register w) (low w)) ed mem s)))
      (λ z. rw (k, z))

  -- an edition has to be known
  edition : kind w ≡ 7 → Goal
  unfolding read_from record_of first_failing each_record_tests
  edition k =
      by_test (eqb (above16 w) 0)
      (λ z. by_test (refused_edition (low w))
      (λ b. rw (k, z, b))
      (λ b. rw (k, z, b) (later a (n + 1) c (low w) mem s)))
      (λ z. rw (k, z))

  -- any other kind but the end's: 20
  unknown : eqb (kind w) 1 ≡ false → eqb (kind w) 2 ≡ false → eqb (kind w) 3 ≡ false → eqb (kind w) 7 ≡ false → eqb (kind w) 15 ≡ false
      → Goal
  unfolding read_from record_of first_failing each_record_tests
  unknown p q r t u = rw (p, q, r, t, u)

-- an end has to count the records before it, and nothing may follow it
the_end : (size w : ℕ) (ws : List ℕ) (a n : ℕ) (c : Core) (ed : ℕ) (mem : List ℕ) → kind w ≡ 15
    → number_of (read_from every_record (w ∷ ws) a n c ed mem) ≡ first_failing (rest_tests size a n (w ∷ ws))
unfolding read_from record_of first_failing each_record_tests
the_end size w [] a n c ed mem k = by_test (eqb (count w) n) (λ z. rw (k, z)) (λ z. rw (k, z))
the_end size w (v ∷ ws) a n c ed mem k =
    by_test (eqb (count w) n) (λ z. rw (k, z, ne_eqb (length (v ∷ ws)) 0 (λ e. omega arith))) (λ z. rw (k, z))

-- one record more, by its kind
fails_more : (size w : ℕ) (ws : List ℕ) → Fails size ws → Fails size (w ∷ ws)
fails_more size w ws later a n c ed mem s =
    by_test (eqb (kind w) 1) (λ t. place size w ws later a n c ed mem s (eqb-true (kind w) 1 t))
    (λ p. by_test (eqb (kind w) 2) (λ t. word size w ws later a n c ed mem s (eqb-true (kind w) 2 t))
    (λ q. by_test (eqb (kind w) 3) (λ t. preset size w ws later a n c ed mem s (eqb-true (kind w) 3 t))
    (λ r. by_test (eqb (kind w) 7) (λ t. edition size w ws later a n c ed mem s (eqb-true (kind w) 7 t))
    (λ t. by_test (eqb (kind w) 15) (λ u. the_end size w ws a n c ed mem (eqb-true (kind w) 15 u))
    (λ u. unknown size w ws later a n c ed mem s p q r t u)))))

-- all records
records_fail : (size : ℕ) (ws : List ℕ) → Fails size ws
records_fail size [] = fails_none size
records_fail size (w ∷ ws) = fails_more size w ws (records_fail size ws)

-- what is left of a sheet that is read: all as it was, if it fails a test
settled_by : (mem : List ℕ) (tests : List Test) (x : Reading) → number_of x ≡ first_failing tests
    → RefusedBy tests (answer_refusal (settled mem x).answer) (settled mem x) (left (settled mem x).answer new_core 1 mem)
settled_by mem tests (Reading.gives c ed mem') e = record { number = e; kept = λ some. let no = some in cc }
settled_by mem tests (Reading.fails k) e = record { number = e; kept = λ some. refl }

-- the load: memory's length is tested first
pub load_sheet_refused : (sheet mem : List ℕ)
    → let l = load_sheet_of sheet mem in
    RefusedBy (sheet_tests sheet (length mem)) (answer_refusal l.answer) l (left l.answer new_core 1 mem)
unfolding load_sheet_of first_failing
load_sheet_refused sheet mem =
    by_test (refused_length (length mem))
    (λ t. rw t (record { number = refl; kept = λ some. refl }))
    (λ f. rw f
    (settled_by mem (test 1 false ∷ rest_tests (length mem) 0 0 sheet) (sheet_reads sheet (length mem))
    (records_fail (length mem) sheet 0 0 new_core 1 (replicate (length mem) 0) (length-replicate (length mem) 0))))
