-- Laws of reading a sheet, one for each way through the two loops that read it, and the loops'
-- invariants.
use Rattle.std.specs.Prelude.{if◌then◌else◌, Result, Ok, Err}
use Prim.Native.Nat.{ℕ, ◌+◌, ◌<◌, ◌≤◌}
use mathlib.Core.Bool.{Bool, true, false}
use mathlib.Core.List.{List, [], ◌∷◌}
use mathlib.Core.Path.{◌≡◌, refl, sym, ap, ◌∙◌}
use native.Mathlib.Numerals.{add-one}
use native.Mathlib.Omega.{arith}
use lib.ListN.{length, get_or, set, drop, replicate, length-set, length-replicate, drop_of_length-le}
use lib.Seq.{drop-cons}
use lib.Dec.{ltb, eqb}
use borrow.Author.Tests.{lt-ltb, le-ltb, ltb-true, eq-eqb, ne_eqb}
use Rattle.instructions.proofs.Cases.{by_test}
use Rattle.emulator.specs.declared.core_record.Core.{Core}
use Rattle.emulator.specs.Core.{new_core}
use Rattle.sheet.specs.declared.fields.Record.{Record}
use Rattle.sheet.specs.declared.fields.Record.TheVariants.{Place, Word, Preset, Edition, End}
use Rattle.sheet.specs.declared.refusal.SheetRefusal.{SheetRefusal}
use Rattle.sheet.specs.declared.refusal.SheetRefusal.TheVariants.{PastMemory, NoEnd, AfterEnd, WrongCount}
use Rattle.sheet.specs.Record.{record_of, with_register}
use Rattle.sheet.specs.Load.{Reading, closed, every_record, record_reads, read_from, sheet_reads, tested_of}

-- what is left of the sheet from record i on reads as the whole
pub record Underway (sheet : List ℕ) (size i a : ℕ) (c : Core) (ed : ℕ) (mem : List ℕ) : Type 0 where
  pub long : length mem ≡ size
  pub reads : read_from every_record (drop i sheet) a i c ed mem ≡ sheet_reads sheet size

-- record i, which is x, and what is left behind it
abbrev read_next : List ℕ → ℕ → Result Record SheetRefusal → ℕ → Core → ℕ → List ℕ → Reading
read_next sheet i x a c ed mem = record_reads every_record x (drop (i + 1) sheet) (read_from every_record (drop (i + 1) sheet)) a i c ed mem

underway_start : (sheet : List ℕ) (size : ℕ) → Underway sheet size 0 0 new_core 1 (replicate size 0)
underway_start sheet size = record { long = length-replicate size 0; reads = refl }

none_left : {sheet : List ℕ} {size i a ed : ℕ} {c : Core} {mem : List ℕ} → Underway sheet size i a c ed mem → length sheet ≤ i
    → Reading.fails NoEnd ≡ sheet_reads sheet size
unfolding read_from
none_left {sheet} u l = rw (drop_of_length-le sheet l) at u.reads

-- the next record
module _ {sheet : List ℕ} {size i a ed : ℕ} {c : Core} {mem : List ℕ} (u : Underway sheet size i a c ed mem) (l : i < length sheet) where
  next : read_next sheet i (record_of (get_or sheet i 0)) a c ed mem ≡ sheet_reads sheet size
  unfolding read_from
  next = rw (add-one i) (rw (drop-cons sheet i 0 l) at u.reads)

  refused_next : {k : SheetRefusal} → Err k ≡ record_of (get_or sheet i 0) → Reading.fails k ≡ sheet_reads sheet size
  refused_next seen = rw (← seen) at next

  module _ {r : Record} (seen : Ok r ≡ record_of (get_or sheet i 0)) where
    record_next : read_next sheet i (Ok r) a c ed mem ≡ sheet_reads sheet size
    record_next = rw (← seen) at next

    after_place : {p : ℕ} → r ≡ Place p → Underway sheet size (i + 1) p c ed mem
    after_place e = record { long = u.long; reads = rw e at record_next }

    after_word : {v : ℕ} → r ≡ Word v → a < size → Underway sheet size (i + 1) (a + 1) c ed (set mem a v)
    after_word {v} e b =
        let s = u.long in
        record { long = length-set mem a v ∙ u.long; reads = rw (e, lt-ltb a (length mem) (omega arith)) at record_next }

    after_preset : {k v : ℕ} → r ≡ Preset k v → Underway sheet size (i + 1) a (with_register c k v) ed mem
    after_preset e = record { long = u.long; reads = rw e at record_next }

    after_edition : {v : ℕ} → r ≡ Edition v → Underway sheet size (i + 1) a c v mem
    after_edition e = record { long = u.long; reads = rw e at record_next }

-- the first pass knows the load address alone
pub record Testing (sheet : List ℕ) (size i a : ℕ) : Type 0 where
  pub core : Core
  pub edition : ℕ
  pub memory : List ℕ
  pub underway : Underway sheet size i a core edition memory

pub test_start : (sheet : List ℕ) (size : ℕ) → Testing sheet size 0 0
test_start sheet size = record { core = new_core; edition = 1; memory = replicate size 0; underway = underway_start sheet size }

module _ {sheet : List ℕ} {size i a : ℕ} (t : Testing sheet size i a) where
  pub test_none : length sheet ≤ i → Err NoEnd ≡ tested_of (sheet_reads sheet size)
  test_none l = ap tested_of (none_left t.underway l)

  module _ (l : i < length sheet) where
    pub test_refused : {k : SheetRefusal} → Err k ≡ record_of (get_or sheet i 0) → Err k ≡ tested_of (sheet_reads sheet size)
    test_refused seen = ap tested_of (refused_next t.underway l seen)

    module _ {r : Record} (seen : Ok r ≡ record_of (get_or sheet i 0)) where
      test_next : read_next sheet i (Ok r) a t.core t.edition t.memory ≡ sheet_reads sheet size
      test_next = record_next t.underway l seen

      pub test_place : {p : ℕ} → r ≡ Place p → Testing sheet size (i + 1) p
      test_place e = record { core = t.core; edition = t.edition; memory = t.memory; underway = after_place t.underway l seen e }

      pub test_word : {v : ℕ} → r ≡ Word v → a < size → Testing sheet size (i + 1) (a + 1)
      test_word {v} e b = record { core = t.core; edition = t.edition; memory = set t.memory a v; underway = after_word t.underway l seen e b }

      pub test_past : {v : ℕ} → r ≡ Word v → size ≤ a → Err PastMemory ≡ tested_of (sheet_reads sheet size)
      test_past e b =
          let s = t.underway.long in
          ap tested_of (rw (e, le-ltb a (length t.memory) (omega arith)) at test_next)

      pub test_preset : {k v : ℕ} → r ≡ Preset k v → Testing sheet size (i + 1) a
      test_preset {k} {v} e =
          record { core = with_register t.core k v; edition = t.edition; memory = t.memory; underway = after_preset t.underway l seen e }

      pub test_edition : {v : ℕ} → r ≡ Edition v → Testing sheet size (i + 1) a
      test_edition {v} e = record { core = t.core; edition = v; memory = t.memory; underway = after_edition t.underway l seen e }

      pub test_count : {k : ℕ} → r ≡ End k → (k ≡ i → ⊥) → Err WrongCount ≡ tested_of (sheet_reads sheet size)
      test_count {k} e b = ap tested_of (rw (e, ne_eqb k i b) at test_next)

      -- an end whose count is right: nothing may follow
      test_end : r ≡ End i → tested_of (closed (drop (i + 1) sheet) t.core t.edition t.memory) ≡ tested_of (sheet_reads sheet size)
      test_end e = ap tested_of (rw (e, eq-eqb i i refl) at test_next)

      pub test_after : {k : ℕ} → r ≡ End k → k ≡ i → i + 1 < length sheet → Err AfterEnd ≡ tested_of (sheet_reads sheet size)
      test_after e b m = rw (drop-cons sheet (i + 1) 0 m) at test_end (rw b at e)

      pub test_done : {k : ℕ} → r ≡ End k → k ≡ i → length sheet ≤ i + 1 → Ok tt ≡ tested_of (sheet_reads sheet size)
      test_done e b m = rw (drop_of_length-le sheet m) at test_end (rw b at e)

pub ruleset testing = (test_start, test_place, test_word, test_preset, test_edition)

-- the second pass is over a sheet that passed
pub record Applying (sheet : List ℕ) (size i a : ℕ) (c : Core) (ed : ℕ) (mem : List ℕ) : Type 0 where
  pub passed : Ok tt ≡ tested_of (sheet_reads sheet size)
  pub underway : Underway sheet size i a c ed mem

pub apply_start : {sheet zeros : List ℕ} {size : ℕ} {c : Core} → zeros ≡ replicate size 0 → c ≡ new_core → Ok tt ≡ tested_of (sheet_reads sheet size)
    → Applying sheet size 0 0 c 1 zeros
apply_start {sheet} {size = size} z f p = record { passed = p; underway = rw (z, f) (underway_start sheet size) }

-- a sheet that passed fails no test
never : {k : SheetRefusal} {s : Reading} → Ok tt ≡ tested_of s → Reading.fails k ≡ s → ⊥
never {k} p q = let both : ◌≡◌ {A = Result (Unit {0}) SheetRefusal} (Ok tt) (Err k) = p ∙ ap tested_of (sym q) in cc

module _ {sheet : List ℕ} {size i a ed : ℕ} {c : Core} {mem : List ℕ} (t : Applying sheet size i a c ed mem) where
  pub apply_none : length sheet ≤ i → Reading.gives c ed mem ≡ sheet_reads sheet size
  apply_none l = absurd (never t.passed (none_left t.underway l))

  module _ (l : i < length sheet) where
    pub apply_refused : {k : SheetRefusal} → Err k ≡ record_of (get_or sheet i 0) → Reading.gives c ed mem ≡ sheet_reads sheet size
    apply_refused seen = absurd (never t.passed (refused_next t.underway l seen))

    module _ {r : Record} (seen : Ok r ≡ record_of (get_or sheet i 0)) where
      apply_next : read_next sheet i (Ok r) a c ed mem ≡ sheet_reads sheet size
      apply_next = record_next t.underway l seen

      pub apply_place : {p : ℕ} → r ≡ Place p → Applying sheet size (i + 1) p c ed mem
      apply_place e = record { passed = t.passed; underway = after_place t.underway l seen e }

      pub apply_in : {v : ℕ} → r ≡ Word v → a < length mem
      apply_in {v} e =
          by_test (ltb a (length mem)) (λ b. ltb-true a (length mem) b) (λ b. absurd (never t.passed (rw b at (rw e at apply_next))))

      pub apply_word : {v : ℕ} → r ≡ Word v → Applying sheet size (i + 1) (a + 1) c ed (set mem a v)
      apply_word {v} e =
          let b = apply_in e in
          let s = t.underway.long in
          record { passed = t.passed; underway = after_word t.underway l seen e (omega arith) }

      pub apply_preset : {d : Core} {k v : ℕ} → r ≡ Preset k v → d ≡ with_register c k v → Applying sheet size (i + 1) a d ed mem
      apply_preset e f = record { passed = t.passed; underway = rw f (after_preset t.underway l seen e) }

      pub apply_edition : {v : ℕ} → r ≡ Edition v → Applying sheet size (i + 1) a c v mem
      apply_edition e = record { passed = t.passed; underway = after_edition t.underway l seen e }

      pub apply_end : {k : ℕ} → r ≡ End k → Reading.gives c ed mem ≡ sheet_reads sheet size
      apply_end {k} e = go (eqb k i) (rw e at apply_next)
        where
          last : (ws : List ℕ) → closed ws c ed mem ≡ sheet_reads sheet size → Reading.gives c ed mem ≡ sheet_reads sheet size
          last [] q = q
          last (x ∷ xs) q = absurd (never t.passed q)

          go : (b : Bool) → (if b then closed (drop (i + 1) sheet) c ed mem else Reading.fails WrongCount) ≡ sheet_reads sheet size
              → Reading.gives c ed mem ≡ sheet_reads sheet size
          go true q = last (drop (i + 1) sheet) q
          go false q = absurd (never t.passed q)

pub ruleset applying = (apply_start, apply_place, apply_word, apply_preset, apply_edition)
