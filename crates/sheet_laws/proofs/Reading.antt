-- Reading a sheet record by record, by today's rule (`reading`) and whatever a record counts.
use Prim.Native.Nat.{ℕ, ◌+◌, ◌<◌, ◌≤◌}
use mathlib.Core.List.{List, [], ◌∷◌}
use mathlib.Core.Path.{◌≡◌, refl, ap, ◌∙◌}
use native.Mathlib.Omega.{arith}
use lib.ListN.{length, set, length-set}
use lib.Dec.{ltb, eqb}
use borrow.Author.Tests.{lt-ltb, ltb-true, eqb-true}
use Rattle.std.specs.Prelude.{Result, Ok, Err}
use Rattle.instructions.proofs.Cases.{by_test}
use Rattle.emulator.specs.declared.core_record.Core.{Core}
use Rattle.sheet.specs.declared.fields.Record.{Record}
use Rattle.sheet.specs.declared.fields.Record.TheVariants.{Place, Word, Preset, Edition, End}
use Rattle.sheet.specs.declared.refusal.SheetRefusal.{SheetRefusal}
use Rattle.sheet.specs.Record.{record_of, with_register}
use Rattle.sheet.specs.Load.{Reading, closed, every_record, record_reads, read_from, tested_of}
use Rattle.sheet_laws.specs.LeftOut.{address_after}

abbrev pub reading : List ℕ → ℕ → ℕ → Core → ℕ → List ℕ → Reading
reading = read_from every_record

abbrev pub Passed : Reading → Type 0
Passed s = tested_of s ≡ Ok tt

pub failed : {k : SheetRefusal} → Passed (Reading.fails k) → ⊥
failed p = cc

-- a record that is no end, whose word has a place
abbrev pub Fits : Record → ℕ → ℕ → Type 0
Fits (Place p) a size = Unit {0}
Fits (Word v) a size = a < size
Fits (Preset k v) a size = Unit {0}
Fits (Edition e) a size = Unit {0}
Fits (End k) a size = ⊥

-- it fits at an address further in front, too, and leaves one further in front
pub fits_before : (r : Record) (a a' size : ℕ) → a' ≤ a → Fits r a size → Fits r a' size
fits_before (Place p) a a' size l f = f
fits_before (Word v) a a' size l f = omega arith
fits_before (Preset k v) a a' size l f = f
fits_before (Edition e) a a' size l f = f
fits_before (End k) a a' size l f = f

pub goes_before : (r : Record) (a a' : ℕ) → a' ≤ a → address_after (Ok r) a' ≤ address_after (Ok r) a
goes_before (Place p) a a' l = omega arith
goes_before (Word v) a a' l = omega arith
goes_before (Preset k v) a a' l = l
goes_before (Edition e) a a' l = l
goes_before (End k) a a' l = l

-- what it does to the core, the edition and the memory
pub core_after : Record → Core → Core
core_after (Place p) c = c
core_after (Word v) c = c
core_after (Preset k v) c = with_register c k v
core_after (Edition e) c = c
core_after (End k) c = c

pub edition_after : Record → ℕ → ℕ
edition_after (Place p) ed = ed
edition_after (Word v) ed = ed
edition_after (Preset k v) ed = ed
edition_after (Edition e) ed = e
edition_after (End k) ed = ed

pub memory_after : Record → ℕ → List ℕ → List ℕ
memory_after (Place p) a mem = mem
memory_after (Word v) a mem = set mem a v
memory_after (Preset k v) a mem = mem
memory_after (Edition e) a mem = mem
memory_after (End k) a mem = mem

pub length_after : (r : Record) (a : ℕ) (mem : List ℕ) → length (memory_after r a mem) ≡ length mem
unfolding memory_after
length_after (Place p) a mem = refl
length_after (Word v) a mem = length-set mem a v
length_after (Preset k v) a mem = refl
length_after (Edition e) a mem = refl
length_after (End k) a mem = refl

-- what a sheet that passes begins with: a record that fits, or the right end, which is the last
pub data Next (x : Result Record SheetRefusal) (ws : List ℕ) (a n size : ℕ) : Type 0 where
  goes_on : (r : Record) → x ≡ Ok r → Fits r a size → Next x ws a n size
  ends : x ≡ Ok (End n) → ws ≡ [] → Next x ws a n size

module _ (counts : Record → ℕ) where
  module _ (a n : ℕ) (c : Core) (ed : ℕ) (mem : List ℕ) where
    goes : (r : Record) → Fits r a (length mem) → (us : List ℕ)
        → record_reads counts (Ok r) us (read_from counts us) a n c ed mem
        ≡ read_from counts us (address_after (Ok r) a) (n + counts r) (core_after r c) (edition_after r ed) (memory_after r a mem)
    unfolding core_after edition_after memory_after
    goes (Place p) f us = refl
    goes (Word v) f us = rw (lt-ltb a (length mem) f)
    goes (Preset k v) f us = refl
    goes (Edition e) f us = refl
    goes (End k) f us = absurd f

    pub reads_on : (w : ℕ) (r : Record) → record_of w ≡ Ok r → Fits r a (length mem) → (us : List ℕ)
        → read_from counts (w ∷ us) a n c ed mem
        ≡ read_from counts us (address_after (Ok r) a) (n + counts r) (core_after r c) (edition_after r ed) (memory_after r a mem)
    unfolding read_from
    reads_on w r e f us = rw e (goes r f us)

    nothing_after : (ws : List ℕ) → Passed (closed ws c ed mem) → ws ≡ []
    nothing_after [] q = refl
    nothing_after (w ∷ ws) q = absurd (failed q)

    one : (x : Result Record SheetRefusal) (ws : List ℕ) → Passed (record_reads counts x ws (read_from counts ws) a n c ed mem) → Next x ws a n (length mem)
    one (Ok (Place p)) ws q = Next.goes_on (Place p) refl tt
    one (Ok (Word v)) ws q =
        by_test (ltb a (length mem)) (λ b. Next.goes_on (Word v) refl (ltb-true a (length mem) b)) (λ b. absurd (failed (rw b at q)))
    one (Ok (Preset k v)) ws q = Next.goes_on (Preset k v) refl tt
    one (Ok (Edition e)) ws q = Next.goes_on (Edition e) refl tt
    one (Ok (End k)) ws q =
        by_test (eqb k n) (λ b. Next.ends (ap (λ (m : ℕ). Ok (End m)) (eqb-true k n b)) (nothing_after ws (rw b at q))) (λ b. absurd (failed (rw b at q)))
    one (Err k) ws q = absurd (failed q)

    pub next : (w : ℕ) (ws : List ℕ) → Passed (read_from counts (w ∷ ws) a n c ed mem) → Next (record_of w) ws a n (length mem)
    unfolding read_from
    next w ws q = one (record_of w) ws q

    pub never_none : Passed (read_from counts [] a n c ed mem) → ⊥
    unfolding read_from
    never_none q = failed q

  -- so what is shown of a record that fits before what follows, and of the right end, holds of
  -- every sheet that passes
  pub by_records : (size : ℕ) (P : List ℕ → ℕ → ℕ → Type 0)
      → ((w : ℕ) (r : Record) (ws : List ℕ) (a n : ℕ) → record_of w ≡ Ok r → Fits r a size → P ws (address_after (Ok r) a) (n + counts r) → P (w ∷ ws) a n)
      → ((w a n : ℕ) → record_of w ≡ Ok (End n) → P (w ∷ []) a n)
      → (ws : List ℕ) (a n : ℕ) (c : Core) (ed : ℕ) (mem : List ℕ) → length mem ≡ size → Passed (read_from counts ws a n c ed mem) → P ws a n
  by_records size P on end [] a n c ed mem s q = absurd (never_none a n c ed mem q)
  by_records size P on end (w ∷ ws) a n c ed mem s q = go (by_records size P on end ws) (next a n c ed mem w ws q)
    where
      go : ((a n : ℕ) (c : Core) (ed : ℕ) (mem : List ℕ) → length mem ≡ size → Passed (read_from counts ws a n c ed mem) → P ws a n)
          → Next (record_of w) ws a n (length mem) → P (w ∷ ws) a n
      go later (Next.goes_on r e f) =
          let p = rw (reads_on a n c ed mem w r e f ws) at q in
          on w r ws a n e (rw s at f)
          (later (address_after (Ok r) a) (n + counts r) (core_after r c) (edition_after r ed) (memory_after r a mem) (length_after r a mem ∙ s) p)
      go later (Next.ends e z) = rw z (end w a n e)
