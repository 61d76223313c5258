-- A sheet that lost a record is refused.
use Prim.Native.Nat.{ℕ, zero, suc, ◌+◌, ◌<◌, ◌≤◌}
use mathlib.Core.Bool.{false}
use mathlib.Core.List.{List, [], ◌∷◌}
use mathlib.Core.Path.{◌≡◌, refl, sym, ap, ◌∙◌}
use native.Mathlib.Omega.{arith}
use lib.ListN.{length, get_or, replicate, length-replicate, drop_of_length-le}
use lib.Dec.{ltb}
use borrow.Author.Tests.{ne_eqb, ltb-true, ltb-false}
use Rattle.std.specs.Prelude.{Ok, Err}
use Rattle.std.specs.List.{remove}
use Rattle.std.proofs.lemmas.List.Edits.{length-remove, get_or-remove_above, get_or-remove_below}
use Rattle.instructions.proofs.Cases.{by_test}
use Rattle.memory.specs.Memory.{refused_length}
use Rattle.emulator.specs.declared.core_record.Core.{Core}
use Rattle.emulator.specs.Core.{new_core}
use Rattle.sheet.specs.declared.fields.Record.{Record}
use Rattle.sheet.specs.declared.fields.Record.TheVariants.{End}
use Rattle.sheet.specs.declared.refusal.SheetRefusal.{SheetRefusal}
use Rattle.sheet.specs.declared.refusal.SheetRefusal.TheVariants.{NoEnd, WrongCount}
use Rattle.sheet.specs.Record.{record_of}
use Rattle.sheet.specs.Load.{Reading, every_record, read_from, sheet_reads, sheet_test}
use Rattle.sheet_laws.specs.LeftOut.{Passes, EndCounts, address_after, Rising, LeftOut}
use Rattle.sheet_laws.proofs.Reading.{reading, Passed, Fits, fits_before, goes_before, core_after, edition_after, memory_after, length_after, reads_on, by_records}

-- a record that fits is no end
never_end : (r : Record) (a size k : ℕ) → Fits r a size → r ≡ End k → ⊥
never_end r a size k f e = rw e at f

-- what is left of a sheet that passes, after n records
record Later (ws : List ℕ) (n : ℕ) : Type 0 where
  before : ℕ
  all : length ws ≡ before + 1
  last : record_of (get_or ws before 0) ≡ Ok (End (n + before))
  others : (i k : ℕ) → i < before → record_of (get_or ws i 0) ≡ Ok (End k) → ⊥

one_more : (size w : ℕ) (r : Record) (ws : List ℕ) (a n : ℕ) → record_of w ≡ Ok r → Fits r a size → Later ws (n + 1) → Later (w ∷ ws) n
one_more size w r ws a n e f t =
    let m = t.before in
    let s = t.all in
    let same : n + 1 + m ≡ n + suc m = omega arith in
    record { before = suc m; all = omega arith; last = t.last ∙ ap (λ (k : ℕ). Ok (End k)) same; others = others_too }
  where
    others_too : (i k : ℕ) → i < suc t.before → record_of (get_or (w ∷ ws) i 0) ≡ Ok (End k) → ⊥
    others_too zero k l q = never_end r a size k f (let both : Ok r ≡ Ok (End k) = sym e ∙ q in cc)
    others_too (suc i) k l q = t.others i k (omega arith) q

the_end : (w a n : ℕ) → record_of w ≡ Ok (End n) → Later (w ∷ []) n
the_end w a n e =
    let none : n ≡ n + 0 = omega arith in
    record { before = 0; all = refl; last = e ∙ ap (λ (k : ℕ). Ok (End k)) none; others = λ i k l. absurd (omega arith) }

-- a sheet that passes its tests passes those of its records
reads_passed : (sheet : List ℕ) (size : ℕ) → Passes sheet size → (refused_length size ≡ false) × Passed (sheet_reads sheet size)
reads_passed sheet size p =
    by_test (refused_length size) (λ t. let no = rw t at p in cc) (λ f. (f, rw f at p))

module _ (sheet : List ℕ) (size : ℕ) (p : Passes sheet size) where
  read_by : (P : List ℕ → ℕ → ℕ → Type 0)
      → ((w : ℕ) (r : Record) (ws : List ℕ) (a n : ℕ) → record_of w ≡ Ok r → Fits r a size → P ws (address_after (Ok r) a) (n + 1) → P (w ∷ ws) a n)
      → ((w a n : ℕ) → record_of w ≡ Ok (End n) → P (w ∷ []) a n)
      → P sheet 0 0
  read_by P on end = by_records every_record size P on end sheet 0 0 new_core 1 (replicate size 0) (length-replicate size 0) (reads_passed sheet size p).1

pub end_counts : EndCounts
end_counts sheet size p =
    let t = read_by sheet size p (λ ws a n. Later ws n) (one_more size) the_end in
    let m = t.before in
    let none : 0 + m ≡ m = omega arith in
    record { before = m; all = t.all; last = t.last ∙ ap (λ (k : ℕ). Ok (End k)) none; others = t.others }

-- any record left out: the ends of both sheets would be one
left_out_any : (sheet : List ℕ) (size size' i : ℕ) → Passes sheet size → i < length sheet → Passes (remove sheet i) size' → ⊥
left_out_any sheet size size' i p l q =
    let t = end_counts sheet size p in
    let u = end_counts (remove sheet i) size' q in
    let s = t.all in
    let v = u.all in
    let one_less = length-remove sheet i l in
    by_test (ltb i t.before)
    (λ b.
    let b' = ltb-true i t.before b in
    let m = u.before in
    let moved : get_or (remove sheet i) m 0 ≡ get_or sheet t.before 0 = get_or-remove_above sheet i 0 m (omega arith) l ∙ ap (λ (k : ℕ). get_or sheet k 0) (omega arith) in
    let both : Ok (End m) ≡ Ok (End t.before) = sym u.last ∙ (ap record_of moved ∙ t.last) in
    let same : m ≡ t.before = cc in
    absurd (omega arith))
    (λ b.
    let b' = ltb-false i t.before b in
    let m = u.before in
    t.others m m (omega arith) (ap record_of (sym (get_or-remove_below sheet i 0 m (omega arith) l)) ∙ u.last))

-- read with another count, from a load address no further on: the end is reached, and its count is
-- wrong
Miscounted : ℕ → List ℕ → ℕ → ℕ → Type 0
Miscounted size ws a n =
    (a' n' : ℕ) (c : Core) (ed : ℕ) (mem : List ℕ) → length mem ≡ size → a' ≤ a → (n' ≡ n → ⊥) → reading ws a' n' c ed mem ≡ Reading.fails WrongCount

-- record i is not the end, and left out
Lost : ℕ → List ℕ → ℕ → ℕ → Type 0
Lost size ws a n =
    Rising ws a → (i : ℕ) (c : Core) (ed : ℕ) (mem : List ℕ) → length mem ≡ size → i + 1 < length ws → reading (remove ws i) a n c ed mem ≡ Reading.fails WrongCount

-- record i is the end, and left out
Endless : ℕ → List ℕ → ℕ → ℕ → Type 0
Endless size ws a n = (i : ℕ) (c : Core) (ed : ℕ) (mem : List ℕ) → length mem ≡ size → i + 1 ≡ length ws → reading (remove ws i) a n c ed mem ≡ Reading.fails NoEnd

module _ (size w : ℕ) (r : Record) (ws : List ℕ) (a n : ℕ) (e : record_of w ≡ Ok r) (f : Fits r a size) where
  -- the first record, and what follows, us, from an address no further on
  first : (a' n' : ℕ) (c : Core) (ed : ℕ) (mem us : List ℕ) → length mem ≡ size → a' ≤ a → (k : SheetRefusal)
      → ((c : Core) (ed : ℕ) (mem : List ℕ) → length mem ≡ size → reading us (address_after (Ok r) a') (n' + 1) c ed mem ≡ Reading.fails k)
      → reading (w ∷ us) a' n' c ed mem ≡ Reading.fails k
  first a' n' c ed mem us s l k later =
      let f' : Fits r a' (length mem) = rw s (fits_before r a a' size l f) in
      reads_on every_record a' n' c ed mem w r e f' us ∙ later (core_after r c) (edition_after r ed) (memory_after r a' mem) (length_after r a' mem ∙ s)

  miscounted_more : Miscounted size ws (address_after (Ok r) a) (n + 1) → Miscounted size (w ∷ ws) a n
  unfolding Miscounted
  miscounted_more t a' n' c ed mem s l d =
      first a' n' c ed mem ws s l WrongCount (λ c' ed' mem' s'. t (address_after (Ok r) a') (n' + 1) c' ed' mem' s' (goes_before r a a' l) (λ z. d (omega arith)))

  lost_more : Miscounted size ws (address_after (Ok r) a) (n + 1) → Lost size ws (address_after (Ok r) a) (n + 1) → Lost size (w ∷ ws) a n
  unfolding Miscounted Lost Rising
  lost_more t u h zero c ed mem s l = t a n c ed mem s (rw e at h.0) (λ z. absurd (omega arith))
  lost_more t u h (suc i) c ed mem s l =
      first a n c ed mem (remove ws i) s (omega arith) WrongCount (λ c' ed' mem' s'. u (rw e at h.1) i c' ed' mem' s' (omega arith))

  endless_more : Endless size ws (address_after (Ok r) a) (n + 1) → Endless size (w ∷ ws) a n
  unfolding Endless read_from
  endless_more t zero c ed mem s l =
      let short : length ws ≤ 0 = omega arith in
      let none : ws ≡ [] = drop_of_length-le ws short in
      rw none
  endless_more t (suc i) c ed mem s l =
      first a n c ed mem (remove ws i) s (omega arith) NoEnd (λ c' ed' mem' s'. t i c' ed' mem' s' (omega arith))

-- the right end
module _ (size w a n : ℕ) (e : record_of w ≡ Ok (End n)) where
  miscounted_end : Miscounted size (w ∷ []) a n
  unfolding Miscounted read_from
  miscounted_end a' n' c ed mem s l d = rw (e, ne_eqb n n' (λ z. d (sym z)))

  lost_end : Lost size (w ∷ []) a n
  unfolding Lost
  lost_end h i c ed mem s l = absurd (omega arith)

  endless_end : Endless size (w ∷ []) a n
  unfolding Endless read_from
  endless_end zero c ed mem s l = refl
  endless_end (suc i) c ed mem s l = absurd (omega arith)

module _ (sheet : List ℕ) (size i : ℕ) (p : Passes sheet size) where
  left_out_end : i + 1 ≡ length sheet → sheet_test (remove sheet i) size ≡ Err NoEnd
  unfolding Endless
  left_out_end l =
      let q = read_by sheet size p (Endless size) (endless_more size) (endless_end size) i new_core 1 (replicate size 0) (length-replicate size 0) l in
      rw ((reads_passed sheet size p).0, q)

  left_out_other : Rising sheet 0 → i + 1 < length sheet → sheet_test (remove sheet i) size ≡ Err WrongCount
  unfolding Lost
  left_out_other h l =
      let both = read_by sheet size p (λ ws a n. Miscounted size ws a n × Lost size ws a n)
      (λ w r ws a n e f t. (miscounted_more size w r ws a n e f t.0, lost_more size w r ws a n e f t.0 t.1))
      (λ w a n e. (miscounted_end size w a n e, lost_end size w a n e)) in
      let q = both.1 h i new_core 1 (replicate size 0) (length-replicate size 0) l in
      rw ((reads_passed sheet size p).0, q)

pub left_out : LeftOut
left_out = record { any = left_out_any; end = left_out_end; other = left_out_other }
