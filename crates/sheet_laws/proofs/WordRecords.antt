-- Sheets of words are the same by both rules of counting, no other sheet passes by both, and a
-- sheet of the old one needs its end redone alone.
use Prim.Native.Nat.{ℕ, zero, suc, ◌+◌, ◌^◌, ◌<◌, ◌≤◌}
use mathlib.Core.Bool.{Bool, true, false}
use mathlib.Core.List.{List, [], ◌∷◌, ◌++◌}
use mathlib.Core.Path.{◌≡◌, refl, sym, ap, ◌∙◌}
use native.Mathlib.Nat.{zero-add}
use native.Mathlib.Omega.{arith}
use lib.ListN.{length, set, replicate, length-append, length-replicate}
use lib.Dec.{ltb, eqb}
use borrow.Author.Tests.{eq-eqb, eqb-true}
use Rattle.std.specs.Prelude.{if◌then◌else◌, Result, Ok, Err}
use Rattle.instructions.proofs.Cases.{by_test}
use Rattle.execute.specs.Edition.{refused_edition}
use Rattle.emulator.specs.declared.core_record.Core.{Core}
use Rattle.emulator.specs.Core.{new_core}
use Rattle.sheet.specs.declared.fields.Record.{Record}
use Rattle.sheet.specs.declared.fields.Record.TheVariants.{Place, Word, Preset, Edition, End}
use Rattle.sheet.specs.declared.refusal.SheetRefusal.{SheetRefusal}
use Rattle.sheet.specs.declared.refusal.SheetRefusal.TheVariants.{UnknownKind, NonzeroBit, UnknownRegister, UnknownEdition}
use Rattle.sheet.specs.Record.{kind, above16, above20, register, low, count, record_of}
use Rattle.sheet.specs.Load.{every_record, record_reads, read_from}
use Rattle.sheet.specs.Write.{end_record}
use Rattle.sheet_laws.specs.LeftOut.{address_after}
use Rattle.sheet_laws.specs.WordRecords.{words_only, WordsFirst, BothRules}
use Rattle.sheet_laws.proofs.ReadBack.{is_end}
use Rattle.sheet_laws.proofs.Reading.{Passed, failed, Fits, Next, next, never_none, core_after, edition_after, memory_after, length_after, reads_on, by_records}

-- a record of kind 2 is a word or has a bit that must be 0: by both rules it counts 1 or is refused
module _ (ws : List ℕ) (later : (a n : ℕ) (c : Core) (ed : ℕ) (mem : List ℕ) → read_from every_record ws a n c ed mem ≡ read_from words_only ws a n c ed mem)
    (a n : ℕ) (c : Core) (ed : ℕ) (mem : List ℕ) where
  same_word : (w : ℕ) → kind w ≡ 2 → read_from every_record (w ∷ ws) a n c ed mem ≡ read_from words_only (w ∷ ws) a n c ed mem
  unfolding read_from record_of
  same_word w k =
      rw k (by_test (eqb (above16 w) 0)
      (λ t. by_test (ltb a (length mem)) (λ b. rw (t, b) (later (a + 1) (n + 1) c ed (set mem a (low w)))) (λ b. rw (t, b)))
      (λ f. rw f))

-- the last record: whatever it counts, nothing follows
same_last : (w a n : ℕ) (c : Core) (ed : ℕ) (mem : List ℕ) → read_from every_record (w ∷ []) a n c ed mem ≡ read_from words_only (w ∷ []) a n c ed mem
unfolding read_from
same_last w a n c ed mem = go (record_of w)
  where
    go : (x : Result Record SheetRefusal)
        → record_reads every_record x [] (read_from every_record []) a n c ed mem ≡ record_reads words_only x [] (read_from words_only []) a n c ed mem
    go (Ok (Place p)) = refl
    go (Ok (Word v)) = refl
    go (Ok (Preset k v)) = refl
    go (Ok (Edition e)) = refl
    go (Ok (End k)) = refl
    go (Err k) = refl

same_reading : (ws : List ℕ) → WordsFirst ws → (a n : ℕ) (c : Core) (ed : ℕ) (mem : List ℕ) → read_from every_record ws a n c ed mem ≡ read_from words_only ws a n c ed mem
unfolding read_from
same_reading [] h a n c ed mem = refl
same_reading (w ∷ []) h a n c ed mem = same_last w a n c ed mem
same_reading (w ∷ v ∷ ws) h a n c ed mem = same_word (v ∷ ws) (same_reading (v ∷ ws) (λ i l. h (suc i) (omega arith))) a n c ed mem w (h 0 (omega arith))

-- only a record of kind 2 is a word
is_kind_2 : (w v : ℕ) → record_of w ≡ Ok (Word v) → kind w ≡ 2
unfolding record_of
is_kind_2 w v e = by_test (eqb (kind w) 2) (λ t. eqb-true (kind w) 2 t)
    (λ f. absurd (go (eqb (kind w) 1) (eqb (above16 w) 0) (eqb (kind w) 3) (eqb (above20 w) 0) (ltb 11 (register w)) (eqb (kind w) 7) (refused_edition (low w)) (eqb (kind w) 15) (rw f at e)))
  where
    go : (p q r s t u x y : Bool)
        → (if p then (if q then Ok (Place (low w)) else Err NonzeroBit)
        else if r then (if s then (if t then Err UnknownRegister else Ok (Preset (register w) (low w))) else Err NonzeroBit)
        else if u then (if q then (if x then Err UnknownEdition else Ok (Edition (low w))) else Err NonzeroBit)
        else if y then Ok (End (count w))
        else Err UnknownKind) ≡ Ok (Word v) → ⊥
    go true true r s t u x y e = cc
    go true false r s t u x y e = cc
    go false q true true true u x y e = cc
    go false q true true false u x y e = cc
    go false q true false t u x y e = cc
    go false true false s t true true y e = cc
    go false true false s t true false y e = cc
    go false false false s t true x y e = cc
    go false q false s t false x true e = cc
    go false q false s t false x false e = cc

-- what passes by the rule of words, after n of them, passes by the other after n' records, no
-- fewer, only if they are as many and words follow
OnlyWords : ℕ → List ℕ → ℕ → ℕ → Type 0
OnlyWords size ws a n =
    (n' : ℕ) (c : Core) (ed : ℕ) (mem : List ℕ) → length mem ≡ size → n ≤ n' → Passed (read_from every_record ws a n' c ed mem) → (n ≡ n') × WordsFirst ws

module _ (size w : ℕ) where
  only_more : (r : Record) (ws : List ℕ) (a n : ℕ) → record_of w ≡ Ok r → Fits r a size → OnlyWords size ws (address_after (Ok r) a) (n + words_only r) → OnlyWords size (w ∷ ws) a n
  unfolding OnlyWords
  only_more r ws a n e f t n' c ed mem s l q =
      let f' : Fits r a (length mem) = rw s f in
      let q' = rw (reads_on every_record a n' c ed mem w r e f' ws) at q in
      go r e (λ b. t (n' + 1) (core_after r c) (edition_after r ed) (memory_after r a mem) (length_after r a mem ∙ s) b q')
    where
      first : (v : ℕ) → record_of w ≡ Ok (Word v) → WordsFirst ws → WordsFirst (w ∷ ws)
      first v e h zero l = is_kind_2 w v e
      first v e h (suc i) l = h i (omega arith)

      go : (r : Record) → record_of w ≡ Ok r → (n + words_only r ≤ n' + 1 → (n + words_only r ≡ n' + 1) × WordsFirst ws) → (n ≡ n') × WordsFirst (w ∷ ws)
      go (Word v) e h = let k = h (omega arith) in let same = k.0 in (omega arith, first v e k.1)
      go (Place p) e h = let k = h (omega arith) in let same = k.0 in absurd (omega arith)
      go (Preset x v) e h = let k = h (omega arith) in let same = k.0 in absurd (omega arith)
      go (Edition x) e h = let k = h (omega arith) in let same = k.0 in absurd (omega arith)
      go (End x) e h = let k = h (omega arith) in let same = k.0 in absurd (omega arith)

  only_end : (a n : ℕ) → record_of w ≡ Ok (End n) → OnlyWords size (w ∷ []) a n
  unfolding OnlyWords read_from
  only_end a n e n' c ed mem s l q =
      (by_test (eqb n n') (λ t. eqb-true n n' t) (λ f. absurd (failed (rw (e, f) at q))), λ i b. absurd (omega arith))

append_never_nil : (ws : List ℕ) (e : ℕ) → ws ++ e ∷ [] ≡ [] → ⊥
append_never_nil ws e z = let n = ap length z in let m = length-append ws (e ∷ []) in omega arith

redone_end : (e total : ℕ) → total < 2 ^ 28 → (a n m : ℕ) (c : Core) (ed : ℕ) (mem : List ℕ) → m ≡ total
    → Passed (read_from words_only (e ∷ []) a n c ed mem) → Next (record_of e) [] a n (length mem)
    → read_from every_record (end_record total ∷ []) a m c ed mem ≡ read_from words_only (e ∷ []) a n c ed mem
unfolding read_from
redone_end e total t a n m c ed mem s q (Next.ends seen z) = rw (s, is_end total t, seen, eq-eqb total total refl, eq-eqb n n refl)
redone_end e total t a n m c ed mem s q (Next.goes_on r seen f) =
    let nothing = rw (reads_on words_only a n c ed mem e r seen f []) at q in
    absurd (never_none words_only (address_after (Ok r) a) (n + words_only r) (core_after r c) (edition_after r ed) (memory_after r a mem) nothing)

-- the end e redone, where ws stand before it, n records of the old count and m of the new one
-- before them
redone : (ws : List ℕ) (e total : ℕ) → total < 2 ^ 28 → (a n m : ℕ) (c : Core) (ed : ℕ) (mem : List ℕ) → m + length ws ≡ total
    → Passed (read_from words_only (ws ++ e ∷ []) a n c ed mem)
    → read_from every_record (ws ++ end_record total ∷ []) a m c ed mem ≡ read_from words_only (ws ++ e ∷ []) a n c ed mem
redone [] e total t a n m c ed mem s q = redone_end e total t a n m c ed mem (omega arith) q (next words_only a n c ed mem e [] q)
redone (w ∷ ws) e total t a n m c ed mem s q = go (redone ws e total t) (next words_only a n c ed mem w (ws ++ e ∷ []) q)
  where
    go : ((a n m : ℕ) (c : Core) (ed : ℕ) (mem : List ℕ) → m + length ws ≡ total → Passed (read_from words_only (ws ++ e ∷ []) a n c ed mem)
        → read_from every_record (ws ++ end_record total ∷ []) a m c ed mem ≡ read_from words_only (ws ++ e ∷ []) a n c ed mem)
        → Next (record_of w) (ws ++ e ∷ []) a n (length mem)
        → read_from every_record (w ∷ ws ++ end_record total ∷ []) a m c ed mem ≡ read_from words_only (w ∷ ws ++ e ∷ []) a n c ed mem
    go later (Next.goes_on r seen f) =
        let old = reads_on words_only a n c ed mem w r seen f (ws ++ e ∷ []) in
        reads_on every_record a m c ed mem w r seen f (ws ++ end_record total ∷ [])
        ∙ (later (address_after (Ok r) a) (n + words_only r) (m + 1) (core_after r c) (edition_after r ed) (memory_after r a mem) (omega arith) (rw old at q) ∙ sym old)
    go later (Next.ends seen z) = absurd (append_never_nil ws e z)

pub both_rules : BothRules
unfolding OnlyWords
both_rules = record {
  same = λ sheet size h. same_reading sheet h 0 0 new_core 1 (replicate size 0);
  only = λ sheet size p q.
      (by_records words_only size (OnlyWords size) (only_more size) (only_end size) sheet 0 0 new_core 1 (replicate size 0) (length-replicate size 0) p
      0 new_core 1 (replicate size 0) (length-replicate size 0) (omega arith) q).1;
  redone = λ ws e size t p. redone ws e (length ws) t 0 0 0 new_core 1 (replicate size 0) (zero-add (length ws)) p;
}
