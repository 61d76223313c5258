-- Of what the writer gives a record is left out.
use Prim.Native.Nat.{ℕ, zero, suc, ◌+◌, ◌^◌, ◌<◌, ◌≤◌}
use mathlib.Core.List.{List, [], ◌∷◌, ◌++◌, append_assoc}
use mathlib.Core.Path.{◌≡◌, ap}
use native.Mathlib.Omega.{arith}
use lib.ListN.{length, length-append}
use lib.Dec.{eqb}
use borrow.Author.Tests.{eqb-true, eqb-false}
use Rattle.std.specs.Prelude.{false, Result, Err}
use Rattle.std.specs.List.{remove}
use Rattle.instructions.proofs.Cases.{by_test}
use Rattle.execute.specs.Edition.{refused_edition}
use Rattle.memory.specs.Memory.{refused_length}
use Rattle.memory.proofs.Laws.{length_accepted}
use Rattle.emulator.specs.declared.core_record.Core.{Core}
use Rattle.sheet.specs.declared.refusal.SheetRefusal.{SheetRefusal}
use Rattle.sheet.specs.declared.refusal.SheetRefusal.TheVariants.{WrongCount}
use Rattle.sheet.specs.Record.{register_of}
use Rattle.sheet.specs.Load.{Reading, refused_with, sheet_reads, tested_of, sheet_test, settled, load_sheet_of}
use Rattle.sheet.specs.Write.{end_record, edition_records, presets_from, records_at, stretches_from, before_end, sheet_of}
use Rattle.sheet.proofs.WriteLaws.{at_zero, at_first, at_within, no_edition, one_edition, before_count, body, sheet_parts}
use Rattle.sheet_laws.specs.RoundTrip.{Words, WholeCore}
use Rattle.sheet_laws.specs.LeftOut.{Passes, Rising, LeftOutOfWritten}
use Rattle.sheet_laws.proofs.ReadBack.{is_place, is_word, is_preset, is_edition, is_end, register_fits, one_at_most, stretches_few}
use Rattle.sheet_laws.proofs.RoundTrip.{accepted}
use Rattle.sheet_laws.proofs.LeftOut.{left_out}

-- the load address never goes back in it
rising_edition : (ed : ℕ) (ws : List ℕ) (a : ℕ) → Rising ws a → Rising (edition_records ed ++ ws) a
unfolding Rising
rising_edition ed ws a h =
    by_test (eqb ed 2) (λ t. rw (one_edition ed (eqb-true ed 2 t), eqb-true ed 2 t, is_edition) (omega arith, h))
    (λ f. rw (no_edition ed (eqb-false ed 2 f)) h)

rising_presets : (c : Core) → WholeCore c → (k r : ℕ) → r + k ≤ 12 → (ws : List ℕ) (a : ℕ) → Rising ws a → Rising (presets_from c k r ++ ws) a
unfolding Rising presets_from
rising_presets c w zero r l ws a h = h
rising_presets c w (suc k) r l ws a h =
    rw (is_preset r (register_of c r) (omega arith) (register_fits c w r)) (omega arith, rising_presets c w k (r + 1) (omega arith) ws a h)

rising_end : (total : ℕ) → total < 2 ^ 28 → (x : ℕ) → Rising (end_record total ∷ []) x
unfolding Rising
rising_end total l x = rw (is_end total l) (omega arith, tt)

-- a word at address a, and what follows it, us, after a load address x that is no further
rising_word : (a b v : ℕ) (us : List ℕ) (x : ℕ) → x ≤ a → a < 2 ^ 16 → v < 2 ^ 16 → ((y : ℕ) → y ≤ a + 1 → Rising us y) → Rising (records_at a b v ++ us) x
unfolding Rising
rising_word a b v us x p l m later =
    by_test (eqb v 0) (λ z. rw (at_zero a b v (eqb-true v 0 z)) (later x (omega arith)))
    (λ z. by_test (eqb b 0)
    (λ w. rw (at_first a b v (eqb-false v 0 z) (eqb-true b 0 w), is_place a l, is_word v m) (p, (omega arith, later (a + 1) (omega arith))))
    (λ w. rw (at_within a b v (eqb-false v 0 z) (eqb-false b 0 w), is_word v m) (omega arith, later (x + 1) (omega arith))))

-- the stretches from address a on, with a load address x that is no further
rising_stretches : (total : ℕ) → total < 2 ^ 28 → (vs : List ℕ) (a b x : ℕ) → x ≤ a → a + length vs ≤ 2 ^ 16 → Words vs
    → Rising (stretches_from a b vs ++ end_record total ∷ []) x
unfolding stretches_from
rising_stretches total t [] a b x p l h = rising_end total t x
rising_stretches total t (v ∷ vs) a b x p l h =
    let last : List ℕ = end_record total ∷ [] in
    let later = stretches_from (a + 1) v vs in
    rw (append_assoc (records_at a b v) later last)
    (rising_word a b v (later ++ last) x p (omega arith) (h 0) (λ y q. rising_stretches total t vs (a + 1) v y q (omega arith) (λ k. h (suc k))))

rising_sheet : (c : Core) (ed : ℕ) (mem : List ℕ) → WholeCore c → Words mem → length mem ≤ 65536 → Rising (sheet_of c ed mem) 0
rising_sheet c ed mem h w l =
    let first = one_at_most ed in
    let few = stretches_few mem 0 0 in
    let total = before_count ed mem in
    rw (sheet_parts c ed mem)
    (rising_edition ed (body c mem total) 0
    (rising_presets c h 12 0 (omega arith) (stretches_from 0 0 mem ++ end_record total ∷ []) 0
    (rising_stretches total (omega arith) mem 0 0 0 (omega arith) (omega arith) w)))

written_passes : (c : Core) (ed : ℕ) (mem : List ℕ) → WholeCore c → refused_edition ed ≡ false → Words mem → 1 ≤ length mem → length mem ≤ 65536
    → Passes (sheet_of c ed mem) (length mem)
written_passes c ed mem h p w l m = rw (length_accepted (length mem) l m, accepted c ed mem h p w m)

longer : (c : Core) (ed : ℕ) (mem : List ℕ) → length (sheet_of c ed mem) ≡ length (before_end c ed mem) + 1
unfolding sheet_of
longer c ed mem = length-append (before_end c ed mem) (end_record (length (before_end c ed mem)) ∷ [])

-- a sheet that fails a test is not loaded
not_loaded : (sheet held : List ℕ) (k : SheetRefusal) → sheet_test sheet (length held) ≡ Err k → load_sheet_of sheet held ≡ refused_with k held
unfolding load_sheet_of
not_loaded sheet held k q =
    by_test (refused_length (length held)) (λ t. rw t (ap (λ (x : SheetRefusal). refused_with x held) (same (rw t at q))))
    (λ f. rw f (go (sheet_reads sheet (length held)) (rw f at q)))
  where
    same : {j : SheetRefusal} → ◌≡◌ {A = Result (Unit {0}) SheetRefusal} (Err j) (Err k) → j ≡ k
    same e = cc

    go : (r : Reading) → tested_of r ≡ Err k → settled held r ≡ refused_with k held
    go (Reading.gives c ed mem) e = absurd cc
    go (Reading.fails j) e = ap (λ (x : SheetRefusal). refused_with x held) (same e)

pub left_out_of_written : LeftOutOfWritten
left_out_of_written c ed mem held h p w l m e i b =
    let more = longer c ed mem in
    let t = left_out.other (sheet_of c ed mem) (length mem) i (written_passes c ed mem h p w l m) (rising_sheet c ed mem h w m) (omega arith) in
    not_loaded (remove (sheet_of c ed mem) i) held WrongCount (rw e t)
