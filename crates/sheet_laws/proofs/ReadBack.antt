-- What the writer's records read as, one by one and in a row.
use Prim.Native.Nat.{ℕ, zero, suc, ◌+◌, ◌-◌, ◌*◌, ◌/◌, ◌%◌, ◌^◌, ◌<◌, ◌≤◌}
use mathlib.Core.List.{List, [], ◌∷◌, ◌++◌}
use mathlib.Core.Path.{◌≡◌, refl, sym, ap, ◌∙◌}
use native.Mathlib.Omega.{arith}
use lib.ListN.{length, get_or, set, replicate, length-append, drop_of_length-le}
use lib.Seq.{set_at, append_snoc}
use lib.Dec.{ltb, eqb}
use borrow.Author.Tests.{lt-ltb, le-ltb, eq-eqb, ne_eqb, eqb-true, eqb-false}
use Rattle.std.specs.Prelude.{Ok, false}
use Rattle.execute.specs.Edition.{refused_edition}
use Rattle.instructions.specs.Reg.{gpr_number, gpr_at, spr_at}
use Rattle.instructions.specs.declared.reg.SpecialPurposeRegister.{SpecialPurposeRegister}
use Rattle.instructions.specs.declared.reg.SpecialPurposeRegister.TheVariants.{IP, RP, SP, EF}
use Rattle.emulator.specs.declared.core_record.Core.{Core}
use Rattle.emulator.specs.Core.{new_core, read_spr}
use Rattle.instructions.proofs.Cases.{by_test, if_elim}
use Rattle.sheet.specs.declared.fields.Record.TheVariants.{Place, Word, Preset, Edition, End}
use Rattle.sheet.specs.Record.{kind, above16, above20, register, low, count, record_of, register_of, with_register}
use Rattle.sheet.specs.Load.{Reading, read_from}
use Rattle.sheet.specs.Write.{place_record, word_record, preset_record, edition_record, end_record, edition_records, presets_from, records_at, stretches_from}
use Rattle.sheet_laws.specs.RoundTrip.{Words, WholeCore}
use Rattle.memory.proofs.Stores.{four}
use Rattle.sheet.proofs.WriteLaws.{at_zero, at_first, at_within, no_edition, one_edition}
use Rattle.sheet_laws.proofs.Reading.{reading}

-- each record has the kind and the fields that it was made of
fields : (k v : ℕ) → v < 2 ^ 16 → (kind (k * 2 ^ 28 + v) ≡ k) × (above16 (k * 2 ^ 28 + v) ≡ 0) × (low (k * 2 ^ 28 + v) ≡ v)
fields k v l = (omega arith, omega arith, omega arith)

pub is_place : (a : ℕ) → a < 2 ^ 16 → record_of (place_record a) ≡ Ok (Place a)
unfolding record_of
is_place a l = let f = fields 1 a l in rw (f.0, f.1, f.2)

pub is_word : (v : ℕ) → v < 2 ^ 16 → record_of (word_record v) ≡ Ok (Word v)
unfolding record_of
is_word v l = let f = fields 2 v l in rw (f.0, f.1, f.2)

pub is_preset : (r v : ℕ) → r < 12 → v < 2 ^ 16 → record_of (preset_record r v) ≡ Ok (Preset r v)
unfolding record_of
is_preset r v b l =
    let k : kind (preset_record r v) ≡ 3 = omega arith in
    let z : above20 (preset_record r v) ≡ 0 = omega arith in
    let h : preset_record r v / 2 ^ 16 ≡ 3 * 2 ^ 12 + r = omega arith in
    let m : (3 * 2 ^ 12 + r) % 2 ^ 4 ≡ r = omega arith in
    let g : register (preset_record r v) ≡ r = rw (h, m) in
    let f : low (preset_record r v) ≡ v = omega arith in
    rw (k, z, g, le-ltb 11 r (omega arith), f)

-- an edition that is neither refused nor 2 is 1
pub is_first : (ed : ℕ) → refused_edition ed ≡ false → (ed ≡ 2 → ⊥) → ed ≡ 1
unfolding refused_edition
is_first ed p n = by_test (eqb ed 1) (λ t. eqb-true ed 1 t) (λ f. let both = rw (f, ne_eqb ed 2 n) at p in cc)

pub is_edition : record_of (edition_record 2) ≡ Ok (Edition 2)
unfolding record_of refused_edition
is_edition = refl

pub is_end : (n : ℕ) → n < 2 ^ 28 → record_of (end_record n) ≡ Ok (End n)
unfolding record_of
is_end n l =
    let k : kind (end_record n) ≡ 15 = omega arith in
    let f : count (end_record n) ≡ n = omega arith in
    rw (k, f)

-- so it reads as one
module _ (ws : List ℕ) (a n : ℕ) (c : Core) (ed : ℕ) (mem : List ℕ) where
  read_place : (p : ℕ) → p < 2 ^ 16 → reading (place_record p ∷ ws) a n c ed mem ≡ reading ws p (n + 1) c ed mem
  unfolding read_from
  read_place p l = rw (is_place p l)

  read_word : (v : ℕ) → v < 2 ^ 16 → a < length mem → reading (word_record v ∷ ws) a n c ed mem ≡ reading ws (a + 1) (n + 1) c ed (set mem a v)
  unfolding read_from
  read_word v l b = rw (is_word v l, lt-ltb a (length mem) b)

  read_preset : (r v : ℕ) → r < 12 → v < 2 ^ 16 → reading (preset_record r v ∷ ws) a n c ed mem ≡ reading ws a (n + 1) (with_register c r v) ed mem
  unfolding read_from
  read_preset r v b l = rw (is_preset r v b l)

  -- edition 1 has no record, and is what a sheet begins with
  pub read_edition : (e : ℕ) → refused_edition e ≡ false → ed ≡ 1 → reading (edition_records e ++ ws) a n c ed mem ≡ reading ws a (n + length (edition_records e)) c e mem
  unfolding read_from
  read_edition e p o =
      let none : n + 0 ≡ n = omega arith in
      by_test (eqb e 2) (λ t. rw (one_edition e (eqb-true e 2 t), eqb-true e 2 t, is_edition))
      (λ f. rw (no_edition e (eqb-false e 2 f), o, is_first e p (eqb-false e 2 f)) (ap (λ (k : ℕ). reading ws a k c 1 mem) (sym none)))

read_end : (a n : ℕ) (c : Core) (ed : ℕ) (mem : List ℕ) → n < 2 ^ 28 → reading (end_record n ∷ []) a n c ed mem ≡ Reading.gives c ed mem
unfolding read_from
read_end a n c ed mem l = rw (is_end n l, eq-eqb n n refl)

-- the presets, one after another: the core takes over each register
takes : Core → ℕ → ℕ → Core → Core
takes c zero r d = d
takes c (suc k) r d = takes c k (r + 1) (with_register d r (register_of c r))

pub register_fits : (c : Core) → WholeCore c → (r : ℕ) → register_of c r < 2 ^ 16
unfolding register_of
register_fits c h r = if_elim (λ (w : ℕ). w < 2 ^ 16) (ltb r 8) (λ t. h.gprs (gpr_number (gpr_at r))) (λ t. special (spr_at (r - 8)))
  where
    special : (s : SpecialPurposeRegister) → read_spr c s < 2 ^ 16
    special IP = h.ip
    special RP = h.rp
    special SP = h.sp
    special EF = h.ef

read_takes : (c : Core) → WholeCore c → (k r : ℕ) → r + k ≤ 12 → (ws : List ℕ) (a n : ℕ) (d : Core) (ed : ℕ) (mem : List ℕ)
    → reading (presets_from c k r ++ ws) a n d ed mem ≡ reading ws a (n + k) (takes c k r d) ed mem
unfolding presets_from takes
read_takes c h zero r l ws a n d ed mem = ap (λ (k : ℕ). reading ws a k d ed mem) (omega arith)
read_takes c h (suc k) r l ws a n d ed mem =
    read_preset (presets_from c k (r + 1) ++ ws) a n d ed mem r (register_of c r) (omega arith) (register_fits c h r)
    ∙ (let one : n + 1 + k ≡ n + suc k = omega arith in
    rw one at (read_takes c h k (r + 1) (omega arith) ws a (n + 1) (with_register d r (register_of c r)) ed mem))

eight : (l : List ℕ) → length l ≡ 8
    → get_or l 0 0 ∷ get_or l 1 0 ∷ get_or l 2 0 ∷ get_or l 3 0 ∷ get_or l 4 0 ∷ get_or l 5 0 ∷ get_or l 6 0 ∷ get_or l 7 0 ∷ [] ≡ l
eight l e =
    let past : length l ≤ 8 = omega arith in
    sym (four l 0 (omega arith) ∙ rw (four l 4 (omega arith), drop_of_length-le l past))

takes_all : (c : Core) → WholeCore c → takes c 12 0 new_core ≡ c
unfolding takes with_register register_of
takes_all c h = rw (eight c.gprs h.eight)

pub read_presets : (c : Core) → WholeCore c → (ws : List ℕ) (a n ed : ℕ) (mem : List ℕ)
    → reading (presets_from c 12 0 ++ ws) a n new_core ed mem ≡ reading ws a (n + 12) c ed mem
read_presets c h ws a n ed mem = read_takes c h 12 0 (omega arith) ws a n new_core ed mem ∙ ap (λ (d : Core). reading ws a (n + 12) d ed mem) (takes_all c h)

-- a word record at the address a where a 0 stands
read_here : (ws pre zs : List ℕ) (x a n v ed : ℕ) (c : Core) → length pre ≡ a → x ≡ a → v < 2 ^ 16
    → reading (word_record v ∷ ws) x n c ed (pre ++ 0 ∷ zs) ≡ reading ws (a + 1) (n + 1) c ed (pre ++ v ∷ zs)
read_here ws pre zs x a n v ed c e p l =
    let size = length-append pre (0 ∷ zs) in
    let in_range : a < length (pre ++ 0 ∷ zs) = omega arith in
    rw p (read_word ws a n c ed (pre ++ 0 ∷ zs) v l in_range ∙ ap (reading ws (a + 1) (n + 1) c ed) (set_at pre 0 zs v a e))

-- at most one record for the edition, at most two for a word
pub one_at_most : (ed : ℕ) → length (edition_records ed) ≤ 1
one_at_most ed =
    by_test (eqb ed 2) (λ t. let k = ap length (one_edition ed (eqb-true ed 2 t)) in omega arith)
    (λ f. let k = ap length (no_edition ed (eqb-false ed 2 f)) in omega arith)

two_at_most : (a b v : ℕ) → length (records_at a b v) ≤ 2
two_at_most a b v =
    by_test (eqb v 0) (λ z. let k = ap length (at_zero a b v (eqb-true v 0 z)) in omega arith)
    (λ z. by_test (eqb b 0) (λ w. let k = ap length (at_first a b v (eqb-false v 0 z) (eqb-true b 0 w)) in omega arith)
    (λ w. let k = ap length (at_within a b v (eqb-false v 0 z) (eqb-false b 0 w)) in omega arith))

pub stretches_few : (vs : List ℕ) (a b : ℕ) → length (stretches_from a b vs) ≤ length vs * 2
unfolding stretches_from
stretches_few [] a b = omega arith
stretches_few (v ∷ vs) a b =
    let here = two_at_most a b v in
    let later = stretches_few vs (a + 1) v in
    let both = length-append (records_at a b v) (stretches_from (a + 1) v vs) in
    omega arith

-- the words from address a on, and the end: the memory so far is pre, then zeros. Within a stretch
-- the load address x is a.
abbrev pub Reads : List ℕ → Type 0
Reads vs =
    (pre : List ℕ) (x a n b total ed : ℕ) (c : Core) → length pre ≡ a → a + length vs ≤ 2 ^ 16 → Words vs → ((b ≡ 0 → ⊥) → x ≡ a)
    → n + length (stretches_from a b vs) ≡ total → total < 2 ^ 28
    → reading (stretches_from a b vs ++ end_record total ∷ []) x n c ed (pre ++ replicate (length vs) 0) ≡ Reading.gives c ed (pre ++ vs)

reads_none : Reads []
unfolding stretches_from
reads_none pre x a n b total ed c e l h p s t =
    let same : n ≡ total = omega arith in
    rw same (read_end x total c ed (pre ++ []) t)

module _ (v : ℕ) (vs : List ℕ) (later : Reads vs) (pre : List ℕ) (a total ed : ℕ) (c : Core) (e : length pre ≡ a) (l : a + suc (length vs) ≤ 2 ^ 16)
    (h : Words (v ∷ vs)) (t : total < 2 ^ 28) where
  -- what is left, once v stands at address a
  reads_later : (y m : ℕ) → ((v ≡ 0 → ⊥) → y ≡ a + 1) → m + length (stretches_from (a + 1) v vs) ≡ total
      → reading (stretches_from (a + 1) v vs ++ end_record total ∷ []) y m c ed (pre ++ v ∷ replicate (length vs) 0) ≡ Reading.gives c ed (pre ++ v ∷ vs)
  reads_later y m q u =
      let size = length-append pre (v ∷ []) in
      rw (append_snoc pre v (replicate (length vs) 0), append_snoc pre v vs) at
      (later (pre ++ v ∷ []) y (a + 1) m v total ed c (omega arith) (omega arith) (λ k. h (suc k)) q u t)

  module _ (x n b : ℕ) (p : (b ≡ 0 → ⊥) → x ≡ a) (s : n + (length (records_at a b v) + length (stretches_from (a + 1) v vs)) ≡ total) where
    Goal : Type 0
    Goal =
        reading (records_at a b v ++ stretches_from (a + 1) v vs ++ end_record total ∷ []) x n c ed (pre ++ 0 ∷ replicate (length vs) 0)
        ≡ Reading.gives c ed (pre ++ v ∷ vs)

    reads_zero : v ≡ 0 → Goal
    unfolding Goal
    reads_zero z =
        let k = ap length (at_zero a b v z) in
        rw (at_zero a b v z)
        (ap (λ (u : ℕ). reading (stretches_from (a + 1) v vs ++ end_record total ∷ []) x n c ed (pre ++ u ∷ replicate (length vs) 0)) (sym z)
        ∙ reads_later x n (λ q. absurd (q z)) (omega arith))

    reads_first : (v ≡ 0 → ⊥) → b ≡ 0 → Goal
    unfolding Goal
    reads_first z w =
        let k = ap length (at_first a b v z w) in
        let more = stretches_from (a + 1) v vs ++ end_record total ∷ [] in
        let zeros : List ℕ = replicate (length vs) 0 in
        rw (at_first a b v z w)
        (read_place (word_record v ∷ more) x n c ed (pre ++ 0 ∷ zeros) a (omega arith)
        ∙ (read_here more pre zeros a a (n + 1) v ed c e refl (h 0) ∙ reads_later (a + 1) (n + 1 + 1) (λ q. refl) (omega arith)))

    reads_within : (v ≡ 0 → ⊥) → (b ≡ 0 → ⊥) → Goal
    unfolding Goal
    reads_within z w =
        let k = ap length (at_within a b v z w) in
        let more = stretches_from (a + 1) v vs ++ end_record total ∷ [] in
        rw (at_within a b v z w)
        (read_here more pre (replicate (length vs) 0) x a n v ed c e (p w) (h 0) ∙ reads_later (a + 1) (n + 1) (λ q. refl) (omega arith))

    reads_any : Goal
    reads_any =
        by_test (eqb v 0) (λ z. reads_zero (eqb-true v 0 z))
        (λ z. by_test (eqb b 0) (λ w. reads_first (eqb-false v 0 z) (eqb-true b 0 w)) (λ w. reads_within (eqb-false v 0 z) (eqb-false b 0 w)))

reads_more : (v : ℕ) (vs : List ℕ) → Reads vs → Reads (v ∷ vs)
unfolding stretches_from Goal
reads_more v vs later pre x a n b total ed c e l h p s t =
    let counted = rw (length-append (records_at a b v) (stretches_from (a + 1) v vs)) at s in
    reads_any v vs later pre a total ed c e l h t x n b p counted

pub read_stretches : (vs : List ℕ) → Reads vs
read_stretches [] = reads_none
read_stretches (v ∷ vs) = reads_more v vs (read_stretches vs)
