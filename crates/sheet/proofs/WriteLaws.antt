-- Laws of writing a sheet, one for each way through the code, and the loops' invariants: what is
-- left of the records makes the whole.
use Rattle.std.specs.Prelude.{if◌then◌else◌}
use Prim.Native.Nat.{ℕ, suc, ◌+◌, ◌*◌, ◌-◌, ◌<◌, ◌≤◌}
use mathlib.Core.Bool.{Bool, true, false}
use mathlib.Core.List.{List, [], ◌∷◌, ◌++◌, append_assoc}
use mathlib.Core.Path.{◌≡◌, refl, sym, ap, ◌∙◌}
use native.Mathlib.Numerals.{add-one}
use native.Mathlib.Nat.{zero-add, add_assoc}
use native.Mathlib.Omega.{arith}
use lib.ListN.{length, get_or, set, drop, replicate, length-set, length-append, length-drop, drop_of_length-le}
use lib.Seq.{sets, drop-cons, length-sets}
use lib.Dec.{eqb}
use borrow.Author.Tests.{eq-eqb, ne_eqb, eqb-true, eqb-false}
use Rattle.std.proofs.Common.{drop-drop}
use Rattle.instructions.proofs.Cases.{by_test}
use Rattle.instructions.specs.Bounded.{Bounded}
use Rattle.emulator.specs.declared.core_record.Core.{Core}
use Rattle.sheet.specs.Record.{register_of}
use Rattle.sheet.specs.Write.{place_record, word_record, preset_record, edition_record, end_record, edition_records, presets_from, records_at, stretches_from, before_end, sheet_of}
use Rattle.memory.proofs.Stores.{sets_append, sets_front}

-- the records of one word
module _ (a b v : ℕ) where
  pub at_zero : v ≡ 0 → records_at a b v ≡ []
  unfolding records_at
  at_zero z = rw (eq-eqb v 0 z)

  pub at_first : (v ≡ 0 → ⊥) → b ≡ 0 → records_at a b v ≡ place_record a ∷ word_record v ∷ []
  unfolding records_at
  at_first n z = rw (ne_eqb v 0 n, eq-eqb b 0 z)

  pub at_within : (v ≡ 0 → ⊥) → (b ≡ 0 → ⊥) → records_at a b v ≡ word_record v ∷ []
  unfolding records_at
  at_within n m = rw (ne_eqb v 0 n, ne_eqb b 0 m)

pub ruleset one_word = (at_zero, at_first, at_within, length-set)

-- as many at every address
as_many : (a b v : ℕ) → length (records_at a b v) ≡ length (records_at 0 b v)
unfolding records_at
as_many a b v = go (eqb v 0) (eqb b 0)
  where
    go : (p q : Bool) → length (if p then [] else if q then place_record a ∷ word_record v ∷ [] else word_record v ∷ [])
        ≡ length (if p then [] else if q then place_record 0 ∷ word_record v ∷ [] else word_record v ∷ [])
    go true q = refl
    go false true = refl
    go false false = refl

-- a word at the front of what is left
module _ (mem : List ℕ) (i : ℕ) (l : i < length mem) where
  stretch : (b : ℕ) → stretches_from i b (drop i mem) ≡ records_at i b (get_or mem i 0) ++ stretches_from (i + 1) (get_or mem i 0) (drop (i + 1) mem)
  unfolding stretches_from
  stretch b = ap (stretches_from i b) (drop-cons mem i 0 l) ∙ ap (λ (k : ℕ). records_at i b (get_or mem i 0) ++ stretches_from (i + 1) (get_or mem i 0) (drop k mem)) (sym (add-one i))

-- counting the records
pub record Counting (mem : List ℕ) (n b i : ℕ) : Type 0 where
  pub within : i ≤ length mem
  pub few : n ≤ i * 2
  pub rest : n + length (stretches_from i b (drop i mem)) ≡ length (stretches_from 0 0 mem)

pub counting_next : (mem : List ℕ) (n b i k : ℕ) → Counting mem n b i → i < length mem → Bounded k (length (records_at 0 b (get_or mem i 0))) 3
    → Counting mem (n + k) (get_or mem i 0) (i + 1)
counting_next mem n b i k c l m =
    let f = c.few in
    let r = c.rest in
    let same = as_many i b (get_or mem i 0) in
    let next = ap length (stretch mem i l b) ∙ length-append (records_at i b (get_or mem i 0)) (stretches_from (i + 1) (get_or mem i 0) (drop (i + 1) mem)) in
    record { within = omega arith; few = omega arith; rest = omega arith }

pub counting_done : (mem : List ℕ) (n b i : ℕ) → Counting mem n b i → length mem ≤ i
    → Bounded n (length (stretches_from 0 0 mem)) (length mem * 2 + 1)
unfolding stretches_from
counting_done mem n b i c l =
    let r = rw (drop_of_length-le mem l) at c.rest in
    record { is = omega arith; below = omega (arith, c.few, c.within) }

-- the presets
pub record Presetting (c : Core) (s₀ s : List ℕ) (r : ℕ) : Type 0 where
  pub within : r ≤ 12
  pub long : length s ≡ length s₀
  pub rest : sets s r (presets_from c (12 - r) r) ≡ sets s₀ 0 (presets_from c 12 0)

pub presetting_next : (c : Core) (s₀ s : List ℕ) (r v w : ℕ) → Presetting c s₀ s r → r < 12 → v ≡ register_of c r → w ≡ preset_record r v
    → Presetting c s₀ (set s r w) (r + 1)
unfolding presets_from
presetting_next c s₀ s r v w p l e f =
    let left : 12 - r ≡ suc (12 - (r + 1)) = omega arith in
    record { within = omega arith; long = length-set s r w ∙ p.long; rest = rw (f, e) (rw (add-one r) (rw (left, add-one r) at p.rest)) }

pub presetting_done : (c : Core) (s₀ s : List ℕ) (r : ℕ) → Presetting c s₀ s r → 12 ≤ r → s ≡ sets s₀ 0 (presets_from c 12 0)
unfolding presets_from
presetting_done c s₀ s r p l =
    let none : 12 - r ≡ 0 = omega arith in
    rw none at p.rest

-- the stretches
pub record Stretching (mem s₀ s : List ℕ) (at b i : ℕ) : Type 0 where
  pub within : i ≤ length mem
  pub long : length s ≡ length s₀
  pub place : at + length (stretches_from i b (drop i mem)) ≡ 12 + length (stretches_from 0 0 mem)
  pub rest : sets s at (stretches_from i b (drop i mem)) ≡ sets s₀ 12 (stretches_from 0 0 mem)

pub stretching_room : (mem s₀ s : List ℕ) (at b i : ℕ) → Stretching mem s₀ s at b i → i < length mem
    → 12 + length (stretches_from 0 0 mem) ≤ length s₀ → at + length (records_at i b (get_or mem i 0)) ≤ length s
stretching_room mem s₀ s at b i t l r =
    let p = t.place in
    let k = t.long in
    let next = ap length (stretch mem i l b) ∙ length-append (records_at i b (get_or mem i 0)) (stretches_from (i + 1) (get_or mem i 0) (drop (i + 1) mem)) in
    omega arith

pub stretching_next : (mem s₀ s s' : List ℕ) (at at' b i : ℕ) → Stretching mem s₀ s at b i → i < length mem
    → at' ≡ at + length (records_at i b (get_or mem i 0)) → s' ≡ sets s at (records_at i b (get_or mem i 0)) → Stretching mem s₀ s' at' (get_or mem i 0) (i + 1)
stretching_next mem s₀ s s' at at' b i t l e f =
    let p = t.place in
    let here = records_at i b (get_or mem i 0) in
    let more = stretches_from (i + 1) (get_or mem i 0) (drop (i + 1) mem) in
    let next = ap length (stretch mem i l b) ∙ length-append here more in
    record {
      within = omega arith;
      long = ap length f ∙ (length-sets s at here ∙ t.long);
      place = omega arith;
      rest = rw (e, f) (sym (sets_append here more s at) ∙ (ap (sets s at) (sym (stretch mem i l b)) ∙ t.rest));
    }

pub stretching_done : (mem s₀ s : List ℕ) (at b i : ℕ) → Stretching mem s₀ s at b i → length mem ≤ i → s ≡ sets s₀ 12 (stretches_from 0 0 mem)
unfolding stretches_from
stretching_done mem s₀ s at b i t l = rw (drop_of_length-le mem l) at t.rest

length_presets : (c : Core) → length (presets_from c 12 0) ≡ 12
unfolding presets_from
length_presets c = refl

-- how many records stand before the end
abbrev pub before_count : ℕ → List ℕ → ℕ
before_count ed mem = length (edition_records ed) + (12 + length (stretches_from 0 0 mem))

-- the sheet after its edition: the presets, the stretches and the end
abbrev pub body : Core → List ℕ → ℕ → List ℕ
body c mem n = presets_from c 12 0 ++ (stretches_from 0 0 mem ++ end_record n ∷ [])

length_before : (c : Core) (ed : ℕ) (mem : List ℕ) → length (before_end c ed mem) ≡ before_count ed mem
length_before c ed mem = simp (length-append, length_presets, add_assoc (length (edition_records ed)) 12 (length (stretches_from 0 0 mem)))

pub sheet_parts : (c : Core) (ed : ℕ) (mem : List ℕ) → sheet_of c ed mem ≡ edition_records ed ++ body c mem (before_count ed mem)
unfolding sheet_of
sheet_parts c ed mem =
    let es = edition_records ed in
    let ps = presets_from c 12 0 in
    let ss = stretches_from 0 0 mem in
    let last : List ℕ = end_record (before_count ed mem) ∷ [] in
    rw (length_before c ed mem, append_assoc (es ++ ps) ss last, append_assoc es ps (ss ++ last))

length_body : (c : Core) (mem : List ℕ) (n : ℕ) → length (body c mem n) ≡ 12 + length (stretches_from 0 0 mem) + 1
length_body c mem n = simp (length-append, length_presets, ← add_assoc 12 (length (stretches_from 0 0 mem)) 1)

pub length_sheet : (c : Core) (ed : ℕ) (mem : List ℕ) → length (sheet_of c ed mem) ≡ before_count ed mem + 1
unfolding sheet_of
length_sheet c ed mem =
    let b = length_before c ed mem in
    let e = length-append (before_end c ed mem) (end_record (length (before_end c ed mem)) ∷ []) in
    omega arith

-- the body as three runs of stores
three_runs : (ps ss s : List ℕ) (x : ℕ) → set (sets (sets s 0 ps) (length ps) ss) (length ps + length ss) x ≡ sets s 0 (ps ++ (ss ++ x ∷ []))
three_runs ps ss s x = rw (sets_append ps (ss ++ x ∷ []) s 0, zero-add (length ps), sets_append ss (x ∷ []) (sets s 0 ps) (length ps))

body_in_front : (c : Core) (mem s : List ℕ) (n : ℕ) → 12 + length (stretches_from 0 0 mem) < length s
    → set (sets (sets s 0 (presets_from c 12 0)) 12 (stretches_from 0 0 mem)) (12 + length (stretches_from 0 0 mem)) (end_record n)
    ≡ body c mem n ++ drop (length (body c mem n)) s
body_in_front c mem s n l =
    let e = length_body c mem n in
    (rw (length_presets c) at (three_runs (presets_from c 12 0) (stretches_from 0 0 mem) s (end_record n))) ∙ sets_front (body c mem n) s (omega arith)

-- the edition's records, none or one
pub no_edition : (ed : ℕ) → (ed ≡ 2 → ⊥) → edition_records ed ≡ []
unfolding edition_records
no_edition ed n = rw (ne_eqb ed 2 n)

pub one_edition : (ed : ℕ) → ed ≡ 2 → edition_records ed ≡ edition_record ed ∷ []
unfolding edition_records
one_edition ed z = rw (eq-eqb ed 2 z)

filled : (ed : ℕ) → replicate (length (edition_records ed)) (edition_record ed) ≡ edition_records ed
filled ed = by_test (eqb ed 2) (λ t. rw (one_edition ed (eqb-true ed 2 t))) (λ f. rw (no_edition ed (eqb-false ed 2 f)))

-- behind them the body, and what the buffer held past it
behind : (es bs s : List ℕ) → es ++ (bs ++ drop (length bs) (drop (length es) s)) ≡ es ++ bs ++ drop (length (es ++ bs)) s
behind es bs s = rw (drop-drop (length bs) (length es) s, length-append es bs, append_assoc es bs (drop (length es + length bs) s))

pub sheet_in_front : (c : Core) (ed : ℕ) (mem s : List ℕ) → before_count ed mem < length s
    → replicate (length (edition_records ed)) (edition_record ed)
    ++ set (sets (sets (drop (length (edition_records ed)) s) 0 (presets_from c 12 0)) 12 (stretches_from 0 0 mem)) (12 + length (stretches_from 0 0 mem))
    (end_record (before_count ed mem))
    ≡ sheet_of c ed mem ++ drop (length (sheet_of c ed mem)) s
sheet_in_front c ed mem s l =
    let n = before_count ed mem in
    let left = length-drop (length (edition_records ed)) s in
    rw (sheet_parts c ed mem, filled ed, body_in_front c mem (drop (length (edition_records ed)) s) n (omega arith)) (behind (edition_records ed) (body c mem n) s)

pub ruleset sheet_laws = (length_sheet, sheet_in_front)
