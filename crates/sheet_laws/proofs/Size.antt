-- How many records the sheet takes that the writer gives.
use Prim.Native.Nat.{ℕ, ◌+◌, ◌*◌, ◌≤◌}
use mathlib.Core.List.{List, [], ◌∷◌}
use mathlib.Core.Path.{◌≡◌, ap}
use native.Mathlib.Omega.{arith}
use lib.ListN.{length, length-append}
use lib.Dec.{eqb}
use borrow.Author.Tests.{eqb-true, eqb-false}
use Rattle.instructions.proofs.Cases.{by_test}
use Rattle.sheet.specs.Write.{records_at, stretches_from}
use Rattle.sheet.proofs.WriteLaws.{at_zero, at_first, at_within, length_sheet}
use Rattle.sheet_laws.specs.Size.{SheetFits}
use Rattle.sheet_laws.proofs.ReadBack.{one_at_most}

-- twice the records of the stretches are at most three for each word, and one more if none stands
-- before it in its stretch
abbrev Few : ℕ → ℕ → List ℕ → Type 0
Few a b vs =
    (2 * length (stretches_from a b vs) ≤ 3 * length vs + 1)
    × ((b ≡ 0 → ⊥) → 2 * length (stretches_from a b vs) ≤ 3 * length vs)

few : (vs : List ℕ) (a b : ℕ) → Few a b vs
unfolding stretches_from
few [] a b = (omega arith, λ _. omega arith)
few (v ∷ vs) a b =
    let both = length-append (records_at a b v) (stretches_from (a + 1) v vs) in
    let later = few vs (a + 1) v in
    by_test (eqb v 0)
    (λ z. let none = ap length (at_zero a b v (eqb-true v 0 z)) in let rest = later.0 in (omega arith, λ _. omega arith))
    (λ z.
    let rest = later.1 (eqb-false v 0 z) in
    by_test (eqb b 0)
    (λ w. let two = ap length (at_first a b v (eqb-false v 0 z) (eqb-true b 0 w)) in (omega arith, λ n. absurd (n (eqb-true b 0 w))))
    (λ w. let one = ap length (at_within a b v (eqb-false v 0 z) (eqb-false b 0 w)) in (omega arith, λ _. omega arith)))

pub sheet_fits : SheetFits
sheet_fits c ed mem =
    let all = length_sheet c ed mem in
    let edition = one_at_most ed in
    let stretches = (few mem 0 0).0 in
    omega arith
