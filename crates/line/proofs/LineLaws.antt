-- Laws of the line: numbers after numbers, and the line of a sheet that is run.
use Prim.Native.Nat.{ℕ, ◌+◌, ◌<◌}
use mathlib.Core.List.{List, [], ◌∷◌, ◌++◌, append-nil, append_assoc}
use mathlib.Core.Path.{◌≡◌, refl, sym}
use native.Mathlib.Numerals.{add-one}
use lib.ListN.{length, get_or, take, replicate, length-append}
use lib.Seq.{take-suc}
use Rattle.std.specs.Prelude.{Result, Ok}
use Rattle.emulator.specs.declared.core_record.Core.{Core}
use Rattle.memory.specs.Memory.{Memory, lent}
use Rattle.emulator.specs.Machine.{plan_of, ran, run_of}
use Rattle.memory.specs.Outcome.{Outcome}
use Rattle.sheet.specs.declared.refusal.SheetRefusal.{SheetRefusal}
use Rattle.sheet.specs.Load.{left, load_sheet_of}
use Rattle.line.specs.Line.{field, fields, end_line, sheet_line}
use Rattle.line.proofs.DecimalLaws.{decimal_one, decimal_more, length_more, field_16, field_32}

pub fields_append : (a b : List ℕ) → fields (a ++ b) ≡ fields a ++ fields b
unfolding fields
fields_append [] b = refl
fields_append (n ∷ a) b = rw (fields_append a b) (sym (append_assoc (field n) (fields a) (fields b)))

-- one number more
pub fields_next : (words : List ℕ) (i : ℕ) → i < length words → fields (take (i + 1) words) ≡ fields (take i words) ++ field (get_or words i 0)
unfolding fields
fields_next words i l =
    rw (add-one i, take-suc words i 0 l, fields_append (take i words) (get_or words i 0 ∷ []), append-nil (field (get_or words i 0)))

-- the line of a sheet that is loaded and run
pub sheet_ran : (sheet : List ℕ) {x : Result (Unit {0}) SheetRefusal} {u : Unit {0}} {c c' : Core} {ed : ℕ} {words : List ℕ} {o : Outcome} {steps : ℕ} {m : Memory}
    → left x c ed words ≡ load_sheet_of sheet (replicate 32768 0) → x ≡ Ok u → ran o steps c' m ≡ run_of plan_of c (lent words (replicate 32768 0)) ed 1000000
    → end_line o steps c' ≡ sheet_line sheet
unfolding sheet_line
sheet_ran sheet loads done runs = rw (← loads, done, ← runs)

-- what the pushes need: how long numbers are, and the texts one after another
pub ruleset number_laws = (decimal_one, decimal_more, length_more, length-append, append_assoc)

pub ruleset field_laws = (field_16, fields_next, length-append, append-nil, append_assoc)

pub ruleset state_laws = (field_32, fields_append, length-append, append_assoc)
