-- The line of what was read is that of the whole input: what was not read stands behind more bytes
-- than are accepted.
use Rattle.std.proofs.Common.{◌≡◌, ℕ, ◌%◌, ◌<◌, List, [], ◌++◌, Option, Some, None, IfSome, length, Err, true, false, eqb, sym, ap, ◌∙◌, subst, ⊎_elim, arith, length-append}
use Rattle.std.proofs.lemmas.Bool.{cases_Bool, cases_lt, lt-ltb}
use Rattle.std.proofs.lemmas.List.{append-nil}
use Rattle.std.proofs.lemmas.Result.{on_ok_weaker}
use Rattle.std.specs.Io.KnownBytes.{Appends, Consumes, IsAtEnd}
use Rattle.line.specs.Line.{line_of}
use Rattle.sheet.specs.Input.{input_records}
use Rattle.sheet.specs.declared.refusal.SheetRefusal.TheVariants.{Input}
use Rattle.berth.proofs.run.Goals as goal

-- an input above 32,768 bytes is refused, whatever stands in it
too_long : (input : List ℕ) → 32768 < length input → input_records input ≡ Err Input
unfolding input_records
too_long input above =
    ⊎_elim
    (λ (e : eqb (length input % 4) 0 ≡ true). rw (e, lt-ltb 32768 (length input) above))
    (λ (e : eqb (length input % 4) 0 ≡ false). rw e)
    (cases_Bool (eqb (length input % 4) 0))

-- what was read is the whole input, or both are too long
cut : (front rest : List ℕ) → (length front < 32769 → rest ≡ []) → line_of front ≡ line_of (front ++ rest)
unfolding line_of
cut front rest ended =
    ⊎_elim
    (λ below. rw (ended below, append-nil front))
    (λ above. rw (too_long front (omega arith), too_long (front ++ rest) (rw length-append (omega arith))))
    (cases_lt (length front) 32769)

-- the same of a reader whose bytes may be known
same_line : (known left : Option (List ℕ)) (front : List ℕ) → Consumes known left front → (length front < 32769 → IsAtEnd left)
    → IfSome known (λ input. line_of front ≡ line_of input)
same_line None left front taken ended = tt
same_line (Some input) None front taken ended = absurd taken
same_line (Some input) (Some rest) front taken ended = cut front rest ended ∙ ap line_of (sym taken)

written : (known old new : Option (List ℕ)) (text : List ℕ) → IfSome known (λ input. text ≡ line_of input) → Appends old new text
    → IfSome known (λ input. Appends old new (line_of input))
written None old new text same added = tt
written (Some input) old new text same added = subst (Appends old new) same added

pub returns : goal.returns
returns g c =
    let read = c.in_ok-read.ensures in
    let same = same_line _ _ _ read.bytes (λ below. read.full_or_end (omega (arith, read.bound.1))) in
    record {
      line = on_ok_weaker c.write_all.result
          (λ added. written _ _ _ _ same (subst (Appends _ _) (c.as_slice.ensures.value ∙ c.line_of.ensures.line) added))
          c.write_all.ensures.bytes;
    }
