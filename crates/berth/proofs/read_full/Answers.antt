-- A read after the part that is filled: the filled part grows by what was read.
use Rattle.std.proofs.Common.{◌≡◌, ℕ, ◌+◌, ◌-◌, ◌≤◌, List, ◌++◌, rules, length, take, sym, ap, ◌∙◌, subst, length-take-le}
use Rattle.std.proofs.lemmas.List.{take-append-le}
use Rattle.std.proofs.Math.Seq.{take-append-add}
use Rattle.std.proofs.KnownBytes.{Consumes-trans}
use Rattle.std.specs.Io.KnownBytes.{Consumes}
use borrow.Rule.Slice.PartMut.{put_mid, post_of}
use Rattle.berth.proofs.read_full.Goals as goal

filled_more : (at room n : ℕ) (xs ys : List ℕ) → at ≤ length xs → n ≤ length ys → take (at + n) (put_mid at room xs ys) ≡ take at xs ++ take n ys
filled_more at room n xs ys within fits =
    let past = post_of at room xs in
    let whole = take-append-add (take at xs) (ys ++ past) n ∙ ap (λ l. take at xs ++ l) (take-append-le n ys past fits) in
    subst (λ m. take (m + n) (put_mid at room xs ys) ≡ take at xs ++ take n ys) (length-take-le at xs within) whole

pub loop-done-preserved : goal.loop-done-preserved
loop-done-preserved g c =
    let buf = c.loop-done.buf in
    let at = c.loop-done.done in
    let more = filled_more at (length buf - at) c.in_ok-n.n buf c.read.new.buf c.loop-done.invariant.0 c.in_ok-n.ensures.bound.0 in
    let read = Consumes-trans _ _ _ _ _ c.loop-done.invariant.2 c.in_ok-n.ensures.bytes.0 in
    (search rules, search rules, subst (Consumes _ _) (sym more) read)
