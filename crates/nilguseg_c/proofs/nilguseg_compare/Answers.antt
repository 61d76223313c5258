-- The order of the lists exchanged is the reverse of theirs, whose number is exchanged.
use Rattle.std.proofs.Common.{◌≡◌, ap, refl, sym, ◌∙◌}
use Rattle.std.specs.Ordering.{ordering_reverse}
use Rattle.std.specs.declared.cmp.Ordering.{Ordering}
use Rattle.nilguseg.specs.Host.{order_number}
use Rattle.nilguseg_c.specs.Host.{exchanged}
use Rattle.order_laws.proofs.Claims.{total}
use Rattle.nilguseg_c.proofs.nilguseg_compare.Goals as goal

reversed : (o : Ordering) → order_number (ordering_reverse o) ≡ exchanged (order_number o)
reversed Ordering.Equal = refl
reversed Ordering.Less = refl
reversed Ordering.Greater = refl

pub returns-clause-exchanged : goal.returns-clause-exchanged
returns-clause-exchanged c =
    let a = c.args.first.now in
    let b = c.args.second.now in
    ap order_number (total.exchange a b) ∙ (reversed _ ∙ ap exchanged (sym (c.order_number.ensures ∙ ap order_number c.compare.ensures)))
