use Rattle.std.proofs.Common.{length, max, refl, arith, rules, tests}
use Rattle.std.proofs.lemmas.Iterator.{YieldsList-from_range}
use Rattle.std.proofs.lemmas.Iterator.Search.{position_from_yields_List}
use Rattle.order.specs.Order.{differ_at, place_of}
use Rattle.order.proofs.Laws.{first_or_end}
use Rattle.order.proofs.place.Goals as goal

pub returns : goal.returns
unfolding place_of
returns c =
    let differ = differ_at c.args.first.now c.args.second.now in
    let end = max (length c.args.first.now) (length c.args.second.now) in
    let found = position_from_yields_List differ _ _ _ c.position.ensures.ran (YieldsList-from_range 0 _ end refl (omega arith)) (λ x b q k. search (rules, tests)) in
    first_or_end differ end found (omega arith) c.unwrap_or.ensures
