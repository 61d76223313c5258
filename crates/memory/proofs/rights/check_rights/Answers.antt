-- `check_rights`: a law for each answer.
use Rattle.std.proofs.Common.{arith, rules, ◌<◌, ◌≤◌}
use Rattle.std.proofs.lemmas.Iterator.{YieldsList-from_slice, cases_from_any}
use borrow.Author.Tests.{tests}
use Rattle.memory.proofs.Laws.{rights_length, rights_above, rights_within, one_above, none_above}
use Rattle.memory.proofs.rights.check_rights.Goals as goal

pub returns-in_default : goal.returns-in_default
returns-in_default c = rw (rights_length c.args.rights.now c.in_default.ensures.1)

pub returns-then-any : goal.returns-then-any
returns-then-any c =
    let whole = c.in-Ok.ensures.1 in
    let above = rw c.if-any.true at (cases_from_any _ _ _ (λ x. 7 < x) (λ x. x ≤ 7) c.any.ensures.ran (YieldsList-from_slice c.in-Ok.bytes.now cc) (λ x q k. search (rules, tests)) (λ x q k. search (rules, tests))) in
    rw (rights_above c.args.rights.now whole.long (rw whole.same at (one_above c.in-Ok.bytes.now above.0 above.1 (above.2 0))))

pub returns : goal.returns
returns c =
    let whole = c.in-Ok.ensures.1 in
    let within = rw c.if-any.false at (cases_from_any _ _ _ (λ x. 7 < x) (λ x. x ≤ 7) c.any.ensures.ran (YieldsList-from_slice c.in-Ok.bytes.now cc) (λ x q k. search (rules, tests)) (λ x q k. search (rules, tests))) in
    rw (whole.same, rights_within c.args.rights.now whole.long (rw whole.same at (none_above c.in-Ok.bytes.now (λ k l. within k 0 (omega arith) l))))
