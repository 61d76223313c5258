use Rattle.std.proofs.Common.{refl, arith, rules}
use Rattle.memory.specs.Memory.{lent}
use Rattle.nilguseg.specs.Host.{core_from, step_call}
use Rattle.nilguseg.proofs.Refusal.{step_refused}
use Rattle.refusal_laws.proofs.Refused.{refused}
use Rattle.nilguseg_c.proofs.nilguseg_step.Goals as goal

pub returns-clause-refused : goal.returns-clause-refused
returns-clause-refused c =
    let a = c.args in
    let known = refused.step (core_from a.core.now) (lent a.memory.now a.marks.now) a.edition in
    step_refused step_call _ a.core.now (omega arith) known refl (search rules) (search rules)
