-- The run's marks are those of its definition, of which the agreement speaks.
use Rattle.std.proofs.Common.{ap, sym, subst, ◌∙◌, refl, arith, rules}
use Rattle.emulator.specs.Machine.{plan_of, plain, Ran, run_of}
use Rattle.emulator.specs.declared.core_record.Core.{Core}
use Rattle.memory.specs.Memory.{Memory, lent}
use Rattle.nilguseg.specs.Host.{core_from, run_call}
use Rattle.run_laws.specs.Agreement.{AgreesWithOthers}
use Rattle.run_laws.proofs.Agreement.{agrees_with_others}
use Rattle.nilguseg.proofs.Refusal.{run_refused}
use Rattle.refusal_laws.proofs.Refused.{refused}
use Rattle.nilguseg_c.proofs.nilguseg_run.Goals as goal

pub returns-clause-agreement : goal.returns-clause-agreement
returns-clause-agreement c =
    let m = lent c.args.memory.now c.args.marks.now in
    let given = plain c.args.edition in
    let same = c.run.ensures ∙ ap (λ (k : Core). run_of plan_of k m c.args.edition c.args.limit) c.core_of.ensures in
    subst (AgreesWithOthers given (core_from c.args.core.now) m c.args.limit) (sym (ap (λ (x : Ran Memory). x.memory.marks) same))
    (agrees_with_others given (core_from c.args.core.now) m c.args.limit)

pub returns-clause-refused : goal.returns-clause-refused
returns-clause-refused c =
    let a = c.args in
    let k = core_from a.core.now in
    let m = lent a.memory.now a.marks.now in
    let known = refused.run k m a.edition a.limit in
    run_refused run_call _ a.core.now (omega arith) known refl (search rules) (search rules)
