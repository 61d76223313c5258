-- What the run leaves is what its definition gives, of which the agreement and the isolation speak.
use Rattle.std.proofs.Common.{Some, ap, sym, subst, ◌∙◌, refl, arith, rules}
use Rattle.emulator.specs.Machine.{plan_of, Ran, run_in, unlogged}
use Rattle.emulator.specs.declared.core_record.Core.{Core}
use Rattle.memory.specs.Memory.{Memory, lent}
use Rattle.nilguseg.specs.Host.{core_from, run_call}
use Rattle.run_laws.specs.Agreement.{AgreesWithOthers}
use Rattle.run_laws.specs.Rights.{ClosedKept}
use Rattle.run_laws.proofs.Agreement.{agrees_with_others}
use Rattle.run_laws.proofs.Rights.{closed_kept}
use Rattle.nilguseg.proofs.Refusal.{run_refused}
use Rattle.refusal_laws.proofs.Refused.{refused}
use Rattle.nilguseg_guarded.proofs.nilguseg_run_guarded.Goals as goal

pub returns-clause-agreement : goal.returns-clause-agreement
returns-clause-agreement c =
    let m = lent c.args.memory.now c.args.marks.now in
    let given = unlogged (Some c.args.rights.now) c.args.edition in
    let same = c.run_guarded-run.ensures ∙ ap (λ (k : Core). (run_in plan_of given k m c.args.limit).result) c.core_of.ensures in
    subst (AgreesWithOthers given (core_from c.args.core.now) m c.args.limit) (sym (ap (λ (x : Ran Memory). x.memory.marks) same))
    (agrees_with_others given (core_from c.args.core.now) m c.args.limit)

pub returns-clause-closed : goal.returns-clause-closed
returns-clause-closed c ok =
    let m = lent c.args.memory.now c.args.marks.now in
    let given = unlogged (Some c.args.rights.now) c.args.edition in
    let same = c.run_guarded-run.ensures ∙ ap (λ (k : Core). (run_in plan_of given k m c.args.limit).result) c.core_of.ensures in
    subst (ClosedKept given.rights m) (sym (ap (λ (x : Ran Memory). x.memory) same))
    (closed_kept given (core_from c.args.core.now) m c.args.limit ok)

pub returns-clause-refused : goal.returns-clause-refused
returns-clause-refused c =
    let a = c.args in
    let k = core_from a.core.now in
    let m = lent a.memory.now a.marks.now in
    let known = refused.run_guarded k m a.rights.now a.edition a.limit in
    run_refused run_call _ a.core.now (omega arith) known refl (search rules) (search rules)
