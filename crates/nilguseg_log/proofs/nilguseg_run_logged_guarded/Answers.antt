-- What the run leaves is what its definition gives, of which the laws of runs speak. Core and
-- memory have 16-bit words by their types.
use Rattle.std.proofs.Common.{rules, refl, arith}
use Rattle.memory.specs.Memory.{lent}
use Rattle.nilguseg.specs.Host.{core_from}
use Rattle.nilguseg_log.proofs.Laws.{agrees, closed, core_fits, replays, room}
use Rattle.replay_laws.specs.Replay.{MemoryFits}
use Rattle.nilguseg.proofs.Refusal.{run_refused}
use Rattle.nilguseg_log.specs.Host.{logged_call}
use Rattle.refusal_laws.proofs.Refused.{refused}
use Rattle.nilguseg_log.proofs.nilguseg_run_logged_guarded.Goals as goal

pub returns-clause-replay : goal.returns-clause-replay
returns-clause-replay c =
    let words : MemoryFits (lent c.args.memory.now c.args.marks.now) = λ a. search rules in
    replays _ _ _ _ _ c.core_of.ensures c.run_logged_guarded-ended.ensures _ _ _ (core_fits c.args.core.now c.fits-core) words c.put_logged_run.ensures.run

pub returns-clause-room : goal.returns-clause-room
returns-clause-room c = room _ _ _ _ _ c.core_of.ensures c.run_logged_guarded-ended.ensures _ c.put_logged_run.ensures.how

pub returns-clause-agreement : goal.returns-clause-agreement
returns-clause-agreement c = agrees _ _ _ _ _ c.core_of.ensures c.run_logged_guarded-ended.ensures

pub returns-clause-closed : goal.returns-clause-closed
returns-clause-closed c = closed _ _ _ _ _ c.core_of.ensures c.run_logged_guarded-ended.ensures

pub returns-clause-refused : goal.returns-clause-refused
returns-clause-refused c =
    let a = c.args in
    let k = core_from a.core.now in
    let m = lent a.memory.now a.marks.now in
    let known = refused.run_logged_guarded k m a.rights.now a.edition a.limit a.log.now in
    run_refused logged_call _ a.core.now (omega arith) known refl (search rules) (search rules)
