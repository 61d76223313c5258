use Rattle.std.proofs.Common.{None, refl, arith, rules}
use Rattle.nilguseg.specs.Host.{core_from}
use Rattle.nilguseg.proofs.Refusal.{run_refused}
use Rattle.nilguseg_replay.specs.Host.{replay_call}
use Rattle.refusal_laws.proofs.Refused.{refused}
use Rattle.nilguseg_replay.proofs.nilguseg_replay.Goals as goal

pub returns-clause-refused : goal.returns-clause-refused
returns-clause-refused c =
    let a = c.args in
    let k = core_from a.core.now in
    let known = refused.replay None a.edition k a.size a.limit a.log.now in
    run_refused replay_call _ a.core.now (omega arith) known refl (search rules) (search rules)
