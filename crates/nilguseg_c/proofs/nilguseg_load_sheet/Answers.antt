use Rattle.std.proofs.Common.{rules}
use Rattle.nilguseg.proofs.Refusal.{load_refused}
use Rattle.refusal_laws.proofs.Refused.{refused}
use Rattle.nilguseg_c.proofs.nilguseg_load_sheet.Goals as goal

pub returns-clause-refused : goal.returns-clause-refused
returns-clause-refused c =
    load_refused (refused.load_sheet c.args.sheet.now c.args.memory.now) (search rules)
