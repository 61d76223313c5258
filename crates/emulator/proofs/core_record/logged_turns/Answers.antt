-- `logged_turns`: what the loop leaves in memory, in the marks and in the log stands in what was
-- lent.
use mathlib.Core.Path.{sym}
use Rattle.std.proofs.Common.{rules}
use Rattle.emulator.specs.Machine.{ran}
use Rattle.emulator.proofs.Whole.{relogged, turns_logged}
use Rattle.emulator.proofs.core_record.logged_turns.Goals as goal

pub returns : goal.returns
returns c =
    let n = c.turns-run.ensures.noted in
    relogged (ran _ _ _) _ (search (rules, sym n.0)) (search (rules, sym n.1)) (search (rules, sym n.2))
    (turns_logged _ _ _ _ _ _ c.turns-run.ensures.run n.3)
