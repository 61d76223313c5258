-- `marked_turns`: what the loop leaves in memory and in the marks stands in what was lent.
use Rattle.std.proofs.Common.{rules}
use Rattle.emulator.specs.Machine.{ran}
use Rattle.emulator.proofs.Laws.{relent}
use Rattle.emulator.proofs.core_record.marked_turns.Goals as goal

pub returns : goal.returns
returns c = relent (ran _ _ _) (search rules) (search rules) c.turns.ensures.run
