-- The loop of turns: what is left of the run is the whole run.
use Rattle.std.proofs.Common.{◌-◌}
use Rattle.memory.specs.Rights.{bytes_of}
use Rattle.emulator.specs.Answers.{core_of_parts}
use Rattle.emulator.specs.Machine.{plan_of}
use Rattle.emulator.proofs.Runs.{Running}
use Rattle.emulator.proofs.cycle.turns.Given as goal

abbrev pub invariant-loop-edition : goal.invariant-loop-edition
invariant-loop-edition g l =
    Running (g.S.Store.store (bytes_of l.fn.rights)) (plan_of l.fn.edition) (g.S.Store.over l.fn.store) g.S.Store.why l.limit l.fn.core (g.S.Store.seen l.fn.store)
    (g.S.Store.Noted l.fn.store l.store) (core_of_parts l.gprs l.special) (g.S.Store.seen l.store) l.steps

abbrev pub decreases-loop-edition : goal.decreases-loop-edition
decreases-loop-edition g l = l.limit - l.steps
