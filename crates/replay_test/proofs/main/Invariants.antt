-- No more cases were read than the loop had turns, and no more were wrong.
use Rattle.std.proofs.Common.{◌≤◌}
use Rattle.replay_test.proofs.main.Given as goal

abbrev pub invariant-loop : goal.invariant-loop
invariant-loop l = record { cases : l.cases ≤ l.counter; wrong : l.wrong ≤ l.counter }
