-- The measure is the number.
use Rattle.line.proofs.line.+push_number.Given as goal

abbrev pub decreases-push_number : goal.decreases-push_number
decreases-push_number l = l.n
