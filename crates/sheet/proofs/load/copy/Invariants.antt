-- `copy`: what stands below the place is the words.
use Rattle.std.proofs.Common.{◌≡◌, ℕ, ◌<◌, length, get_or}
use Rattle.sheet.proofs.load.copy.Given as goal

abbrev pub invariant-loop-at : goal.invariant-loop-at
invariant-loop-at l = (length l.front ≡ length l.words) × ((k : ℕ) → k < l.at → get_or l.front k 0 ≡ get_or l.words k 0)
