-- `push_fields`: the numbers that were passed are pushed, each in six bytes at most.
use Rattle.std.proofs.Common.{◌≡◌, ◌+◌, ◌*◌, ◌≤◌, ◌++◌, length, take}
use Rattle.line.specs.Line.{fields}
use Rattle.line.proofs.line.push_fields.Given as goal

abbrev pub invariant-loop-word : goal.invariant-loop-word
invariant-loop-word l =
    (l.line.items ≡ l.initial.line.items ++ fields (take l.word-index l.words)) × (length l.line.items ≤ length l.initial.line.items + l.word-index * 6)
