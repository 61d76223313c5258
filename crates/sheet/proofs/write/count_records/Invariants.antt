-- `count_records`: the count and what is left to count make the whole.
use Rattle.sheet.proofs.WriteLaws.{Counting}
use Rattle.sheet.proofs.write.count_records.Given as goal

abbrev pub invariant-loop-word : goal.invariant-loop-word
invariant-loop-word l = Counting l.memory l.count l.before l.word-index
