-- `put_stretches`: the records that are left make what all of them make.
use Rattle.sheet.proofs.WriteLaws.{Stretching}
use Rattle.sheet.proofs.write.put_stretches.Given as goal

abbrev pub invariant-loop-address : goal.invariant-loop-address
invariant-loop-address l = Stretching l.memory l.initial.sheet l.sheet l.at l.before l.address
