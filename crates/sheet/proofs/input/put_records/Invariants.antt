-- `put_records`: the records that are left make what all of them make.
use Rattle.sheet.proofs.InputLaws.{Putting}
use Rattle.sheet.proofs.input.put_records.Given as goal

abbrev pub invariant-loop-i : goal.invariant-loop-i
invariant-loop-i l = Putting l.bytes l.initial.out l.out l.i
