-- `put_presets`: the presets that are left make what all of them make.
use Rattle.sheet.proofs.WriteLaws.{Presetting}
use Rattle.sheet.proofs.write.put_presets.Given as goal

abbrev pub invariant-loop-r : goal.invariant-loop-r
invariant-loop-r l = Presetting l.core l.initial.sheet l.sheet l.r
