-- `apply_sheet`: what is left of the sheet reads as the whole.
use Rattle.std.proofs.Common.{length}
use Rattle.sheet.proofs.SheetLaws.{Applying}
use Rattle.sheet.proofs.load.apply_sheet.Given as goal

abbrev pub invariant-loop-w : goal.invariant-loop-w
invariant-loop-w l = Applying l.sheet (length l.fn.memory) l.w-index l.address l.core l.edition l.memory
