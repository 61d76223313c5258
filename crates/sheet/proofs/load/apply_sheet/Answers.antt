-- `apply_sheet`: a word has its place, and a law for each way out.
use Rattle.std.proofs.Common.{rules, ◌<◌, length}
use Rattle.sheet.proofs.SheetLaws.{apply_in, apply_none, apply_refused, apply_end}
use Rattle.sheet.proofs.load.apply_sheet.Goals as goal
use Rattle.sheet.proofs.load.apply_sheet.Goals.{In-Word}

pub returns-in_default : goal.returns-in_default
returns-in_default c = apply_refused c.loop-w.invariant c.loop-w-test.true c.in_default.ensures

pub returns-in-End : goal.returns-in-End
returns-in-End c = apply_end c.loop-w.invariant c.loop-w-test.true c.in-Ok.ensures c.in-End.is

in_memory : (c : In-Word) → c.loop-w.address < length c.loop-w.memory
in_memory c = apply_in c.loop-w.invariant c.loop-w-test.true c.in-Ok.ensures c.in-Word.is

pub offset_bounds-memory-address : goal.offset_bounds-memory-address
offset_bounds-memory-address c = let inside = in_memory c in search rules

pub bounds-memory-address : goal.bounds-memory-address
bounds-memory-address c = in_memory c

pub overflow_add-address : goal.overflow_add-address
overflow_add-address c = let inside = in_memory c in search rules

pub returns-after-loop-w : goal.returns-after-loop-w
returns-after-loop-w c = apply_none c.loop-w.invariant c.loop-w-test.false
