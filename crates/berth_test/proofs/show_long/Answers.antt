-- The bytes are four for each of 8,193 records.
use Rattle.std.proofs.Common.{rules, arith, ◌≤◌, length}
use Rattle.berth_test.proofs.show_long.Goals as goal

pub slice_bounds-show-end-2 : goal.slice_bounds-show-end-2
slice_bounds-show-end-2 g c = let h : 32764 ≤ length c.as_flattened-bytes.result.now = omega (arith, c.as_flattened-bytes.ensures.len) in search rules

pub slice_bounds-show-end-4 : goal.slice_bounds-show-end-4
slice_bounds-show-end-4 g c = let h : 32768 ≤ length c.as_flattened-bytes.result.now = omega (arith, c.as_flattened-bytes.ensures.len) in search rules

pub slice_bounds-show-end-6 : goal.slice_bounds-show-end-6
slice_bounds-show-end-6 g c = let h : 32769 ≤ length c.as_flattened-bytes.result.now = omega (arith, c.as_flattened-bytes.ensures.len) in search rules
