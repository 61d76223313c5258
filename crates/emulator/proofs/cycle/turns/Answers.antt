-- `turns`, by the ways through its loop.
use Rattle.std.proofs.Common.{arith}
use Rattle.emulator.proofs.Runs.{running_start, end_halted, end_limit, end_by, running_step, end_fault}
use Rattle.emulator.proofs.cycle.turns.Goals as goal

pub loop-edition-init : goal.loop-edition-init
loop-edition-init g c = running_start _ _ _ _ _ _ _ (g.met.S.Store.begun c.args.store.now)

pub overflow_add-steps : goal.overflow_add-steps
overflow_add-steps g c =
    let b = c.ranges.limit.fits in
    let w = c.loop-edition.invariant.within in
    let n = c.if-steps-limit.false in
    record { fits = omega arith }

pub loop-edition-smaller : goal.loop-edition-smaller
loop-edition-smaller g c =
    let w = c.loop-edition.invariant.within in
    let n = c.if-steps-limit.false in
    omega arith

pub loop-edition-preserved : goal.loop-edition-preserved
loop-edition-preserved g c =
    let now = c.loop-edition.invariant in
    running_step _ _ _ _ _ _ _ now c.is_halted.ensures c.if-is_halted.false c.if-steps-limit.false (c.in_default.ensures _ now.log now.noted)
    _ (c.in_default-cycle.ensures.noted _ now.log now.noted) c.in_default-cycle.ensures.turn

pub returns-then-is_halted-clause-run : goal.returns-then-is_halted-clause-run
returns-then-is_halted-clause-run g c = (end_halted _ _ _ _ _ _ _ c.loop-edition.invariant c.is_halted.ensures c.if-is_halted.true).run

pub returns-then-is_halted-clause-noted : goal.returns-then-is_halted-clause-noted
returns-then-is_halted-clause-noted g c = (end_halted _ _ _ _ _ _ _ c.loop-edition.invariant c.is_halted.ensures c.if-is_halted.true).noted

pub returns-then-steps-limit-clause-run : goal.returns-then-steps-limit-clause-run
returns-then-steps-limit-clause-run g c =
    (end_limit _ _ _ _ _ _ _ c.loop-edition.invariant c.is_halted.ensures c.if-is_halted.false c.if-steps-limit.true).run

pub returns-then-steps-limit-clause-noted : goal.returns-then-steps-limit-clause-noted
returns-then-steps-limit-clause-noted g c =
    (end_limit _ _ _ _ _ _ _ c.loop-edition.invariant c.is_halted.ensures c.if-is_halted.false c.if-steps-limit.true).noted

pub returns-in-Some-clause-run : goal.returns-in-Some-clause-run
returns-in-Some-clause-run g c =
    let now = c.loop-edition.invariant in
    (end_by _ _ _ _ _ _ _ now c.is_halted.ensures c.if-is_halted.false c.if-steps-limit.false (c.in-Some.ensures _ now.log now.noted)).run

pub returns-in-Some-clause-noted : goal.returns-in-Some-clause-noted
returns-in-Some-clause-noted g c =
    let now = c.loop-edition.invariant in
    (end_by _ _ _ _ _ _ _ now c.is_halted.ensures c.if-is_halted.false c.if-steps-limit.false (c.in-Some.ensures _ now.log now.noted)).noted

pub returns-in-Err-clause-run : goal.returns-in-Err-clause-run
returns-in-Err-clause-run g c =
    let now = c.loop-edition.invariant in
    (end_fault _ _ _ _ _ _ _ now c.is_halted.ensures c.if-is_halted.false c.if-steps-limit.false (c.in_default.ensures _ now.log now.noted)
    (g.S.Store.Noted c.args.store.now c.cycle.new.store) (c.in-Err.ensures.noted _ now.log now.noted) c.in-Err.stop c.in-Err.ensures.turn).run

pub returns-in-Err-clause-noted : goal.returns-in-Err-clause-noted
returns-in-Err-clause-noted g c =
    let now = c.loop-edition.invariant in
    (end_fault _ _ _ _ _ _ _ now c.is_halted.ensures c.if-is_halted.false c.if-steps-limit.false (c.in_default.ensures _ now.log now.noted)
    (g.S.Store.Noted c.args.store.now c.cycle.new.store) (c.in-Err.ensures.noted _ now.log now.noted) c.in-Err.stop c.in-Err.ensures.turn).noted
