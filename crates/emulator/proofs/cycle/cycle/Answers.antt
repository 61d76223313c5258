-- `cycle`: a law for each way through it, and what is logged on it.
use mathlib.Core.List.{append-nil, append_assoc}
use Rattle.std.proofs.lemmas.Result.{err_from_is_err_and}
use Rattle.memory.specs.Rights.{bytes_of}
use Rattle.emulator.specs.Answers.{core_of_parts}
use Rattle.emulator.proofs.Cycles.{cycle_stopped, cycle_undecodable, cycle_obeyed}
use Rattle.emulator.proofs.cycle.cycle.Goals as goal

pub returns-in_err-word-clause-turn : goal.returns-in_err-word-clause-turn
returns-in_err-word-clause-turn g c =
    let p = err_from_is_err_and c.from_residual.result c.from_residual.ensures.1 in
    rw (p.1, p.2, ← (cycle_stopped (g.S.Store.store (bytes_of c.args.rights)) c.args.edition (core_of_parts c.args.gprs.now c.args.special.now) c.read.ensures.read c.in_err-word.was))

pub returns-in_err-word-clause-noted : goal.returns-in_err-word-clause-noted
returns-in_err-word-clause-noted g c start l h =
    rw (← (cycle_stopped (g.S.Store.store (bytes_of c.args.rights)) c.args.edition (core_of_parts c.args.gprs.now c.args.special.now) c.read.ensures.read c.in_err-word.was), append-nil) (c.read.ensures.noted start l h)

pub returns-in_err-ins-clause-turn : goal.returns-in_err-ins-clause-turn
returns-in_err-ins-clause-turn g c =
    let p = err_from_is_err_and c.from_residual-in_err-ins.result c.from_residual-in_err-ins.ensures.1 in
    rw (p.1, p.2, ← (cycle_undecodable (g.S.Store.store (bytes_of c.args.rights)) c.args.edition (core_of_parts c.args.gprs.now c.args.special.now) c.read.ensures.read c.in_ok-word.was c.in_err-ins.ensures), c.add-special.ensures)

pub returns-in_err-ins-clause-noted : goal.returns-in_err-ins-clause-noted
returns-in_err-ins-clause-noted g c start l h =
    rw (← (cycle_undecodable (g.S.Store.store (bytes_of c.args.rights)) c.args.edition (core_of_parts c.args.gprs.now c.args.special.now) c.read.ensures.read c.in_ok-word.was c.in_err-ins.ensures), append-nil) (c.read.ensures.noted start l h)

pub returns-clause-turn : goal.returns-clause-turn
returns-clause-turn g c =
    rw (← (cycle_obeyed (g.S.Store.store (bytes_of c.args.rights)) c.args.edition (core_of_parts c.args.gprs.now c.args.special.now) c.read.ensures.read c.in_ok-word.was c.in_ok-ins.ensures c.add-special.ensures c.execute-effect.ensures))
    (rw c.add-special.ensures at c.obey.ensures.turn)

pub returns-clause-noted : goal.returns-clause-noted
returns-clause-noted g c start l h =
    rw (
      ← (cycle_obeyed (g.S.Store.store (bytes_of c.args.rights)) c.args.edition (core_of_parts c.args.gprs.now c.args.special.now) c.read.ensures.read c.in_ok-word.was c.in_ok-ins.ensures c.add-special.ensures c.execute-effect.ensures),
      ← append_assoc,
    )
    (c.obey.ensures.noted start _ (c.read.ensures.noted start l h))
