-- A read of the tape, by whether two words are left.
use Rattle.std.proofs.Common.{arith}
use Rattle.replay.proofs.Tapes.{noted_two, noted_short}
use Rattle.replay.proofs.tape.LogTapeStore.read.Goals as goal

pub returns-in_default-clause-noted : goal.returns-in_default-clause-noted
returns-in_default-clause-noted c start l h =
    rw (c.run_out.ensures.rest, c.run_out.ensures.matches)
    (noted_short start.matches l start.rest.now c.args.purpose c.args.address h.0 h.1 c.in_default.ensures.cases)

pub returns-clause-noted : goal.returns-clause-noted
returns-clause-noted c start l h =
    let two = c.in-Some.ensures.cases in
    noted_two start.matches l start.rest.now c.args.purpose c.args.address h.0 h.1 two.0 two.1 (omega (two.2, arith)) c.is_entry.ensures
