-- Need not be believed: nilguseg_step, nilguseg_run_logged and nilguseg_replay promise without it.
-- What each answer of the code says of how a step and a run come out, and which core the registers
-- of the loop are.
use Rattle.std.specs.Prelude.{ℕ, ◌==◌, if◌then◌else◌, List, Result, Ok, Err}
use Rattle.memory.specs.Outcome.{Outcome, stepped, halted, limit, fault, refused, ended, stop_of, refusal_number, log_end_number}
use Rattle.memory.specs.declared.stop.Stop.{Stop}
use Rattle.emulator.specs.declared.cycle.End.{End}
use Rattle.emulator.specs.declared.cycle.Special.{Special}
use Rattle.emulator.specs.declared.core_record.Core.{Core}
use Rattle.emulator.specs.Core.{core_of}
use Rattle.emulator.specs.declared.cycle.End.TheVariants as ends
use Rattle.emulator.specs.declared.core_record.Answer.{Answer}
use Rattle.emulator.specs.declared.core_record.Answer.TheVariants as answers

-- the core whose registers the loop has in two parts
abbrev pub core_of_parts : List ℕ → Special → Core
core_of_parts gprs special = core_of gprs special.ip special.rp special.sp special.ef

-- what a cycle of a core that runs comes to
abbrev pub progress_of : Result (Unit {0}) Stop → Outcome
progress_of (Ok unit) = stepped
progress_of (Err stop) = stop_of stop

abbrev pub answer_of : Answer → Outcome
answer_of answers.Stepped = stepped
answer_of answers.Halted = halted
answer_of (answers.Fault stop) = stop_of stop
answer_of (answers.Refused refusal) = refused (refusal_number refusal)

abbrev pub end_of : End → Outcome
end_of ends.Halted = halted
end_of ends.Limit = limit
end_of (ends.Fault stop) = stop_of stop
end_of (ends.Refused refusal) = refused (refusal_number refusal)
end_of (ends.Log end) = ended (log_end_number end)

-- a step's outcome, from the steps counted and the end of a run of at most one: it stepped if it
-- was counted, which the limit says too. (It has no log that could be full.)
abbrev pub uncounted : Outcome → Outcome
uncounted stepped = stepped
uncounted halted = halted
uncounted limit = stepped
uncounted (fault number value) = fault number value
uncounted (refused number) = refused number
uncounted (ended number) = stepped

abbrev pub answered_of : ℕ → Outcome → Outcome
answered_of steps end = if steps == 1 then stepped else uncounted end
