-- How a host sees that a call is refused, in the layout of include/nilguseg.h: words by which the
-- clauses `refused` of the exports speak of the answers that Host defines.
use Rattle.std.specs.Prelude.{ℕ, ◌≡◌, ◌<◌, ◌*◌, ◌/◌, ◌^◌}
use Rattle.memory.specs.Outcome.{Outcome, stepped, halted, limit, fault, refused, ended}
use Rattle.nilguseg.specs.Host.{outcome_number}

-- how a call came out: bits 31..24 of a step's answer, bits 63..56 of a run's or a replay's
abbrev pub how_of : Outcome → ℕ
how_of stepped = 0
how_of halted = 1
how_of limit = 2
how_of (fault number value) = 3
how_of (refused number) = 4
how_of (ended number) = 5

-- the answer of a step that is refused by a number, and how every step's answer says whether it is
abbrev pub refused_step : ℕ → ℕ
refused_step number = outcome_number (refused number)

abbrev pub IsRefusedStep : ℕ → Type 0
IsRefusedStep answer = answer / 2 ^ 24 ≡ 4

-- the same of a run or a replay, with 0 steps
abbrev pub refused_run : ℕ → ℕ
refused_run number = outcome_number (refused number) * 2 ^ 32

abbrev pub IsRefusedRun : ℕ → Type 0
IsRefusedRun answer = answer / 2 ^ 56 ≡ 4

-- how the writer's answer says that the sheet is written: a refusal has its number from bit 32 on
abbrev pub IsWritten : ℕ → Type 0
IsWritten answer = answer < 2 ^ 32
