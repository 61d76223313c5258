-- How a step and a run come out, and the number of each stop, host test and end by the log. The
-- same stands in words in docs/NUMBERS.md, The numbers.
use Rattle.std.specs.Prelude.{ℕ}
use Rattle.instructions.specs.Decoding.{undecodable}
use Rattle.memory.specs.declared.refusal.Refusal.{Refusal}
use Rattle.memory.specs.declared.refusal.LogEnd.{LogEnd}
use Rattle.memory.specs.declared.stop.Stop.{Stop}
use Rattle.memory.specs.declared.stop.Stop.TheVariants as stops

-- `fault` has the stop's number and its value, `refused` the number of the host test, `ended` that
-- of an end by the log: 30, fewer than four log words are free, or 31, a replay's reads aren't the
-- log's
pub data Outcome : Type 0 where
  stepped : Outcome
  halted : Outcome
  limit : Outcome
  fault : ℕ → ℕ → Outcome
  refused : ℕ → Outcome
  ended : ℕ → Outcome

-- the stops, which a word of the rule causes
abbrev pub stop_of : Stop → Outcome
stop_of (stops.Undecodable word) = fault undecodable word
stop_of (stops.OutOfRange address) = fault 11 address
stop_of (stops.NoRight address) = fault 33 address
stop_of (stops.Decimal word) = fault 12 word
stop_of (stops.Amount amount) = fault 13 amount
stop_of (stops.Negation value) = fault 14 value

-- the host tests
abbrev pub refusal_number : Refusal → ℕ
refusal_number Refusal.MemoryLength = 1
refusal_number Refusal.MarksLength = 2
refusal_number Refusal.Rights = 32
refusal_number Refusal.Edition = 34

-- the ends by the log
abbrev pub log_end_number : LogEnd → ℕ
log_end_number LogEnd.Full = 30
log_end_number LogEnd.Mismatch = 31
