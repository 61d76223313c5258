-- The log of a run's reads: which words it has, when it is full, and what becomes of the buffer
-- that is lent for it. The same stands in words in docs/MACHINE.md, Logs and replays.
use Rattle.std.specs.Prelude.{ℕ, ◌+◌, ◌-◌, ◌*◌, ◌^◌, Bool, false, List, [], ◌∷◌, ◌++◌, length, drop, nat_lt, Result, Ok, Err, Option, Some, None, if◌then◌else◌}
use Rattle.memory.specs.declared.log.Purpose.{Purpose}
use Rattle.memory.specs.declared.refusal.LogEnd.{LogEnd}
use Rattle.memory.specs.declared.stop.Stop.{Stop}

-- bit 16 is set for a fetch
abbrev pub purpose_bit : Purpose → ℕ
purpose_bit Purpose.Fetch = 2 ^ 16
purpose_bit Purpose.Read = 0

-- kind 4, in bits 31..28, with the address in bits 15..0; kind 5 with the word in bits 15..0
abbrev pub address_word : Purpose → ℕ → ℕ
address_word purpose address = 4 * 2 ^ 28 + purpose_bit purpose + address

abbrev pub value_word : ℕ → ℕ
value_word value = 5 * 2 ^ 28 + value

-- the two log words of a read
abbrev pub entry_of : Purpose → ℕ → ℕ → List ℕ
entry_of purpose address value = address_word purpose address ∷ value_word value ∷ []

-- the log words of a read by its answer: a read that stops isn't logged
abbrev pub read_log : Purpose → ℕ → Result ℕ Stop → List ℕ
read_log purpose address (Ok value) = entry_of purpose address value
read_log purpose address (Err stop) = []

-- what an access comes to: nothing was to be read, a word was read at an address, or a stop
pub data Reply : Type 0 where
  done : Reply
  word : ℕ → ℕ → Reply
  stopped : Stop → Reply

-- the log words of an access, by its reply
abbrev pub reply_log : Reply → List ℕ
reply_log Reply.done = []
reply_log (Reply.word address value) = entry_of Purpose.Read address value
reply_log (Reply.stopped stop) = []

-- what is done, with the log words of the reads that it made
pub record Logged (Answer : Type 0) : Type 0 where
  pub result : Answer
  pub log : List ℕ

abbrev pub logged : {Answer : Type 0} → Answer → List ℕ → Logged Answer
logged result log = record { result = result; log = log }

-- the room for a log: there is none, or a buffer of so many words is lent
pub data Room : Type 0 where
  none : Room
  words : ℕ → Room

-- whether fewer than four log words are free, once so many are logged
abbrev pub is_full : Room → ℕ → Bool
is_full none count = false
is_full (words size) count = nat_lt (size - count) 4

-- which end of a run its log is, if it ends the run
abbrev pub end_by_log : Bool → LogEnd → Option LogEnd
end_by_log over why = if over then Some why else None

-- what becomes of the buffer, and how many log words it holds: without a log it stays as it is,
-- else the log stands at its front, and it is unchanged past it
pub record Written : Type 0 where
  pub count : ℕ
  pub buffer : List ℕ

abbrev pub written : ℕ → List ℕ → Written
written count buffer = record { count = count; buffer = buffer }

abbrev pub written_of : Room → List ℕ → List ℕ → Written
written_of none log buffer = written 0 buffer
written_of (words size) log buffer = written (length log) (log ++ drop (length log) buffer)
