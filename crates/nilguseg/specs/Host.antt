-- What a host sees of a call, in the layout of include/nilguseg.h: a number, and lists of numbers
-- that it lent. The stops and refusals in it have the numbers of docs/NUMBERS.md.
use Rattle.std.specs.Prelude.{ℕ, Result, Ok, Err, ◌+◌, ◌*◌, ◌^◌, List, [], ◌∷◌, ◌++◌, take, slice_index}
use Rattle.emulator.specs.declared.core_record.Core.{Core}
use Rattle.emulator.specs.Core.{core_of}
use Rattle.memory.specs.Memory.{Memory}
use Rattle.emulator.specs.Machine.{Turn, Ran}
use Rattle.memory.specs.Outcome as machine
use Rattle.sheet.specs.declared.refusal.SheetRefusal.{SheetRefusal}
use Rattle.sheet.specs.Refusal.{sheet_refusal_number}
use Rattle.sheet.specs.Load.{Left}
use Rattle.sheet.specs.Write.{Wrote}
use Rattle.std.specs.declared.cmp.Ordering.{Ordering}
use Rattle.order.specs.declared.Part.{Part}

-- the core record as twelve words: r0 to r7, ip, rp, sp, ef, which the header's struct
-- `nilguseg_core` names
abbrev pub core_from : List ℕ → Core
core_from words = core_of (take 8 words) (slice_index words 8) (slice_index words 9) (slice_index words 10) (slice_index words 11)

abbrev pub words_of : Core → List ℕ
words_of core = core.gprs ++ core.ip ∷ core.rp ∷ core.sp ∷ core.ef ∷ []

-- how a call came out in bits 31..24, the stop's number in bits 23..16, its value in bits 15..0
abbrev pub answered : ℕ → ℕ → ℕ → ℕ
answered how number value = how * 2 ^ 24 + number * 2 ^ 16 + value

-- one numbering for a step and for a run; 6 and above are free for more ends
abbrev pub outcome_number : machine.Outcome → ℕ
outcome_number machine.stepped = answered 0 0 0
outcome_number machine.halted = answered 1 0 0
outcome_number machine.limit = answered 2 0 0
outcome_number (machine.fault number value) = answered 3 number value
outcome_number (machine.refused number) = answered 4 number 0
outcome_number (machine.ended number) = answered 5 number 0

-- a load: 0 for what is done, or the number of the refusal
abbrev pub loaded_number : Result (Unit {0}) SheetRefusal → ℕ
loaded_number (Ok done) = 0
loaded_number (Err refusal) = sheet_refusal_number refusal

-- a written sheet: the number of records, or that of the refusal from bit 32 on
abbrev pub written_number : Result ℕ SheetRefusal → ℕ
written_number (Ok count) = count
written_number (Err refusal) = sheet_refusal_number refusal * 2 ^ 32

-- a comparison: which of two lists comes first
abbrev pub order_number : Ordering → ℕ
order_number Ordering.Equal = 0
order_number Ordering.Less = 1
order_number Ordering.Greater = 2

-- what a call leaves: its answer, and what each list that it may change holds, in the order of the
-- parameters
pub record Call : Type 0 where
  pub answer : ℕ
  pub lists : List (List ℕ)

abbrev pub call : ℕ → List (List ℕ) → Call
call answer lists = record { answer = answer; lists = lists }

abbrev pub step_call : Turn Memory → Call
step_call turn = call (outcome_number turn.outcome) (words_of turn.core ∷ turn.memory.words ∷ turn.memory.marks ∷ [])

-- what a run leaves: its end from bit 32 on and the steps in bits 31..0, and the core before the
-- other lists
abbrev pub ended_call : machine.Outcome → ℕ → Core → List (List ℕ) → Call
ended_call end steps core others = call (outcome_number end * 2 ^ 32 + steps) (words_of core ∷ others)

abbrev pub run_call : Ran Memory → Call
run_call ran = ended_call ran.end ran.steps ran.core (ran.memory.words ∷ ran.memory.marks ∷ [])

abbrev pub load_call : Left → Call
load_call left = call (loaded_number left.answer) (words_of left.core ∷ (left.edition ∷ []) ∷ left.memory ∷ [])

abbrev pub write_call : Wrote → Call
write_call wrote = call (written_number wrote.answer) (wrote.buffer ∷ [])

-- the part of the earlier list: the order, and the place from which on it is
abbrev pub part_call : Part → Call
part_call part = call (order_number part.order) ((part.from ∷ []) ∷ [])
