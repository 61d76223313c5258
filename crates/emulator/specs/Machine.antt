-- The machine: one step, and the run, with its log, its rights and its edition. What an instruction
-- does, what an access does and what a run does stand apart: an access and a run see an instruction
-- only through its plan. The same stands in words in docs/MACHINE.md, One step and The run, and the
-- host tests of both in docs/NUMBERS.md, The order of the tests.
use Rattle.std.specs.Prelude.{ℕ, zero, suc, ◌+◌, Bool, true, false, List, [], ◌++◌, length, replicate, ◌==◌, nat_eq, if◌then◌else◌, Option, Some, None, Result, Ok, Err}
use Rattle.instructions.specs.Decoding.{decode_of}
use Rattle.instructions.specs.declared.ins.Instruction.{Instruction}
use Rattle.instructions.specs.declared.ins.encoding.Undecodable.{Undecodable}
use Rattle.instructions.specs.declared.reg.GeneralPurposeRegister.{GeneralPurposeRegister}
use Rattle.instructions.specs.declared.reg.SpecialPurposeRegister.TheVariants.{IP, RP, SP, EF}
use Rattle.execute.specs.Edition.{refused_edition, edition_of}
use Rattle.execute.specs.Execute.{execute_of}
use Rattle.execute.specs.Registers.{registers}
use Rattle.execute.specs.Word.{add_word, sub_word}
use Rattle.execute.specs.declared.edition.Edition.{Edition}
use Rattle.execute.specs.declared.effect.Effect.{Effect}
use Rattle.execute.specs.declared.effect.Effect.TheVariants as effects
use Rattle.emulator.specs.Core.{write_gpr, write_spr, is_halted}
use Rattle.memory.specs.Log.{read_log, Reply, reply_log, Logged, logged, Room, words, is_full, Written, written_of}
use Rattle.memory.specs.Memory.{Memory, lent, refused_length, Accessed, accessed}
use Rattle.memory.specs.Rights.{refused_bytes}
use Rattle.memory.specs.Store.{Store, memory_store}
use Rattle.memory.specs.Outcome.{Outcome, stepped, halted, limit, fault, refused, ended, stop_of, refusal_number, log_end_number}
use Rattle.emulator.specs.declared.core_record.Core.{Core}
use Rattle.memory.specs.declared.log.Purpose.{Purpose}
use Rattle.memory.specs.declared.refusal.Refusal.{Refusal}
use Rattle.memory.specs.declared.refusal.LogEnd.{LogEnd}
use Rattle.memory.specs.declared.refusal.LogEnd.TheVariants.{Full}
use Rattle.memory.specs.declared.stop.Stop.{Stop}
use Rattle.memory.specs.declared.stop.Stop.TheVariants as stops

-- What an instruction does (docs/MACHINE.md, Instructions).

-- the access that an instruction leaves to be made: none, a load from an address to a register,
-- after which sp rises, a store of a word to an address, or a stop
pub data Access : Type 0 where
  none : Access
  load : ℕ → GeneralPurposeRegister → ℕ → Access
  store : ℕ → ℕ → Access
  stop : Stop → Access

-- what becomes of the registers before that access
abbrev pub after_of : Core → Effect → Core
after_of core effects.None = core
after_of core (effects.Gpr register value) = write_gpr core register value
after_of core (effects.Ip value) = write_spr core IP value
after_of core (effects.Rp value) = write_spr core RP value
after_of core (effects.Sp value) = write_spr core SP value
after_of core (effects.Ef value) = write_spr core EF value
after_of core (effects.Call address) = write_spr (write_spr core RP core.ip) IP address
after_of core (effects.Load address register raise) = core
after_of core (effects.Store address value lower) = write_spr core SP (sub_word core.sp lower)
after_of core (effects.Decimal word) = core
after_of core (effects.Amount amount) = core
after_of core (effects.Negation value) = core

abbrev pub access_of : Effect → Access
access_of effects.None = none
access_of (effects.Gpr register value) = none
access_of (effects.Ip value) = none
access_of (effects.Rp value) = none
access_of (effects.Sp value) = none
access_of (effects.Ef value) = none
access_of (effects.Call address) = none
access_of (effects.Load address register raise) = load address register raise
access_of (effects.Store address value lower) = store address value
access_of (effects.Decimal word) = stop (stops.Decimal word)
access_of (effects.Amount amount) = stop (stops.Amount amount)
access_of (effects.Negation value) = stop (stops.Negation value)

-- the registers after an instruction, and its access
pub record Plan : Type 0 where
  pub core : Core
  pub access : Access

abbrev pub planned : Core → Access → Plan
planned core access = record { core = core; access = access }

abbrev pub decoded_plan : Edition → Core → ℕ → Result Instruction Undecodable → Plan
decoded_plan edition core word (Ok instruction) =
    let effect = execute_of edition (registers core.gprs core.ip core.rp core.sp core.ef) instruction word in
    planned (after_of core effect) (access_of effect)
decoded_plan edition core word (Err undecodable) = planned core (stop (stops.Undecodable undecodable.word))

-- decode, execute: the plan of a word in an edition, once ip is advanced
unfoldable pub plan_of : Edition → Core → ℕ → Plan
plan_of edition core word = decoded_plan edition core word (decode_of word)

-- what a reply to its access makes of it: the outcome, and the registers
pub record Settled : Type 0 where
  pub outcome : Outcome
  pub core : Core

abbrev pub settled : Outcome → Core → Settled
settled outcome core = record { outcome = outcome; core = core }

-- a word loaded into a register, after which sp rises
abbrev pub loaded : Core → GeneralPurposeRegister → ℕ → ℕ → Core
loaded core register raise word = write_spr (write_gpr core register word) SP (add_word core.sp raise)

-- a load is replied to by a word, with the address that it was read at, or a stop, a store by done
-- or a stop
abbrev pub settle_of : Core → Access → Reply → Settled
settle_of core none reply = settled stepped core
settle_of core (load address register raise) Reply.done = settled stepped core
settle_of core (load address register raise) (Reply.word source word) = settled stepped (loaded core register raise word)
settle_of core (load address register raise) (Reply.stopped reason) = settled (stop_of reason) core
settle_of core (store address value) Reply.done = settled stepped core
settle_of core (store address value) (Reply.word source word) = settled stepped core
settle_of core (store address value) (Reply.stopped reason) = settled (stop_of reason) core
settle_of core (stop reason) reply = settled (stop_of reason) core

-- The access made. What it comes to is said in the crate `memory`.

abbrev pub read_reply : ℕ → Result ℕ Stop → Reply
read_reply address (Ok word) = Reply.word address word
read_reply address (Err reason) = Reply.stopped reason

abbrev pub write_reply : Result (Unit {0}) Stop → Reply
write_reply (Ok unit) = Reply.done
write_reply (Err reason) = Reply.stopped reason

abbrev pub replied : {Medium Answer : Type 0} → (Answer → Reply) → Accessed Medium Answer → Accessed Medium Reply
replied reply made = accessed (reply made.answer) made.memory

-- the access made, in the storage that a run has: memory, or what stands in its place
abbrev pub make_of : {Medium : Type 0} → Store Medium → Access → Medium → Accessed Medium Reply
make_of storage none memory = accessed Reply.done memory
make_of storage (load address register raise) memory =
    replied (read_reply address) (storage.read memory Purpose.Read address)
make_of storage (store address value) memory = replied write_reply (storage.write memory address value)
make_of storage (stop reason) memory = accessed Reply.done memory

-- What a step and a run do (docs/MACHINE.md, One step and The run).

-- what a step leaves: how it came out, the core, and memory
pub record Turn (Medium : Type 0) : Type 0 where
  pub outcome : Outcome
  pub core : Core
  pub memory : Medium

abbrev pub turn : {Medium : Type 0} → Outcome → Core → Medium → Turn Medium
turn outcome core memory = record { outcome = outcome; core = core; memory = memory }

-- the plan carried out: its access is made, and settled by the reply
abbrev pub settled_turn : {Medium : Type 0} → Plan → Accessed Medium Reply → Logged (Turn Medium)
settled_turn plan made =
    let after = settle_of plan.core plan.access made.answer in
    logged (turn after.outcome after.core made.memory) (reply_log made.answer)

abbrev pub carry_out : {Medium : Type 0} → Store Medium → Plan → Medium → Logged (Turn Medium)
carry_out storage plan memory = settled_turn plan (make_of storage plan.access memory)

-- after a fetch: the plan of the word; a fetch that stops leaves the core as it is
abbrev pub on_fetch : {Medium : Type 0} → (ℕ → Medium → Logged (Turn Medium)) → Core → Medium → Result ℕ Stop → Logged (Turn Medium)
on_fetch more core memory (Ok word) = more word memory
on_fetch more core memory (Err reason) = logged (turn (stop_of reason) core memory) []

abbrev pub after_fetch : {Medium : Type 0} → (ℕ → Medium → Logged (Turn Medium)) → Core → Accessed Medium (Result ℕ Stop) → Logged (Turn Medium)
after_fetch more core fetched =
    let rest = on_fetch more core fetched.memory fetched.answer in
    logged rest.result (read_log Purpose.Fetch core.ip fetched.answer ++ rest.log)

-- ip + 1
abbrev pub advanced : Core → Core
advanced core = write_spr core IP (add_word core.ip 1)

-- the host tests of memory and marks, in number order: 1, memory length not 1..65,536; 2, marks
-- length differs from it; 0, neither refuses
unfoldable pub refusal_of : Memory → ℕ
refusal_of memory =
    if refused_length (length memory.words)
    then 1
    else (if nat_eq (length memory.marks) (length memory.words) then 0 else 2)

-- the code's answer to 34
abbrev pub edition_test : ℕ → Result Edition Refusal
edition_test number = if refused_edition number then Err Refusal.Edition else Ok (edition_of number)

-- the number by the code's answer
abbrev pub test_number : {Answer : Type 0} → Result Answer Refusal → ℕ
test_number (Ok answer) = 0
test_number (Err refusal) = refusal_number refusal

-- what a run leaves: its end, the steps counted, the core, and memory
pub record Ran (Medium : Type 0) : Type 0 where
  pub end : Outcome
  pub steps : ℕ
  pub core : Core
  pub memory : Medium

abbrev pub ran : {Medium : Type 0} → Outcome → ℕ → Core → Medium → Ran Medium
ran outcome steps core memory = record { end = outcome; steps = steps; core = core; memory = memory }

abbrev pub is_stepped : Outcome → Bool
is_stepped stepped = true
is_stepped halted = false
is_stepped limit = false
is_stepped (fault number value) = false
is_stepped (refused number) = false
is_stepped (ended number) = false

-- after a turn, whose log words follow those of the turns before it: more turns if it stepped, else
-- the end, and the turn isn't counted. A branch stands in a `let` so that it is computed only where
-- it is taken; so in the run.
abbrev pub next_of : {Medium : Type 0} → (Core → Medium → List ℕ → Logged (Ran Medium)) → ℕ → List ℕ → Logged (Turn Medium) → Logged (Ran Medium)
next_of more steps log made =
    let after = made.result in
    let rest = more after.core after.memory (log ++ made.log) in
    if is_stepped after.outcome then rest else logged (ran after.outcome steps after.core after.memory) (log ++ made.log)

-- what a run is given besides its core, memory and limit: the room for its log, the rights bytes,
-- if any, and the number of the edition
pub record Setting : Type 0 where
  pub room : Room
  pub rights : Option (List ℕ)
  pub edition : ℕ

abbrev pub setting : Room → Option (List ℕ) → ℕ → Setting
setting room rights edition = record { room = room; rights = rights; edition = edition }

-- no log, with rights bytes or without; no log and no rights; and a log that is kept in a buffer
abbrev pub unlogged : Option (List ℕ) → ℕ → Setting
unlogged = setting Room.none

abbrev pub plain : ℕ → Setting
plain = unlogged None

abbrev pub logging_in : List ℕ → Option (List ℕ) → ℕ → Setting
logging_in buffer = setting (words (length buffer))

-- a host test is made where those before it refuse nothing (it is asked first here, so that where
-- there is nothing to test, `before` is left)
abbrev pub then_test : ℕ → Bool → ℕ → ℕ
then_test before refuses number = if refuses then (if before == 0 then number else before) else before

-- the host tests of a run: those of memory and marks, then 32, then 34
abbrev pub refusal_with : Option (List ℕ) → ℕ → Memory → ℕ
refusal_with rights edition memory =
    then_test (then_test (refusal_of memory) (refused_bytes rights) 32) (refused_edition edition) 34

abbrev pub refusal_in : Setting → Memory → ℕ
refusal_in given = refusal_with given.rights given.edition

-- whether a log is full in its room
abbrev pub full_in : Room → List ℕ → Bool
full_in room log = is_full room (length log)

-- the machine, over what stands for memory and what a word is planned to do
module _ {Medium : Type 0} (storage : Store Medium) (plan : Core → ℕ → Plan) where
  -- fetch at ip, add 1 to ip, decode, execute, make the access
  unfoldable pub cycle_of : Core → Medium → Logged (Turn Medium)
  cycle_of core memory =
      after_fetch (λ word. carry_out storage (plan (advanced core) word)) core (storage.read memory Purpose.Fetch core.ip)

  -- the run from a core, with so many steps left before the limit, so many counted and so much
  -- logged: halt first, then the limit, then whether the log is over, which is the end of that
  -- name, then a step
  unfoldable pub run_until : (List ℕ → Bool) → LogEnd → ℕ → ℕ → Core → Medium → List ℕ → Logged (Ran Medium)
  run_until over why zero steps core memory log =
      if is_halted core
      then logged (ran halted steps core memory) log
      else logged (ran limit steps core memory) log
  run_until over why (suc left) steps core memory log =
      let rest = next_of (run_until over why left (steps + 1)) steps log (cycle_of core memory) in
      if is_halted core
      then logged (ran halted steps core memory) log
      else (if over log then logged (ran (ended (log_end_number why)) steps core memory) log else rest)

  -- the run with so much room for its log, which is over where that is full
  abbrev pub run_from : Room → ℕ → ℕ → Core → Medium → List ℕ → Logged (Ran Medium)
  run_from room = run_until (full_in room) Full

-- what a run leaves with a buffer lent for its log: the number of log words, and the buffer
pub record RanLogged : Type 0 where
  pub run : Ran Memory
  pub log : Written

abbrev pub ran_logged : Ran Memory → Written → RanLogged
ran_logged run log = record { run = run; log = log }

abbrev pub in_buffer : List ℕ → Logged (Ran Memory) → RanLogged
in_buffer buffer made = ran_logged made.result (written_of (words (length buffer)) made.log buffer)

-- all marks 0
abbrev pub unmarked : Memory → Memory
unmarked memory = lent memory.words (replicate (length memory.marks) 0)

module _ (plan : Edition → Core → ℕ → Plan) where
  -- one step: a refused one, and one of a halted core, changes nothing
  unfoldable pub step_of : Core → Memory → ℕ → Turn Memory
  step_of core memory edition =
      if refusal_in (plain edition) memory == 0
      then (if is_halted core then turn halted core memory else (cycle_of (memory_store None) (plan (edition_of edition)) core memory).result)
      else turn (refused (refusal_in (plain edition) memory)) core memory

  -- the run in a setting: the host tests, then all marks 0, then the turns
  unfoldable pub run_in : Setting → Core → Memory → ℕ → Logged (Ran Memory)
  run_in given core memory up_to =
      if refusal_in given memory == 0
      then run_from (memory_store given.rights) (plan (edition_of given.edition)) given.room up_to 0 core (unmarked memory) []
      else logged (ran (refused (refusal_in given memory)) 0 core memory) []

  -- the run without a log, and the same with rights
  abbrev pub run_of : Core → Memory → ℕ → ℕ → Ran Memory
  run_of core memory edition up_to = (run_in (plain edition) core memory up_to).result

  abbrev pub run_guarded_of : Core → Memory → List ℕ → ℕ → ℕ → Ran Memory
  run_guarded_of core memory rights edition up_to =
      (run_in (unlogged (Some rights) edition) core memory up_to).result

  -- the run with a buffer lent for its log, and the same with rights
  abbrev pub run_logged_of : Core → Memory → ℕ → ℕ → List ℕ → RanLogged
  run_logged_of core memory edition up_to buffer =
      in_buffer buffer (run_in (logging_in buffer None edition) core memory up_to)

  abbrev pub run_logged_guarded_of : Core → Memory → List ℕ → ℕ → ℕ → List ℕ → RanLogged
  run_logged_guarded_of core memory rights edition up_to buffer =
      in_buffer buffer (run_in (logging_in buffer (Some rights) edition) core memory up_to)
