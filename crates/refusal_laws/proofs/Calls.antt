-- Every call but the load of a sheet is refused by the first of its tests that fails.
use Rattle.std.specs.Prelude.{ℕ, zero, suc, ◌+◌, ◌%◌, Bool, true, false, not, ◌||◌, eqb, ltb, List, [], ◌∷◌, ◌++◌, length, Option, Some, None, Result, Ok, Err, if◌then◌else◌}
use mathlib.Core.Path.{◌≡◌, refl, sym, ◌∙◌}
use Rattle.instructions.proofs.Cases.{by_test, if_elim}
use Rattle.std.proofs.lemmas.Bool.{true≢false}
use Rattle.execute.specs.Edition.{refused_edition, edition_of}
use Rattle.memory.specs.Log.{Logged, logged, Room, written}
use Rattle.memory.specs.Memory.{Memory, refused_length}
use Rattle.memory.specs.Outcome.{Outcome, refused}
use Rattle.memory.specs.Rights.{refused_rights, refused_bytes}
use Rattle.memory.specs.Store.{Store, memory_store}
use Rattle.memory.specs.declared.refusal.LogEnd.{LogEnd}
use Rattle.emulator.specs.Core.{new_core, is_halted}
use Rattle.emulator.specs.Machine.{Plan, plan_of, Turn, turn, cycle_of, unmarked, Ran, ran, is_stepped, then_test, refusal_of, refusal_with, Setting, unlogged, logging_in, full_in, run_until, run_from, run_in, ran_logged, in_buffer, step_of}
use Rattle.emulator.specs.declared.core_record.Core.{Core}
use Rattle.emulator.proofs.Runs.{cycle_elim}
use Rattle.replay.specs.Replay.{Tape, tape, tape_store, Replayed, replayed, same, replay_refusal, replay_of}
use Rattle.sheet.specs.Input.{records_of, input_records, put_in, input_of}
use Rattle.sheet.specs.Load.{Left, left, load_words_of}
use Rattle.sheet.specs.Write.{Wrote, wrote, sheet_of, write_sheet_of}
use Rattle.sheet.specs.declared.refusal.SheetRefusal.{SheetRefusal}
use Rattle.sheet.specs.declared.refusal.SheetRefusal.TheVariants.{Input}
use Rattle.refusal_laws.specs.Refused.{RefusedBy, outcome_refusal, answer_refusal}
use Rattle.refusal_laws.specs.Tests.{Test, test, first_failing, rights_tests, known_edition_test, run_tests, replay_tests, words_tests, write_tests, input_test}

-- What a call comes to, x, by what it answers and what it leaves.
module _ {A B : Type 0} (refusal : A → Option ℕ) (leaves unchanged : A → B) where
  abbrev Refuses : List Test → A → Type 0
  Refuses tests x = RefusedBy tests (refusal x) (leaves x) (unchanged x)

  -- it answers no refusal where no test fails
  no_refusal : (tests : List Test) {x : A} → first_failing tests ≡ None → refusal x ≡ None → Refuses tests x
  no_refusal tests first e = record { number = e ∙ sym first; kept = λ some. absurd (true≢false (sym (rw e at some))) }

  -- it answers the number of the first test that fails, and leaves all unchanged
  a_refusal : (tests : List Test) {n : ℕ} {x : A} → first_failing tests ≡ Some n → refusal x ≡ Some n → leaves x ≡ unchanged x
      → Refuses tests x
  a_refusal tests first e kept = record { number = e ∙ sym first; kept = λ _. kept }

  -- it makes its tests one after another: where none is left, it refuses nothing
  no_test : {x : A} → refusal x ≡ None → Refuses [] x
  unfolding first_failing
  no_test e = no_refusal [] refl e

  -- where a test fails, it answers that test's number; else it makes those after it
  one_test : (n : ℕ) (fails : Bool) {rest : List Test} {x y : A} → refusal x ≡ Some n → leaves x ≡ unchanged x → Refuses rest y
      → Refuses (test n fails ∷ rest) (if fails then x else y)
  unfolding first_failing
  one_test n true {rest} e kept after = a_refusal (test n true ∷ rest) refl e kept
  one_test n false e kept after = record { number = after.number; kept = after.kept }

  -- it makes its tests first, and they come to one number k, which is 0 where none fails
  by_number : (tests : List Test) (k : ℕ) {x y : A} → first_failing tests ≡ (if eqb k 0 then None else Some k) → refusal x ≡ None
      → refusal y ≡ Some k → leaves y ≡ unchanged y → Refuses tests (if eqb k 0 then x else y)
  by_number tests k told passed e kept =
      if_elim (Refuses tests) (eqb k 0) (λ z. no_refusal tests (rw z at told) passed) (λ z. a_refusal tests (rw z at told) e kept)

-- what a call leaves, where that is all it comes to
abbrev itself : {A : Type 0} → A → A
itself x = x

-- The load of a word list, the writer and the reader of an input.

-- a load's refusal, and what it leaves where memory is unchanged
abbrev load_refusal : Left → Option ℕ
load_refusal l = answer_refusal l.answer

abbrev with_memory : List ℕ → Left → Left
with_memory mem l = left l.answer new_core 1 mem

-- a write's refusal, and what it leaves where the buffer is unchanged
abbrev write_refusal : Wrote → Option ℕ
write_refusal w = answer_refusal w.answer

abbrev with_buffer : List ℕ → Wrote → Wrote
with_buffer buffer w = wrote w.answer buffer

-- a word list: 1, then 3
pub load_words : (words mem : List ℕ)
    → let l = load_words_of words mem in
    RefusedBy (words_tests words (length mem)) (answer_refusal l.answer) l (left l.answer new_core 1 mem)
unfolding load_words_of
load_words words mem =
    one_test load_refusal itself (with_memory mem) 1 (refused_length (length mem)) refl refl
    (one_test load_refusal itself (with_memory mem) 3 (ltb (length mem) (length words)) refl refl
    (no_test load_refusal itself (with_memory mem) refl))

-- the writer: 1, then 34, then 4
pub write_sheet : (c : Core) (edition : ℕ) (mem sheet : List ℕ)
    → let w = write_sheet_of c edition mem sheet in
    RefusedBy (write_tests c edition mem (length sheet)) (answer_refusal w.answer) w (wrote w.answer sheet)
unfolding write_sheet_of
write_sheet c edition mem sheet =
    one_test write_refusal itself (with_buffer sheet) 1 (refused_length (length mem)) refl refl
    (one_test write_refusal itself (with_buffer sheet) 34 (refused_edition edition) refl refl
    (one_test write_refusal itself (with_buffer sheet) 4 (ltb (length sheet) (length (sheet_of c edition mem))) refl refl
    (no_test write_refusal itself (with_buffer sheet) refl)))

-- an input is refused by its one test
by_one_test : (input : List ℕ)
    → input_records input ≡ (if not (eqb (length input % 4) 0) || ltb 32768 (length input) then Err Input else Ok (records_of input))
unfolding input_records
by_one_test input = by_test (eqb (length input % 4) 0) (λ e. rw e refl) (λ e. rw e refl)

-- the reader of an input: 27
pub records : (input out : List ℕ)
    → let w = input_of input out in
    RefusedBy (input_test input ∷ []) (answer_refusal w.answer) w (wrote w.answer out)
records input out =
    rw (by_one_test input)
    (one_test puts_refusal puts (λ r. with_buffer out (puts r)) 27 (not (eqb (length input % 4) 0) || ltb 32768 (length input)) refl refl
    (no_test puts_refusal puts (λ r. with_buffer out (puts r)) {x = Ok (records_of input)} refl))
  where
    puts : Result (List ℕ) SheetRefusal → Wrote
    puts r = put_in r out

    puts_refusal : Result (List ℕ) SheetRefusal → Option ℕ
    puts_refusal r = write_refusal (puts r)

-- The number that the tests of a run and of a replay come to.

-- a test after others that come to k
next_number : (k n : ℕ) (fails : Bool) (rest : List Test) → eqb n 0 ≡ false
    → (if eqb k 0 then first_failing (test n fails ∷ rest) else Some k)
    ≡ (if eqb (then_test k fails n) 0 then first_failing rest else Some (then_test k fails n))
unfolding first_failing
next_number k n true rest e = by_test (eqb k 0) (λ z. rw (z, e) refl) (λ z. simp z refl)
next_number k n false rest e = refl

-- the tests of rights and edition after them
last_number : (rights : Option (List ℕ)) (edition k : ℕ)
    → (if eqb k 0 then first_failing (rights_tests rights ++ known_edition_test edition ∷ []) else Some k)
    ≡ (let j = then_test (then_test k (refused_bytes rights) 32) (refused_edition edition) 34 in if eqb j 0 then None else Some j)
unfolding first_failing
last_number None edition k = next_number k 34 (refused_edition edition) [] refl
last_number (Some bytes) edition k =
    next_number k 32 (refused_rights bytes) (known_edition_test edition ∷ []) refl
    ∙ next_number (then_test k (refused_rights bytes) 32) 34 (refused_edition edition) [] refl

-- all tests of a run
pub run_number : (rights : Option (List ℕ)) (edition : ℕ) (m : Memory)
    → first_failing (run_tests rights edition m)
    ≡ (if eqb (refusal_with rights edition m) 0 then None else Some (refusal_with rights edition m))
unfolding first_failing refusal_of
run_number rights edition m =
    by_test (refused_length (length m.words))
    (λ a. rw a (last_number rights edition 1))
    (λ a. by_test (eqb (length m.marks) (length m.words))
    (λ b. rw (a, b) (last_number rights edition 0))
    (λ b. rw (a, b) (last_number rights edition 2)))

-- all tests of a replay, which are those of a run without the marks
replay_number : (rights : Option (List ℕ)) (edition size : ℕ)
    → first_failing (replay_tests rights edition size)
    ≡ (if eqb (replay_refusal rights edition size) 0 then None else Some (replay_refusal rights edition size))
unfolding first_failing
replay_number rights edition size =
    by_test (refused_length size) (λ a. rw a (last_number rights edition 1)) (λ a. rw a (last_number rights edition 0))

-- What its tests accept isn't refused later: a cycle steps or faults, and a run ends by halt, by
-- the limit, by its log or by a fault.
abbrev Accepted : Outcome → Type 0
Accepted o = outcome_refusal o ≡ None

module _ {S : Type 0} (on : Store S) (plan : Core → ℕ → Plan) where
  cycle_accepted : (c : Core) (m : S) → Accepted (cycle_of on plan c m).result.outcome
  cycle_accepted = cycle_elim Accepted refl (λ n v. refl) on plan

  abbrev EndAccepted : Logged (Ran S) → Type 0
  EndAccepted r = Accepted r.result.end

  -- nor is the end of any turns
  turns_accepted : (over : List ℕ → Bool) (why : LogEnd) (k n : ℕ) (c : Core) (m : S) (l : List ℕ)
      → EndAccepted (run_until on plan over why k n c m l)
  unfolding run_until
  turns_accepted over why zero n c m l = if_elim EndAccepted (is_halted c) (λ _. refl) (λ _. refl)
  turns_accepted over why (suc k) n c m l =
      if_elim EndAccepted (is_halted c) (λ _. refl)
      (λ _. if_elim EndAccepted (over l) (λ _. refl)
      (λ _. if_elim EndAccepted (is_stepped t.result.outcome)
      (λ _. turns_accepted over why k (n + 1) t.result.core t.result.memory (l ++ t.log))
      (λ _. cycle_accepted c m)))
    where
      t : Logged (Turn S)
      t = cycle_of on plan c m

-- A step, the runs and a replay.

-- a step is refused, or of a halted core, or a cycle
pub step : (c : Core) (m : Memory) (edition : ℕ)
    → let t = step_of plan_of c m edition in
    RefusedBy (run_tests None edition m) (outcome_refusal t.outcome) t (turn t.outcome c m)
unfolding step_of
step c m edition =
    by_number step_refusal itself (λ t. turn t.outcome c m) (run_tests None edition m) (refusal_with None edition m) (run_number None edition m)
    (if_elim (λ (t : Turn Memory). Accepted t.outcome) (is_halted c) (λ _. refl)
    (λ _. cycle_accepted (memory_store None) (plan_of (edition_of edition)) c m))
    refl refl
  where
    step_refusal : Turn Memory → Option ℕ
    step_refusal t = outcome_refusal t.outcome

-- a run in any setting, seen through what it leaves, where that is unchanged of a refused run
module _ {A : Type 0} (leaves unchanged : Logged (Ran Memory) → A) (c : Core) (m : Memory)
    (kept : (n : ℕ) → let r = logged (ran (refused n) 0 c m) [] in leaves r ≡ unchanged r) where
  any_run : (given : Setting) (up_to : ℕ)
      → let r = run_in plan_of given c m up_to in
      RefusedBy (run_tests given.rights given.edition m) (outcome_refusal r.result.end) (leaves r) (unchanged r)
  unfolding run_in
  any_run given up_to =
      let k = refusal_with given.rights given.edition m in
      by_number (λ r. outcome_refusal r.result.end) leaves unchanged (run_tests given.rights given.edition m) k (run_number given.rights given.edition m)
      (turns_accepted (memory_store given.rights) (plan_of (edition_of given.edition)) (full_in given.room) LogEnd.Full up_to 0 c (unmarked m) [])
      refl (kept k)

-- a run without a log
pub plain_run : (c : Core) (m : Memory) (rights : Option (List ℕ)) (edition up_to : ℕ)
    → let r = (run_in plan_of (unlogged rights edition) c m up_to).result in
    RefusedBy (run_tests rights edition m) (outcome_refusal r.end) r (ran r.end 0 c m)
plain_run c m rights edition up_to = any_run (λ r. r.result) (λ r. ran r.result.end 0 c m) c m (λ n. refl) (unlogged rights edition) up_to

-- and with one
pub logged_run : (c : Core) (m : Memory) (rights : Option (List ℕ)) (edition up_to : ℕ) (log : List ℕ)
    → let r = in_buffer log (run_in plan_of (logging_in log rights edition) c m up_to) in
    RefusedBy (run_tests rights edition m) (outcome_refusal r.run.end) r (ran_logged (ran r.run.end 0 c m) (written 0 log))
logged_run c m rights edition up_to log =
    any_run (in_buffer log) (λ r. ran_logged (ran r.result.end 0 c m) (written 0 log)) c m (λ n. refl) (logging_in log rights edition) up_to

-- a replay that its tests accept ends as its run, or by 31
pub replay : (rights : Option (List ℕ)) (edition : ℕ) (c : Core) (size up_to : ℕ) (log : List ℕ)
    → let r = replay_of plan_of rights edition c size up_to log in
    RefusedBy (replay_tests rights edition size) (outcome_refusal r.end) r (replayed r.end 0 c)
unfolding replay_of
replay rights edition c size up_to log =
    by_number (λ r. outcome_refusal r.end) itself (λ r. replayed r.end 0 c) (replay_tests rights edition size) (replay_refusal rights edition size)
    (replay_number rights edition size)
    (if_elim (λ (r : Replayed). Accepted r.end) (same turns.log log) (λ _. accepted) (λ _. refl))
    refl refl
  where
    turns : Logged (Ran Tape)
    turns = run_from (tape_store rights) (plan_of (edition_of edition)) Room.none up_to 0 c (tape size log) []

    accepted : Accepted turns.result.end
    accepted = turns_accepted (tape_store rights) (plan_of (edition_of edition)) (full_in Room.none) LogEnd.Full up_to 0 c (tape size log) []
