-- Why and how a call is refused: by the first of its tests that fails, and with all that it was
-- given or lent left as it was (docs/NUMBERS.md, What is left unchanged).
use Rattle.std.specs.Prelude.{ℕ, ◌≡◌, List, [], ◌∷◌, length, Option, Some, None, IsSome, Result, Ok, Err}
use Rattle.memory.specs.Log.{written}
use Rattle.memory.specs.Memory.{Memory}
use Rattle.memory.specs.Outcome as outcome
use Rattle.memory.specs.Outcome.{Outcome}
use Rattle.emulator.specs.Core.{new_core}
use Rattle.emulator.specs.Machine.{plan_of, turn, step_of, ran, run_of, run_guarded_of, ran_logged, run_logged_of, run_logged_guarded_of}
use Rattle.emulator.specs.declared.core_record.Core.{Core}
use Rattle.replay.specs.Replay.{replayed, replay_of}
use Rattle.sheet.specs.Input.{input_of}
use Rattle.sheet.specs.Load.{left, load_words_of, load_sheet_of}
use Rattle.sheet.specs.Refusal.{sheet_refusal_number}
use Rattle.sheet.specs.Write.{wrote, write_sheet_of}
use Rattle.sheet.specs.declared.refusal.SheetRefusal.{SheetRefusal}
use Rattle.line.specs.Line.{refused_line, line_of}
use Rattle.refusal_laws.specs.Tests.{Test, first_failing, run_tests, replay_tests, words_tests, sheet_tests, write_tests, input_test, program_tests}

-- A call that makes these tests: it answers a refusal, the number of the first test that fails,
-- exactly where one fails, and then what it leaves is `unchanged`.
pub record RefusedBy {A : Type 0} (tests : List Test) (refusal : Option ℕ) (leaves unchanged : A) : Type 0 where
  pub number : refusal ≡ first_failing tests
  pub kept : IsSome refusal → leaves ≡ unchanged

-- the number of a refusal, if an outcome or an answer is one
abbrev pub outcome_refusal : Outcome → Option ℕ
outcome_refusal outcome.stepped = None
outcome_refusal outcome.halted = None
outcome_refusal outcome.limit = None
outcome_refusal (outcome.fault n v) = None
outcome_refusal (outcome.refused n) = Some n
outcome_refusal (outcome.ended n) = None

abbrev pub answer_refusal : {A : Type 0} → Result A SheetRefusal → Option ℕ
answer_refusal (Ok x) = None
answer_refusal (Err r) = Some (sheet_refusal_number r)

-- every call that can be refused, whatever it is given
pub record Refused : Type 0 where
  -- a step, a run and a replay hand back the core, memory and marks, 0 steps and the log's buffer
  pub step : (c : Core) (m : Memory) (edition : ℕ)
      → let t = step_of plan_of c m edition in
      RefusedBy (run_tests None edition m) (outcome_refusal t.outcome) t (turn t.outcome c m)
  pub run : (c : Core) (m : Memory) (edition limit : ℕ)
      → let r = run_of plan_of c m edition limit in
      RefusedBy (run_tests None edition m) (outcome_refusal r.end) r (ran r.end 0 c m)
  pub run_guarded : (c : Core) (m : Memory) (rights : List ℕ) (edition limit : ℕ)
      → let r = run_guarded_of plan_of c m rights edition limit in
      RefusedBy (run_tests (Some rights) edition m) (outcome_refusal r.end) r (ran r.end 0 c m)
  pub run_logged : (c : Core) (m : Memory) (edition limit : ℕ) (log : List ℕ)
      → let r = run_logged_of plan_of c m edition limit log in
      RefusedBy (run_tests None edition m) (outcome_refusal r.run.end) r (ran_logged (ran r.run.end 0 c m) (written 0 log))
  pub run_logged_guarded : (c : Core) (m : Memory) (rights : List ℕ) (edition limit : ℕ) (log : List ℕ)
      → let r = run_logged_guarded_of plan_of c m rights edition limit log in
      RefusedBy (run_tests (Some rights) edition m) (outcome_refusal r.run.end) r (ran_logged (ran r.run.end 0 c m) (written 0 log))
  pub replay : (rights : Option (List ℕ)) (edition : ℕ) (c : Core) (size limit : ℕ) (log : List ℕ)
      → let r = replay_of plan_of rights edition c size limit log in
      RefusedBy (replay_tests rights edition size) (outcome_refusal r.end) r (replayed r.end 0 c)
  -- a load leaves memory, and hands back a fresh core and edition 1
  pub load_words : (words mem : List ℕ)
      → let l = load_words_of words mem in
      RefusedBy (words_tests words (length mem)) (answer_refusal l.answer) l (left l.answer new_core 1 mem)
  pub load_sheet : (sheet mem : List ℕ)
      → let l = load_sheet_of sheet mem in
      RefusedBy (sheet_tests sheet (length mem)) (answer_refusal l.answer) l (left l.answer new_core 1 mem)
  -- the writer, and the reader of an input, leave the buffer
  pub write_sheet : (c : Core) (edition : ℕ) (mem sheet : List ℕ)
      → let w = write_sheet_of c edition mem sheet in
      RefusedBy (write_tests c edition mem (length sheet)) (answer_refusal w.answer) w (wrote w.answer sheet)
  pub records : (input out : List ℕ)
      → let w = input_of input out in
      RefusedBy (input_test input ∷ []) (answer_refusal w.answer) w (wrote w.answer out)

-- the program prints `refused` and that number, exactly where one of its tests fails
pub record RefusedLine : Type 0 where
  pub refused : (input : List ℕ) (n : ℕ) → first_failing (program_tests input) ≡ Some n → line_of input ≡ refused_line n
  pub accepted : (input : List ℕ) (n : ℕ) → first_failing (program_tests input) ≡ None → line_of input ≡ refused_line n → ⊥
