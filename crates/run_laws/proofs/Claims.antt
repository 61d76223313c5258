-- Marks only grow and lengths never change, and a run is its steps.
use Rattle.std.specs.Prelude.{◌≡◌, ℕ, zero, suc, ◌+◌, List, [], ◌++◌, length, None}
use mathlib.Core.Path.{ap, ◌∙◌}
use lib.ListN.{length-replicate}
use borrow.Author.Tests.{eq-eqb}
use Rattle.execute.specs.Edition.{edition_of}
use Rattle.execute.specs.declared.edition.Edition.{Edition}
use Rattle.emulator.specs.Core.{is_halted}
use Rattle.memory.specs.Log.{Logged, Room}
use Rattle.memory.specs.Memory.{Memory, Kept}
use Rattle.memory.specs.Store.{memory_store}
use Rattle.emulator.specs.Machine.{Plan, plan_of, Turn, cycle_of, refusal_of, unmarked, step_of, Ran, is_stepped, next_of, Setting, full_in, plain, refusal_in, run_until, run_from, run_in, run_of}
use Rattle.emulator.specs.declared.core_record.Core.{Core}
use Rattle.memory.specs.declared.refusal.LogEnd.TheVariants.{Full}
use Rattle.instructions.proofs.Cases.{by_test}
use Rattle.emulator.proofs.Keeps.{kept_leads, cycle_keeps, step_keeps, run_leads}
use Rattle.emulator.proofs.Whole.{accepted_run}
use Rattle.run_laws.specs.Claims.{Keeping, after_step, steps_from, RunIsSteps}

-- an accepted run without a log is its turns from marks that are all 0
turns_of : (plan : Edition → Core → ℕ → Plan) (n : ℕ) (c : Core) (m : Memory) (limit : ℕ) → refusal_in (plain n) m ≡ 0
    → run_of plan c m n limit ≡ (run_from (memory_store None) (plan (edition_of n)) Room.none limit 0 c (unmarked m) []).result
turns_of plan n c m limit ok = ap (λ (r : Logged (Ran Memory)). r.result) (accepted_run plan (plain n) c m limit ok)

pub run_keeps : (plan : Edition → Core → ℕ → Plan) (given : Setting) (c : Core) (m : Memory) (limit : ℕ) → refusal_in given m ≡ 0
    → Kept (unmarked m) (run_in plan given c m limit).result.memory
run_keeps plan given c m limit ok =
    rw (accepted_run plan given c m limit ok)
    (run_leads (memory_store given.rights) (kept_leads given.rights) (plan (edition_of given.edition)) (full_in given.room) Full limit 0 c (unmarked m) [])

pub keeping : Keeping
keeping = record { step_keeps = step_keeps plan_of; run_keeps = run_keeps plan_of }

-- the host tests look at the lengths alone
refusal_kept : (given : Setting) {m m' : Memory} → Kept m m' → refusal_in given m' ≡ refusal_in given m
unfolding refusal_of
refusal_kept given k = rw (k.words_length, k.marks_length)

-- what follows a turn, with the log and without it
next_is_step : (more : Core → Memory → List ℕ → Logged (Ran Memory)) (steps : Core → Memory → Ran Memory) (n : ℕ) (l : List ℕ) (t : Logged (Turn Memory))
    → (more t.result.core t.result.memory (l ++ t.log)).result ≡ steps t.result.core t.result.memory
    → (next_of more n l t).result ≡ after_step steps n t.result
next_is_step more steps n l t h = by_test (is_stepped t.result.outcome) (λ e. rw e h) (λ e. rw e)

-- the turns of accepted memory are its steps, whatever is logged before
module _ (edition : ℕ) where
  abbrev plan : Core → ℕ → Plan
  plan = plan_of (edition_of edition)

  steps_run : (k n : ℕ) (c : Core) (m : Memory) (l : List ℕ) → refusal_in (plain edition) m ≡ 0
      → (run_from (memory_store None) plan Room.none k n c m l).result ≡ steps_from edition k n c m
  unfolding run_until steps_from step_of
  steps_run zero n c m l ok = by_test (is_halted c) (λ h. rw h) (λ h. rw h)
  steps_run (suc k) n c m l ok =
      let t = cycle_of (memory_store None) plan c m in
      by_test (is_halted c)
      (λ h. rw (eq-eqb (refusal_in (plain edition) m) 0 ok, h))
      (λ h. rw (eq-eqb (refusal_in (plain edition) m) 0 ok, h)
      (next_is_step (run_from (memory_store None) plan Room.none k (n + 1)) (steps_from edition k (n + 1)) n l t
      (steps_run k (n + 1) t.result.core t.result.memory (l ++ t.log) (refusal_kept (plain edition) (cycle_keeps None plan c m) ∙ ok))))

pub run_is_steps : RunIsSteps
unfolding refusal_of
run_is_steps edition c m most ok =
    turns_of plan_of edition c m most ok ∙ steps_run edition most 0 c (unmarked m) [] (rw (length-replicate {A = ℕ} (length m.marks) 0) ok)
