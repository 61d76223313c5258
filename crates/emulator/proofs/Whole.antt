-- Laws of the run, the logged run and the step: by their host tests, and as the turns of the loop.
use Rattle.std.specs.Prelude.{◌≡◌, ℕ, ◌+◌, List, [], length, replicate, Option, None}
use mathlib.Core.Path.{refl, sym, ap, ◌∙◌}
use native.Mathlib.Nat.{zero-add}
use native.Mathlib.Omega.{arith}
use borrow.Author.Tests.{eq-eqb, ne_eqb}
use Rattle.instructions.proofs.Cases.{by_test, if_elim}
use Rattle.execute.specs.Edition.{edition_of}
use Rattle.execute.specs.declared.edition.Edition.{Edition}
use Rattle.emulator.specs.Core.{is_halted}
use Rattle.memory.specs.Log.{Room, Logged, logged, is_full, written, words}
use Rattle.memory.specs.Memory.{Memory, lent}
use Rattle.memory.specs.Outcome.{Outcome, stepped, halted, limit, fault, refused, ended, refusal_number}
use Rattle.emulator.specs.Answers.{answer_of, end_of, uncounted, answered_of}
use Rattle.memory.specs.Store.{memory_store}
use Rattle.emulator.specs.Machine.{Plan, plan_of, Turn, turn, cycle_of, refusal_with, refusal_in, unmarked, step_of, Ran, ran, next_of, Setting, plain, unlogged, logging_in, run_until, run_from, RanLogged, ran_logged, in_buffer, run_in}
use Rattle.memory.specs.Parts.{Logs}
use Rattle.emulator.specs.declared.core_record.Answer.{Answer}
use Rattle.emulator.specs.declared.core_record.Core.{Core}
use Rattle.emulator.specs.declared.cycle.End.{End}
use Rattle.memory.specs.declared.refusal.LogEnd.{LogEnd}
use Rattle.memory.specs.declared.refusal.Refusal.{Refusal}
use Rattle.memory.proofs.Laws.{refuses}
use Rattle.memory.proofs.Logs.{logs_kept}
use Rattle.emulator.proofs.Runs.{cycle_elim}
use Rattle.emulator.proofs.Sizes.{run_fits}

-- what the loop left in memory and in the log stands in what was lent
pub relogged : (r : Memory → Ran Memory) (k : ℕ) {a b l a' b' l' : List ℕ} {x : RanLogged} → a' ≡ a → b' ≡ b → l' ≡ l
    → ran_logged (r (lent a b)) (written k l) ≡ x → ran_logged (r (lent a' b')) (written k l') ≡ x
relogged r k p q s e = rw (p, q, s) e

-- the turns of a logged run, and what they leave of the buffer
pub turns_logged : (b : List ℕ) (rights : Option (List ℕ)) (plan : Core → ℕ → Plan) (most : ℕ) (c : Core) (m : Memory) {b' : List ℕ} {k : ℕ} {r : Ran Memory}
    → r ≡ (run_until (memory_store rights) plan (λ l. is_full (words (length b)) (0 + length l)) LogEnd.Full most 0 c m []).result
    → Logs b 0 b' k (run_until (memory_store rights) plan (λ l. is_full (words (length b)) (0 + length l)) LogEnd.Full most 0 c m []).log
    → ran_logged r (written k b') ≡ in_buffer b (run_from (memory_store rights) plan (words (length b)) most 0 c m [])
turns_logged b rights plan most c m t h =
    let w = run_fits (memory_store rights) plan (length b) LogEnd.Full most 0 c m [] (omega arith) in
    rw (simp zero-add at t, logs_kept (simp zero-add at h) w) refl

-- an accepted run is its turns from marks that are all 0
pub accepted_run : (plan : Edition → Core → ℕ → Plan) (given : Setting) (c : Core) (m : Memory) (most : ℕ) → refusal_in given m ≡ 0
    → run_in plan given c m most ≡ run_from (memory_store given.rights) (plan (edition_of given.edition)) given.room most 0 c (unmarked m) []
unfolding run_in
accepted_run plan given c m most z = rw (eq-eqb (refusal_in given m) 0 z)

module _ (given : Setting) (c : Core) (mem ms : List ℕ) (most : ℕ) where
  refused_run : (r : Refusal) → refusal_number r ≡ refusal_in given (lent mem ms)
      → logged (ran (refused (refusal_number r)) 0 c (lent mem ms)) [] ≡ run_in plan_of given c (lent mem ms) most
  unfolding run_in
  refused_run r asked = rw (asked, ne_eqb (refusal_in given (lent mem ms)) 0 (refuses r asked))

  whole_run : 0 ≡ refusal_in given (lent mem ms) → {ed : Edition} → ed ≡ edition_of given.edition → {ms₀ : List ℕ} → ms₀ ≡ replicate (length ms) 0
      → run_from (memory_store given.rights) (plan_of ed) given.room most 0 c (lent mem ms₀) [] ≡ run_in plan_of given c (lent mem ms) most
  whole_run asked named cleared = rw (cleared, named, accepted_run plan_of given c (lent mem ms) most (sym asked))

-- the run and the logged run, with rights or without, by their host tests and their turns
module _ (rights : Option (List ℕ)) (n : ℕ) (c : Core) (mem ms : List ℕ) (most : ℕ) where
  module _ (r : Refusal) (asked : refusal_number r ≡ refusal_with rights n (lent mem ms)) where
    pub run_refused : ran (refused (refusal_number r)) 0 c (lent mem ms) ≡ (run_in plan_of (unlogged rights n) c (lent mem ms) most).result
    run_refused = ap (λ (x : Logged (Ran Memory)). x.result) (refused_run (unlogged rights n) c mem ms most r asked)

    pub logged_refused : (b : List ℕ)
        → ran_logged (ran (refused (refusal_number r)) 0 c (lent mem ms)) (written 0 b) ≡ in_buffer b (run_in plan_of (logging_in b rights n) c (lent mem ms) most)
    logged_refused b = ap (in_buffer b) (refused_run (logging_in b rights n) c mem ms most r asked)

  module _ (asked : 0 ≡ refusal_with rights n (lent mem ms)) {ed : Edition} (named : ed ≡ edition_of n) {ms₀ : List ℕ} (cleared : ms₀ ≡ replicate (length ms) 0) where
    pub run_accepted : {r : Ran Memory} → r ≡ (run_from (memory_store rights) (plan_of ed) Room.none most 0 c (lent mem ms₀) []).result
        → r ≡ (run_in plan_of (unlogged rights n) c (lent mem ms) most).result
    run_accepted t = t ∙ ap (λ (x : Logged (Ran Memory)). x.result) (whole_run (unlogged rights n) c mem ms most asked named cleared)

    pub logged_accepted : (b : List ℕ) {r : RanLogged} → r ≡ in_buffer b (run_from (memory_store rights) (plan_of ed) (words (length b)) most 0 c (lent mem ms₀) [])
        → r ≡ in_buffer b (run_in plan_of (logging_in b rights n) c (lent mem ms) most)
    logged_accepted b t = t ∙ ap (in_buffer b) (whole_run (logging_in b rights n) c mem ms most asked named cleared)

-- a cycle isn't ended by the limit
abbrev Settles : Outcome → Type 0
Settles o = uncounted o ≡ o

cycle_settled : (plan : Core → ℕ → Plan) (c : Core) (m : Memory) → Settles (cycle_of (memory_store None) plan c m).result.outcome
cycle_settled = cycle_elim Settles refl (λ n v. refl) (memory_store None)

-- what a step answers, of a run of at most one turn
abbrev answered_by : Ran Memory → Turn Memory
answered_by r = turn (answered_of r.steps r.end) r.core r.memory

once : (plan : Core → ℕ → Plan) (o : Outcome) (c : Core) (m : Memory) (l : List ℕ) → Settles o
    → answered_by (next_of (run_from (memory_store None) plan Room.none 0 1) 0 [] (logged (turn o c m) l)).result ≡ turn o c m
unfolding run_until
once plan stepped c m l e = if_elim (λ (r : Logged (Ran Memory)). answered_by r.result ≡ turn stepped c m) (is_halted c) (λ _. refl) (λ _. refl)
once plan halted c m l e = refl
once plan limit c m l e = ap (λ (o : Outcome). turn o c m) e
once plan (fault k v) c m l e = refl
once plan (refused k) c m l e = refl
once plan (ended k) c m l e = ap (λ (o : Outcome). turn o c m) e

step_once : (plan : Edition → Core → ℕ → Plan) (c : Core) (m : Memory) (n : ℕ) → refusal_in (plain n) m ≡ 0
    → answered_by (run_from (memory_store None) (plan (edition_of n)) Room.none 1 0 c m []).result ≡ step_of plan c m n
unfolding run_until step_of
step_once plan c m n ok =
    by_test (is_halted c)
    (λ h. rw (eq-eqb (refusal_in (plain n) m) 0 ok, h))
    (λ h. rw (eq-eqb (refusal_in (plain n) m) 0 ok, h) (once (plan (edition_of n)) t.result.outcome t.result.core t.result.memory t.log (cycle_settled (plan (edition_of n)) c m)))
  where
    t : Logged (Turn Memory)
    t = cycle_of (memory_store None) (plan (edition_of n)) c m

-- the step, by its host tests and the run of one turn
module _ (c : Core) (mem ms : List ℕ) (n : ℕ) where
  pub step_refused : (r : Refusal) → refusal_number r ≡ refusal_with None n (lent mem ms) → turn (refused (refusal_number r)) c (lent mem ms) ≡ step_of plan_of c (lent mem ms) n
  unfolding step_of
  step_refused r asked = rw (asked, ne_eqb (refusal_in (plain n) (lent mem ms)) 0 (refuses r asked))

  pub step_answered : (x : End) (a : Answer) {ed : Edition} {k : ℕ} {d : Core} {m' : Memory} → 0 ≡ refusal_with None n (lent mem ms) → ed ≡ edition_of n
      → ran (end_of x) k d m' ≡ (run_from (memory_store None) (plan_of ed) Room.none 1 0 c (lent mem ms) []).result
      → answer_of a ≡ answered_of k (end_of x) → turn (answer_of a) d m' ≡ step_of plan_of c (lent mem ms) n
  step_answered x a {d = d} {m' = m'} asked named run says =
      ap (λ (o : Outcome). turn o d m') says ∙ (ap answered_by (rw named at run) ∙ step_once plan_of c (lent mem ms) n (sym asked))
