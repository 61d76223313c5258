-- What the limit, halt and a fault mean for the end of a run, and that room for four words a step
-- is enough for its log. What an instruction does is looked at only to see that a fault leaves halt
-- as it was.
use Rattle.std.specs.Prelude.{◌≡◌, ◌↔◌, ℕ, zero, suc, ◌+◌, ◌*◌, ◌≤◌, Bool, true, false, List, [], ◌++◌, length, Option, Result, Ok, Err}
use mathlib.Core.Path.{refl, sym, ap, ◌∙◌}
use native.Mathlib.Omega.{arith}
use lib.ListN.{length-append}
use Rattle.std.proofs.lemmas.Bool.{true≢false}
use borrow.Author.Tests.{ltb-true, eq-eqb}
use Rattle.instructions.specs.Decoding.{decode_of}
use Rattle.instructions.specs.declared.ins.Instruction.{Instruction}
use Rattle.instructions.specs.declared.ins.encoding.Undecodable.{Undecodable}
use Rattle.execute.specs.Edition.{edition_of}
use Rattle.execute.specs.Execute.{execute_of}
use Rattle.execute.specs.Registers.{registers}
use Rattle.execute.specs.declared.edition.Edition.{Edition}
use Rattle.execute.specs.declared.effect.Effect.{Effect}
use Rattle.execute.specs.declared.effect.Effect.TheVariants as effect
use Rattle.emulator.specs.Core.{is_halted}
use Rattle.memory.specs.Log.{Reply, Logged, logged, words}
use Rattle.memory.specs.Memory.{Memory}
use Rattle.memory.specs.Outcome.{Outcome, halted, limit, fault, ended}
use Rattle.memory.specs.Store.{memory_store}
use Rattle.emulator.specs.Machine.{Plan, decoded_plan, plan_of, after_of, access_of, Settled, settle_of, Turn, turn, carry_out, on_fetch, advanced, cycle_of, unmarked, Ran, ran, is_stepped, next_of, Setting, full_in, refusal_in, run_until, run_from, run_in}
use Rattle.emulator.specs.declared.core_record.Core.{Core}
use Rattle.memory.specs.declared.log.Purpose.{Purpose}
use Rattle.memory.specs.declared.refusal.LogEnd.TheVariants.{Full}
use Rattle.memory.specs.declared.stop.Stop.{Stop}
use Rattle.instructions.proofs.Cases.{if_elim}
use Rattle.emulator.proofs.Runs.{run_halted}
use Rattle.emulator.proofs.Whole.{accepted_run}
use Rattle.run_laws.specs.Agreement.{HasRoom}
use Rattle.run_laws.specs.Ends.{run_to, turn_after, LimitMeans}
use Rattle.run_laws.specs.Logs.{AtMost, FourWordsSuffice}
use Rattle.run_laws.proofs.Logs.{clash, two_words, Comes, steps, faults, cycle_comes, run_in_by}

-- Room for four words a step.

-- the log of two reads has at most four words
four_words : {l : List ℕ} → AtMost 2 l → length l ≤ 4
four_words h = let two = two_words h.reads in omega arith

-- a turn logs at most four words, and the run goes on, or ends by it
next_room : (more : Core → Memory → List ℕ → Logged (Ran Memory)) (n : ℕ) (l : List ℕ) → length l ≤ 4 * n
    → ((d : Core) (m : Memory) (k : List ℕ) → length k ≤ 4 * (n + 1) → HasRoom (more d m k))
    → {o : Outcome} (d : Core) (m : Memory) {t : List ℕ} → Comes o t → HasRoom (next_of more n l (logged (turn o d m) t))
next_room more n l short rest d m (steps {l = t} h) = let four = four_words h in rest d m (l ++ t) (rw length-append (omega arith))
next_room more n l short rest d m (faults h) = λ e. clash (cc)

-- a run isn't full while four words are free for each step that is left
room_suffices : (rights : Option (List ℕ)) (plan : Core → ℕ → Plan) (size k n : ℕ) (c : Core) (m : Memory) (l : List ℕ)
    → length l ≤ 4 * n → 4 * (n + k) ≤ size → HasRoom (run_from (memory_store rights) plan (words size) k n c m l)
unfolding run_until
room_suffices rights plan size zero n c m l short room = if_elim HasRoom (is_halted c) (λ _ e. clash (cc)) (λ _ e. clash (cc))
room_suffices rights plan size (suc k) n c m l short room =
    if_elim HasRoom (is_halted c)
    (λ _ e. clash (cc))
    (λ _. if_elim HasRoom (full_in (words size) l)
    (λ f. let below = ltb-true _ _ f in absurd (omega arith))
    (λ _. next_room (run_from (memory_store rights) plan (words size) k (n + 1)) n l short
    (λ d m' t w. room_suffices rights plan size k (n + 1) d m' t w (omega arith)) _ _ (cycle_comes rights plan c m)))

pub four_words_suffice : FourWordsSuffice
four_words_suffice given c m most n has room =
    run_in_by HasRoom plan_of given c m most
    (rw has (room_suffices given.rights (plan_of (edition_of given.edition)) n most 0 c (unmarked m) [] (omega arith) (omega arith)))
    (λ e. clash (cc))

-- A cycle that doesn't step leaves halt as it was.
abbrev KeepsHalt : Core → Outcome → Core → Type 0
KeepsHalt c o d = is_stepped o ≡ false → is_halted d ≡ is_halted c

-- an effect that leaves an access to be made leaves halt as it was
effect_keeps : (c : Core) (e : Effect) (x : Reply)
    → let s = settle_of (after_of c e) (access_of e) x in KeepsHalt c s.outcome s.core
effect_keeps c (effect.Load a r up) Reply.done s = refl
effect_keeps c (effect.Load a r up) (Reply.word b w) s = refl
effect_keeps c (effect.Load a r up) (Reply.stopped y) s = refl
effect_keeps c (effect.Store a v low) Reply.done s = refl
effect_keeps c (effect.Store a v low) (Reply.word b w) s = refl
effect_keeps c (effect.Store a v low) (Reply.stopped y) s = refl
effect_keeps c (effect.Decimal w) x s = refl
effect_keeps c (effect.Amount a) x s = refl
effect_keeps c (effect.Negation v) x s = refl
effect_keeps c e x s = absurd (true≢false s)

-- so does the plan of a word
plan_keeps : (ed : Edition) (c : Core) (w : ℕ) (x : Reply)
    → let s = settle_of (plan_of ed c w).core (plan_of ed c w).access x in KeepsHalt c s.outcome s.core
unfolding plan_of
plan_keeps ed c w x = decoded (decode_of w)
  where
    at : Result Instruction Undecodable → Settled
    at d = settle_of (decoded_plan ed c w d).core (decoded_plan ed c w d).access x

    decoded : (d : Result Instruction Undecodable) → KeepsHalt c (at d).outcome (at d).core
    decoded (Ok i) = effect_keeps c (execute_of ed (registers c.gprs c.ip c.rp c.sp c.ef) i w) x
    decoded (Err e) = λ _. refl

-- and a cycle, whose fetch may stop too
cycle_keeps_halt : (rights : Option (List ℕ)) (ed : Edition) (c : Core) (m : Memory)
    → let t = (cycle_of (memory_store rights) (plan_of ed) c m).result in KeepsHalt c t.outcome t.core
unfolding cycle_of
cycle_keeps_halt rights ed c m = by_answer ((memory_store rights).read m Purpose.Fetch c.ip).answer
  where
    carried : ℕ → Memory → Logged (Turn Memory)
    carried w = carry_out (memory_store rights) (plan_of ed (advanced c) w)

    after : Result ℕ Stop → Turn Memory
    after r = (on_fetch carried c ((memory_store rights).read m Purpose.Fetch c.ip).memory r).result

    by_answer : (r : Result ℕ Stop) → KeepsHalt c (after r).outcome (after r).core
    by_answer (Ok w) = plan_keeps ed (advanced c) w _
    by_answer (Err s) = λ _. refl

-- How a run ends: its end, whether halt is set, and how many steps are left before the limit.
data How : Outcome → Bool → ℕ → Type 0 where
  by_halt : {k : ℕ} → How halted true k
  by_limit : How limit false 0
  by_fault : {n v k : ℕ} → How (fault n v) false (suc k)
  by_log : {k : ℕ} → How (ended 30) false (suc k)

-- it ends by the limit where none is left, and halt is clear
how_limit : {o : Outcome} {h : Bool} {k : ℕ} → How o h k → (o ≡ limit) ↔ ((k ≡ 0) × (h ≡ false))
how_limit by_halt = (λ e. clash (cc), λ e. absurd (true≢false e.1))
how_limit by_limit = (λ _. (refl, refl), λ _. refl)
how_limit (by_fault {k = k}) = (λ e. clash (cc), λ e. let none : suc k ≡ 0 = e.0 in absurd (omega arith))
how_limit (by_log {k = k}) = (λ e. clash (cc), λ e. let none : suc k ≡ 0 = e.0 in absurd (omega arith))

-- and halted where halt is set
how_halted : {o : Outcome} {h : Bool} {k : ℕ} → How o h k → (o ≡ halted) ↔ (h ≡ true)
how_halted by_halt = (λ _. refl, λ _. refl)
how_halted by_limit = (λ e. clash (cc), λ e. absurd (true≢false (sym e)))
how_halted by_fault = (λ e. clash (cc), λ e. absurd (true≢false (sym e)))
how_halted by_log = (λ e. clash (cc), λ e. absurd (true≢false (sym e)))

-- a cycle that doesn't step faults
how_faulted : {o : Outcome} {l : List ℕ} → Comes o l → is_stepped o ≡ false → (k : ℕ) → How o false (suc k)
how_faulted (steps h) s k = absurd (true≢false s)
how_faulted (faults h) s k = by_fault

-- the run before a turn that faults
abbrev Before : Setting → Ran Memory → Ran Memory → Type 0
Before given b r = (b.end ≡ limit) × (b.steps ≡ r.steps) × (turn_after given b ≡ turn r.end r.core r.memory)

-- What is true of r, the result of a run that had counted n, with k steps left: how many it made
-- and left, how it ends, and of a fault, the run before it. `again` is the same run by its limit.
record Ended (given : Setting) (again : ℕ → Ran Memory) (k n : ℕ) (r : Ran Memory) : Type 0 where
  made : ℕ
  left : ℕ
  counted : r.steps ≡ n + made
  limited : made + left ≡ k
  how : How r.end (is_halted r.core) left
  before : (a v : ℕ) → r.end ≡ fault a v → Before given (again made) r

-- of one that ends with no more steps
ends_here : {given : Setting} {again : ℕ → Ran Memory} {k n : ℕ} {o : Outcome} {c : Core} {m : Memory} → How o (is_halted c) k
    → ((a v : ℕ) → o ≡ fault a v → Before given (again 0) (ran o n c m)) → Ended given again k n (ran o n c m)
ends_here {k = k} how before = record { made = 0; left = k; counted = omega arith; limited = omega arith; how = how; before = before }

module _ (given : Setting) where
  abbrev plan : Core → ℕ → Plan
  plan = plan_of (edition_of given.edition)

  abbrev turns : ℕ → Core → Memory → List ℕ → ℕ → Ran Memory
  turns n c m l k = (run_from (memory_store given.rights) plan given.room k n c m l).result

  -- so of the turns from a core, by induction on what is left of the limit
  turns_end : (k n : ℕ) (c : Core) (m : Memory) (l : List ℕ) → Ended given (turns n c m l) k n (turns n c m l k)
  unfolding run_until
  turns_end zero n c m l =
      if_elim (λ (r : Logged (Ran Memory)). Ended given (turns n c m l) zero n r.result) (is_halted c)
      (λ h. ends_here (rw h by_halt) (λ a v e. clash (cc)))
      (λ q. ends_here (rw q by_limit) (λ a v e. clash (cc)))
  turns_end (suc k) n c m l =
      if_elim Holds (is_halted c)
      (λ h. ends_here (rw h by_halt) (λ a v e. clash (cc)))
      (λ q. if_elim Holds (full_in given.room l)
      (λ _. ends_here (rw q by_log) (λ a v e. clash (cc)))
      (λ f. if_elim Holds (is_stepped t.result.outcome)
      (λ s. turn_more q f s (turns_end k (n + 1) t.result.core t.result.memory (l ++ t.log)))
      (λ s. ends_here (faulted q s) (λ a v e. rw (turns, q) (refl, refl, refl)))))
    where
      Holds : Logged (Ran Memory) → Type 0
      Holds r = Ended given (turns n c m l) (suc k) n r.result

      t : Logged (Turn Memory)
      t = cycle_of (memory_store given.rights) plan c m

      faulted : is_halted c ≡ false → is_stepped t.result.outcome ≡ false → How t.result.outcome (is_halted t.result.core) (suc k)
      faulted q s = rw (cycle_keeps_halt given.rights (edition_of given.edition) c m s, q) (how_faulted (cycle_comes given.rights plan c m) s k)

      -- the run with another limit makes the turn too
      turn_more : is_halted c ≡ false → full_in given.room l ≡ false → is_stepped t.result.outcome ≡ true → {r : Ran Memory}
          → Ended given (turns (n + 1) t.result.core t.result.memory (l ++ t.log)) k (n + 1) r → Ended given (turns n c m l) (suc k) n r
      turn_more q f s h =
          record {
            made = suc h.made;
            left = h.left;
            counted = omega arith;
            limited = omega arith;
            how = h.how;
            before = λ a v e. rw (turns, q, f, s) (h.before a v e);
          }

  -- and so of the result of an accepted run
  run_ends : (c : Core) (m : Memory) (most : ℕ) → refusal_in given m ≡ 0 → Ended given (run_to given c m) most 0 (run_to given c m most)
  unfolding run_in
  run_ends c m most ok = rw (run_to, eq-eqb (refusal_in given m) 0 ok) (turns_end most 0 c (unmarked m) [])

-- What that says of a whole run.
module _ {given : Setting} {again : ℕ → Ran Memory} {most : ℕ} {r : Ran Memory} (h : Ended given again most 0 r) where
  -- it counts no more steps than its limit
  within_limit : r.steps ≤ most
  within_limit = omega (arith, h.counted, h.limited)

  -- it ends by the limit where it counted as many, and halt is clear
  ends_by_limit : (r.end ≡ limit) ↔ ((r.steps ≡ most) × (is_halted r.core ≡ false))
  ends_by_limit =
      let w = how_limit h.how in
      (λ e. let both = w.0 e in (omega (arith, h.counted, h.limited, both.0), both.1), λ e. w.1 (omega (arith, h.counted, h.limited, e.0), e.1))

  -- the run with its steps as the limit is the one before its fault
  faults_after : (n v : ℕ) → r.end ≡ fault n v → Before given (again r.steps) r
  faults_after n v e = let all : h.made ≡ r.steps = omega (arith, h.counted) in rw all at h.before n v e

-- a core that is halted already makes no turn
halted_run : (given : Setting) (c : Core) (m : Memory) (most : ℕ) → refusal_in given m ≡ 0 → is_halted c ≡ true
    → run_to given c m most ≡ ran halted 0 c (unmarked m)
halted_run given c m most ok h =
    ap (λ (r : Logged (Ran Memory)). r.result)
    (accepted_run plan_of given c m most ok
    ∙ run_halted (memory_store given.rights) (plan_of (edition_of given.edition)) (full_in given.room) Full c (unmarked m) 0 [] most h)

-- a run that its log ends, ends by 30
pub ended_full : (given : Setting) (c : Core) (m : Memory) (most n : ℕ) → (run_in plan_of given c m most).result.end ≡ ended n
    → (run_in plan_of given c m most).result.end ≡ ended 30
ended_full given c m most n =
    run_in_by (λ (r : Logged (Ran Memory)). r.result.end ≡ ended n → r.result.end ≡ ended 30) plan_of given c m most
    (how_full (turns_end given most 0 c (unmarked m) []).how)
    (λ e. clash (cc))
  where
    how_full : {o : Outcome} {h : Bool} {k : ℕ} → How o h k → o ≡ ended n → o ≡ ended 30
    how_full by_halt e = clash (cc)
    how_full by_limit e = clash (cc)
    how_full by_fault e = clash (cc)
    how_full by_log e = refl

pub limit_means : LimitMeans
limit_means =
    record {
      within = λ given c m most ok. within_limit (run_ends given c m most ok);
      limit = λ given c m most ok. ends_by_limit (run_ends given c m most ok);
      halted = λ given c m most ok. how_halted (run_ends given c m most ok).how;
      already = halted_run;
      fault = λ given c m most n v ok. faults_after (run_ends given c m most ok) n v;
    }
