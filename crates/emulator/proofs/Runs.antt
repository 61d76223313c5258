-- Laws of the loop of turns on any store: one for each way through it, and its invariant.
use Rattle.std.specs.Prelude.{◌≡◌, ℕ, zero, suc, ◌+◌, ◌-◌, ◌<◌, ◌≤◌, Bool, true, false, List, [], ◌++◌, Some, None, Result, Ok, Err}
use mathlib.Core.Path.{refl, sym, ap, ◌∙◌}
use native.Mathlib.Omega.{arith}
use Rattle.instructions.proofs.Cases.{by_test}
use Rattle.emulator.specs.Core.{is_halted}
use Rattle.memory.specs.Log.{Reply, Logged, logged, end_by_log}
use Rattle.memory.specs.Outcome.{Outcome, stepped, halted, limit, fault, ended, stop_of, log_end_number}
use Rattle.memory.specs.Store.{Store}
use Rattle.emulator.specs.Machine.{Access, none, load, store, stop, Plan, settle_of, Turn, turn, carry_out, on_fetch, advanced, cycle_of, Ran, ran, next_of, run_until}
use Rattle.emulator.specs.declared.core_record.Core.{Core}
use Rattle.memory.specs.declared.log.Purpose.{Purpose}
use Rattle.memory.specs.declared.refusal.LogEnd.{LogEnd}
use Rattle.memory.specs.declared.stop.Stop.{Stop}
use Rattle.memory.specs.declared.stop.Stop.TheVariants as stops

-- a property of every stop's outcome, of every fault's
pub stop_elim : (P : Outcome → Type 0) → ((n v : ℕ) → P (fault n v)) → (s : Stop) → P (stop_of s)
stop_elim P f (stops.Undecodable v) = f _ v
stop_elim P f (stops.OutOfRange v) = f _ v
stop_elim P f (stops.NoRight v) = f _ v
stop_elim P f (stops.Decimal v) = f _ v
stop_elim P f (stops.Amount v) = f _ v
stop_elim P f (stops.Negation v) = f _ v

-- a property of every way that a cycle comes out, on any store: it steps, or it faults
module _ (P : Outcome → Type 0) (step : P stepped) (faults : (n v : ℕ) → P (fault n v)) where
  settle_elim : (c : Core) (x : Access) (r : Reply) → P (settle_of c x r).outcome
  settle_elim c none r = step
  settle_elim c (load a g up) Reply.done = step
  settle_elim c (load a g up) (Reply.word b w) = step
  settle_elim c (load a g up) (Reply.stopped s) = stop_elim P faults s
  settle_elim c (store a v) Reply.done = step
  settle_elim c (store a v) (Reply.word b w) = step
  settle_elim c (store a v) (Reply.stopped s) = stop_elim P faults s
  settle_elim c (stop s) r = stop_elim P faults s

  pub cycle_elim : {S : Type 0} (on : Store S) (plan : Core → ℕ → Plan) (c : Core) (m : S) → P (cycle_of on plan c m).result.outcome
  unfolding cycle_of
  cycle_elim on plan c m = by_answer (on.read m Purpose.Fetch c.ip).answer
    where
      by_answer : (r : Result ℕ Stop) → P (on_fetch (λ w. carry_out on (plan (advanced c) w)) c (on.read m Purpose.Fetch c.ip).memory r).result.outcome
      by_answer (Ok w) = settle_elim (plan (advanced c) w).core (plan (advanced c) w).access _
      by_answer (Err s) = stop_elim P faults s

-- what the end by the log says of it
pub ends_by : {over : Bool} {why e : LogEnd} → Some e ≡ end_by_log over why → (over ≡ true) × (e ≡ why)
ends_by {over} e = by_test over (λ t. (t, let both = rw t at e in cc)) (λ f. let both = rw f at e in cc)

pub goes_on : {over : Bool} (why : LogEnd) → None ≡ end_by_log over why → over ≡ false
goes_on {over} why e = by_test over (λ t. let both = rw t at e in cc) (λ f. f)

-- one turn of the run, by its tests
module _ {S : Type 0} (on : Store S) (plan : Core → ℕ → Plan) (over : List ℕ → Bool) (why : LogEnd) (c : Core) (m : S) (n : ℕ) (l : List ℕ) where
  pub run_halted : (k : ℕ) → is_halted c ≡ true → run_until on plan over why k n c m l ≡ logged (ran halted n c m) l
  unfolding run_until
  run_halted zero q = rw q
  run_halted (suc k) q = rw q

  pub run_limit : is_halted c ≡ false → run_until on plan over why 0 n c m l ≡ logged (ran limit n c m) l
  unfolding run_until
  run_limit q = rw q

  module _ (most : ℕ) (q : is_halted c ≡ false) (below : n < most) where
    left : most - n ≡ suc (most - (n + 1))
    left = omega arith

    pub run_over : over l ≡ true → run_until on plan over why (most - n) n c m l ≡ logged (ran (ended (log_end_number why)) n c m) l
    unfolding run_until
    run_over f = rw (left, q, f)

    -- a turn that none of the tests stops
    pub run_turn : over l ≡ false
        → run_until on plan over why (most - n) n c m l ≡ next_of (run_until on plan over why (most - (n + 1)) (n + 1)) n l (cycle_of on plan c m)
    unfolding run_until
    run_turn f = rw (left, q, f)

module _ {S : Type 0} (on : Store S) (plan : Core → ℕ → Plan) (over : List ℕ → Bool) (why : LogEnd) (most : ℕ) (c₀ : Core) (m₀ : S) where
  abbrev whole : Logged (Ran S)
  whole = run_until on plan over why most 0 c₀ m₀ []

  -- the loop's invariant: what is left of the run is the whole run, and the log so far is noted
  pub record Running (Noted : List ℕ → Type 0) (c : Core) (m : S) (n : ℕ) : Type 0 where
    pub within : n ≤ most
    pub log : List ℕ
    pub noted : Noted log
    pub rest : run_until on plan over why (most - n) n c m log ≡ whole

  -- what the loop leaves
  pub record Ends (Noted : List ℕ → Type 0) (r : Ran S) : Type 0 where
    pub run : r ≡ whole.result
    pub noted : Noted whole.log

  pub running_start : {Noted : List ℕ → Type 0} → Noted [] → Running Noted c₀ m₀ 0
  running_start h =
      let same : most - 0 ≡ most = omega arith in
      record { within = omega arith; log = []; noted = h; rest = rw same }

  module _ {Noted : List ℕ → Type 0} {c : Core} {m : S} {n : ℕ} (now : Running Noted c m n) where
    ends : {r : Ran S} → logged r now.log ≡ whole → Ends Noted r
    ends e = record { run = ap (λ (x : Logged (Ran S)). x.result) e; noted = rw (ap (λ (x : Logged (Ran S)). x.log) e) at now.noted }

    pub end_halted : {h : Bool} → h ≡ is_halted c → h ≡ true → Ends Noted (ran halted n c m)
    end_halted p q = ends (sym (run_halted on plan over why c m n now.log (most - n) (sym p ∙ q)) ∙ now.rest)

    module _ {h : Bool} (p : h ≡ is_halted c) (q : h ≡ false) where
      pub end_limit : n ≡ most → Ends Noted (ran limit n c m)
      end_limit e =
          let none_left : most - n ≡ 0 = omega arith in
          ends (sym (run_limit on plan over why c m n now.log (sym p ∙ q)) ∙ rw none_left at now.rest)

      module _ (below : n ≡ most → ⊥) where
        under : n < most
        under = let w : n ≤ most = now.within in omega arith

        pub end_by : {e : LogEnd} → Some e ≡ end_by_log (over now.log) why → Ends Noted (ran (ended (log_end_number e)) n c m)
        end_by s =
            let b = ends_by s in
            ends (rw b.1 (sym (run_over on plan over why c m n now.log most (sym p ∙ q) under b.0) ∙ now.rest))

        -- a turn that neither halt nor the limit nor the log stops: what it leaves, and what it
        -- logged is noted too
        abbrev cycled : Logged (Turn S)
        cycled = cycle_of on plan c m

        abbrev then : Logged (Turn S) → Logged (Ran S)
        then = next_of (run_until on plan over why (most - (n + 1)) (n + 1)) n now.log

        module _ (free : None ≡ end_by_log (over now.log) why) where
          next : (t : Turn S) → t ≡ cycled.result → then (logged t cycled.log) ≡ whole
          next t e =
              ap (λ (v : Turn S). then (logged v cycled.log)) e
              ∙ (sym (run_turn on plan over why c m n now.log most (sym p ∙ q) under (goes_on why free)) ∙ now.rest)

          module _ (After : List ℕ → Type 0) {d : Core} {m' : S} (noted : After (now.log ++ cycled.log)) where
            pub running_step : turn stepped d m' ≡ cycled.result → Running After d m' (n + 1)
            running_step t =
                let w : n < most = under in
                record { within = omega arith; log = now.log ++ cycled.log; noted = noted; rest = next _ t }

            pub end_fault : (s : Stop) → turn (stop_of s) d m' ≡ cycled.result → Ends After (ran (stop_of s) n d m')
            end_fault s t =
                let left : logged (ran (stop_of s) n d m') (now.log ++ cycled.log) ≡ whole =
                stop_elim (λ (o : Outcome). logged (ran o n d m') (now.log ++ cycled.log) ≡ then (logged (turn o d m') cycled.log)) (λ j v. refl) s
                ∙ next _ t in
                record { run = ap (λ (r : Logged (Ran S)). r.result) left; noted = rw (ap (λ (r : Logged (Ran S)). r.log) left) at noted }
