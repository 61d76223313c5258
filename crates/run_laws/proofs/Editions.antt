-- The two editions in whole runs: turn by turn they do the same, until the first stops by 13 or 14.
-- Nothing here looks at an instruction.
use Rattle.std.specs.Prelude.{if◌then◌else◌, ◌≡◌, ℕ, zero, suc, ◌+◌, Bool, true, false, eqb, ltb, List, [], ◌++◌, length, Option, Result, Ok, Err}
use mathlib.Core.Path.{refl, sym, ap, ◌∙◌}
use Rattle.std.proofs.lemmas.Bool.{true≢false}
use borrow.Author.Tests.{eqb-true}
use Rattle.instructions.proofs.Cases.{by_test, if_elim, if_both}
use Rattle.instructions.specs.Decoding.{decode_of}
use Rattle.instructions.specs.declared.ins.Instruction.{Instruction}
use Rattle.instructions.specs.declared.ins.encoding.Undecodable.{Undecodable}
use Rattle.execute.specs.Edition.{refused_edition, edition_of}
use Rattle.execute.specs.Execute.{execute_of}
use Rattle.execute.specs.Registers.{Registers, registers}
use Rattle.execute.specs.declared.edition.Edition.TheVariants.{First, Second}
use Rattle.execute.specs.declared.effect.Effect.{Effect}
use Rattle.execute.specs.declared.effect.Effect.TheVariants as effect
use Rattle.execute_laws.specs.Editions.{NoOverflow}
use Rattle.execute_laws.proofs.Editions.{editions}
use Rattle.emulator.specs.Core.{is_halted}
use Rattle.emulator.specs.Machine.{Access, none, load, store, stop, Plan, planned, decoded_plan, plan_of, after_of, access_of, read_reply, write_reply, settle_of, make_of, Turn, turn, carry_out, on_fetch, after_fetch, advanced, cycle_of, unmarked, Ran, is_stepped, next_of, full_in, setting, refusal_in, run_until, run_in}
use Rattle.emulator.specs.declared.core_record.Core.{Core}
use Rattle.memory.specs.Log.{Reply, Logged, logged, Room}
use Rattle.memory.specs.Memory.{Memory, Accessed, accessed, place_of, at_place, read_of, write_of}
use Rattle.memory.specs.Outcome.{Outcome, stepped, halted, limit, fault, refused, ended, stop_of}
use Rattle.memory.specs.Rights.{right_of, has_right}
use Rattle.memory.specs.Store.{Store, memory_store}
use Rattle.instructions.specs.declared.reg.GeneralPurposeRegister.{GeneralPurposeRegister}
use Rattle.memory.specs.declared.log.Purpose.{Purpose}
use Rattle.memory.specs.declared.refusal.LogEnd.{LogEnd}
use Rattle.memory.specs.declared.refusal.LogEnd.TheVariants.{Full}
use Rattle.memory.specs.declared.rights.Right.{Right}
use Rattle.memory.specs.declared.stop.Stop.{Stop}
use Rattle.run_laws.specs.Editions.{WithoutOverflow, Editions}

-- Whether an outcome is stop 13 or 14.
overflows : Outcome → Bool
overflows stepped = false
overflows halted = false
overflows limit = false
overflows (fault n v) = if eqb n 13 then true else eqb n 14
overflows (refused n) = false
overflows (ended n) = false

not_overflowed : {r : Logged (Ran Memory)} → WithoutOverflow r → overflows r.result.end ≡ false
unfolding overflows
not_overflowed {r} u = by_outcome r.result.end u.amount u.negation
  where
    by_outcome : (o : Outcome) → ((a : ℕ) → o ≡ fault 13 a → ⊥) → ((v : ℕ) → o ≡ fault 14 v → ⊥) → overflows o ≡ false
    by_outcome (fault n v) f g =
        by_test (eqb n 13) (λ t. absurd (f v (ap (λ (k : ℕ). fault k v) (eqb-true _ _ t))))
        (λ e. rw e (by_test (eqb n 14) (λ t. absurd (g v (ap (λ (k : ℕ). fault k v) (eqb-true _ _ t)))) (λ z. z)))
    by_outcome o f g = refl

without_overflow : {r : Logged (Ran Memory)} → overflows r.result.end ≡ false → WithoutOverflow r
unfolding overflows
without_overflow e = record { amount = λ a q. true≢false (rw q at e); negation = λ v q. true≢false (rw q at e) }

-- An effect that both editions may have, or one whose access comes to stop 13 or 14, whatever is
-- replied.
data Kind (e : Effect) : Type 0 where
  common : NoOverflow e → Kind e
  own : ((c : Core) (x : Reply) → overflows (settle_of c (access_of e) x).outcome ≡ true) → Kind e

kind : (e : Effect) → Kind e
unfolding overflows
kind (effect.Amount a) = own (λ c x. refl)
kind (effect.Negation v) = own (λ c x. refl)
kind e = common (record { amount = λ a q. cc; negation = λ v q. cc })

-- The plan of a word in the first edition, p, is that in the second, q, or stops.
data Plans (p q : Plan) : Type 0 where
  same : q ≡ p → Plans p q
  overflowing : ((x : Reply) → overflows (settle_of p.core p.access x).outcome ≡ true) → Plans p q

decoded : (c : Core) (w : ℕ) (d : Result Instruction Undecodable) → Plans (decoded_plan First c w d) (decoded_plan Second c w d)
decoded c w (Ok i) = by_effect (kind (execute_of First r i w))
  where
    r : Registers
    r = registers c.gprs c.ip c.rp c.sp c.ef

    by_effect : Kind (execute_of First r i w) → Plans (decoded_plan First c w (Ok i)) (decoded_plan Second c w (Ok i))
    by_effect (common h) = same (ap (λ (e : Effect). planned (after_of c e) (access_of e)) (editions.same r i w h))
    by_effect (own f) = overflowing (f (after_of c (execute_of First r i w)))
decoded c w (Err e) = same refl

plans : (c : Core) (w : ℕ) → Plans (plan_of First c w) (plan_of Second c w)
unfolding plan_of
plans c w = decoded c w (decode_of w)

-- so is a turn, and so is a run
data Turns {S : Type 0} (t u : Logged (Turn S)) : Type 0 where
  same : u ≡ t → Turns t u
  overflowing : overflows t.result.outcome ≡ true → Turns t u

abbrev Unless : {S : Type 0} → Logged (Ran S) → Logged (Ran S) → Type 0
Unless r q = overflows r.result.end ≡ false → q ≡ r

module _ {S : Type 0} (on : Store S) where
  cycles : (c : Core) (m : S) → Turns (cycle_of on (plan_of First) c m) (cycle_of on (plan_of Second) c m)
  unfolding cycle_of
  cycles c m = by_answer (on.read m Purpose.Fetch c.ip).answer
    where
      m₁ : S
      m₁ = (on.read m Purpose.Fetch c.ip).memory

      fetched : (Core → ℕ → Plan) → Result ℕ Stop → Logged (Turn S)
      fetched plan r = after_fetch (λ w. carry_out on (plan (advanced c) w)) c (accessed r m₁)

      carried : (w : ℕ) → Plans (plan_of First (advanced c) w) (plan_of Second (advanced c) w) → Turns (fetched (plan_of First) (Ok w)) (fetched (plan_of Second) (Ok w))
      carried w (Plans.same e) = Turns.same (rw e)
      carried w (Plans.overflowing f) = Turns.overflowing (f _)

      by_answer : (r : Result ℕ Stop) → Turns (fetched (plan_of First) r) (fetched (plan_of Second) r)
      by_answer (Ok w) = carried w (plans (advanced c) w)
      by_answer (Err s) = Turns.same refl

  overflow_ends : (more : Core → S → List ℕ → Logged (Ran S)) (n : ℕ) (l : List ℕ) (o : Outcome) (c : Core) (m : S) (k : List ℕ) → overflows o ≡ true
      → overflows (next_of more n l (logged (turn o c m) k)).result.end ≡ true
  unfolding overflows
  overflow_ends more n l (fault j v) c m k e = e
  overflow_ends more n l o c m k e = absurd (true≢false (sym e))

  next : (more more' : Core → S → List ℕ → Logged (Ran S)) (n : ℕ) (l : List ℕ) → ((c : Core) (m : S) (k : List ℕ) → Unless (more c m k) (more' c m k))
      → {t u : Logged (Turn S)} → Turns t u → Unless (next_of more n l t) (next_of more' n l u)
  next more more' n l h {t} (Turns.same e) f =
      rw e (if_both Unless (is_stepped t.result.outcome) (is_stepped t.result.outcome) refl (λ _. h t.result.core t.result.memory (l ++ t.log)) (λ _ _. refl) f)
  next more more' n l h {t} (Turns.overflowing o) f =
      absurd (true≢false (sym (overflow_ends more n l t.result.outcome t.result.core t.result.memory t.log o) ∙ f))

  runs : (over : List ℕ → Bool) (why : LogEnd) (k n : ℕ) (c : Core) (m : S) (l : List ℕ)
      → Unless (run_until on (plan_of First) over why k n c m l) (run_until on (plan_of Second) over why k n c m l)
  unfolding run_until
  runs over why zero n c m l = λ _. refl
  runs over why (suc k) n c m l =
      if_both Unless (is_halted c) (is_halted c) refl (λ _ _. refl)
      (λ _. if_both Unless (over l) (over l) refl (λ _ _. refl)
      (λ _. next (run_until on (plan_of First) over why k (n + 1)) (run_until on (plan_of Second) over why k (n + 1)) n l (runs over why k (n + 1)) (cycles c m)))

same_run : (room : Room) (rights : Option (List ℕ)) (c : Core) (m : Memory) (most : ℕ)
    → Unless (run_in plan_of (setting room rights 1) c m most) (run_in plan_of (setting room rights 2) c m most)
unfolding run_in refused_edition edition_of
same_run room rights c m most =
    let asked = eqb (refusal_in (setting room rights 1) m) 0 in
    if_both Unless asked asked refl (λ _. runs (memory_store rights) (full_in room) Full most 0 c (unmarked m) []) (λ _ _. refl)

-- The second edition: no plan stops by 13 or 14, and no access to memory does.
abbrev StopFine : {A : Type 0} → Result A Stop → Type 0
StopFine (Ok x) = Unit {0}
StopFine (Err s) = overflows (stop_of s) ≡ false

abbrev AccessFine : Access → Type 0
AccessFine none = Unit {0}
AccessFine (load a r up) = Unit {0}
AccessFine (store a v) = Unit {0}
AccessFine (stop s) = overflows (stop_of s) ≡ false

effect_fine : (e : Effect) → NoOverflow e → AccessFine (access_of e)
unfolding overflows
effect_fine (effect.Decimal w) h = refl
effect_fine (effect.Amount a) h = absurd (h.amount a refl)
effect_fine (effect.Negation v) h = absurd (h.negation v refl)
effect_fine e h = tt

plan_fine : (c : Core) (w : ℕ) → AccessFine (plan_of Second c w).access
unfolding plan_of overflows
plan_fine c w = by_word (decode_of w)
  where
    by_word : (d : Result Instruction Undecodable) → AccessFine (decoded_plan Second c w d).access
    by_word (Ok i) = effect_fine (execute_of Second (registers c.gprs c.ip c.rp c.sp c.ef) i w) (editions.never (registers c.gprs c.ip c.rp c.sp c.ef) i w)
    by_word (Err e) = refl

module _ (rights : Option (List ℕ)) where
  place_fine : {A : Type 0} (size : ℕ) (r : Right) (a : ℕ) (made : ℕ → Accessed Memory (Result A Stop)) (m : Memory) → ((k : ℕ) → StopFine (made k).answer)
      → StopFine (at_place (place_of rights size r a) made m).answer
  unfolding place_of overflows
  place_fine size r a made m h =
      if_elim At (ltb a size) (λ _. if_elim At (has_right rights r a) (λ _. h a) (λ _. refl)) (λ _. refl)
    where
      At : Result ℕ Stop → Type 0
      At x = StopFine (at_place x made m).answer

  read_fine : (m : Memory) (p : Purpose) (a : ℕ) → StopFine (read_of rights m p a).answer
  unfolding read_of
  read_fine m p a = place_fine (length m.words) (right_of p) a _ m (λ k. tt)

  write_fine : (m : Memory) (a v : ℕ) → StopFine (write_of rights m a v).answer
  unfolding write_of
  write_fine m a v = place_fine (length m.words) Right.Write a _ m (λ k. tt)

  carried_fine : (p : Plan) (m : Memory) → AccessFine p.access → overflows (carry_out (memory_store rights) p m).result.outcome ≡ false
  unfolding overflows
  carried_fine p m h = by_access p.access h
    where
      by_read : (c : Core) (a : ℕ) (g : GeneralPurposeRegister) (up : ℕ) (x : Result ℕ Stop) → StopFine x → overflows (settle_of c (load a g up) (read_reply a x)).outcome ≡ false
      by_read c a g up (Ok w) h = refl
      by_read c a g up (Err s) h = h

      by_write : (c : Core) (a v : ℕ) (x : Result (Unit {0}) Stop) → StopFine x → overflows (settle_of c (store a v) (write_reply x)).outcome ≡ false
      by_write c a v (Ok u) h = refl
      by_write c a v (Err s) h = h

      by_access : (x : Access) → AccessFine x → overflows (settle_of p.core x (make_of (memory_store rights) x m).answer).outcome ≡ false
      by_access none h = refl
      by_access (load a g up) h = by_read p.core a g up (read_of rights m Purpose.Read a).answer (read_fine m Purpose.Read a)
      by_access (store a v) h = by_write p.core a v (write_of rights m a v).answer (write_fine m a v)
      by_access (stop s) h = h

  turn_fine : (c : Core) (m : Memory) → overflows (cycle_of (memory_store rights) (plan_of Second) c m).result.outcome ≡ false
  unfolding cycle_of
  turn_fine c m = by_answer ((memory_store rights).read m Purpose.Fetch c.ip).answer (read_fine m Purpose.Fetch c.ip)
    where
      m₁ : Memory
      m₁ = ((memory_store rights).read m Purpose.Fetch c.ip).memory

      by_answer : (r : Result ℕ Stop) → StopFine r → overflows (on_fetch (λ w. carry_out (memory_store rights) (plan_of Second (advanced c) w)) c m₁ r).result.outcome ≡ false
      by_answer (Ok w) h = carried_fine (plan_of Second (advanced c) w) m₁ (plan_fine (advanced c) w)
      by_answer (Err s) h = h

  run_fine : (stopped : List ℕ → Bool) (why : LogEnd) (k n : ℕ) (c : Core) (m : Memory) (l : List ℕ)
      → overflows (run_until (memory_store rights) (plan_of Second) stopped why k n c m l).result.end ≡ false
  unfolding run_until overflows
  run_fine stopped why zero n c m l = if_elim (λ (r : Logged (Ran Memory)). overflows r.result.end ≡ false) (is_halted c) (λ _. refl) (λ _. refl)
  run_fine stopped why (suc k) n c m l =
      if_elim Fine (is_halted c) (λ _. refl)
      (λ _. if_elim Fine (stopped l) (λ _. refl)
      (λ _. if_elim Fine (is_stepped t.result.outcome) (λ _. run_fine stopped why k (n + 1) t.result.core t.result.memory (l ++ t.log)) (λ _. turn_fine c m)))
    where
      Fine : Logged (Ran Memory) → Type 0
      Fine r = overflows r.result.end ≡ false

      t : Logged (Turn Memory)
      t = cycle_of (memory_store rights) (plan_of Second) c m

never_stops : (room : Room) (rights : Option (List ℕ)) (c : Core) (m : Memory) (most : ℕ)
    → overflows (run_in plan_of (setting room rights 2) c m most).result.end ≡ false
unfolding run_in edition_of overflows
never_stops room rights c m most =
    if_elim (λ (r : Logged (Ran Memory)). overflows r.result.end ≡ false) (eqb (refusal_in (setting room rights 2) m) 0)
    (λ _. run_fine rights (full_in room) Full most 0 c (unmarked m) []) (λ _. refl)

pub run_editions : Editions
run_editions =
    record {
      same = λ room rights c m most u. same_run room rights c m most (not_overflowed u);
      never = λ room rights c m most. without_overflow (never_stops room rights c m most);
    }
