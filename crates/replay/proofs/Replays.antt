-- The replay's loop ends where the log is left; what it answers is what the whole run on the tape
-- would.
use Rattle.std.specs.Prelude.{◌≡◌, ℕ, zero, suc, ◌+◌, Bool, true, false, ◌&&◌, not, List, [], ◌++◌, length, drop, eqb, if◌then◌else◌, Option}
use mathlib.Core.List.{append-nil, append_assoc}
use mathlib.Core.Path.{refl, sym, ap, ◌∙◌}
use native.Mathlib.Omega.{arith}
use borrow.Author.Tests.{eq-eqb, ne_eqb}
use Rattle.instructions.proofs.Cases.{if_elim, if_both}
use Rattle.execute.specs.Edition.{edition_of}
use Rattle.execute.specs.declared.edition.Edition.{Edition}
use Rattle.emulator.specs.Core.{is_halted}
use Rattle.memory.specs.Log.{read_log, Logged, Room}
use Rattle.memory.specs.Outcome.{Outcome, refused, ended, refusal_number}
use Rattle.memory.specs.Store.{Store}
use Rattle.emulator.specs.Machine.{Plan, plan_of, Turn, cycle_of, Ran, ran, is_stepped, next_of, full_in, run_until, run_from}
use Rattle.emulator.specs.declared.core_record.Core.{Core}
use Rattle.memory.specs.declared.refusal.LogEnd.{LogEnd}
use Rattle.memory.specs.declared.refusal.Refusal.{Refusal}
use Rattle.memory.proofs.Laws.{refuses}
use Rattle.emulator.proofs.Keeps.{Leads, next_leads, run_leads}
use Rattle.replay.specs.Places.{begins}
use Rattle.replay.specs.Replay.{Tape, tape, tape_store, Replayed, replayed, answer_of, replay_refusal, replay_of}
use Rattle.replay.proofs.Tapes.{begins_append, same_is}

-- a log only grows: the log at the end begins with the log by now
pub record Begins (l l' : List ℕ) : Type 0 where
  pub more : List ℕ
  pub is : l' ≡ l ++ more

pub begins_leads : {S : Type 0} (on : Store S) → Leads on (λ l m l' m'. Begins l l')
begins_leads on =
    record {
      same = λ l m. record { more = []; is = sym (append-nil l) };
      next = λ p q. record { more = p.more ++ q.more; is = q.is ∙ rw (p.is, append_assoc) };
      read = λ p l m a. record { more = read_log p a (on.read m p a).answer; is = refl };
      write = λ l m a v. record { more = []; is = sym (append-nil l) };
    }

-- a run that its log may end, u, and the plain one, r: they are one, or the first ended at a log
-- that the second's begins with
pub data Until {S : Type 0} (over : List ℕ → Bool) (u r : Logged (Ran S)) : Type 0 where
  whole : u ≡ r → Until over u r
  cut : over u.log ≡ true → Begins u.log r.log → Until over u r

module _ {S : Type 0} (on : Store S) (plan : Core → ℕ → Plan) (over : List ℕ → Bool) (why : LogEnd) where
  next_until : (more more' : Core → S → List ℕ → Logged (Ran S)) (n : ℕ) (l : List ℕ) → ((c : Core) (m : S) (k : List ℕ) → Until over (more c m k) (more' c m k))
      → (t : Logged (Turn S)) → Until over (next_of more n l t) (next_of more' n l t)
  next_until more more' n l h t =
      if_both (Until over) (is_stepped t.result.outcome) (is_stepped t.result.outcome) refl (λ _. h t.result.core t.result.memory (l ++ t.log)) (λ _. whole refl)

  pub until : (k n : ℕ) (c : Core) (m : S) (l : List ℕ) → Until over (run_until on plan over why k n c m l) (run_from on plan Room.none k n c m l)
  unfolding run_until
  until zero n c m l = if_both (Until over) (is_halted c) (is_halted c) refl (λ _. whole refl) (λ _. whole refl)
  until (suc k) n c m l =
      if_both (Until over) (is_halted c) (is_halted c) refl
      (λ _. whole refl)
      (λ _. if_elim (λ (u : Logged (Ran S)). Until over u (next_of on' n l t)) (over l)
      (λ e. cut e ((begins_leads on).next {m = m} {m₁ = m} {m₂ = m} (record { more = t.log; is = refl }) (next_leads on (begins_leads on) on' n l (run_leads on (begins_leads on) plan (full_in Room.none) LogEnd.Full k (n + 1)) t)))
      (λ _. next_until (run_until on plan over why k (n + 1)) on' n l (until k (n + 1)) t))
    where
      t : Logged (Turn S)
      t = cycle_of on plan c m

      on' : Core → S → List ℕ → Logged (Ran S)
      on' = run_from on plan Room.none k (n + 1)

-- what the loop leaves of the tape, and the answer by that
module _ (rights : Option (List ℕ)) (plan : Core → ℕ → Plan) (c : Core) (size most : ℕ) (log : List ℕ) where
  abbrev off : List ℕ → Bool
  off l = not (true && begins l log)

  abbrev looped : Logged (Ran Tape)
  looped = run_until (tape_store rights) plan off LogEnd.Mismatch most 0 c (tape size log) []

  abbrev run : Logged (Ran Tape)
  run = run_from (tape_store rights) plan Room.none most 0 c (tape size log) []

  left_off : (b : Bool) → not (true && b) ≡ true → b ≡ false
  left_off true e = absurd (let z : ◌≡◌ {A = ℕ} 0 1 = cc in omega arith)
  left_off false e = refl

  -- the answer of the whole run, by the log of the loop
  abbrev answer : Bool → Replayed
  answer b = if b then replayed looped.result.end looped.result.steps looped.result.core else replayed (ended 31) 0 c

  answered : Until off looped run → answer (begins looped.log log && eqb (length (drop (length looped.log) log)) 0) ≡ answer_of c log run
  answered (whole u) = rw (← u, same_is looped.log log)
  answered (cut e b) = rw (same_is run.log log, b.is, begins_append looped.log b.more log, left_off _ e)

  module _ {m read : Bool} {t : List ℕ} (so : m ≡ (true && begins looped.log log)) (at : t ≡ drop (length looped.log) log) (asked : read ≡ (m && eqb (length t) 0)) where
    told : answer read ≡ answer_of c log run
    told = rw (asked, so, at) (answered (until (tape_store rights) plan off LogEnd.Mismatch most 0 c (tape size log) []))

    -- the log is that of the run, and it isn't
    pub turns_seen : {o : Outcome} {n : ℕ} {d : Core} {x : Tape} → ran o n d x ≡ looped.result → read ≡ true → replayed o n d ≡ answer_of c log run
    turns_seen left e = ap (λ (r : Ran Tape). replayed r.end r.steps r.core) left ∙ rw e at told

    pub turns_off : read ≡ false → replayed (ended 31) 0 c ≡ answer_of c log run
    turns_off e = rw e at told

-- the replay, by its host tests
module _ (rights : Option (List ℕ)) (n : ℕ) (c : Core) (size most : ℕ) (log : List ℕ) where
  pub replay_refused : (r : Refusal) → refusal_number r ≡ replay_refusal rights n size
      → replayed (refused (refusal_number r)) 0 c ≡ replay_of plan_of rights n c size most log
  unfolding replay_of
  replay_refused r asked = rw (asked, ne_eqb (replay_refusal rights n size) 0 (refuses r asked))

  pub replay_accepted : 0 ≡ replay_refusal rights n size → {ed : Edition} → ed ≡ edition_of n
      → {r : Replayed} → r ≡ answer_of c log (run rights (plan_of ed) c size most log) → r ≡ replay_of plan_of rights n c size most log
  unfolding replay_of
  replay_accepted asked named t = rw (eq-eqb (replay_refusal rights n size) 0 (sym asked)) (rw named at t)
