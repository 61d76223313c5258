-- What every access leads to, a cycle and a run lead to: a relation of the log and memory, or what
-- stands in its place, before and after. So marks only grow and the lengths never change.
use Rattle.std.specs.Prelude.{◌≡◌, ℕ, zero, suc, ◌+◌, Bool, eqb, List, [], ◌++◌, length, Option, None, Result, Ok, Err}
use mathlib.Core.List.{append-nil, append_assoc}
use mathlib.Core.Path.{refl, ◌∙◌}
use Rattle.execute.specs.Edition.{edition_of}
use Rattle.execute.specs.declared.edition.Edition.{Edition}
use Rattle.emulator.specs.Core.{is_halted}
use Rattle.memory.specs.Log.{read_log, reply_log, Logged}
use Rattle.memory.specs.Memory.{Memory, read_at, write_at, read_of, write_of, Kept}
use Rattle.memory.specs.Rights.{right_of}
use Rattle.memory.specs.Store.{Store, memory_store}
use Rattle.emulator.specs.Machine.{Access, none, load, store, stop, Plan, read_reply, write_reply, make_of, Turn, carry_out, on_fetch, advanced, cycle_of, plain, refusal_in, step_of, Ran, is_stepped, next_of, run_until}
use Rattle.emulator.specs.declared.core_record.Core.{Core}
use Rattle.memory.specs.declared.log.Purpose.{Purpose}
use Rattle.memory.specs.declared.refusal.LogEnd.{LogEnd}
use Rattle.memory.specs.declared.rights.Right.{Right}
use Rattle.memory.specs.declared.stop.Stop.{Stop}
use Rattle.instructions.proofs.Cases.{if_elim}
use Rattle.memory.proofs.Marks.{kept_read, kept_write}
use Rattle.memory.proofs.Places.{place_elim}

-- what is logged of an access, by its reply
pub read_replied : (a : ℕ) (x : Result ℕ Stop) → reply_log (read_reply a x) ≡ read_log Purpose.Read a x
read_replied a (Ok w) = refl
read_replied a (Err s) = refl

pub write_replied : (x : Result (Unit {0}) Stop) → reply_log (write_reply x) ≡ []
write_replied (Ok u) = refl
write_replied (Err s) = refl

-- a relation that holds over each access, and over one after another
pub record Leads {S : Type 0} (store : Store S) (P : List ℕ → S → List ℕ → S → Type 0) : Type 0 where
  pub same : (l : List ℕ) (m : S) → P l m l m
  pub next : {l l₁ l₂ : List ℕ} {m m₁ m₂ : S} → P l m l₁ m₁ → P l₁ m₁ l₂ m₂ → P l m l₂ m₂
  pub read : (p : Purpose) (l : List ℕ) (m : S) (a : ℕ) → P l m (l ++ read_log p a (store.read m p a).answer) (store.read m p a).memory
  pub write : (l : List ℕ) (m : S) (a v : ℕ) → P l m l (store.write m a v).memory

module _ {S : Type 0} (on : Store S) {P : List ℕ → S → List ℕ → S → Type 0} (leads : Leads on P) where
  -- nothing is logged
  kept_log : (l : List ℕ) {m m' : S} → P l m l m' → P l m (l ++ []) m'
  kept_log l h = rw append-nil h

  -- an access, and what follows a fetch
  pub make_leads : (l : List ℕ) (x : Access) (m : S) → P l m (l ++ reply_log (make_of on x m).answer) (make_of on x m).memory
  make_leads l none m = kept_log l (leads.same l m)
  make_leads l (load a r up) m = rw read_replied (leads.read Purpose.Read l m a)
  make_leads l (store a v) m = rw write_replied (kept_log l (leads.write l m a v))
  make_leads l (stop s) m = kept_log l (leads.same l m)

  pub on_fetch_leads : (more : ℕ → S → Logged (Turn S)) (c : Core) (l : List ℕ) (m : S)
      → ((w : ℕ) → P l m (l ++ (more w m).log) (more w m).result.memory)
      → (r : Result ℕ Stop) → P l m (l ++ (on_fetch more c m r).log) (on_fetch more c m r).result.memory
  on_fetch_leads more c l m h (Ok w) = h w
  on_fetch_leads more c l m h (Err s) = kept_log l (leads.same l m)

  pub next_leads : (more : Core → S → List ℕ → Logged (Ran S)) (n : ℕ) (l : List ℕ)
      → ((c : Core) (m : S) (k : List ℕ) → P k m (more c m k).log (more c m k).result.memory) → (t : Logged (Turn S))
      → P (l ++ t.log) t.result.memory (next_of more n l t).log (next_of more n l t).result.memory
  next_leads more n l h t =
      if_elim (λ (r : Logged (Ran S)). P (l ++ t.log) t.result.memory r.log r.result.memory) (is_stepped t.result.outcome)
      (λ _. h t.result.core t.result.memory (l ++ t.log))
      (λ _. leads.same (l ++ t.log) t.result.memory)

  -- a cycle and a run, whatever the words are planned to do
  module _ (plan : Core → ℕ → Plan) where
    pub cycle_leads : (l : List ℕ) (c : Core) (m : S) → P l m (l ++ (cycle_of on plan c m).log) (cycle_of on plan c m).result.memory
    unfolding cycle_of
    cycle_leads l c m =
        rw (← append_assoc)
        (leads.next (leads.read Purpose.Fetch l m c.ip)
        (on_fetch_leads (λ w. carry_out on (plan (advanced c) w)) c _ _ (λ w. make_leads _ (plan (advanced c) w).access _) (on.read m Purpose.Fetch c.ip).answer))

    pub run_leads : (over : List ℕ → Bool) (why : LogEnd) (k n : ℕ) (c : Core) (m : S) (l : List ℕ)
        → P l m (run_until on plan over why k n c m l).log (run_until on plan over why k n c m l).result.memory
    unfolding run_until
    run_leads over why zero n c m l =
        if_elim (λ (r : Logged (Ran S)). P l m r.log r.result.memory) (is_halted c) (λ _. leads.same l m) (λ _. leads.same l m)
    run_leads over why (suc k) n c m l =
        if_elim After (is_halted c)
        (λ _. leads.same l m)
        (λ _. if_elim After (over l)
        (λ _. leads.same l m)
        (λ _. leads.next (cycle_leads l c m) (next_leads (run_until on plan over why k (n + 1)) n l (run_leads over why k (n + 1)) (cycle_of on plan c m))))
      where
        After : Logged (Ran S) → Type 0
        After r = P l m r.log r.result.memory

-- what an access keeps of memory
kept_same : (m : Memory) → Kept m m
kept_same m = record { read = λ a e. e; written = λ a e. e; others = λ a. refl; words_length = refl; marks_length = refl }

kept_next : {m m₁ m₂ : Memory} → Kept m m₁ → Kept m₁ m₂ → Kept m m₂
kept_next p q =
    record {
      read = λ a e. q.read a (p.read a e);
      written = λ a e. q.written a (p.written a e);
      others = λ a. q.others a ∙ p.others a;
      words_length = q.words_length ∙ p.words_length;
      marks_length = q.marks_length ∙ p.marks_length;
    }

module _ (rights : Option (List ℕ)) where
  read_keeps : (m : Memory) (p : Purpose) (a : ℕ) → Kept m (read_of rights m p a).memory
  unfolding read_of
  read_keeps m p a =
      place_elim rights (length m.words) (right_of p) a (λ (x : Result ℕ Stop). Kept m (read_at m x).memory)
      (λ _ _. kept_read m.words m.marks a) (λ _. kept_same m)

  write_keeps : (m : Memory) (a v : ℕ) → Kept m (write_of rights m a v).memory
  unfolding write_of
  write_keeps m a v =
      place_elim rights (length m.words) Right.Write a (λ (x : Result ℕ Stop). Kept m (write_at m v x).memory)
      (λ _ _. kept_write m.words m.marks a v) (λ _. kept_same m)

  pub kept_leads : Leads (memory_store rights) (λ l m l' m'. Kept m m')
  kept_leads = record { same = λ l m. kept_same m; next = kept_next; read = λ p l m a. read_keeps m p a; write = λ l m a v. write_keeps m a v }

  pub cycle_keeps : (plan : Core → ℕ → Plan) (c : Core) (m : Memory) → Kept m (cycle_of (memory_store rights) plan c m).result.memory
  cycle_keeps plan = cycle_leads (memory_store rights) kept_leads plan []

pub step_keeps : (plan : Edition → Core → ℕ → Plan) (c : Core) (m : Memory) (n : ℕ) → Kept m (step_of plan c m n).memory
unfolding step_of
step_keeps plan c m n =
    if_elim After (eqb (refusal_in (plain n) m) 0)
    (λ _. if_elim After (is_halted c) (λ _. kept_same m) (λ _. cycle_keeps None (plan (edition_of n)) c m))
    (λ _. kept_same m)
  where
    After : Turn Memory → Type 0
    After t = Kept m t.memory
