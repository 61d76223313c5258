-- Two runs side by side, each on what stands for its memory: they differ in that alone, as long as
-- a relation of the two is kept by each access. Nothing here looks at an instruction.
use Rattle.std.specs.Prelude.{◌≡◌, ℕ, zero, suc, ◌+◌, Bool, List, [], ◌++◌, Result, Ok, Err}
use mathlib.Core.List.{append-nil, append_assoc}
use mathlib.Core.Path.{refl, sym, ap, subst}
use Rattle.instructions.proofs.Cases.{if_both}
use Rattle.instructions.specs.declared.reg.GeneralPurposeRegister.{GeneralPurposeRegister}
use Rattle.emulator.specs.Core.{is_halted}
use Rattle.memory.specs.Log.{read_log, Reply, reply_log, Logged, logged}
use Rattle.memory.specs.Memory.{Accessed, accessed}
use Rattle.memory.specs.Outcome.{Outcome}
use Rattle.memory.specs.Store.{Store}
use Rattle.emulator.specs.Machine.{Access, none, load, store, stop, Plan, loaded, settle_of, read_reply, write_reply, make_of, Turn, turn, settled_turn, carry_out, after_fetch, advanced, cycle_of, Ran, ran, is_stepped, next_of, run_until}
use Rattle.emulator.specs.declared.core_record.Core.{Core}
use Rattle.memory.specs.declared.log.Purpose.{Purpose}
use Rattle.memory.specs.declared.refusal.LogEnd.{LogEnd}
use Rattle.memory.specs.declared.stop.Stop.{Stop}
use Rattle.emulator.proofs.Keeps.{Leads, make_leads, on_fetch_leads, next_leads, run_leads, read_replied, write_replied}

-- What is known of every word that is read or written: W.
abbrev pub ReadFits : (ℕ → Type 0) → Result ℕ Stop → Type 0
ReadFits W (Ok w) = W w
ReadFits W (Err s) = Unit {0}

abbrev pub AccessFits : (ℕ → Type 0) → Access → Type 0
AccessFits W none = Unit {0}
AccessFits W (load a r up) = Unit {0}
AccessFits W (store a v) = W v
AccessFits W (stop s) = Unit {0}

abbrev ReplyFits : (ℕ → Type 0) → Reply → Type 0
ReplyFits W Reply.done = Unit {0}
ReplyFits W (Reply.word a w) = W w
ReplyFits W (Reply.stopped s) = Unit {0}

-- two accesses that answer the same
pub record Same {S S' A : Type 0} (x : Accessed S A) (y : Accessed S' A) (alike : S → S' → Type 0) : Type 0 where
  pub answer : y.answer ≡ x.answer
  pub kept : alike x.memory y.memory

-- What each access keeps. R relates the log so far and the two memories; Seen says of the first
-- run's log and memory what its end tells of them, and held before if it holds after; Fits says of
-- the core what its words are known to be.
pub record Simulates {S S' : Type 0} (first : Store S) (second : Store S') (plan : Core → ℕ → Plan) (W : ℕ → Type 0) (Fits : Core → Type 0)
    (R : List ℕ → S → S' → Type 0) (Seen : List ℕ → S → Type 0) : Type 0 where
  pub read : (p : Purpose) (l : List ℕ) (m : S) (m' : S') (a : ℕ) → R l m m'
      → Seen (l ++ read_log p a (first.read m p a).answer) (first.read m p a).memory
      → Same (first.read m p a) (second.read m' p a) (R (l ++ read_log p a (first.read m p a).answer))
  pub read_fits : (p : Purpose) (l : List ℕ) (m : S) (m' : S') (a : ℕ) → R l m m' → ReadFits W (first.read m p a).answer
  pub write : (l : List ℕ) (m : S) (m' : S') (a v : ℕ) → W v → R l m m' → Same (first.write m a v) (second.write m' a v) (R l)
  pub seen : Leads first (λ l m l' m'. Seen l' m' → Seen l m)
  pub plan_fits : (c : Core) (w : ℕ) → Fits c → W w → Fits (plan (advanced c) w).core
  pub access_fits : (c : Core) (w : ℕ) → Fits c → W w → AccessFits W (plan (advanced c) w).access
  pub load_fits : (c : Core) (r : GeneralPurposeRegister) (up w : ℕ) → Fits c → W w → Fits (loaded c r up w)

module _ {S S' : Type 0} (first : Store S) (second : Store S') (plan : Core → ℕ → Plan) (W : ℕ → Type 0) (Fits : Core → Type 0)
    (R : List ℕ → S → S' → Type 0) (Seen : List ℕ → S → Type 0) (sim : Simulates first second plan W Fits R Seen) where
  -- two turns, and two runs, that differ in memory alone
  pub record Twins (l : List ℕ) (t : Logged (Turn S)) (u : Logged (Turn S')) : Type 0 where
    pub same : u ≡ logged (turn t.result.outcome t.result.core u.result.memory) t.log
    pub alike : R (l ++ t.log) t.result.memory u.result.memory
    pub fits : Fits t.result.core

  pub record RanTwins (r : Logged (Ran S)) (q : Logged (Ran S')) : Type 0 where
    pub same : q ≡ logged (ran r.result.end r.result.steps r.result.core q.result.memory) r.log
    pub alike : R r.log r.result.memory q.result.memory

  -- nothing is logged
  unlogged : (l : List ℕ) {m : S} {m' : S'} → R l m m' → R (l ++ []) m m'
  unlogged l h = rw append-nil h

  -- an access made
  twin_make : (l : List ℕ) (x : Access) (m : S) (m' : S') → AccessFits W x → R l m m'
      → Seen (l ++ reply_log (make_of first x m).answer) (make_of first x m).memory
      → Same (make_of first x m) (make_of second x m') (R (l ++ reply_log (make_of first x m).answer))
  twin_make l none m m' fit h seen = record { answer = refl; kept = unlogged l h }
  twin_make l (load a r up) m m' fit h seen =
      let s = sim.read Purpose.Read l m m' a h (rw read_replied at seen) in
      record { answer = ap (read_reply a) s.answer; kept = rw read_replied s.kept }
  twin_make l (store a v) m m' fit h seen =
      let s = sim.write l m m' a v fit h in
      record { answer = ap write_reply s.answer; kept = rw write_replied (unlogged l s.kept) }
  twin_make l (stop s) m m' fit h seen = record { answer = refl; kept = unlogged l h }

  -- the words of its reply
  reply_fits : (l : List ℕ) (x : Access) (m : S) (m' : S') → R l m m' → ReplyFits W (make_of first x m).answer
  reply_fits l none m m' h = tt
  reply_fits l (load a r up) m m' h = by_answer (first.read m Purpose.Read a).answer (sim.read_fits Purpose.Read l m m' a h)
    where
      by_answer : (x : Result ℕ Stop) → ReadFits W x → ReplyFits W (read_reply a x)
      by_answer (Ok w) fit = fit
      by_answer (Err s) fit = tt
  reply_fits l (store a v) m m' h = by_answer (first.write m a v).answer
    where
      by_answer : (x : Result (Unit {0}) Stop) → ReplyFits W (write_reply x)
      by_answer (Ok u) = tt
      by_answer (Err s) = tt
  reply_fits l (stop s) m m' h = tt

  settle_fits : (c : Core) (x : Access) (r : Reply) → Fits c → ReplyFits W r → Fits (settle_of c x r).core
  settle_fits c none r f w = f
  settle_fits c (load a g up) Reply.done f w = f
  settle_fits c (load a g up) (Reply.word b v) f w = sim.load_fits c g up v f w
  settle_fits c (load a g up) (Reply.stopped s) f w = f
  settle_fits c (store a v) Reply.done f w = f
  settle_fits c (store a v) (Reply.word b k) f w = f
  settle_fits c (store a v) (Reply.stopped s) f w = f
  settle_fits c (stop s) r f w = f

  -- a plan carried out
  twin_carry : (l : List ℕ) (p : Plan) (m : S) (m' : S') → Fits p.core → AccessFits W p.access → R l m m'
      → Seen (l ++ (carry_out first p m).log) (carry_out first p m).result.memory → Twins l (carry_out first p m) (carry_out second p m')
  twin_carry l p m m' fit access_fit h seen =
      let s = twin_make l p.access m m' access_fit h seen in
      record {
        same = ap (λ (r : Reply). settled_turn p (accessed r (make_of second p.access m').memory)) s.answer;
        alike = s.kept;
        fits = settle_fits p.core p.access (make_of first p.access m).answer fit (reply_fits l p.access m m' h);
      }

  -- turns whose log words follow those of a fetch
  after_fetch_lem : (l e : List ℕ) (t : Logged (Turn S)) (u : Logged (Turn S')) → Twins (l ++ e) t u → Twins l (logged t.result (e ++ t.log)) (logged u.result (e ++ u.log))
  after_fetch_lem l e t u tw =
      record {
        same = ap (λ (v : Logged (Turn S')). logged v.result (e ++ v.log)) tw.same;
        alike = rw append_assoc at tw.alike;
        fits = tw.fits;
      }

  twin_fetched : (l : List ℕ) (c : Core) (m : S) (m' : S') → Fits c → (r : Result ℕ Stop) → ReadFits W r → R (l ++ read_log Purpose.Fetch c.ip r) m m'
      → Seen (l ++ (after_fetch (λ w. carry_out first (plan (advanced c) w)) c (accessed r m)).log) (after_fetch (λ w. carry_out first (plan (advanced c) w)) c (accessed r m)).result.memory
      → Twins l (after_fetch (λ w. carry_out first (plan (advanced c) w)) c (accessed r m)) (after_fetch (λ w. carry_out second (plan (advanced c) w)) c (accessed r m'))
  twin_fetched l c m m' fit (Ok w) word h seen =
      after_fetch_lem l _ (carry_out first (plan (advanced c) w) m) (carry_out second (plan (advanced c) w) m')
      (twin_carry _ (plan (advanced c) w) m m' (sim.plan_fits c w fit word) (sim.access_fits c w fit word) h (rw (← append_assoc) at seen))
  twin_fetched l c m m' fit (Err s) word h seen = record { same = refl; alike = h; fits = fit }

  twin_cycle : (l : List ℕ) (c : Core) (m : S) (m' : S') → Fits c → R l m m'
      → Seen (l ++ (cycle_of first plan c m).log) (cycle_of first plan c m).result.memory
      → Twins l (cycle_of first plan c m) (cycle_of second plan c m')
  unfolding cycle_of
  twin_cycle l c m m' fit h seen =
      subst (λ (r : Result ℕ Stop). Twins l (after_fetch more c x) (after_fetch more' c (accessed r y.memory))) (sym s.answer)
      (twin_fetched l c x.memory y.memory fit x.answer (sim.read_fits Purpose.Fetch l m m' c.ip h) s.kept seen)
    where
      x : Accessed S (Result ℕ Stop)
      x = first.read m Purpose.Fetch c.ip

      y : Accessed S' (Result ℕ Stop)
      y = second.read m' Purpose.Fetch c.ip

      more : ℕ → S → Logged (Turn S)
      more w = carry_out first (plan (advanced c) w)

      more' : ℕ → S' → Logged (Turn S')
      more' w = carry_out second (plan (advanced c) w)

      before : Seen (l ++ read_log Purpose.Fetch c.ip x.answer) x.memory
      before =
          on_fetch_leads first sim.seen more c _ x.memory (λ w. make_leads first sim.seen _ (plan (advanced c) w).access x.memory) x.answer
          (rw (← append_assoc) at seen)

      s : Same x y (R (l ++ read_log Purpose.Fetch c.ip x.answer))
      s = sim.read Purpose.Fetch l m m' c.ip h before

  twin_next : (more : Core → S → List ℕ → Logged (Ran S)) (more' : Core → S' → List ℕ → Logged (Ran S')) (n : ℕ) (l : List ℕ)
      → ((c : Core) (m : S) (m' : S') (k : List ℕ) → Fits c → R k m m' → Seen (more c m k).log (more c m k).result.memory → RanTwins (more c m k) (more' c m' k))
      → (t : Logged (Turn S)) (u : Logged (Turn S')) → Twins l t u → Seen (next_of more n l t).log (next_of more n l t).result.memory
      → RanTwins (next_of more n l t) (next_of more' n l u)
  twin_next more more' n l twin t u tw seen =
      subst (λ (v : Logged (Turn S')). RanTwins (next_of more n l t) (next_of more' n l v)) (sym tw.same)
      (if_both (λ (r : Logged (Ran S)) (q : Logged (Ran S')). Seen r.log r.result.memory → RanTwins r q) (is_stepped t.result.outcome) (is_stepped t.result.outcome) refl
      (λ _ low. twin t.result.core t.result.memory u.result.memory (l ++ t.log) tw.fits tw.alike low)
      (λ _ low. record { same = refl; alike = tw.alike })
      seen)

  pub twin_run : (over : List ℕ → Bool) (why : LogEnd) (k n : ℕ) (c : Core) (m : S) (m' : S') (l : List ℕ) → Fits c → R l m m'
      → Seen (run_until first plan over why k n c m l).log (run_until first plan over why k n c m l).result.memory
      → RanTwins (run_until first plan over why k n c m l) (run_until second plan over why k n c m' l)
  unfolding run_until
  twin_run over why zero n c m m' l fit h seen =
      if_both Both (is_halted c) (is_halted c) refl (λ _ _. here) (λ _ _. here) seen
    where
      Both : Logged (Ran S) → Logged (Ran S') → Type 0
      Both r q = Seen r.log r.result.memory → RanTwins r q

      here : {o : Outcome} → RanTwins (logged (ran o n c m) l) (logged (ran o n c m') l)
      here = record { same = refl; alike = h }
  twin_run over why (suc k) n c m m' l fit h seen =
      if_both Both (is_halted c) (is_halted c) refl
      (λ _ _. here)
      (λ _. if_both Both (over l) (over l) refl
      (λ _ _. here)
      (λ _ low. twin_next (run_until first plan over why k (n + 1)) (run_until second plan over why k (n + 1)) n l
      (λ c₁ m₁ m₂ k₁. twin_run over why k (n + 1) c₁ m₁ m₂ k₁) (cycle_of first plan c m) (cycle_of second plan c m')
      (twin_cycle l c m m' fit h
      (next_leads first sim.seen (run_until first plan over why k (n + 1)) n l (run_leads first sim.seen plan over why k (n + 1)) (cycle_of first plan c m) low))
      low))
      seen
    where
      Both : Logged (Ran S) → Logged (Ran S') → Type 0
      Both r q = Seen r.log r.result.memory → RanTwins r q

      here : {o : Outcome} → RanTwins (logged (ran o n c m) l) (logged (ran o n c m') l)
      here = record { same = refl; alike = h }
