-- A logged run is the run without a log as far as its log has room, and how long its log is: two
-- words a read, at most two reads a step. Nothing here looks at an instruction.
use Rattle.std.specs.Prelude.{◌≡◌, ℕ, zero, suc, ◌+◌, ◌*◌, ◌≤◌, Bool, true, false, eqb, List, [], ◌++◌, length, Option, Result, Ok, Err}
use mathlib.Core.List.{append-nil, append_assoc}
use mathlib.Core.Path.{refl, ap}
use native.Mathlib.Nat.{add-zero}
use native.Mathlib.Omega.{arith}
use lib.ListN.{length-append}
use Rattle.emulator.specs.Core.{is_halted}
use Rattle.memory.specs.Log.{entry_of, read_log, reply_log, Logged, logged, Room}
use Rattle.memory.specs.Memory.{Memory}
use Rattle.memory.specs.Outcome.{Outcome, stepped, fault, refused, ended, stop_of}
use Rattle.memory.specs.Store.{memory_store}
use Rattle.execute.specs.Edition.{edition_of}
use Rattle.execute.specs.declared.edition.Edition.{Edition}
use Rattle.emulator.specs.Machine.{Access, none, load, store, stop, Plan, plan_of, read_reply, write_reply, settle_of, make_of, Turn, turn, carry_out, on_fetch, advanced, cycle_of, unmarked, Ran, ran, is_stepped, next_of, Setting, full_in, unlogged, logging_in, refusal_in, run_until, run_from, run_in}
use Rattle.emulator.specs.declared.core_record.Core.{Core}
use Rattle.memory.specs.declared.log.Purpose.{Purpose}
use Rattle.memory.specs.declared.refusal.LogEnd.{LogEnd}
use Rattle.memory.specs.declared.refusal.LogEnd.TheVariants.{Full}
use Rattle.memory.specs.declared.stop.Stop.{Stop}
use Rattle.instructions.proofs.Cases.{if_elim, if_both}
use Rattle.emulator.proofs.Runs.{stop_elim, run_limit}
use Rattle.emulator.proofs.Sizes.{run_fits}
use Rattle.run_laws.specs.Agreement.{HasRoom}
use Rattle.run_laws.specs.Logs.{LoggedIsPlain, cut_at, FullIsPlain, Reads, no_read, one_more, AtMost, LogSize}

-- from an outcome that is two different ones, which `cc` makes 0 ≡ 1
pub clash : {A : Type 0} → ◌≡◌ {A = ℕ} 0 1 → A
clash z = absurd (omega arith)

-- How many reads a log has.

pub two_words : {n : ℕ} {l : List ℕ} → Reads n l → length l ≡ 2 * n
two_words no_read = refl
two_words (one_more r p a w) = let h = two_words r in rw length-append (omega arith)

reads_append : {i j : ℕ} {l t : List ℕ} → Reads i l → Reads j t → Reads (i + j) (l ++ t)
reads_append r no_read = rw (append-nil, add-zero) r
reads_append {i} r (one_more {n = j} q p a w) =
    let next : i + (j + 1) ≡ i + j + 1 = omega arith in
    rw (← append_assoc, next) (one_more (reads_append r q) p a w)

at_most : {i : ℕ} {l : List ℕ} (most : ℕ) → AtMost i l → i ≤ most → AtMost most l
at_most most h e = record { count = h.count; reads = h.reads; within = omega arith }

more_reads : {i j : ℕ} {l t : List ℕ} (most : ℕ) → AtMost i l → AtMost j t → i + j ≤ most → AtMost most (l ++ t)
more_reads most h g e = record { count = h.count + g.count; reads = reads_append h.reads g.reads; within = omega arith }

no_reads : AtMost 0 []
no_reads = record { count = 0; reads = no_read; within = omega arith }

one_read : (p : Purpose) (a w : ℕ) → AtMost 1 (entry_of p a w)
one_read p a w = record { count = 1; reads = one_more no_read p a w; within = omega arith }

-- How a cycle comes out, with its log: it steps, after at most two reads, or it faults, after at
-- most one.
pub data Comes : Outcome → List ℕ → Type 0 where
  steps : {l : List ℕ} → AtMost 2 l → Comes stepped l
  faults : {n v : ℕ} {l : List ℕ} → AtMost 1 l → Comes (fault n v) l

few : {o : Outcome} {l : List ℕ} → Comes o l → AtMost 2 l
few (steps h) = h
few (faults h) = at_most 2 h (omega arith)

not_full : {o : Outcome} {l : List ℕ} → Comes o l → o ≡ ended 30 → ⊥
not_full (steps h) e = clash (cc)
not_full (faults h) e = clash (cc)

stop_comes : {l : List ℕ} → AtMost 1 l → (s : Stop) → Comes (stop_of s) l
stop_comes {l} h = stop_elim (λ (o : Outcome). Comes o l) (λ n v. faults h)

-- an access, after a fetch whose log is f
access_comes : (rights : Option (List ℕ)) {f : List ℕ} → AtMost 1 f → (c : Core) (x : Access) (m : Memory)
    → Comes (settle_of c x (make_of (memory_store rights) x m).answer).outcome (f ++ reply_log (make_of (memory_store rights) x m).answer)
access_comes rights h c none m = steps (more_reads 2 h no_reads (omega arith))
access_comes rights {f} h c (load a r up) m = by_answer ((memory_store rights).read m Purpose.Read a).answer
  where
    by_answer : (x : Result ℕ Stop) → Comes (settle_of c (load a r up) (read_reply a x)).outcome (f ++ reply_log (read_reply a x))
    by_answer (Ok w) = steps (more_reads 2 h (one_read Purpose.Read a w) (omega arith))
    by_answer (Err s) = stop_comes (more_reads 1 h no_reads (omega arith)) s
access_comes rights {f} h c (store a v) m = by_answer ((memory_store rights).write m a v).answer
  where
    by_answer : (x : Result (Unit {0}) Stop) → Comes (settle_of c (store a v) (write_reply x)).outcome (f ++ reply_log (write_reply x))
    by_answer (Ok u) = steps (more_reads 2 h no_reads (omega arith))
    by_answer (Err s) = stop_comes (more_reads 1 h no_reads (omega arith)) s
access_comes rights h c (stop s) m = stop_comes (more_reads 1 h no_reads (omega arith)) s

module _ (rights : Option (List ℕ)) (plan : Core → ℕ → Plan) where
  pub cycle_comes : (c : Core) (m : Memory) → Comes (cycle_of (memory_store rights) plan c m).result.outcome (cycle_of (memory_store rights) plan c m).log
  unfolding cycle_of
  cycle_comes c m = by_answer ((memory_store rights).read m Purpose.Fetch c.ip).answer
    where
      after : Result ℕ Stop → Logged (Turn Memory)
      after = on_fetch (λ w. carry_out (memory_store rights) (plan (advanced c) w)) c ((memory_store rights).read m Purpose.Fetch c.ip).memory

      by_answer : (r : Result ℕ Stop) → Comes (after r).result.outcome (read_log Purpose.Fetch c.ip r ++ (after r).log)
      by_answer (Ok w) = access_comes rights (one_read Purpose.Fetch c.ip w) (plan (advanced c) w).core (plan (advanced c) w).access _
      by_answer (Err s) = stop_comes (at_most 1 no_reads (omega arith)) s

-- What a run leaves has at most two reads a step, and one more if it faults.
abbrev ReadsOf : Logged (Ran Memory) → Type 0
ReadsOf r = AtMost (2 * r.result.steps + 1) r.log

-- it ends before a turn, or is refused
end_reads : (n : ℕ) {l : List ℕ} → AtMost (2 * n) l → AtMost (2 * n + 1) l
end_reads n h = at_most _ h (omega arith)

-- it goes on after a turn, or ends by it
next_reads : (more : Core → Memory → List ℕ → Logged (Ran Memory)) (n : ℕ) (l : List ℕ) → AtMost (2 * n) l
    → ((d : Core) (m : Memory) (k : List ℕ) → AtMost (2 * (n + 1)) k → ReadsOf (more d m k))
    → {o : Outcome} (d : Core) (m : Memory) {t : List ℕ} → Comes o t → ReadsOf (next_of more n l (logged (turn o d m) t))
next_reads more n l h rest d m (steps {l = t} g) = rest d m (l ++ t) (more_reads _ h g (omega arith))
next_reads more n l h rest d m (faults {l = t} g) = more_reads _ h g (omega arith)

turns_reads : (rights : Option (List ℕ)) (plan : Core → ℕ → Plan) (over : List ℕ → Bool) (why : LogEnd) (k n : ℕ) (c : Core) (m : Memory) (l : List ℕ) → AtMost (2 * n) l
    → ReadsOf (run_until (memory_store rights) plan over why k n c m l)
unfolding run_until
turns_reads rights plan over why zero n c m l h = if_elim ReadsOf (is_halted c) (λ _. end_reads n h) (λ _. end_reads n h)
turns_reads rights plan over why (suc k) n c m l h =
    if_elim ReadsOf (is_halted c)
    (λ _. end_reads n h)
    (λ _. if_elim ReadsOf (over l)
    (λ _. end_reads n h)
    (λ _. next_reads (run_until (memory_store rights) plan over why k (n + 1)) n l h (turns_reads rights plan over why k (n + 1)) _ _ (cycle_comes rights plan c m)))

-- a run is its turns, or is refused with nothing logged
pub run_in_by : (P : Logged (Ran Memory) → Type 0) (plan : Edition → Core → ℕ → Plan) (given : Setting) (c : Core) (m : Memory) (limit : ℕ)
    → P (run_from (memory_store given.rights) (plan (edition_of given.edition)) given.room limit 0 c (unmarked m) []) → P (logged (ran (refused (refusal_in given m)) 0 c m) []) → P (run_in plan given c m limit)
unfolding run_in
run_in_by P plan given c m limit turns refusal = if_elim P (eqb (refusal_in given m) 0) (λ _. turns) (λ _. refusal)

pub log_size : LogSize
log_size =
    record {
      two_words = two_words;
      two_reads = λ rights ed c m. few (cycle_comes rights (plan_of ed) c m);
      run_reads = λ given c m limit.
          run_in_by ReadsOf plan_of given c m limit (turns_reads given.rights (plan_of (edition_of given.edition)) (full_in given.room) Full limit 0 c (unmarked m) [] no_reads) (end_reads 0 no_reads);
      in_buffer = λ c m limit buffer rights n.
          run_in_by (λ r. length r.log ≤ length buffer) plan_of (logging_in buffer rights n) c m limit
          (run_fits (memory_store rights) (plan_of (edition_of n)) (length buffer) Full limit 0 c (unmarked m) [] (omega arith))
          (omega arith);
    }

-- A logged run and the one without a log: by induction on what is left of the limit.

-- a run that has room is q, the run without a log
abbrev SameIfRoom : Logged (Ran Memory) → Logged (Ran Memory) → Type 0
SameIfRoom r q = HasRoom r → r ≡ q

-- the run without a log with so many steps left that it ends by the limit where r, which had
-- counted n, ends
record Cut (plainly : ℕ → Logged (Ran Memory)) (n : ℕ) (r : Logged (Ran Memory)) : Type 0 where
  left : ℕ
  counted : r.result.steps ≡ n + left
  same : (plainly left).result ≡ cut_at r

-- a run that ends by 30 is cut short
abbrev CutIfFull : (ℕ → Logged (Ran Memory)) → ℕ → Logged (Ran Memory) → Type 0
CutIfFull plainly n r = r.result.end ≡ ended 30 → Cut plainly n r

module _ (rights : Option (List ℕ)) (plan : Core → ℕ → Plan) (over : List ℕ → Bool) where
  room_turns : (k n : ℕ) (c : Core) (m : Memory) (l : List ℕ)
      → SameIfRoom (run_until (memory_store rights) plan over Full k n c m l) (run_from (memory_store rights) plan Room.none k n c m l)
  unfolding run_until
  room_turns zero n c m l = λ _. refl
  room_turns (suc k) n c m l =
      if_both SameIfRoom (is_halted c) (is_halted c) refl
      (λ _ _. refl)
      (λ _. if_elim (λ (r : Logged (Ran Memory)). SameIfRoom r (next_of (run_from (memory_store rights) plan Room.none k (n + 1)) n l t)) (over l)
      (λ _ room. absurd (room refl))
      (λ _. if_both SameIfRoom (is_stepped t.result.outcome) (is_stepped t.result.outcome) refl
      (λ _. room_turns k (n + 1) t.result.core t.result.memory (l ++ t.log))
      (λ _ _. refl)))
    where
      t : Logged (Turn Memory)
      t = cycle_of (memory_store rights) plan c m

  full_turns : (k n : ℕ) (c : Core) (m : Memory) (l : List ℕ)
      → CutIfFull (λ j. run_from (memory_store rights) plan Room.none j n c m l) n (run_until (memory_store rights) plan over Full k n c m l)
  unfolding run_until
  full_turns zero n c m l = if_elim (CutIfFull _ n) (is_halted c) (λ _ e. clash (cc)) (λ _ e. clash (cc))
  full_turns (suc k) n c m l =
      if_elim (CutIfFull plainly n) (is_halted c)
      (λ _ e. clash (cc))
      (λ q. if_elim (CutIfFull plainly n) (over l)
      (λ _ e. record { left = 0; counted = omega arith; same = ap (λ (r : Logged (Ran Memory)). r.result) (run_limit (memory_store rights) plan (full_in Room.none) Full c m n l q) })
      (λ _. if_elim (CutIfFull plainly n) (is_stepped t.result.outcome)
      (λ s e. turn_more q s (full_turns k (n + 1) t.result.core t.result.memory (l ++ t.log) e))
      (λ _ e. absurd (not_full (cycle_comes rights plan c m) e))))
    where
      plainly : ℕ → Logged (Ran Memory)
      plainly j = run_from (memory_store rights) plan Room.none j n c m l

      t : Logged (Turn Memory)
      t = cycle_of (memory_store rights) plan c m

      -- the run without a log makes the turn too
      turn_more : is_halted c ≡ false → is_stepped t.result.outcome ≡ true → {r : Logged (Ran Memory)}
          → Cut (λ j. run_from (memory_store rights) plan Room.none j (n + 1) t.result.core t.result.memory (l ++ t.log)) (n + 1) r → Cut plainly n r
      turn_more q s h = record { left = suc h.left; counted = omega arith; same = rw (q, s) h.same }

pub logged_plain : (plan : Edition → Core → ℕ → Plan) (given : Setting) (c : Core) (m : Memory) (limit : ℕ) → HasRoom (run_in plan given c m limit)
    → run_in plan given c m limit ≡ run_in plan (unlogged given.rights given.edition) c m limit
unfolding run_in
logged_plain plan given c m limit =
    let asked = eqb (refusal_in given m) 0 in
    if_both SameIfRoom asked asked refl (λ _. room_turns given.rights (plan (edition_of given.edition)) (full_in given.room) limit 0 c (unmarked m) []) (λ _ _. refl)

full_plain : (plan : Edition → Core → ℕ → Plan) (given : Setting) (c : Core) (m : Memory) (limit : ℕ) → (run_in plan given c m limit).result.end ≡ ended 30
    → (run_in plan (unlogged given.rights given.edition) c m (run_in plan given c m limit).result.steps).result ≡ cut_at (run_in plan given c m limit)
unfolding run_in
full_plain plan given c m limit =
    if_elim (λ (r : Logged (Ran Memory)). r.result.end ≡ ended 30 → (run_in plan (unlogged given.rights given.edition) c m r.result.steps).result ≡ cut_at r) (eqb (refusal_in given m) 0)
    (λ ok e. rw (ok, run_in) (whole (full_turns given.rights (plan (edition_of given.edition)) (full_in given.room) limit 0 c (unmarked m) [] e)))
    (λ _ e. clash (cc))
  where
    whole : {plainly : ℕ → Logged (Ran Memory)} {r : Logged (Ran Memory)} → Cut plainly 0 r → (plainly r.result.steps).result ≡ cut_at r
    whole {r = r} h = let all : h.left ≡ r.result.steps = omega arith in rw all at h.same

pub logged_is_plain : LoggedIsPlain
logged_is_plain = logged_plain plan_of

pub full_is_plain : FullIsPlain
full_is_plain = full_plain plan_of
