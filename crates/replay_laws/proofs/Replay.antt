-- The replay of a run's log is the run: the run on memory and the run on its log go side by side.
-- Nothing here looks at an instruction.
use Prim.Native.Nat.{ℕ, ◌%◌}
use Rattle.std.specs.Prelude.{false, Result, Ok, Option}
use mathlib.Core.List.{List, [], ◌++◌, append-nil, append_assoc, append_cancel_left}
use mathlib.Core.Path.{◌≡◌, refl, sym, ap, ◌∙◌}
use native.Mathlib.Omega.{arith}
use lib.ListN.{length, get_or, drop, length-set}
use Rattle.instructions.proofs.Cases.{by_test}
use Rattle.execute_laws.specs.Words.{IsWord}
use Rattle.execute.specs.Edition.{edition_of}
use Rattle.execute.specs.declared.edition.Edition.{Edition}
use Rattle.memory.specs.Log.{entry_of, read_log, Logged, Room}
use Rattle.memory.specs.Memory.{Memory, lent, refused_length, mark_read, Accessed, accessed, at_place, read_at, write_at, read_of, write_of}
use Rattle.memory.specs.Store.{memory_store}
use Rattle.emulator.specs.Machine.{plan_of, refusal_of, refusal_in, unmarked, Ran, Setting, unlogged, full_in, run_from}
use Rattle.memory.specs.Rights.{right_of}
use Rattle.memory.specs.declared.log.Purpose.{Purpose}
use Rattle.memory.specs.declared.refusal.LogEnd.TheVariants.{Full}
use Rattle.memory.specs.declared.rights.Right.{Right}
use Rattle.memory.specs.declared.stop.Stop.{Stop}
use Rattle.emulator.proofs.Keeps.{Leads}
use Rattle.emulator.proofs.Laws.{with_accepted, rights_accepted, edition_accepted}
use Rattle.memory.proofs.Places.{place_elim, place_both}
use Rattle.emulator.proofs.Whole.{accepted_run}
use Rattle.replay.specs.Replay.{Tape, tape, read_tape, write_tape, tape_store, answer_of, replay_refusal}
use Rattle.replay.proofs.Replays.{Begins, begins_leads, replay_accepted}
use Rattle.replay.proofs.Tapes.{same_self}
use Rattle.run_laws.proofs.Logs.{logged_plain}
use Rattle.run_laws.proofs.Simulation.{ReadFits, Same, Simulates, RanTwins, twin_run}
use Rattle.replay_laws.specs.Replay.{CoreFits, MemoryFits, seen_again, ReplayIsRun}
use Rattle.replay_laws.proofs.Words.{set_fits, load_fits, plan_fits, access_fits}

-- F is the log of the whole run. In mid-run the tape has what is left of it, and memory holds
-- words.
record OnTape (F l : List ℕ) (m : Memory) (t : Tape) : Type 0 where
  size : t.size ≡ length m.words
  rest : F ≡ l ++ t.rest
  fits : MemoryFits m

-- what is logged by now, the log of the whole run begins with
abbrev Seen : List ℕ → List ℕ → Memory → Type 0
Seen F l m = Begins l F

seen_leads : (rights : Option (List ℕ)) (F : List ℕ) → Leads (memory_store rights) (λ l m l' m'. Seen F l' m' → Seen F l m)
seen_leads rights F =
    record {
      same = λ l m h. h;
      next = λ p q h. p (q h);
      read = λ p l m a. after (begins.read p l m a);
      write = λ l m a v. after (begins.write l m a v);
    }
  where
    begins : Leads (memory_store rights) (λ l m l' m'. Begins l l')
    begins = begins_leads (memory_store rights)

    after : {l l' : List ℕ} → Begins l l' → Begins l' F → Begins l F
    after {l} p q = record { more = p.more ++ q.more; is = q.is ∙ rw (p.is, append_assoc) }

-- a read of the tape at its place
abbrev next_at : Tape → Result ℕ Stop → Accessed Tape (Result ℕ Stop)
next_at t k = at_place k (λ k. accessed (Ok (get_or t.rest 1 0 % 65536)) (tape t.size (drop 2 t.rest))) t

module _ (rights : Option (List ℕ)) (F : List ℕ) where
  -- a read in range finds its entry next on the tape
  entry_next : (p : Purpose) (l : List ℕ) (m : Memory) (t : Tape) (a : ℕ) → OnTape F l m t → Begins (l ++ entry_of p a (get_or m.words a 0)) F
      → Same {S = Memory} {S' = Tape} {A = Result ℕ Stop} (accessed (Ok (get_or m.words a 0)) (lent m.words (mark_read m.marks a))) (accessed (Ok (get_or t.rest 1 0 % 65536)) (tape t.size (drop 2 t.rest))) (OnTape F (l ++ entry_of p a (get_or m.words a 0)))
  entry_next p l m t a h b =
      let w : ℕ = get_or m.words a 0 in
      let next : t.rest ≡ entry_of p a w ++ b.more = append_cancel_left l t.rest (entry_of p a w ++ b.more) (sym h.rest ∙ (b.is ∙ append_assoc l (entry_of p a w) b.more)) in
      let fit = h.fits a in
      record {
        answer = rw next (ap (λ (v : ℕ). Ok v) (omega arith));
        kept = rw next (record { size = h.size; rest = b.is; fits = h.fits });
      }

  twin_read : (p : Purpose) (l : List ℕ) (m : Memory) (t : Tape) (a : ℕ) → OnTape F l m t → Seen F (l ++ read_log p a (read_of rights m p a).answer) (read_of rights m p a).memory
      → Same (read_of rights m p a) (read_tape rights t p a) (OnTape F (l ++ read_log p a (read_of rights m p a).answer))
  unfolding read_of read_tape
  twin_read p l m t a h seen =
      place_both rights (right_of p) a (sym h.size) (λ (k k' : Result ℕ Stop). Begins (l ++ read_log p a (read_at m k).answer) F → Same (read_at m k) (next_at t k') (OnTape F (l ++ read_log p a (read_at m k).answer)))
      (λ _ _ b. entry_next p l m t a h b)
      (λ _ _. record { answer = refl; kept = rw append-nil h })
      seen

  twin_write : (l : List ℕ) (m : Memory) (t : Tape) (a v : ℕ) → IsWord v → OnTape F l m t → Same (write_of rights m a v) (write_tape rights t a v) (OnTape F l)
  unfolding write_of write_tape
  twin_write l m t a v w h =
      place_both rights Right.Write a (sym h.size)
      (λ (k k' : Result ℕ Stop). Same (write_at m v k) (at_place {Answer = Unit {0}} k' (λ k. accessed (Ok tt) t) t) (OnTape F l))
      (λ _ _. record { answer = refl; kept = record { size = h.size ∙ sym (length-set m.words a v); rest = h.rest; fits = set_fits m.words a v w h.fits } })
      (λ _. record { answer = refl; kept = h })

  read_fits : (m : Memory) (p : Purpose) (a : ℕ) → MemoryFits m → ReadFits IsWord (read_of rights m p a).answer
  unfolding read_of
  read_fits m p a h =
      place_elim rights (length m.words) (right_of p) a (λ (k : Result ℕ Stop). ReadFits IsWord (read_at m k).answer) (λ _ _. h a) (λ _. tt)

  on_tape : (ed : Edition) → Simulates (memory_store rights) (tape_store rights) (plan_of ed) IsWord CoreFits (OnTape F) (Seen F)
  on_tape ed =
      record {
        read = twin_read;
        read_fits = λ p l m t a h. read_fits m p a h.fits;
        write = twin_write;
        seen = seen_leads rights F;
        plan_fits = plan_fits ed;
        access_fits = access_fits ed;
        load_fits = load_fits;
      }

-- where no host test of the run refuses, none of the replay does
length_passed : (m : Memory) → refusal_of m ≡ 0 → refused_length (length m.words) ≡ false
unfolding refusal_of
length_passed m ok = by_test (refused_length (length m.words)) (λ t. absurd (let z : ◌≡◌ {A = ℕ} 1 0 = rw t at ok in omega arith)) (λ f. f)

replay_passes : (given : Setting) (m : Memory) → refusal_in given m ≡ 0 → 0 ≡ replay_refusal given.rights given.edition (length m.words)
replay_passes given m ok =
    rw (rights_accepted given m ok, edition_accepted given m ok, length_passed m (with_accepted given m ok))

pub replay_is_run : ReplayIsRun
replay_is_run given c m limit core memory ok room =
    rw (logged_plain plan_of given c m limit room, accepted_run plan_of (unlogged given.rights given.edition) c m limit ok)
    (sym (replay_accepted given.rights given.edition c (length m.words) limit first.log (replay_passes given m ok) refl refl) ∙ seen)
  where
    edition : Edition
    edition = edition_of given.edition

    first : Logged (Ran Memory)
    first = run_from (memory_store given.rights) (plan_of edition) Room.none limit 0 c (unmarked m) []

    again : Logged (Ran Tape)
    again = run_from (tape_store given.rights) (plan_of edition) Room.none limit 0 c (tape (length m.words) first.log) []

    twins : RanTwins (memory_store given.rights) (tape_store given.rights) (plan_of edition) IsWord CoreFits (OnTape first.log) (Seen first.log) (on_tape given.rights first.log edition) first again
    twins =
        twin_run (memory_store given.rights) (tape_store given.rights) (plan_of edition) IsWord CoreFits (OnTape first.log) (Seen first.log) (on_tape given.rights first.log edition) (full_in Room.none) Full limit 0 c (unmarked m) (tape (length m.words) first.log) [] core
        (record { size = refl; rest = refl; fits = memory })
        (record { more = []; is = sym (append-nil first.log) })

    seen : answer_of c first.log again ≡ seen_again first
    seen = rw (twins.same, same_self first.log)
