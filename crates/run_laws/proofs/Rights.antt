-- What rights keep: each access is at an address whose page has its right, so what a page lacks the
-- right for never happens to its addresses. Nothing here looks at an instruction.
use Rattle.std.specs.Prelude.{◌≡◌, ◌≢◌, ℕ, zero, suc, ◌^◌, ◌/◌, ◌<◌, ◌≤◌, Bool, true, false, List, [], ◌∷◌, ◌++◌, length, get_or, Option, Result}
use mathlib.Core.List.{append-nil}
use mathlib.Core.Path.{refl, sym, ap, ◌∙◌}
use mathlib.Core.Logic.{⊎_elim}
use native.Mathlib.Omega.{arith}
use Rattle.std.proofs.lemmas.Bool.{true≢false}
use lib.ListN.{length-set}
use lib.Seq.{get_or-set_other}
use Rattle.instructions.proofs.Cases.{by_test}
use Rattle.memory.specs.Log.{address_word, value_word, entry_of, read_log, Logged}
use Rattle.memory.specs.Memory.{Memory, was_read, was_written, read_mark, write_mark, read_at, write_at, read_of, write_of}
use Rattle.memory.specs.Rights.{right_of, has_right}
use Rattle.memory.specs.Store.{memory_store}
use Rattle.execute.specs.Edition.{edition_of}
use Rattle.emulator.specs.Machine.{plan_of, unmarked, Ran, Setting, full_in, refusal_in, run_in}
use Rattle.emulator.specs.declared.core_record.Core.{Core}
use Rattle.memory.specs.declared.log.Purpose.{Purpose}
use Rattle.memory.specs.declared.refusal.LogEnd.TheVariants.{Full}
use Rattle.memory.specs.declared.rights.Right.{Right}
use Rattle.memory.specs.declared.stop.Stop.{Stop}
use Rattle.emulator.proofs.Keeps.{Leads, run_leads}
use Rattle.emulator.proofs.Laws.{accepted_length, with_accepted}
use Rattle.memory.proofs.Marks.{written_read, read_written, written_cases}
use Rattle.memory.proofs.Places.{place_elim}
use Rattle.emulator.proofs.Whole.{accepted_run}
use Rattle.run_laws.specs.Agreement.{word_at, mark_at, AgreeLogged, equal_room}
use Rattle.run_laws.specs.Rights.{Lacks, Closed, Unnamed, Untouched, ClosedKept, EqualButClosed, AgreeButClosed, Isolation}
use Rattle.run_laws.proofs.Agreement.{get_d_zeros, agreement}
use Rattle.run_laws.proofs.Claims.{run_keeps}

-- a page doesn't both have a right and lack it
both : {A : Type 0} {b : Bool} → b ≡ true → b ≡ false → A
both t f = absurd (true≢false (sym t ∙ f))

-- What each access keeps of the address a.
module _ (rights : Option (List ℕ)) (a : ℕ) where
  -- an access isn't at an address that lacks its right
  apart : (r : Right) {b : ℕ} → has_right rights r b ≡ true → Lacks rights r a → a ≢ b
  apart r h l e = both h (rw e at l)

  apart_read : (p : Purpose) {b : ℕ} → has_right rights (right_of p) b ≡ true → Lacks rights Right.Read a → Lacks rights Right.Execute a → a ≢ b
  apart_read Purpose.Fetch h read execute = apart Right.Execute h execute
  apart_read Purpose.Read h read execute = apart Right.Read h read

  record Spares (m m' : Memory) : Type 0 where
    word : Lacks rights Right.Write a → word_at m' a ≡ word_at m a
    written : Lacks rights Right.Write a → was_written (mark_at m' a) ≡ was_written (mark_at m a)
    read : Lacks rights Right.Read a → Lacks rights Right.Execute a → was_read (mark_at m' a) ≡ was_read (mark_at m a)

  spares_same : (m : Memory) → Spares m m
  spares_same m = record { word = λ _. refl; written = λ _. refl; read = λ _ _. refl }

  spares_next : {m m₁ m₂ : Memory} → Spares m m₁ → Spares m₁ m₂ → Spares m m₂
  spares_next x y =
      record {
        word = λ l. y.word l ∙ x.word l;
        written = λ l. y.written l ∙ x.written l;
        read = λ l n. y.read l n ∙ x.read l n;
      }

  read_spares : (p : Purpose) (m : Memory) (b : ℕ) → Spares m (read_of rights m p b).memory
  unfolding read_of
  read_spares p m b =
      place_elim rights (length m.words) (right_of p) b (λ (x : Result ℕ Stop). Spares m (read_at m x).memory)
      (λ _ h. record {
        word = λ _. refl;
        written = λ _. written_read m.marks b a;
        read = λ l n. ap was_read (get_or-set_other m.marks b a (read_mark (mark_at m b)) 0 (apart_read p h l n));
      })
      (λ _. spares_same m)

  write_spares : (m : Memory) (b v : ℕ) → Spares m (write_of rights m b v).memory
  unfolding write_of
  write_spares m b v =
      place_elim rights (length m.words) Right.Write b (λ (x : Result ℕ Stop). Spares m (write_at m v x).memory)
      (λ _ h. record {
        word = λ l. get_or-set_other m.words b a v 0 (apart Right.Write h l);
        written = λ l. ap was_written (get_or-set_other m.marks b a (write_mark (mark_at m b)) 0 (apart Right.Write h l));
        read = λ _ _. read_written m.marks b a;
      })
      (λ _. spares_same m)

  spares_leads : Leads (memory_store rights) (λ l m l' m'. Spares m m')
  spares_leads =
      record { same = λ l m. spares_same m; next = spares_next; read = λ p l m b. read_spares p m b; write = λ l m b v. write_spares m b v }

-- What each access keeps of the log: it names no address that lacks the right. Memory is no longer
-- than 65,536 words, so an address leaves bit 16 alone.
unnamed_append : (p : Purpose) (a : ℕ) (l l' : List ℕ) → Unnamed p a l → Unnamed p a l' → Unnamed p a (l ++ l')
unnamed_append p a [] l' f g k = g k
unnamed_append p a (x ∷ l) l' f g zero = f zero
unnamed_append p a (x ∷ l) l' f g (suc k) = unnamed_append p a l l' (λ j. f (suc j)) g k

unnamed_none : (p : Purpose) (a : ℕ) → Unnamed p a []
unnamed_none p a k e = omega arith

-- two log words that name an address are those of one read
same_named : (p q : Purpose) {a b : ℕ} → a < 2 ^ 16 → b < 2 ^ 16 → address_word q b ≡ address_word p a → (right_of q ≡ right_of p) × (a ≡ b)
same_named Purpose.Fetch Purpose.Fetch s t e = (refl, omega arith)
same_named Purpose.Fetch Purpose.Read s t e = absurd (omega arith)
same_named Purpose.Read Purpose.Fetch s t e = absurd (omega arith)
same_named Purpose.Read Purpose.Read s t e = (refl, omega arith)

no_value : (p : Purpose) (w : ℕ) {a : ℕ} → a < 2 ^ 16 → value_word w ≡ address_word p a → ⊥
no_value Purpose.Fetch w s e = omega arith
no_value Purpose.Read w s e = omega arith

module _ (rights : Option (List ℕ)) (p : Purpose) (a : ℕ) (word : a < 2 ^ 16) (lacks : Lacks rights (right_of p) a) where
  unnamed_entry : (q : Purpose) (b w : ℕ) → b < 2 ^ 16 → has_right rights (right_of q) b ≡ true → Unnamed p a (entry_of q b w)
  unnamed_entry q b w s h zero e = let n = same_named p q word s e in both (rw (n.0, ← n.1) at h) lacks
  unnamed_entry q b w s h (suc zero) e = no_value p w word e
  unnamed_entry q b w s h (suc (suc k)) e = unnamed_none p a k e

  abbrev Unlogs : List ℕ → Memory → List ℕ → Memory → Type 0
  Unlogs l m l' m' = length m.words ≤ 65536 → (length m'.words ≤ 65536) × (Unnamed p a l → Unnamed p a l')

  read_unlogs : (q : Purpose) (l : List ℕ) (m : Memory) (b : ℕ) → Unlogs l m (l ++ read_log q b (read_of rights m q b).answer) (read_of rights m q b).memory
  unfolding read_of
  read_unlogs q l m b small =
      place_elim rights (length m.words) (right_of q) b
      (λ (x : Result ℕ Stop). (length (read_at m x).memory.words ≤ 65536)
      × (Unnamed p a l → Unnamed p a (l ++ read_log q b (read_at m x).answer)))
      (λ s h. (small, λ u. unnamed_append p a l _ u (unnamed_entry q b (get_or m.words b 0) (omega arith) h)))
      (λ _. (small, λ u. rw append-nil u))

  write_unlogs : (l : List ℕ) (m : Memory) (b v : ℕ) → Unlogs l m l (write_of rights m b v).memory
  unfolding write_of
  write_unlogs l m b v small =
      place_elim rights (length m.words) Right.Write b
      (λ (x : Result ℕ Stop). (length (write_at m v x).memory.words ≤ 65536)
      × (Unnamed p a l → Unnamed p a l))
      (λ _ _. (rw (length-set m.words b v) small, λ u. u))
      (λ _. (small, λ u. u))

  unlogs_leads : Leads (memory_store rights) Unlogs
  unlogs_leads =
      record {
        same = λ l m s. (s, λ u. u);
        next = λ x y s. let f = x s in let g = y f.0 in (g.0, λ u. g.1 (f.1 u));
        read = read_unlogs;
        write = write_unlogs;
      }

-- An accepted run.
module _ (given : Setting) (c : Core) (m : Memory) (limit a : ℕ) (ok : refusal_in given m ≡ 0) where
  abbrev run : Logged (Ran Memory)
  run = run_in plan_of given c m limit

  spared : Spares given.rights a (unmarked m) run.result.memory
  spared =
      rw (accepted_run plan_of given c m limit ok)
      (run_leads (memory_store given.rights) (spares_leads given.rights a) (plan_of (edition_of given.edition)) (full_in given.room) Full limit 0 c (unmarked m) [])

  no_mark : mark_at (unmarked m) a ≡ 0
  no_mark = get_d_zeros (length m.marks) a

  unwritten : Lacks given.rights Right.Write a → (word_at run.result.memory a ≡ word_at m a) × (was_written (mark_at run.result.memory a) ≡ 0)
  unwritten l = (spared.word l, spared.written l ∙ ap was_written no_mark)

  unread : Lacks given.rights Right.Read a → Lacks given.rights Right.Execute a → was_read (mark_at run.result.memory a) ≡ 0
  unread l n = spared.read l n ∙ ap was_read no_mark

  unnamed : (p : Purpose) → a < 2 ^ 16 → Lacks given.rights (right_of p) a → Unnamed p a run.log
  unnamed p w l =
      rw (accepted_run plan_of given c m limit ok)
      ((run_leads (memory_store given.rights) (unlogs_leads given.rights p a w l) (plan_of (edition_of given.edition)) (full_in given.room) Full limit 0 c (unmarked m) []
      (accepted_length m (with_accepted given m ok))).1
      (unnamed_none p a))

  kept : Closed given.rights a → (word_at run.result.memory a ≡ word_at m a) × (mark_at run.result.memory a ≡ 0)
  kept shut =
      let read = unread (shut Right.Read) (shut Right.Execute) in
      let written = (unwritten (shut Right.Write)).1 in
      let others = (run_keeps plan_of given c m limit ok).others a ∙ ap (λ (x : ℕ). x / 4) no_mark in
      ((unwritten (shut Right.Write)).0, omega arith)

  untouched : a < 2 ^ 16 → Closed given.rights a → Untouched m a run
  untouched w shut = record { mark = (kept shut).1; word = (kept shut).0; unnamed = λ p. unnamed p w (shut (right_of p)) }

-- Two accepted runs whose memories differ only on pages without any right.
module _ (given : Setting) (c : Core) (m m' : Memory) (limit : ℕ) (ok : refusal_in given m ≡ 0) (ok' : refusal_in given m' ≡ 0)
    (sizes : length m.words ≡ length m'.words) (same : EqualButClosed given.rights m m') where
  -- a word that the first marks as read is equal in both
  marked_same : (a : ℕ) → was_read (mark_at (run_in plan_of given c m limit).result.memory a) ≡ 1 → word_at m a ≡ word_at m' a
  marked_same a e =
      by_test (has_right given.rights Right.Read a)
      (λ h. same a Right.Read h)
      (λ l. by_test (has_right given.rights Right.Execute a)
      (λ h. same a Right.Execute h)
      (λ n. let none = unread given c m limit a ok l n in absurd (omega arith)))

  unseen : AgreeButClosed given.rights m m' (run_in plan_of given c m limit) (run_in plan_of given c m' limit)
  unseen = record { agree = agree; words = words }
    where
      agree : AgreeLogged m m' (run_in plan_of given c m limit) (run_in plan_of given c m' limit)
      agree = agreement given given c limit m m' refl refl ok ok' sizes (equal_room refl) marked_same

      words : EqualButClosed given.rights (run_in plan_of given c m limit).result.memory (run_in plan_of given c m' limit).result.memory
      words a r h =
          ⊎_elim
          (λ z. agree.runs.first_kept a z ∙ (same a r h ∙ sym (agree.runs.second_kept a (ap (λ (l : List ℕ). was_written (get_or l a 0)) agree.runs.marks ∙ z))))
          (λ z. sym (agree.runs.written a z))
          (written_cases (mark_at (run_in plan_of given c m limit).result.memory a))

pub closed_kept : (given : Setting) (c : Core) (m : Memory) (limit : ℕ) → refusal_in given m ≡ 0
    → ClosedKept given.rights m (run_in plan_of given c m limit).result.memory
closed_kept given c m limit ok a = kept given c m limit a ok

pub isolation : Isolation
isolation =
    record {
      untouched = λ given c m limit a w ok shut. untouched given c m limit a ok w shut;
      unseen = unseen;
      unwritten = λ given c m limit a ok. unwritten given c m limit a ok;
      unread = λ given c m limit a ok. unread given c m limit a ok;
      unnamed = λ given c m limit a p w ok. unnamed given c m limit a ok p w;
    }
