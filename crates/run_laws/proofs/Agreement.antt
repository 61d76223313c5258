-- Two runs agree: they go side by side over the same core and marks, while their memories are
-- alike. A word is the same in both if it was written, or if the first run's final marks say that
-- it is read. Nothing here looks at an instruction.
use Rattle.std.specs.Prelude.{◌≡◌, ◌≢◌, ℕ, zero, suc, ◌<◌, List, [], length, get_or, set, replicate, Option, Result, Ok, Err}
use mathlib.Core.Path.{refl, sym, ap, ◌∙◌, subst}
use mathlib.Core.Logic.{⊎_elim}
use native.Mathlib.Omega.{arith}
use lib.ListN.{length-set, length-replicate}
use lib.Seq.{get_or-set_same, get_or-set_other}
use Rattle.run_laws.specs.Agreement.{word_at, mark_at, AgreeLogged, equal_room, enough_room, AgreementOf, Agreement, AgreesWithOthers, PlainAgreement}
use Rattle.memory.specs.Log.{Logged, logged, Room}
use Rattle.memory.specs.Memory.{Memory, lent, was_read, was_written, read_mark, write_mark, mark_read, mark_write, read_at, write_at, read_of, write_of, Below}
use Rattle.memory.specs.Rights.{right_of}
use Rattle.memory.specs.Store.{memory_store}
use Rattle.execute.specs.Edition.{edition_of}
use Rattle.execute.specs.declared.edition.Edition.{Edition}
use Rattle.emulator.specs.Machine.{Plan, plan_of, Access, none, load, store, stop, advanced, unmarked, Ran, ran, Setting, setting, full_in, plain, unlogged, refusal_in, run_from, run_in}
use Rattle.emulator.specs.declared.core_record.Core.{Core}
use Rattle.memory.specs.declared.refusal.LogEnd.TheVariants.{Full}
use Rattle.memory.specs.declared.log.Purpose.{Purpose}
use Rattle.memory.specs.declared.rights.Right.{Right}
use Rattle.memory.specs.declared.stop.Stop.{Stop}
use Rattle.memory.proofs.Marks.{written_cases, same_or_not, read_sets, write_sets, written_read}
use Rattle.emulator.proofs.Laws.{accepted_marked, with_accepted}
use Rattle.memory.proofs.Places.{place_both}
use Rattle.emulator.proofs.Whole.{accepted_run}
use Rattle.emulator.proofs.Keeps.{Leads, kept_leads}
use Rattle.run_laws.proofs.Simulation.{ReadFits, AccessFits, Same, Simulates, twin_run}
use Rattle.run_laws.proofs.Logs.{logged_plain}

-- a list of zeros has 0 at every place, and past its end the default is 0 too
pub get_d_zeros : (n k : ℕ) → ◌≡◌ {A = ℕ} (get_or (replicate n 0) k 0) 0
get_d_zeros zero k = refl
get_d_zeros (suc n) zero = refl
get_d_zeros (suc n) (suc k) = get_d_zeros n k

-- The two runs: the words that they start with are M and N, and the first one's final marks F.

-- two memories in mid-run
pub record Alike (M N : List ℕ) (m m' : Memory) : Type 0 where
  pub marks : m'.marks ≡ m.marks
  pub sizes : length m.words ≡ length m'.words
  pub begun : length m.words ≡ length M
  pub marked : length m.marks ≡ length m.words
  pub written : (a : ℕ) → was_written (mark_at m a) ≡ 1 → word_at m a ≡ word_at m' a
  pub first : (a : ℕ) → was_written (mark_at m a) ≡ 0 → word_at m a ≡ get_or M a 0
  pub second : (a : ℕ) → was_written (mark_at m a) ≡ 0 → word_at m' a ≡ get_or N a 0

module _ {M N : List ℕ} where
  alike_read : {m m' : Memory} (a : ℕ) → Alike M N m m' → Alike M N (lent m.words (mark_read m.marks a)) (lent m'.words (mark_read m'.marks a))
  alike_read {m} {m'} a h =
      record {
        marks = ap (λ (l : List ℕ). mark_read l a) h.marks;
        sizes = h.sizes;
        begun = h.begun;
        marked = length-set m.marks a (read_mark (mark_at m a)) ∙ h.marked;
        written = λ b e. h.written b (sym (written_read m.marks a b) ∙ e);
        first = λ b e. h.first b (sym (written_read m.marks a b) ∙ e);
        second = λ b e. h.second b (sym (written_read m.marks a b) ∙ e);
      }

  alike_write : {m m' : Memory} (a v : ℕ) → a < length m.words → Alike M N m m'
      → Alike M N (lent (set m.words a v) (mark_write m.marks a)) (lent (set m'.words a v) (mark_write m'.marks a))
  alike_write {m} {m'} a v l h =
      record {
        marks = ap (λ (l : List ℕ). mark_write l a) h.marks;
        sizes = length-set m.words a v ∙ (h.sizes ∙ sym (length-set m'.words a v));
        begun = length-set m.words a v ∙ h.begun;
        marked = length-set m.marks a (write_mark (mark_at m a)) ∙ (h.marked ∙ sym (length-set m.words a v));
        written = λ b e. ⊎_elim
            (λ s. rw s (get_or-set_same m.words a v 0 l ∙ sym (get_or-set_same m'.words a v 0 l')))
            (λ n. get_or-set_other m.words a b v 0 n ∙ (h.written b (elsewhere b n ∙ e) ∙ sym (get_or-set_other m'.words a b v 0 n)))
            (same_or_not a b);
        first = λ b e. ⊎_elim
            (λ s. absurd (now_written b s e))
            (λ n. get_or-set_other m.words a b v 0 n ∙ h.first b (elsewhere b n ∙ e))
            (same_or_not a b);
        second = λ b e. ⊎_elim
            (λ s. absurd (now_written b s e))
            (λ n. get_or-set_other m'.words a b v 0 n ∙ h.second b (elsewhere b n ∙ e))
            (same_or_not a b);
      }
    where
      l' : a < length m'.words
      l' = rw h.sizes at l

      lm : a < length m.marks
      lm = rw h.marked l

      elsewhere : (b : ℕ) → b ≢ a → was_written (mark_at m b) ≡ was_written (get_or (mark_write m.marks a) b 0)
      elsewhere b n = ap was_written (sym (get_or-set_other m.marks a b (write_mark (mark_at m a)) 0 n))

      now_written : (b : ℕ) → b ≡ a → was_written (get_or (mark_write m.marks a) b 0) ≡ 0 → ⊥
      now_written b s e =
          let set_now : was_written (get_or (mark_write m.marks a) b 0) ≡ 1 = rw s (ap was_written (get_or-set_same m.marks a (write_mark (mark_at m a)) 0 lm) ∙ write_sets (mark_at m a)) in
          omega arith

-- what the first run has marked as read by now, its final marks have
abbrev Seen : List ℕ → Memory → Type 0
Seen F m = Below was_read m.marks F

seen_leads : (rights : Option (List ℕ)) (F : List ℕ) → Leads (memory_store rights) (λ l m l' m'. Seen F m' → Seen F m)
seen_leads rights F =
    record {
      same = λ l m h. h;
      next = λ p q h. p (q h);
      read = λ p l m a h b e. h b (((kept_leads rights).read p l m a).read b e);
      write = λ l m a v h b e. h b (((kept_leads rights).write l m a v).read b e);
    }

-- nothing needs to be known of a word
abbrev pub Any : ℕ → Type 0
Any w = Unit {0}

pub any_read : (r : Result ℕ Stop) → ReadFits Any r
any_read (Ok w) = tt
any_read (Err s) = tt

pub any_access : (x : Access) → AccessFits Any x
any_access none = tt
any_access (load a r up) = tt
any_access (store a v) = tt
any_access (stop s) = tt

module _ (rights : Option (List ℕ)) {M N : List ℕ} (F : List ℕ) (agree : (a : ℕ) → was_read (get_or F a 0) ≡ 1 → get_or M a 0 ≡ get_or N a 0) where
  -- a word that is read is the same in both
  same_word : {m m' : Memory} (a : ℕ) → a < length m.words → Alike M N m m' → Below was_read (mark_read m.marks a) F → word_at m a ≡ word_at m' a
  same_word {m} {m'} a l h below =
      ⊎_elim
      (λ z. h.first a z ∙ (agree a (below a (noted z)) ∙ sym (h.second a z)))
      (λ z. h.written a z)
      (written_cases (mark_at m a))
    where
      lm : a < length m.marks
      lm = rw h.marked l

      noted : was_written (mark_at m a) ≡ 0 → was_read (get_or (mark_read m.marks a) a 0) ≡ 1
      noted z = ap was_read (get_or-set_same m.marks a (read_mark (mark_at m a)) 0 lm) ∙ read_sets (mark_at m a) z

  twin_read : (m m' : Memory) (p : Purpose) (a : ℕ) → Alike M N m m' → Seen F (read_of rights m p a).memory → Same (read_of rights m p a) (read_of rights m' p a) (Alike M N)
  unfolding read_of
  twin_read m m' p a h below =
      place_both rights (right_of p) a h.sizes
      (λ (x y : Result ℕ Stop). Seen F (read_at m x).memory
      → Same (read_at m x)
      (read_at m' y) (Alike M N))
      (λ l _ low. record { answer = ap Ok (sym (same_word a l h low)); kept = alike_read a h })
      (λ s low. record { answer = refl; kept = h })
      below

  twin_write : (m m' : Memory) (a v : ℕ) → Alike M N m m' → Same (write_of rights m a v) (write_of rights m' a v) (Alike M N)
  unfolding write_of
  twin_write m m' a v h =
      place_both rights Right.Write a h.sizes
      (λ (x y : Result ℕ Stop). Same (write_at m v x)
      (write_at m' v y) (Alike M N))
      (λ l _. record { answer = refl; kept = alike_write a v l h })
      (λ s. record { answer = refl; kept = h })

  twins : (plan : Core → ℕ → Plan) → Simulates (memory_store rights) (memory_store rights) plan Any (λ c. Unit {0}) (λ l. Alike M N) (λ l. Seen F)
  twins plan =
      record {
        read = λ p l m m' a. twin_read m m' p a;
        read_fits = λ p l m m' a h. any_read (read_of rights m p a).answer;
        write = λ l m m' a v _. twin_write m m' a v;
        seen = seen_leads rights F;
        plan_fits = λ c w _ _. tt;
        access_fits = λ c w _ _. any_access (plan (advanced c) w).access;
        load_fits = λ c r up w _ _. tt;
      }

-- two runs in one setting
module _ (plan : Edition → Core → ℕ → Plan) (given : Setting) (c : Core) (limit : ℕ) (m m' : Memory) (ok : refusal_in given m ≡ 0) (ok' : refusal_in given m' ≡ 0)
    (sizes : length m.words ≡ length m'.words) where
  zeros : List ℕ
  zeros = replicate (length m.marks) 0

  zero_bit : (a : ℕ) → was_written (get_or zeros a 0) ≡ 1 → ⊥
  unfolding zeros
  zero_bit a e = let none : was_written (get_or zeros a 0) ≡ 0 = ap was_written (get_d_zeros (length m.marks) a) in omega arith

  start : Alike m.words m'.words (unmarked m) (unmarked m')
  unfolding zeros
  start =
      record {
        marks = ap (λ (n : ℕ). replicate n 0) (accepted_marked m' (with_accepted given m' ok') ∙ (sym sizes ∙ sym (accepted_marked m (with_accepted given m ok))));
        sizes = sizes;
        begun = refl;
        marked = length-replicate (length m.marks) 0 ∙ accepted_marked m (with_accepted given m ok);
        written = λ a e. absurd (zero_bit a e);
        first = λ a e. refl;
        second = λ a e. refl;
      }

  whole : {r q : Logged (Ran Memory)} → q ≡ logged (ran r.result.end r.result.steps r.result.core q.result.memory) r.log
      → Alike m.words m'.words r.result.memory q.result.memory → AgreeLogged m m' r q
  whole same alike =
      record {
        runs =
            record {
              end = ap (λ (x : Logged (Ran Memory)). x.result.end) same;
              steps = ap (λ (x : Logged (Ran Memory)). x.result.steps) same;
              core = ap (λ (x : Logged (Ran Memory)). x.result.core) same;
              marks = alike.marks;
              written = λ a e. sym (alike.written a e);
              first_kept = alike.first;
              second_kept = λ a e. alike.second a (ap (λ (l : List ℕ). was_written (get_or l a 0)) (sym alike.marks) ∙ e);
              first_length = alike.begun;
              second_length = sym alike.sizes ∙ (alike.begun ∙ sizes);
              marks_length = alike.marked ∙ alike.begun;
            };
        logs = ap (λ (x : Logged (Ran Memory)). x.log) same;
      }

  in_one_setting : ((a : ℕ) → was_read (mark_at (run_in plan given c m limit).result.memory a) ≡ 1 → word_at m a ≡ word_at m' a)
      → AgreeLogged m m' (run_in plan given c m limit) (run_in plan given c m' limit)
  in_one_setting agree =
      rw (accepted_run plan given c m limit ok, accepted_run plan given c m' limit ok')
      (let t = twin_run (memory_store given.rights) (memory_store given.rights) (plan (edition_of given.edition)) Any (λ d. Unit {0}) (λ l. Alike m.words m'.words) (λ l. Seen F) (twins given.rights F agree₁ (plan (edition_of given.edition))) (full_in given.room) Full limit 0 c (unmarked m) (unmarked m') [] tt start (λ a e. e) in
      whole t.same t.alike)
    where
      F : List ℕ
      F = (run_from (memory_store given.rights) (plan (edition_of given.edition)) given.room limit 0 c (unmarked m) []).result.memory.marks

      agree₁ : (a : ℕ) → was_read (get_or F a 0) ≡ 1 → word_at m a ≡ word_at m' a
      agree₁ = rw (accepted_run plan given c m limit ok) at agree

-- a setting by its parts
same_setting : (g g' : Setting) → g'.room ≡ g.room → g'.rights ≡ g.rights → g'.edition ≡ g.edition → g' ≡ g
same_setting g g' p q r =
    ap (λ (x : Room). setting x g'.rights g'.edition) p
    ∙ (ap (λ (x : Option (List ℕ)). setting g.room x g'.edition) q ∙ ap (setting g.room g.rights) r)

agreement_of : (plan : Edition → Core → ℕ → Plan) → AgreementOf plan
agreement_of plan given given' c limit m m' edition rights ok ok' sizes (equal_room e) agree =
    subst (λ (s : Setting). AgreeLogged m m' (run_in plan given c m limit) (run_in plan s c m' limit)) (sym (same_setting given given' e rights edition))
    (in_one_setting plan given c limit m m' ok (rw (rights, edition) at ok') sizes agree)
agreement_of plan given given' c limit m m' edition rights ok ok' sizes (enough_room r q) agree =
    rw (logged_plain plan given c m limit r, logged_plain plan given' c m' limit q, rights, edition)
    (in_one_setting plan (unlogged given.rights given.edition) c limit m m' ok (rw (rights, edition) at ok') sizes (rw (logged_plain plan given c m limit r) at agree))

pub agreement : Agreement
agreement = agreement_of plan_of

pub agrees_with_others : (given : Setting) (c : Core) (m : Memory) (limit : ℕ)
    → AgreesWithOthers given c m limit (run_in plan_of given c m limit).result.memory.marks
agrees_with_others given c m limit m' ok ok' sizes agree = in_one_setting plan_of given c limit m m' ok ok' sizes agree

pub plain_agreement : PlainAgreement
plain_agreement edition c limit m m' ok ok' sizes agree =
    (agreement (plain edition) (plain edition) c limit m m' refl refl ok ok' sizes (equal_room refl) agree).runs
