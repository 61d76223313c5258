-- A run with 256 sevens is the run without rights: every access has the same place. Nothing here
-- looks at an instruction.
use Rattle.std.specs.Prelude.{◌≡◌, ℕ, ◌/◌, ◌%◌, ◌<◌, ◌≤◌, true, eqb, ltb, nat_eq, List, [], length, replicate, Option, None, Some}
use mathlib.Core.Path.{refl, sym, ap, ◌∙◌}
use native.Mathlib.Omega.{arith}
use borrow.Author.Tests.{ltb-true, eqb-true}
use Rattle.std.proofs.lemmas.List.{get_or-replicate}
use Rattle.instructions.proofs.Cases.{by_test, if_both}
use Rattle.memory.specs.Log.{Logged, logged, Room}
use Rattle.memory.specs.Memory.{Memory, place_of, read_of, write_of}
use Rattle.memory.specs.Rights.{right_of, right_value, all_rights, refused_rights, has_right}
use Rattle.memory.specs.Store.{memory_store}
use Rattle.execute.specs.Edition.{edition_of}
use Rattle.emulator.specs.Machine.{Plan, plan_of, advanced, unmarked, Ran, ran, setting, full_in, refusal_in, run_from, run_in}
use Rattle.emulator.specs.declared.core_record.Core.{Core}
use Rattle.memory.specs.declared.refusal.LogEnd.TheVariants.{Full}
use Rattle.memory.specs.declared.rights.Right.{Right}
use Rattle.emulator.proofs.Keeps.{kept_leads}
use Rattle.emulator.proofs.Laws.{accepted_length, with_accepted}
use Rattle.run_laws.specs.Rights.{SevensArePlain}
use Rattle.run_laws.proofs.Agreement.{Any, any_read, any_access}
use Rattle.run_laws.proofs.Simulation.{Simulates, RanTwins, twin_run}

abbrev sevens : Option (List ℕ)
sevens = Some (replicate 256 7)

sevens_right : (r : Right) (a : ℕ) → a < 65536 → has_right sevens r a ≡ true
unfolding has_right
sevens_right r a l = let page : a / 256 < 256 = omega arith in rw (get_or-replicate {A = ℕ} 256 (a / 256) 7 0 page) (each r)
  where
    each : (r : Right) → nat_eq (7 / right_value r % 2) 1 ≡ true
    each Right.Read = refl
    each Right.Write = refl
    each Right.Execute = refl

sevens_place : (size : ℕ) (r : Right) (a : ℕ) → size ≤ 65536 → place_of None size r a ≡ place_of sevens size r a
unfolding place_of has_right
sevens_place size r a s =
    by_test (ltb a size)
    (λ t. let l : a < size = ltb-true _ _ t in rw (t, sevens_right r a (omega arith)))
    (λ f. rw f)

-- the host tests don't refuse them
sevens_accepted : (room : Room) (edition : ℕ) (m : Memory) → refusal_in (setting room sevens edition) m ≡ refusal_in (setting room None edition) m
unfolding refused_rights all_rights
sevens_accepted room edition m = refl

-- the two runs side by side: their memories are one, which isn't longer than the pages
record One (l : List ℕ) (m m' : Memory) : Type 0 where
  same : m' ≡ m
  size : length m.words ≤ 65536

abbrev Seen : List ℕ → Memory → Type 0
Seen l m = Unit {0}

alike : (plan : Core → ℕ → Plan) → Simulates (memory_store sevens) (memory_store None) plan Any (λ c. Unit {0}) One Seen
unfolding read_of write_of
alike plan =
    record {
      read = λ p l m m' a h _.
          let kept : length (read_of sevens m p a).memory.words ≡ length m.words = ((kept_leads sevens).read p l m a).words_length in
          let size = h.size in
          rw (h.same, sevens_place (length m.words) (right_of p) a size) (record { answer = refl; kept = record { same = refl; size = omega arith } });
      read_fits = λ p l m m' a h. any_read (read_of sevens m p a).answer;
      write = λ l m m' a v _ h.
          let kept : length (write_of sevens m a v).memory.words ≡ length m.words = ((kept_leads sevens).write l m a v).words_length in
          let size = h.size in
          rw (h.same, sevens_place (length m.words) Right.Write a size) (record { answer = refl; kept = record { same = refl; size = omega arith } });
      seen = record { same = λ l m h. h; next = λ p q h. p (q h); read = λ p l m a _. tt; write = λ l m a v _. tt };
      plan_fits = λ c w _ _. tt;
      access_fits = λ c w _ _. any_access (plan (advanced c) w).access;
      load_fits = λ c r up w _ _. tt;
    }

pub sevens_are_plain : SevensArePlain
unfolding run_in
sevens_are_plain room edition c m limit =
    if_both (λ (r q : Logged (Ran Memory)). r ≡ q) (eqb (refusal_in (setting room sevens edition) m) 0) (eqb (refusal_in (setting room None edition) m) 0)
    (ap (λ (n : ℕ). eqb n 0) (sevens_accepted room edition m))
    (λ ok. one (twins (eqb-true _ _ ok)))
    (λ _. rw (sevens_accepted room edition m))
  where
    plan : Core → ℕ → Plan
    plan = plan_of (edition_of edition)

    r : Logged (Ran Memory)
    r = run_from (memory_store sevens) plan room limit 0 c (unmarked m) []

    q : Logged (Ran Memory)
    q = run_from (memory_store None) plan room limit 0 c (unmarked m) []

    twins : refusal_in (setting room sevens edition) m ≡ 0 → RanTwins (memory_store sevens) (memory_store None) plan Any (λ d. Unit {0}) One Seen (alike plan) r q
    twins ok =
        twin_run (memory_store sevens) (memory_store None) plan Any (λ d. Unit {0}) One Seen (alike plan) (full_in room) Full limit 0 c
        (unmarked m) (unmarked m) [] tt (record { same = refl; size = accepted_length m (with_accepted (setting room sevens edition) m ok) }) tt

    one : RanTwins (memory_store sevens) (memory_store None) plan Any (λ d. Unit {0}) One Seen (alike plan) r q → r ≡ q
    one t = sym (t.same ∙ ap (λ (x : Memory). logged (ran r.result.end r.result.steps r.result.core x) r.log) t.alike.same)
