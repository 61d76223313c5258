-- What a call that makes its tests first answers to its host.
use Rattle.std.proofs.Common.{◌≡◌, ℕ, ◌*◌, ◌/◌, ◌^◌, List, [], ◌∷◌, length, Option, Some, None, Result, Ok, Err, refl, ◌∙◌, ap, subst, arith}
use Rattle.std.proofs.Math.Nat.{add-zero}
use Rattle.std.specs.Prelude.{MatchOption, IsSome}
use Rattle.memory.specs.Outcome.{Outcome, refused}
use Rattle.emulator.specs.Core.{new_core}
use Rattle.sheet.specs.Load.{Left, left}
use Rattle.sheet.specs.declared.refusal.SheetRefusal.{SheetRefusal}
use Rattle.nilguseg.specs.Host.{core_from, words_of, Call, call, outcome_number, ended_call, loaded_number, load_call}
use Rattle.nilguseg.specs.Refusal.{how_of, refused_step, IsRefusedStep, refused_run, IsRefusedRun}
use Rattle.refusal_laws.specs.Refused.{RefusedBy, outcome_refusal, answer_refusal}
use Rattle.refusal_laws.specs.Tests.{Test, first_failing}

-- twelve words tell a core, and the core the words
words_of-core_from : (ws : List ℕ) → length ws ≡ 12 → words_of (core_from ws) ≡ ws
words_of-core_from (a ∷ b ∷ c ∷ d ∷ e ∷ f ∷ g ∷ h ∷ i ∷ j ∷ k ∷ l ∷ []) n = refl
words_of-core_from ws n = absurd (omega arith)

-- a call is refused by its first failing test, and then its host sees what is unchanged
pub by_tests : {A : Type 0} {tests : List Test} {refusal : Option ℕ} {leaves unchanged : A}
    {called : Call} (seen : A → Call) (Passed : Type 0) (kept : ℕ → Call)
    → RefusedBy tests refusal leaves unchanged → called ≡ seen leaves
    → MatchOption refusal Passed (λ n. seen unchanged ≡ kept n)
    → MatchOption (first_failing tests) Passed (λ n. called ≡ kept n)
by_tests {refusal} {leaves} {unchanged} {called} seen Passed kept by e h =
    subst (λ o. MatchOption o Passed (λ n. called ≡ kept n)) by.number (at refusal by.kept h)
  where
    at : (o : Option ℕ) → (IsSome o → leaves ≡ unchanged)
        → MatchOption o Passed (λ n. seen unchanged ≡ kept n)
        → MatchOption o Passed (λ n. called ≡ kept n)
    at None same h = h
    at (Some n) same h = e ∙ ap seen (same refl) ∙ h

-- the same of a call that answers how it came out, and hands a core back
ended_by_tests : {A : Type 0} {tests : List Test} {end : Outcome} {leaves unchanged : A}
    {called : Call} {how : ℕ} (seen : A → Call) (number : Outcome → ℕ) (core : List ℕ)
    (others : List (List ℕ)) → length core ≡ 12
    → RefusedBy tests (outcome_refusal end) leaves unchanged
    → seen unchanged ≡ call (number end) (words_of (core_from core) ∷ others)
    → how ≡ how_of end → called ≡ seen leaves
    → MatchOption (first_failing tests) (¬ (how ≡ 4))
    (λ n. called ≡ call (number (refused n)) (core ∷ others))
ended_by_tests {end} {how} seen number core others twelve by same told e =
    by_tests seen (¬ (how ≡ 4)) (λ n. call (number (refused n)) (core ∷ others)) by e
    (rw same (at end told))
  where
    at : (o : Outcome) → how ≡ how_of o
        → MatchOption (outcome_refusal o) (¬ (how ≡ 4))
        (λ n. call (number o) (words_of (core_from core) ∷ others)
        ≡ call (number (refused n)) (core ∷ others))
    at (refused n) told = rw (words_of-core_from core twelve) refl
    at o told = λ four. absurd (omega arith)

-- a step
pub step_refused : {A : Type 0} (seen : A → Call) (end : Outcome) (core : List ℕ)
    {tests : List Test} {leaves unchanged : A} {answer : ℕ} {lists others : List (List ℕ)}
    → length core ≡ 12 → RefusedBy tests (outcome_refusal end) leaves unchanged
    → seen unchanged ≡ call (outcome_number end) (words_of (core_from core) ∷ others)
    → answer / 2 ^ 24 ≡ how_of end → call answer lists ≡ seen leaves
    → MatchOption (first_failing tests) (¬ IsRefusedStep answer)
    (λ n. call answer lists ≡ call (refused_step n) (core ∷ others))
step_refused seen end core {others} = ended_by_tests seen outcome_number core others

-- a run or a replay
pub run_refused : {A : Type 0} (seen : A → Call) (end : Outcome) (core : List ℕ)
    {tests : List Test} {leaves unchanged : A} {answer : ℕ} {lists others : List (List ℕ)}
    → length core ≡ 12 → RefusedBy tests (outcome_refusal end) leaves unchanged
    → seen unchanged ≡ ended_call end 0 (core_from core) others
    → answer / 2 ^ 56 ≡ how_of end → call answer lists ≡ seen leaves
    → MatchOption (first_failing tests) (¬ IsRefusedRun answer)
    (λ n. call answer lists ≡ call (refused_run n) (core ∷ others))
run_refused seen end core {others} twelve by same =
    ended_by_tests seen (λ o. outcome_number o * 2 ^ 32) core others twelve by
    (same ∙ rw (add-zero (outcome_number end * 2 ^ 32)) refl)

-- a load
pub load_refused : {tests : List Test} {l : Left} {mem : List ℕ} {answer : ℕ}
    {lists : List (List ℕ)} → RefusedBy tests (answer_refusal l.answer) l (left l.answer new_core 1 mem)
    → call answer lists ≡ load_call l
    → MatchOption (first_failing tests) (answer ≡ 0)
    (λ n. call answer lists ≡ call n (words_of new_core ∷ (1 ∷ []) ∷ mem ∷ []))
load_refused {l} {mem} {answer} by e =
    by_tests load_call (answer ≡ 0) (λ n. call n (words_of new_core ∷ (1 ∷ []) ∷ mem ∷ [])) by e
    (at l.answer (ap (λ (c : Call). c.answer) e))
  where
    at : (x : Result (Unit {0}) SheetRefusal) → answer ≡ loaded_number x
        → MatchOption (answer_refusal x) (answer ≡ 0)
        (λ n. load_call (left x new_core 1 mem)
        ≡ call n (words_of new_core ∷ (1 ∷ []) ∷ mem ∷ []))
    at (Ok u) told = told
    at (Err r) told = refl
