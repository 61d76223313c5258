-- What the laws of runs say of what a run with a log leaves.
use Rattle.std.proofs.Common.{◌≡◌, Option, ℕ, ◌<◌, ◌^◌, List, [], ◌∷◌, length, get_or, take, refl, sym, ap, ◌∙◌, subst, arith, ◌*◌, ◌/◌, ◌≤◌}
use Rattle.std.proofs.Math.Seq.{take-append_seam}
use Rattle.memory.specs.Memory.{Memory}
use Rattle.memory.specs.Outcome as outcome
use Rattle.memory.specs.Outcome.{Outcome}
use Rattle.emulator.specs.Machine.{plan_of, RanLogged, Setting, logging_in, in_buffer, refusal_in, run_in}
use Rattle.emulator.specs.declared.core_record.Core.{Core}
use Rattle.nilguseg.specs.Host.{Call, call, core_from, ended_call}
use Rattle.nilguseg.proofs.CoreWords.{front_fits}
use Rattle.nilguseg.specs.Refusal.{how_of}
use Rattle.nilguseg_log.specs.Host.{IsEndedByLog, ReplaysAs}
use Rattle.replay.specs.Replay.{Replayed, replay_of, replayed}
use Rattle.replay_laws.proofs.Replay.{replay_is_run}
use Rattle.replay_laws.specs.Replay.{CoreFits, MemoryFits}
use Rattle.run_laws.proofs.Agreement.{agrees_with_others}
use Rattle.run_laws.proofs.Ends.{four_words_suffice, ended_full}
use Rattle.run_laws.proofs.Rights.{closed_kept}
use Rattle.run_laws.specs.Agreement.{AgreesWithOthers}
use Rattle.run_laws.specs.Rights.{ClosedKept}

-- 16-bit words are a core record of such
pub core_fits : (ws : List ℕ) → ((k : ℕ) → get_or ws k 0 < 2 ^ 16) → CoreFits (core_from ws)
core_fits ws h = record { gprs = front_fits ws 8 h; ip = h 8; rp = h 9; sp = h 10; ef = h 11 }

-- A run of the core k, which is the host's, c, with a buffer lent for its log.
module _ (rights : Option (List ℕ)) (edition : ℕ) (buffer : List ℕ) (m : Memory) (limit : ℕ) {k c : Core} {ended : RanLogged} (of : k ≡ c)
    (called : ended ≡ in_buffer buffer (run_in plan_of (logging_in buffer rights edition) k m limit)) where
  abbrev given : Setting
  given = logging_in buffer rights edition

  is : ended ≡ in_buffer buffer (run_in plan_of given c m limit)
  is = called ∙ ap (λ (x : Core). in_buffer buffer (run_in plan_of given x m limit)) of

  pub agrees : AgreesWithOthers given c m limit ended.run.memory.marks
  agrees =
      subst (AgreesWithOthers given c m limit) (sym (ap (λ (x : RanLogged). x.run.memory.marks) is)) (agrees_with_others given c m limit)

  pub closed : refusal_in given m ≡ 0 → ClosedKept rights m ended.run.memory
  closed ok = subst (ClosedKept rights m) (sym (ap (λ (x : RanLogged). x.run.memory) is)) (closed_kept given c m limit ok)

  -- the log stands at the buffer's front
  log_first : take ended.log.count ended.log.buffer ≡ (run_in plan_of given c m limit).log
  log_first = rw is (take-append_seam _ _)

  -- the host is handed the end, the steps, the core and the number of the log words
  pub replays : (result count : ℕ) (core : List ℕ) → CoreFits c → MemoryFits m
      → call result (core ∷ (count ∷ []) ∷ []) ≡ ended_call ended.run.end ended.run.steps ended.run.core ((ended.log.count ∷ []) ∷ [])
      → ReplaysAs given c m limit (take count ended.log.buffer) (call result (core ∷ []))
  replays result count core fits words handed ok room =
      let counted : count ≡ ended.log.count = ap (λ (x : Call). get_or (get_or x.lists 1 []) 0 0) handed in
      let log = ap (λ (n : ℕ). take n ended.log.buffer) counted ∙ log_first in
      let again = replay_is_run given c m limit fits words ok room in
      let run = sym (ap (λ (x : RanLogged). replayed x.run.end x.run.steps x.run.core) is) in
      let seen = sym (ap (λ (x : Call). call x.answer (get_or x.lists 0 [] ∷ [])) handed) in
      ap (λ (l : List ℕ). shown (replay_of plan_of rights edition c (length m.words) limit l)) log
      ∙ (ap shown (again ∙ run) ∙ seen)
    where
      shown : Replayed → Call
      shown t = ended_call t.end t.steps t.core []

  -- with four words a step of the limit, the log doesn't end the run
  pub room : (result : ℕ) → result / 2 ^ 56 ≡ how_of ended.run.end → 4 * limit ≤ length buffer → ¬ IsEndedByLog result
  room result how enough five =
      let none = four_words_suffice given c m limit (length buffer) refl enough in
      by_end ended.run.end (sym how ∙ five) (λ n e. none (ended_full given c m limit n (sym (ap (λ (x : RanLogged). x.run.end) is) ∙ e)))
    where
      by_end : (o : Outcome) → how_of o ≡ 5 → ((n : ℕ) → o ≡ outcome.ended n → ⊥) → ⊥
      by_end (outcome.ended n) five other = other n refl
      by_end o five other = absurd (omega arith)
