-- The replay of a log, without the memory, with rights and in an edition. The same stands in words
-- in docs/MACHINE.md, Logs and replays, and its host tests in docs/NUMBERS.md, The order of the
-- tests.
use Rattle.std.specs.Prelude.{ℕ, ◌%◌, Bool, true, false, List, [], ◌∷◌, eqb, ◌==◌, get_or, drop, if◌then◌else◌, Option, Result, Ok}
use Rattle.memory.specs.Log.{Logged, Room}
use Rattle.memory.specs.Memory.{refused_length, Accessed, accessed, place_of, at_place}
use Rattle.memory.specs.Rights.{right_of, refused_bytes}
use Rattle.memory.specs.Outcome.{Outcome, refused, ended}
use Rattle.memory.specs.Store.{Store}
use Rattle.execute.specs.Edition.{refused_edition, edition_of}
use Rattle.execute.specs.declared.edition.Edition.{Edition}
use Rattle.emulator.specs.Machine.{Plan, Ran, then_test, run_from}
use Rattle.emulator.specs.declared.core_record.Core.{Core}
use Rattle.memory.specs.declared.log.Purpose.{Purpose}
use Rattle.memory.specs.declared.rights.Right.{Right}
use Rattle.memory.specs.declared.stop.Stop.{Stop}

-- what stands in memory's place: its length, and the log words that are still to be read
pub record Tape : Type 0 where
  pub size : ℕ
  pub rest : List ℕ

abbrev pub tape : ℕ → List ℕ → Tape
tape size rest = record { size = size; rest = rest }

-- a read takes the next two log words, and the word as logged: bits 15..0 of the second. A write
-- leaves nothing to be read.
abbrev pub word_in : List ℕ → ℕ
word_in rest = get_or rest 1 0 % 65536

unfoldable pub read_tape : Option (List ℕ) → Tape → Purpose → ℕ → Accessed Tape (Result ℕ Stop)
read_tape rights before purpose address =
    at_place (place_of rights before.size (right_of purpose) address)
    (λ place. accessed (Ok (word_in before.rest)) (tape before.size (drop 2 before.rest)))
    before

unfoldable pub write_tape : Option (List ℕ) → Tape → ℕ → ℕ → Accessed Tape (Result (Unit {0}) Stop)
write_tape rights before address value =
    at_place (place_of rights before.size Right.Write address) (λ place. accessed (Ok tt) before) before

abbrev pub tape_store : Option (List ℕ) → Store Tape
tape_store rights = record { read = read_tape rights; write = write_tape rights }

-- what a replay answers: the end, the steps and the registers
pub record Replayed : Type 0 where
  pub end : Outcome
  pub steps : ℕ
  pub core : Core

abbrev pub replayed : Outcome → ℕ → Core → Replayed
replayed outcome steps core = record { end = outcome; steps = steps; core = core }

-- whether two lists are equal
unfoldable pub same : List ℕ → List ℕ → Bool
same [] [] = true
same [] (y ∷ ys) = false
same (x ∷ xs) [] = false
same (x ∷ xs) (y ∷ ys) = if eqb x y then same xs ys else false

-- The run on the tape makes a log of its own. Where that is the log, the replay answers as the run;
-- else 31, for then some read isn't the next two log words, or the log is over too soon, or words
-- are left over.
abbrev pub answer_of : Core → List ℕ → Logged (Ran Tape) → Replayed
answer_of core log run =
    if same run.log log
    then replayed run.result.end run.result.steps run.result.core
    else replayed (ended 31) 0 core

-- the host tests of a replay, in number order: 1, then 32, then 34
abbrev pub replay_refusal : Option (List ℕ) → ℕ → ℕ → ℕ
replay_refusal rights edition size =
    then_test (then_test (if refused_length size then 1 else 0) (refused_bytes rights) 32) (refused_edition edition) 34

-- the replay of a log with the rights bytes, if any, the edition's number, a core, the memory's
-- length and the limit
unfoldable pub replay_of : (Edition → Core → ℕ → Plan) → Option (List ℕ) → ℕ → Core → ℕ → ℕ → List ℕ → Replayed
replay_of plan rights edition core size limit log =
    if replay_refusal rights edition size == 0
    then answer_of core log (run_from (tape_store rights) (plan (edition_of edition)) Room.none limit 0 core (tape size log) [])
    else replayed (refused (replay_refusal rights edition size)) 0 core
