-- What is claimed of every step and run besides their agreement, in every edition (docs/MACHINE.md,
-- Memory and marks, One step, The run).
use Rattle.std.specs.Prelude.{ℕ, zero, suc, ◌+◌, ◌≡◌, if◌then◌else◌}
use Rattle.emulator.specs.Core.{is_halted}
use Rattle.memory.specs.Memory.{Memory, Kept}
use Rattle.memory.specs.Outcome.{halted, limit}
use Rattle.emulator.specs.Machine.{plan_of, Turn, step_of, unmarked, Ran, ran, is_stepped, Setting, plain, refusal_in, run_in, run_of}
use Rattle.emulator.specs.declared.core_record.Core.{Core}

-- marks only grow, their other bits keep their value, and the lengths never change
pub record Keeping : Type 0 where
  pub step_keeps : (core : Core) (memory : Memory) (edition : ℕ) → Kept memory (step_of plan_of core memory edition).memory
  -- of an accepted run, which sets all marks to 0 first
  pub run_keeps : (given : Setting) (core : Core) (memory : Memory) (limit : ℕ) → refusal_in given memory ≡ 0
      → Kept (unmarked memory) (run_in plan_of given core memory limit).result.memory

-- after a step: more if it stepped, else the end
abbrev pub after_step : (Core → Memory → Ran Memory) → ℕ → Turn Memory → Ran Memory
after_step more steps made =
    let rest = more made.core made.memory in
    if is_stepped made.outcome then rest else ran made.outcome steps made.core made.memory

-- the steps of a core in an edition, one after another, until one comes out other than stepped: so
-- many are left, and so many were counted before
unfoldable pub steps_from : ℕ → ℕ → ℕ → Core → Memory → Ran Memory
steps_from edition zero steps core memory =
    if is_halted core then ran halted steps core memory else ran limit steps core memory
steps_from edition (suc left) steps core memory =
    after_step (steps_from edition left (steps + 1)) steps (step_of plan_of core memory edition)

-- a run is its steps, one after another, from marks that are all 0
abbrev pub RunIsSteps : Type 0
RunIsSteps =
    (edition : ℕ) (core : Core) (memory : Memory) (limit : ℕ) → refusal_in (plain edition) memory ≡ 0
    → run_of plan_of core memory edition limit ≡ steps_from edition limit 0 core (unmarked memory)
