-- What the limit, halt and a fault mean for the end of a run, and for the steps that it counts
-- (docs/MACHINE.md, The run).
use Rattle.std.specs.Prelude.{ℕ, ◌≤◌, ◌≡◌, ◌↔◌, true, false}
use Rattle.execute.specs.Edition.{edition_of}
use Rattle.emulator.specs.Core.{is_halted}
use Rattle.memory.specs.Memory.{Memory}
use Rattle.memory.specs.Outcome as outcome
use Rattle.memory.specs.Store.{memory_store}
use Rattle.emulator.specs.Machine.{plan_of, cycle_of, Turn, turn, unmarked, Ran, ran, Setting, refusal_in, run_in}
use Rattle.emulator.specs.declared.core_record.Core.{Core}

-- what a run of a core leaves, with a limit
abbrev pub run_to : Setting → Core → Memory → ℕ → Ran Memory
run_to given core memory limit = (run_in plan_of given core memory limit).result

-- the turn after a run, in its setting
abbrev pub turn_after : Setting → Ran Memory → Turn Memory
turn_after given run = (cycle_of (memory_store given.rights) (plan_of (edition_of given.edition)) run.core run.memory).result

-- of every accepted run
pub record LimitMeans : Type 0 where
  -- it counts no more steps than its limit, and ends by the limit exactly where it counted as many
  -- and halt is clear
  pub within : (given : Setting) (core : Core) (memory : Memory) (limit : ℕ) → refusal_in given memory ≡ 0
      → (run_to given core memory limit).steps ≤ limit
  pub limit : (given : Setting) (core : Core) (memory : Memory) (limit : ℕ) → refusal_in given memory ≡ 0
      → let run = run_to given core memory limit in
      (run.end ≡ outcome.limit) ↔ ((run.steps ≡ limit) × (is_halted run.core ≡ false))
  -- it ends halted exactly where halt is set at its end; a core that is halted already makes no
  -- step, whatever the limit: only the marks are set to 0
  pub halted : (given : Setting) (core : Core) (memory : Memory) (limit : ℕ) → refusal_in given memory ≡ 0
      → let run = run_to given core memory limit in (run.end ≡ outcome.halted) ↔ (is_halted run.core ≡ true)
  pub already : (given : Setting) (core : Core) (memory : Memory) (limit : ℕ) → refusal_in given memory ≡ 0 → is_halted core ≡ true
      → run_to given core memory limit ≡ ran outcome.halted 0 core (unmarked memory)
  -- a step that faults isn't counted: with the steps that it counted as its limit the run ends by
  -- the limit, and the next turn is the fault
  pub fault : (given : Setting) (core : Core) (memory : Memory) (limit number value : ℕ) → refusal_in given memory ≡ 0
      → let run = run_to given core memory limit in let before = run_to given core memory run.steps in run.end ≡ outcome.fault number value
      → (before.end ≡ outcome.limit) × (before.steps ≡ run.steps) × (turn_after given before ≡ turn run.end run.core run.memory)
