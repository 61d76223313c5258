-- What the two editions have in common in whole runs: nothing but the stops 13 and 14 tells them
-- apart (docs/MACHINE.md, Editions).
use Rattle.std.specs.Prelude.{ℕ, ◌≡◌, List, Option}
use Rattle.memory.specs.Log.{Logged, Room}
use Rattle.memory.specs.Memory.{Memory}
use Rattle.memory.specs.Outcome.{fault}
use Rattle.emulator.specs.Machine.{plan_of, Ran, setting, run_in}
use Rattle.emulator.specs.declared.core_record.Core.{Core}

-- a run that ends neither by 13 nor by 14
pub record WithoutOverflow (run : Logged (Ran Memory)) : Type 0 where
  pub amount : (value : ℕ) → run.result.end ≡ fault 13 value → ⊥
  pub negation : (value : ℕ) → run.result.end ≡ fault 14 value → ⊥

-- with a log or without, with rights or without
pub record Editions : Type 0 where
  -- a run in edition 1 that ends neither by 13 nor by 14 is the run in edition 2, in everything
  pub same : (room : Room) (rights : Option (List ℕ)) (core : Core) (memory : Memory) (limit : ℕ)
      → WithoutOverflow (run_in plan_of (setting room rights 1) core memory limit)
      → run_in plan_of (setting room rights 2) core memory limit ≡ run_in plan_of (setting room rights 1) core memory limit
  -- no run in edition 2 ends by 13 or 14
  pub never : (room : Room) (rights : Option (List ℕ)) (core : Core) (memory : Memory) (limit : ℕ)
      → WithoutOverflow (run_in plan_of (setting room rights 2) core memory limit)
