-- What the two editions have in common (docs/MACHINE.md, Editions).
use Rattle.std.specs.Prelude.{ℕ, ◌≡◌}
use Rattle.instructions.specs.declared.ins.Instruction.{Instruction}
use Rattle.execute.specs.Execute.{execute_of}
use Rattle.execute.specs.Registers.{Registers}
use Rattle.execute.specs.declared.edition.Edition.TheVariants.{First, Second}
use Rattle.execute.specs.declared.effect.Effect.{Effect}
use Rattle.execute.specs.declared.effect.Effect.TheVariants.{Amount, Negation}

-- an effect that is neither stop 13 nor stop 14
pub record NoOverflow (e : Effect) : Type 0 where
  pub amount : (a : ℕ) → e ≡ Amount a → ⊥
  pub negation : (v : ℕ) → e ≡ Negation v → ⊥

pub record Editions : Type 0 where
  -- where edition 1 doesn't stop by 13 or 14, edition 2 does the same
  pub same : (r : Registers) (i : Instruction) (w : ℕ) → NoOverflow (execute_of First r i w) → execute_of Second r i w ≡ execute_of First r i w
  -- edition 2 never stops by 13 or 14
  pub never : (r : Registers) (i : Instruction) (w : ℕ) → NoOverflow (execute_of Second r i w)
