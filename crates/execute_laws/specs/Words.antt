-- Words are 16-bit (docs/MACHINE.md, Registers): an instruction that sees 16-bit words leaves
-- 16-bit words, in either edition.
use Rattle.std.specs.Prelude.{ℕ, ◌<◌, ◌≡◌, get_or, Ok}
use Rattle.instructions.specs.Decoding.{decode_of}
use Rattle.instructions.specs.declared.ins.Instruction.{Instruction}
use Rattle.execute.specs.Execute.{execute_of}
use Rattle.execute.specs.Registers.{Registers}
use Rattle.execute.specs.declared.edition.Edition.{Edition}
use Rattle.execute.specs.declared.effect.Effect.{Effect}
use Rattle.execute.specs.declared.effect.Effect.TheVariants.{None, Gpr, Ip, Rp, Sp, Ef, Call, Load, Store, Decimal, Amount, Negation}

abbrev pub IsWord : ℕ → Type 0
IsWord n = n < 65536

-- every register holds a word
pub record RegistersFit (r : Registers) : Type 0 where
  pub gprs : (k : ℕ) → IsWord (get_or r.gprs k 0)
  pub ip : IsWord r.ip
  pub rp : IsWord r.rp
  pub sp : IsWord r.sp
  pub ef : IsWord r.ef

-- every word that the effect puts into a register or into memory is one; a load puts what memory
-- holds, and a stop puts nothing
abbrev pub EffectFits : Effect → Type 0
EffectFits None = Unit {0}
EffectFits (Gpr reg v) = IsWord v
EffectFits (Ip v) = IsWord v
EffectFits (Rp v) = IsWord v
EffectFits (Sp v) = IsWord v
EffectFits (Ef v) = IsWord v
EffectFits (Call v) = IsWord v
EffectFits (Load address into raise) = Unit {0}
EffectFits (Store address v lower) = IsWord v
EffectFits (Decimal v) = Unit {0}
EffectFits (Amount v) = Unit {0}
EffectFits (Negation v) = Unit {0}

-- w is any number that decodes: an instruction that none decodes to, as putl of 65,536, may leave
-- more than a word
abbrev pub Words : Type 0
Words = (ed : Edition) (r : Registers) (w : ℕ) (i : Instruction) → RegistersFit r → decode_of w ≡ Ok i → EffectFits (execute_of ed r i w)
