-- The registers' numbers (docs/MACHINE.md, Registers), by which words name them.
use Rattle.std.specs.Prelude.{ℕ, ◌%◌, [], ◌∷◌, ltb, get_or, if◌then◌else◌, Option, Some, None, ◌≡◌, refl}
use Rattle.instructions.specs.declared.reg.GeneralPurposeRegister.{GeneralPurposeRegister}
use Rattle.instructions.specs.declared.reg.GeneralPurposeRegister.TheVariants.{R0, R1, R2, R3, R4, R5, R6, R7}
use Rattle.instructions.specs.declared.reg.SpecialPurposeRegister.{SpecialPurposeRegister}
use Rattle.instructions.specs.declared.reg.SpecialPurposeRegister.TheVariants.{IP, RP, SP, EF}
use Rattle.instructions.specs.declared.reg.DecimalRegister.{DecimalRegister}
use Rattle.instructions.specs.declared.reg.DecimalRegister.TheVariants.{D0, D1, D2, D3}

abbrev pub gpr_number : GeneralPurposeRegister → ℕ
gpr_number R0 = 0
gpr_number R1 = 1
gpr_number R2 = 2
gpr_number R3 = 3
gpr_number R4 = 4
gpr_number R5 = 5
gpr_number R6 = 6
gpr_number R7 = 7

-- the register whose number is this one modulo 8
abbrev pub gpr_at : ℕ → GeneralPurposeRegister
gpr_at number = get_or (R0 ∷ R1 ∷ R2 ∷ R3 ∷ R4 ∷ R5 ∷ R6 ∷ R7 ∷ []) (number % 8) R7

abbrev pub spr_number : SpecialPurposeRegister → ℕ
spr_number IP = 0
spr_number RP = 1
spr_number SP = 2
spr_number EF = 3

-- the register whose number is this one modulo 4
abbrev pub spr_at : ℕ → SpecialPurposeRegister
spr_at number = get_or (IP ∷ RP ∷ SP ∷ EF ∷ []) (number % 4) EF

abbrev pub dr_number : DecimalRegister → ℕ
dr_number D0 = 0
dr_number D1 = 1
dr_number D2 = 2
dr_number D3 = 3

-- the register whose number is this one modulo 4
abbrev pub dr_at : ℕ → DecimalRegister
dr_at number = get_or (D0 ∷ D1 ∷ D2 ∷ D3 ∷ []) (number % 4) D3

-- the register of a number, of those that `at` gives for the numbers below `count`
abbrev pub register_of : {R : Type 0} → ℕ → (ℕ → R) → ℕ → Option R
register_of count at number = if ltb number count then Some (at number) else None

-- a register is the one of its number
pub gpr_at_lem : (reg : GeneralPurposeRegister) → gpr_at (gpr_number reg) ≡ reg
gpr_at_lem R0 = refl
gpr_at_lem reg = refl

pub spr_at_lem : (reg : SpecialPurposeRegister) → spr_at (spr_number reg) ≡ reg
spr_at_lem IP = refl
spr_at_lem reg = refl

pub dr_at_lem : (reg : DecimalRegister) → dr_at (dr_number reg) ≡ reg
dr_at_lem D0 = refl
dr_at_lem reg = refl
