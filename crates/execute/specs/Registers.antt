-- The registers that an instruction sees (docs/MACHINE.md, Registers): r0 to r7 as a list, and the
-- four special ones.
use Rattle.std.specs.Prelude.{ℕ, List, slice_index}
use Rattle.instructions.specs.Reg.{gpr_number}
use Rattle.instructions.specs.declared.reg.GeneralPurposeRegister.{GeneralPurposeRegister}
use Rattle.instructions.specs.declared.reg.SpecialPurposeRegister.{SpecialPurposeRegister}
use Rattle.instructions.specs.declared.reg.SpecialPurposeRegister.TheVariants.{IP, RP, SP, EF}

pub record Registers : Type 0 where
  pub gprs : List ℕ
  pub ip : ℕ
  pub rp : ℕ
  pub sp : ℕ
  pub ef : ℕ

abbrev pub registers : List ℕ → ℕ → ℕ → ℕ → ℕ → Registers
registers gprs ip rp sp ef = record { gprs = gprs; ip = ip; rp = rp; sp = sp; ef = ef }

-- the word in a general register, of the list of eight, and in a special one, of the four words
abbrev pub gpr_of : List ℕ → GeneralPurposeRegister → ℕ
gpr_of gprs reg = slice_index gprs (gpr_number reg)

abbrev pub spr_of : ℕ → ℕ → ℕ → ℕ → SpecialPurposeRegister → ℕ
spr_of ip rp sp ef IP = ip
spr_of ip rp sp ef RP = rp
spr_of ip rp sp ef SP = sp
spr_of ip rp sp ef EF = ef

-- the same of the record
abbrev pub gpr : Registers → GeneralPurposeRegister → ℕ
gpr registers reg = gpr_of registers.gprs reg

abbrev pub spr : Registers → SpecialPurposeRegister → ℕ
spr registers reg = spr_of registers.ip registers.rp registers.sp registers.ef reg
