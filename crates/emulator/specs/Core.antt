-- The core record: its twelve registers, how each is read and changed, and the two flags of ef. The
-- same stands in words in docs/MACHINE.md, Registers.
use Rattle.std.specs.Prelude.{ℕ, Bool, List, replicate, slice_set}
use Rattle.instructions.specs.declared.reg.GeneralPurposeRegister.{GeneralPurposeRegister}
use Rattle.instructions.specs.declared.reg.SpecialPurposeRegister.{SpecialPurposeRegister}
use Rattle.instructions.specs.declared.reg.SpecialPurposeRegister.TheVariants.{IP, RP, SP, EF}
use Rattle.instructions.specs.Reg.{gpr_number}
use Rattle.execute.specs.Flags.{halt_of, cond_of, with_cond}
use Rattle.execute.specs.Registers.{gpr_of, spr_of}
use Rattle.emulator.specs.declared.core_record.Core.{Core}

-- a core of its registers: r0 to r7 as a list, then ip, rp, sp, ef
abbrev pub core_of : List ℕ → ℕ → ℕ → ℕ → ℕ → Core
core_of gprs ip rp sp ef = record { gprs = gprs; ip = ip; rp = rp; sp = sp; ef = ef }

-- a fresh core is all 0 except sp = 0xFFFF
abbrev pub new_core : Core
new_core = core_of (replicate 8 0) 0 0 0xFFFF 0

-- a general register, and the core with it changed
abbrev pub read_gpr : Core → GeneralPurposeRegister → ℕ
read_gpr core register = gpr_of core.gprs register

abbrev pub write_gpr : Core → GeneralPurposeRegister → ℕ → Core
write_gpr core register value = core_of (slice_set core.gprs (gpr_number register) value) core.ip core.rp core.sp core.ef

-- a special register, and the core with it changed
abbrev pub read_spr : Core → SpecialPurposeRegister → ℕ
read_spr core register = spr_of core.ip core.rp core.sp core.ef register

abbrev pub write_spr : Core → SpecialPurposeRegister → ℕ → Core
write_spr core IP value = core_of core.gprs value core.rp core.sp core.ef
write_spr core RP value = core_of core.gprs core.ip value core.sp core.ef
write_spr core SP value = core_of core.gprs core.ip core.rp value core.ef
write_spr core EF value = core_of core.gprs core.ip core.rp core.sp value

-- bit 0 of ef is halt, bit 1 is condition
abbrev pub is_halted : Core → Bool
is_halted core = halt_of core.ef

abbrev pub is_cond_set : Core → Bool
is_cond_set core = cond_of core.ef

abbrev pub set_cond : Core → Bool → Core
set_cond core holds = write_spr core EF (with_cond core.ef holds)
