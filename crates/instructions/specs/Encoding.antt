-- The words of the 43 instructions, one row for each: its base word, and its operands at their
-- places. The manual's table (docs/MACHINE.md, Instructions) says the same in words.
use Rattle.std.specs.Prelude.{ℕ, ◌+◌, ◌*◌, ◌%◌}
use Rattle.instructions.specs.Reg.{gpr_number, spr_number, dr_number}
use Rattle.instructions.specs.declared.reg.GeneralPurposeRegister.{GeneralPurposeRegister}
use Rattle.instructions.specs.declared.ins.Instruction.{Instruction}
use Rattle.instructions.specs.declared.ins.Instruction.TheVariants.{Nop, Hlt, Mov, DMov, Putl, Puth, Read, Write, Spread, Spwrite, DRead, DWrite, Push, Pop, Movso, Movsi, Spadd, Spinc, Spdec, Not, And, Booland, Or, Xor, Shl, Shr, Bitset, Neg, Inc, Dec, Add, Sub, Mul, Inv, Eqz, Eq, Gt, Gteq, Jmpoff, Cjmpoff, Cjmp, Call, Ret}

-- two operands at their places: the first from bit 4 on, the second from bit 0 on
abbrev pub place : ℕ → ℕ → ℕ
place first second = first * 16 + second

-- a pair of general registers: the first in bits 6..4, the second in bits 2..0
abbrev pub pair_of : GeneralPurposeRegister → GeneralPurposeRegister → ℕ
pair_of first second = place (gpr_number first) (gpr_number second)

-- a register in bits 6..4, and the low four bits of an offset in bits 3..0
abbrev pub slot_of : GeneralPurposeRegister → ℕ → ℕ
slot_of val offset = place (gpr_number val) (offset % 16)

-- a register in bits 10..8, and a byte in bits 7..0
abbrev pub immediate_of : GeneralPurposeRegister → ℕ → ℕ
immediate_of reg imm = gpr_number reg * 256 + imm

abbrev pub encode_of : Instruction → ℕ
-- alone
encode_of Nop = 0x0000
encode_of Hlt = 0xFFFF
encode_of Spinc = 0x22D0
encode_of Spdec = 0x22D1
encode_of Inv = 0x5000
encode_of Ret = 0x6218
-- one register, in bits 2..0
encode_of (Push val) = 0x23D0 + gpr_number val
encode_of (Pop val) = 0x23D8 + gpr_number val
encode_of (Spadd val) = 0x21D8 + gpr_number val
encode_of (Not reg) = 0x4000 + gpr_number reg
encode_of (Neg reg) = 0x4800 + gpr_number reg
encode_of (Inc reg) = 0x4810 + gpr_number reg
encode_of (Dec reg) = 0x4820 + gpr_number reg
encode_of (Eqz reg) = 0x5010 + gpr_number reg
encode_of (Cjmp src) = 0x6300 + gpr_number src
encode_of (Call src) = 0x6210 + gpr_number src
-- the pair (src, dest)
encode_of (Mov dest src) = 0x2100 + pair_of src dest
-- the pair (addr, val)
encode_of (Read val addr) = 0x2000 + pair_of addr val
encode_of (Write addr val) = 0x2080 + pair_of addr val
-- the pair (idx, reg)
encode_of (Bitset reg idx) = 0x4700 + pair_of idx reg
-- the pair (left, right)
encode_of (Eq left right) = 0x5100 + pair_of left right
encode_of (Gt left right) = 0x5200 + pair_of left right
encode_of (Gteq left right) = 0x5300 + pair_of left right
-- the pair (val, reg)
encode_of (And reg val) = 0x4100 + pair_of val reg
encode_of (Booland reg val) = 0x4180 + pair_of val reg
encode_of (Or reg val) = 0x4200 + pair_of val reg
encode_of (Xor reg val) = 0x4300 + pair_of val reg
encode_of (Shl reg val) = 0x4400 + pair_of val reg
encode_of (Shr reg val) = 0x4500 + pair_of val reg
encode_of (Add reg val) = 0x4900 + pair_of val reg
encode_of (Sub reg val) = 0x4A00 + pair_of val reg
encode_of (Mul reg val) = 0x4B00 + pair_of val reg
-- a special register in bits 5..4, a general one in bits 2..0
encode_of (Movso dest src) = 0x2180 + place (spr_number src) (gpr_number dest)
encode_of (Movsi dest src) = 0x21C0 + place (spr_number dest) (gpr_number src)
-- a decimal register in bits 1..0; above it a decimal one (bits 5..4) or a general one (bits 6..4)
encode_of (DMov dest src) = 0x2108 + place (dr_number src) (dr_number dest)
encode_of (DRead val addr) = 0x2008 + place (gpr_number addr) (dr_number val)
encode_of (DWrite addr val) = 0x2088 + place (gpr_number addr) (dr_number val)
-- val in bits 6..4, offset in bits 3..0
encode_of (Spread val offset) = 0x3000 + slot_of val offset
encode_of (Spwrite offset val) = 0x3080 + slot_of val offset
-- a register in bits 10..8, a byte in bits 7..0
encode_of (Putl reg imm) = 0x1000 + immediate_of reg imm
encode_of (Puth reg imm) = 0x1800 + immediate_of reg imm
-- a byte offset in bits 7..0
encode_of (Jmpoff offset) = 0x6000 + offset
encode_of (Cjmpoff offset) = 0x6100 + offset
