-- What one instruction does: a table with one row for each of the 43 kinds, on plain numbers. The
-- manual's table (docs/MACHINE.md, Instructions) says the same in words.
-- The columns are the edition, for which four rows ask (docs/MACHINE.md, Editions), the registers,
-- ip already advanced, the instruction, and its word. After the = stands the effect. Three effects
-- are stops: Decimal, Amount and Negation have the numbers 12, 13 and 14 of docs/NUMBERS.md.
use Rattle.std.specs.Prelude.{ℕ, ◌-◌, ◌*◌, ◌/◌, ◌%◌, ◌^◌, Bool, not, ◌==◌, bit_and, bit_or, bit_xor, nat_le, nat_lt, if◌then◌else◌}
use Rattle.instructions.specs.declared.reg.SpecialPurposeRegister.{SpecialPurposeRegister}
use Rattle.instructions.specs.declared.reg.SpecialPurposeRegister.TheVariants.{IP, RP, SP, EF}
use Rattle.instructions.specs.declared.ins.Instruction.{Instruction}
use Rattle.instructions.specs.declared.ins.Instruction.TheVariants.{Nop, Hlt, Mov, DMov, Putl, Puth, Read, Write, Spread, Spwrite, DRead, DWrite, Push, Pop, Movso, Movsi, Spadd, Spinc, Spdec, Not, And, Booland, Or, Xor, Shl, Shr, Bitset, Neg, Inc, Dec, Add, Sub, Mul, Inv, Eqz, Eq, Gt, Gteq, Jmpoff, Cjmpoff, Cjmp, Call, Ret}
use Rattle.execute.specs.declared.edition.Edition.{Edition}
use Rattle.execute.specs.declared.effect.Effect.{Effect}
use Rattle.execute.specs.declared.effect.Effect.TheVariants.{None, Gpr, Ip, Rp, Sp, Ef, Load, Store, Decimal, Amount, Negation}
use Rattle.execute.specs.Edition.{in_edition}
use Rattle.execute.specs.Flags.{cond_of, with_halt, with_cond}
use Rattle.execute.specs.Registers.{Registers, gpr, spr}
use Rattle.execute.specs.Word.{add_word, sub_word, mul_word, with_low, with_high, bool_and, sign_extend, with_bit, bit}

-- the word goes to the special register
abbrev pub to_spr : SpecialPurposeRegister → ℕ → Effect
to_spr IP value = Ip value
to_spr RP value = Rp value
to_spr SP value = Sp value
to_spr EF value = Ef value

-- the condition is set or cleared; no other bit of ef is touched
abbrev pub to_cond : Registers → Bool → Effect
to_cond registers holds = Ef (with_cond registers.ef holds)

-- the effect, for an amount below 16; for any other stop 13 in edition 1, and the effect `past` in
-- edition 2
abbrev pub amount_below16 : Edition → ℕ → Effect → Effect → Effect
amount_below16 edition amount effect past =
    if nat_lt amount 16 then effect else in_edition edition (Amount amount) past

-- the effect, only if the condition holds
abbrev pub if_cond : Registers → Effect → Effect
if_cond registers effect = if cond_of registers.ef then effect else None

-- ip moved by a byte read as -128..127
abbrev pub jumped_of : ℕ → ℕ → ℕ
jumped_of ip offset = add_word ip (sign_extend offset)

unfoldable pub execute_of : Edition → Registers → Instruction → ℕ → Effect
-- putl replaces the low byte, puth the high byte
execute_of edition registers (Putl reg imm) word = Gpr reg (with_low (gpr registers reg) imm)
execute_of edition registers (Puth reg imm) word = Gpr reg (with_high (gpr registers reg) imm)
-- read copies the word at the address in addr to val, write the word in val to that address
execute_of edition registers (Read val addr) word = Load (gpr registers addr) val 0
execute_of edition registers (Write addr val) word =
    Store (gpr registers addr) (gpr registers val) 0
-- mov, movso, movsi copy src to dest; movso of ip gives the advanced ip; movsi to ef sets all 16
-- bits, halt included
execute_of edition registers (Mov dest src) word = Gpr dest (gpr registers src)
execute_of edition registers (Movso dest src) word = Gpr dest (spr registers src)
execute_of edition registers (Movsi dest src) word = to_spr dest (gpr registers src)
-- nop does nothing; hlt sets the halt bit
execute_of edition registers Nop word = None
execute_of edition registers Hlt word = Ef (with_halt registers.ef)
-- spread and spwrite use address sp + offset
execute_of edition registers (Spread val offset) word = Load (add_word registers.sp offset) val 0
execute_of edition registers (Spwrite offset val) word =
    Store (add_word registers.sp offset) (gpr registers val) 0
-- push lowers sp, then writes there
execute_of edition registers (Push val) word = Store (sub_word registers.sp 1) (gpr registers val) 1
-- pop reads at sp, then raises sp
execute_of edition registers (Pop val) word = Load registers.sp val 1
-- spadd adds its register to sp; spinc adds 1 to sp, spdec takes 1 from it
execute_of edition registers (Spadd val) word = Sp (add_word registers.sp (gpr registers val))
execute_of edition registers Spinc word = Sp (add_word registers.sp 1)
execute_of edition registers Spdec word = Sp (sub_word registers.sp 1)
-- with two operands the result goes to reg, whose own word is the left operand and val the right:
-- sub is reg minus val
execute_of edition registers (Add reg val) word =
    Gpr reg (add_word (gpr registers reg) (gpr registers val))
execute_of edition registers (Sub reg val) word =
    Gpr reg (sub_word (gpr registers reg) (gpr registers val))
execute_of edition registers (Mul reg val) word =
    Gpr reg (mul_word (gpr registers reg) (gpr registers val))
-- inc adds 1 to reg, dec takes 1 from it
execute_of edition registers (Inc reg) word = Gpr reg (add_word (gpr registers reg) 1)
execute_of edition registers (Dec reg) word = Gpr reg (sub_word (gpr registers reg) 1)
-- not, and, or, xor are bitwise
execute_of edition registers (Not reg) word = Gpr reg (65535 - gpr registers reg)
execute_of edition registers (And reg val) word =
    Gpr reg (bit_and (gpr registers reg) (gpr registers val))
execute_of edition registers (Or reg val) word =
    Gpr reg (bit_or (gpr registers reg) (gpr registers val))
execute_of edition registers (Xor reg val) word =
    Gpr reg (bit_xor (gpr registers reg) (gpr registers val))
-- booland is 1 if both are above 0, else 0
execute_of edition registers (Booland reg val) word =
    Gpr reg (bool_and (gpr registers reg) (gpr registers val))
-- shl and shr move reg by val places: shl drops high bits, shr brings in zeros; by 16 or more they
-- give 0 in edition 2
execute_of edition registers (Shl reg val) word =
    amount_below16 edition (gpr registers val)
    (Gpr reg ((gpr registers reg * 2 ^ gpr registers val) % 65536)) (Gpr reg 0)
execute_of edition registers (Shr reg val) word =
    amount_below16 edition (gpr registers val)
    (Gpr reg (gpr registers reg / 2 ^ gpr registers val)) (Gpr reg 0)
-- bitset sets bit idx of reg if the condition holds, else clears it; with an index of 16 or more it
-- leaves reg in edition 2
execute_of edition registers (Bitset reg idx) word =
    amount_below16 edition (gpr registers idx)
    (Gpr reg (with_bit (gpr registers reg) (gpr registers idx) (bit (cond_of registers.ef)))) None
-- neg is 65,536 minus the register, modulo 65,536; of 0 it is 0, of 0x8000 it is stop 14 in edition
-- 1 and 0x8000 in edition 2
execute_of edition registers (Neg reg) word =
    if gpr registers reg == 0x8000
    then in_edition edition (Negation 0x8000) (Gpr reg 0x8000)
    else Gpr reg ((65536 - gpr registers reg) % 65536)
-- inv flips the condition
execute_of edition registers Inv word = to_cond registers (not (cond_of registers.ef))
-- eqz, eq, gt, gteq set it if reg is 0, left equals right, left is greater, left is greater or
-- equal, unsigned, and clear it otherwise
execute_of edition registers (Eqz reg) word = to_cond registers (gpr registers reg == 0)
execute_of edition registers (Eq left right) word =
    to_cond registers (gpr registers left == gpr registers right)
execute_of edition registers (Gt left right) word =
    to_cond registers (nat_lt (gpr registers right) (gpr registers left))
execute_of edition registers (Gteq left right) word =
    to_cond registers (nat_le (gpr registers right) (gpr registers left))
-- jmpoff adds its byte read as -128..127 to the advanced ip; cjmpoff and cjmp act only if the
-- condition holds
execute_of edition registers (Jmpoff offset) word = Ip (jumped_of registers.ip offset)
execute_of edition registers (Cjmpoff offset) word =
    if_cond registers (Ip (jumped_of registers.ip offset))
execute_of edition registers (Cjmp src) word = if_cond registers (Ip (gpr registers src))
-- call puts ip in rp and goes to src; ret goes to rp
execute_of edition registers (Call src) word = Effect.Call (gpr registers src)
execute_of edition registers Ret word = Ip registers.rp
-- dmov, dread, dwrite are stop 12 with the word
execute_of edition registers (DMov dest src) word = Decimal word
execute_of edition registers (DRead val addr) word = Decimal word
execute_of edition registers (DWrite addr val) word = Decimal word
