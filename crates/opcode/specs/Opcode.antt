-- Need not be believed: encoding_laws::decoding_inverts_encoding ties it to the table of words.
-- The opcode of a word with the upper byte hi and the lower byte lo: the first half of `decode_of`,
-- which is proved to be the inverse of the table `encode_of`.
use Rattle.std.specs.Prelude.{ℕ, ◌/◌, ◌%◌, Bool, ltb, eqb, if◌then◌else◌}
use Rattle.opcode.specs.declared.InstructionOpcode.{InstructionOpcode}
use Rattle.opcode.specs.declared.InstructionOpcode.TheVariants.{Undecodable, Nop, Hlt, Mov, DMov, Putl, Puth, Read, Write, Spread, Spwrite, DRead, DWrite, Push, Pop, Movso, Movsi, Spadd, Spinc, Spdec, Not, And, Booland, Or, Xor, Shl, Shr, Bitset, Neg, Inc, Dec, Add, Sub, Mul, Inv, Eqz, Eq, Gt, Gteq, Jmpoff, Cjmpoff, Cjmp, Call, Ret}

-- the opcode if the test holds
abbrev pub only : Bool → InstructionOpcode → InstructionOpcode
only b k = if b then k else Undecodable

-- one lower byte
abbrev pub alone_of : ℕ → InstructionOpcode → ℕ → InstructionOpcode
alone_of byte k lo = only (eqb lo byte) k

-- a register in bits 2..0: 00000qqq
abbrev pub single_of : InstructionOpcode → ℕ → InstructionOpcode
single_of k lo = only (ltb lo 8) k

-- a general register in the low four bits: 0rrr
abbrev pub general_of : InstructionOpcode → ℕ → InstructionOpcode
general_of k lo = only (ltb (lo % 16) 8) k

-- a general register there, 0rrr, or a decimal one, 10dd
abbrev pub general_or_decimal_of : InstructionOpcode → InstructionOpcode → ℕ → InstructionOpcode
general_or_decimal_of k d lo = if ltb (lo % 16) 8 then k else only (ltb (lo % 16) 12) d

-- registers in bits 6..4 and 2..0: 0ppp0qqq
abbrev pub paired_of : InstructionOpcode → ℕ → InstructionOpcode
paired_of k lo = if ltb lo 0x80 then general_of k lo else Undecodable

-- the upper byte 0x20: 0aaa0rrr, 0aaa10dd, 1aaa0rrr, 1aaa10dd
abbrev pub memory_of : ℕ → InstructionOpcode
memory_of lo = if ltb lo 0x80 then general_or_decimal_of Read DRead lo else general_or_decimal_of Write DWrite lo

-- the upper byte 0x21: 00ss0ddd, 00ss10dd, 01ss0ddd, 10ss0ddd, 11011rrr, 11dd0sss
abbrev pub moves_of : ℕ → InstructionOpcode
moves_of lo =
    if ltb lo 0x40 then general_or_decimal_of Mov DMov lo
    else if ltb lo 0x80 then general_of Mov lo
    else if ltb lo 0xC0 then general_of Movso lo
    else if eqb (lo / 8) 0x1B then Spadd
    else general_of Movsi lo

-- the upper byte 0x22
abbrev pub pointer_of : ℕ → InstructionOpcode
pointer_of lo = if eqb lo 0xD0 then Spinc else only (eqb lo 0xD1) Spdec

-- the upper byte 0x23: 11010rrr, 11011rrr
abbrev pub stack_of : ℕ → InstructionOpcode
stack_of lo = if eqb (lo / 8) 0x1A then Push else only (eqb (lo / 8) 0x1B) Pop

-- the upper byte 0x30: 0rrriiii, 1rrriiii
abbrev pub slots_of : ℕ → InstructionOpcode
slots_of lo = if ltb lo 0x80 then Spread else Spwrite

-- the upper byte 0x41: 0xxx0rrr, 1xxx0rrr
abbrev pub ands_of : ℕ → InstructionOpcode
ands_of lo = if ltb lo 0x80 then general_of And lo else general_of Booland lo

-- the upper byte 0x48: 00000rrr, 00010rrr, 00100rrr
abbrev pub unary_of : ℕ → InstructionOpcode
unary_of lo = if eqb (lo / 8) 0 then Neg else if eqb (lo / 8) 2 then Inc else only (eqb (lo / 8) 4) Dec

-- the upper byte 0x50: 00000000, 00010rrr
abbrev pub zero_of : ℕ → InstructionOpcode
zero_of lo = if eqb lo 0x00 then Inv else only (eqb (lo / 8) 2) Eqz

-- the upper byte 0x62: 00010rrr, 00011000
abbrev pub calls_of : ℕ → InstructionOpcode
calls_of lo = if eqb (lo / 8) 2 then Call else only (eqb lo 0x18) Ret

-- the opcode, by the upper byte and then the lower byte. Each branch is a function of the lower
-- byte, so that only the one that is taken is computed.
abbrev pub opcode_of : ℕ → ℕ → InstructionOpcode
opcode_of hi =
    if eqb hi 0x00 then alone_of 0x00 Nop else
    if eqb (hi / 8) 2 then (λ lo. Putl) else
    if eqb (hi / 8) 3 then (λ lo. Puth) else
    if eqb hi 0x20 then memory_of else
    if eqb hi 0x21 then moves_of else
    if eqb hi 0x22 then pointer_of else
    if eqb hi 0x23 then stack_of else
    if eqb hi 0x30 then slots_of else
    if eqb hi 0x40 then single_of Not else
    if eqb hi 0x41 then ands_of else
    if eqb hi 0x42 then paired_of Or else
    if eqb hi 0x43 then paired_of Xor else
    if eqb hi 0x44 then paired_of Shl else
    if eqb hi 0x45 then paired_of Shr else
    if eqb hi 0x47 then paired_of Bitset else
    if eqb hi 0x48 then unary_of else
    if eqb hi 0x49 then paired_of Add else
    if eqb hi 0x4A then paired_of Sub else
    if eqb hi 0x4B then paired_of Mul else
    if eqb hi 0x50 then zero_of else
    if eqb hi 0x51 then paired_of Eq else
    if eqb hi 0x52 then paired_of Gt else
    if eqb hi 0x53 then paired_of Gteq else
    if eqb hi 0x60 then (λ lo. Jmpoff) else
    if eqb hi 0x61 then (λ lo. Cjmpoff) else
    if eqb hi 0x62 then calls_of else
    if eqb hi 0x63 then single_of Cjmp else
    if eqb hi 0xFF then alone_of 0xFF Hlt else
    (λ lo. Undecodable)
