-- Need not be believed: encoding_laws::decoding_inverts_encoding ties it to the table of words.
-- The instruction that a word stands for: its opcode by the upper byte and then the lower byte, and
-- the operands at their places. `decode_of` is proved to be the inverse of the table `encode_of`.
-- Two lines are to be believed: `undecodable`, the number 10 (docs/NUMBERS.md), and
-- `no_instruction`, by which a word that stands for none is handed back.
use Rattle.std.specs.Prelude.{ℕ, ◌/◌, ◌%◌, Result, Ok, Err}
use Rattle.instructions.specs.Reg.{gpr_at, spr_at, dr_at}
use Rattle.opcode.specs.Opcode.{opcode_of}
use Rattle.opcode.specs.declared.InstructionOpcode.{InstructionOpcode}
use Rattle.opcode.specs.declared.InstructionOpcode.TheVariants.{Nop, Hlt, Mov, DMov, Putl, Puth, Read, Write, Spread, Spwrite, DRead, DWrite, Push, Pop, Movso, Movsi, Spadd, Spinc, Spdec, Not, And, Booland, Or, Xor, Shl, Shr, Bitset, Neg, Inc, Dec, Add, Sub, Mul, Inv, Eqz, Eq, Gt, Gteq, Jmpoff, Cjmpoff, Cjmp, Call, Ret}
use Rattle.instructions.specs.declared.ins.Instruction.{Instruction}
use Rattle.instructions.specs.declared.ins.encoding.Undecodable.{Undecodable}

-- the number of the stop that an undecodable word gives, with the word as its value
-- (docs/NUMBERS.md, The numbers)
abbrev pub undecodable : ℕ
undecodable = 10

-- what a word that stands for no instruction decodes to
abbrev pub no_instruction : ℕ → Result Instruction Undecodable
no_instruction w = Err (record { word = w })

-- the instruction with the opcode and the operands that the bytes of the word w hold
abbrev pub operands_of : InstructionOpcode → ℕ → ℕ → ℕ → Result Instruction Undecodable
operands_of InstructionOpcode.Undecodable w hi lo = no_instruction w
-- Core
operands_of Nop w hi lo = Ok Instruction.Nop
operands_of Hlt w hi lo = Ok Instruction.Hlt
operands_of Mov w hi lo = Ok (Instruction.Mov (gpr_at lo) (gpr_at (lo / 16)))
operands_of DMov w hi lo = Ok (Instruction.DMov (dr_at lo) (dr_at (lo / 16)))
-- Immediate loads
operands_of Putl w hi lo = Ok (Instruction.Putl (gpr_at hi) lo)
operands_of Puth w hi lo = Ok (Instruction.Puth (gpr_at hi) lo)
-- Memory
operands_of Read w hi lo = Ok (Instruction.Read (gpr_at lo) (gpr_at (lo / 16)))
operands_of Write w hi lo = Ok (Instruction.Write (gpr_at (lo / 16)) (gpr_at lo))
operands_of Spread w hi lo = Ok (Instruction.Spread (gpr_at (lo / 16)) (lo % 16))
operands_of Spwrite w hi lo = Ok (Instruction.Spwrite (lo % 16) (gpr_at (lo / 16)))
operands_of DRead w hi lo = Ok (Instruction.DRead (dr_at lo) (gpr_at (lo / 16)))
operands_of DWrite w hi lo = Ok (Instruction.DWrite (gpr_at (lo / 16)) (dr_at lo))
operands_of Push w hi lo = Ok (Instruction.Push (gpr_at lo))
operands_of Pop w hi lo = Ok (Instruction.Pop (gpr_at lo))
-- Special-purpose registers
operands_of Movso w hi lo = Ok (Instruction.Movso (gpr_at lo) (spr_at (lo / 16)))
operands_of Movsi w hi lo = Ok (Instruction.Movsi (spr_at (lo / 16)) (gpr_at lo))
operands_of Spadd w hi lo = Ok (Instruction.Spadd (gpr_at lo))
operands_of Spinc w hi lo = Ok Instruction.Spinc
operands_of Spdec w hi lo = Ok Instruction.Spdec
-- Bit manipulation
operands_of Not w hi lo = Ok (Instruction.Not (gpr_at lo))
operands_of And w hi lo = Ok (Instruction.And (gpr_at lo) (gpr_at (lo / 16)))
operands_of Booland w hi lo = Ok (Instruction.Booland (gpr_at lo) (gpr_at (lo / 16)))
operands_of Or w hi lo = Ok (Instruction.Or (gpr_at lo) (gpr_at (lo / 16)))
operands_of Xor w hi lo = Ok (Instruction.Xor (gpr_at lo) (gpr_at (lo / 16)))
operands_of Shl w hi lo = Ok (Instruction.Shl (gpr_at lo) (gpr_at (lo / 16)))
operands_of Shr w hi lo = Ok (Instruction.Shr (gpr_at lo) (gpr_at (lo / 16)))
operands_of Bitset w hi lo = Ok (Instruction.Bitset (gpr_at lo) (gpr_at (lo / 16)))
-- General-purpose arithmetic
operands_of Neg w hi lo = Ok (Instruction.Neg (gpr_at lo))
operands_of Inc w hi lo = Ok (Instruction.Inc (gpr_at lo))
operands_of Dec w hi lo = Ok (Instruction.Dec (gpr_at lo))
operands_of Add w hi lo = Ok (Instruction.Add (gpr_at lo) (gpr_at (lo / 16)))
operands_of Sub w hi lo = Ok (Instruction.Sub (gpr_at lo) (gpr_at (lo / 16)))
operands_of Mul w hi lo = Ok (Instruction.Mul (gpr_at lo) (gpr_at (lo / 16)))
-- Comparison
operands_of Inv w hi lo = Ok Instruction.Inv
operands_of Eqz w hi lo = Ok (Instruction.Eqz (gpr_at lo))
operands_of Eq w hi lo = Ok (Instruction.Eq (gpr_at (lo / 16)) (gpr_at lo))
operands_of Gt w hi lo = Ok (Instruction.Gt (gpr_at (lo / 16)) (gpr_at lo))
operands_of Gteq w hi lo = Ok (Instruction.Gteq (gpr_at (lo / 16)) (gpr_at lo))
-- Branching
operands_of Jmpoff w hi lo = Ok (Instruction.Jmpoff lo)
operands_of Cjmpoff w hi lo = Ok (Instruction.Cjmpoff lo)
operands_of Cjmp w hi lo = Ok (Instruction.Cjmp (gpr_at lo))
operands_of Call w hi lo = Ok (Instruction.Call (gpr_at lo))
operands_of Ret w hi lo = Ok Instruction.Ret

-- the word w with the upper byte hi and the lower byte lo
abbrev pub decode_bytes : ℕ → ℕ → ℕ → Result Instruction Undecodable
decode_bytes w hi lo = operands_of (opcode_of hi lo) w hi lo

-- the instruction that the word stands for, or the word as undecodable
unfoldable pub decode_of : ℕ → Result Instruction Undecodable
decode_of w = decode_bytes w (w / 256) (w % 256)
