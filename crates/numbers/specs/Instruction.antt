-- The numbers of an instruction for a host: its kind from 0 to 42 in the order of the enum, and its
-- operands. The kinds' numbers are hosts' alone: no word holds them. A register has its own
-- (docs/MACHINE.md, Registers).
use Rattle.std.specs.Prelude.{ℕ, ◌+◌, ◌*◌, ◌^◌, ◌<◌, List, [], ◌∷◌, ◌≡◌, ltb, get_or, Option, Some, None, option_map, Result, Ok, Err, if◌then◌else◌}
use Rattle.std.specs.Option.{option_zip}
use Rattle.instructions.specs.Decoding.{undecodable}
use Rattle.instructions.specs.Encoding.{encode_of}
use Rattle.instructions.specs.Reg.{gpr_number, gpr_at, spr_number, spr_at, dr_number, dr_at, register_of}
use Rattle.instructions.specs.declared.reg.GeneralPurposeRegister.{GeneralPurposeRegister}
use Rattle.instructions.specs.declared.reg.SpecialPurposeRegister.{SpecialPurposeRegister}
use Rattle.instructions.specs.declared.reg.DecimalRegister.{DecimalRegister}
use Rattle.instructions.specs.declared.ins.Instruction.{Instruction}
use Rattle.instructions.specs.declared.ins.encoding.Undecodable.{Undecodable}
use Rattle.instructions.specs.declared.ins.Instruction.TheVariants.{Nop, Hlt, Mov, DMov, Putl, Puth, Read, Write, Spread, Spwrite, DRead, DWrite, Push, Pop, Movso, Movsi, Spadd, Spinc, Spdec, Not, And, Booland, Or, Xor, Shl, Shr, Bitset, Neg, Inc, Dec, Add, Sub, Mul, Inv, Eqz, Eq, Gt, Gteq, Jmpoff, Cjmpoff, Cjmp, Call, Ret}

-- the number of the kind, and of the operands in the order of the instruction's fields, 0 where
-- there is none
pub record Numbers : Type 0 where
  pub kind : ℕ
  pub first : ℕ
  pub second : ℕ

abbrev pub numbers : ℕ → ℕ → ℕ → Numbers
numbers kind first second = record { kind = kind; first = first; second = second }

abbrev pub numbers_of : Instruction → Numbers
-- Core
numbers_of Nop = numbers 0 0 0
numbers_of Hlt = numbers 1 0 0
numbers_of (Mov dest src) = numbers 2 (gpr_number dest) (gpr_number src)
numbers_of (DMov dest src) = numbers 3 (dr_number dest) (dr_number src)
-- Immediate loads
numbers_of (Putl reg imm) = numbers 4 (gpr_number reg) imm
numbers_of (Puth reg imm) = numbers 5 (gpr_number reg) imm
-- Memory
numbers_of (Read val addr) = numbers 6 (gpr_number val) (gpr_number addr)
numbers_of (Write addr val) = numbers 7 (gpr_number addr) (gpr_number val)
numbers_of (Spread val offset) = numbers 8 (gpr_number val) offset
numbers_of (Spwrite offset val) = numbers 9 offset (gpr_number val)
numbers_of (DRead val addr) = numbers 10 (dr_number val) (gpr_number addr)
numbers_of (DWrite addr val) = numbers 11 (gpr_number addr) (dr_number val)
numbers_of (Push val) = numbers 12 (gpr_number val) 0
numbers_of (Pop val) = numbers 13 (gpr_number val) 0
-- Special-purpose registers
numbers_of (Movso dest src) = numbers 14 (gpr_number dest) (spr_number src)
numbers_of (Movsi dest src) = numbers 15 (spr_number dest) (gpr_number src)
numbers_of (Spadd val) = numbers 16 (gpr_number val) 0
numbers_of Spinc = numbers 17 0 0
numbers_of Spdec = numbers 18 0 0
-- Bit manipulation
numbers_of (Not reg) = numbers 19 (gpr_number reg) 0
numbers_of (And reg val) = numbers 20 (gpr_number reg) (gpr_number val)
numbers_of (Booland reg val) = numbers 21 (gpr_number reg) (gpr_number val)
numbers_of (Or reg val) = numbers 22 (gpr_number reg) (gpr_number val)
numbers_of (Xor reg val) = numbers 23 (gpr_number reg) (gpr_number val)
numbers_of (Shl reg val) = numbers 24 (gpr_number reg) (gpr_number val)
numbers_of (Shr reg val) = numbers 25 (gpr_number reg) (gpr_number val)
numbers_of (Bitset reg idx) = numbers 26 (gpr_number reg) (gpr_number idx)
-- General-purpose arithmetic
numbers_of (Neg reg) = numbers 27 (gpr_number reg) 0
numbers_of (Inc reg) = numbers 28 (gpr_number reg) 0
numbers_of (Dec reg) = numbers 29 (gpr_number reg) 0
numbers_of (Add reg val) = numbers 30 (gpr_number reg) (gpr_number val)
numbers_of (Sub reg val) = numbers 31 (gpr_number reg) (gpr_number val)
numbers_of (Mul reg val) = numbers 32 (gpr_number reg) (gpr_number val)
-- Comparison
numbers_of Inv = numbers 33 0 0
numbers_of (Eqz reg) = numbers 34 (gpr_number reg) 0
numbers_of (Eq left right) = numbers 35 (gpr_number left) (gpr_number right)
numbers_of (Gt left right) = numbers 36 (gpr_number left) (gpr_number right)
numbers_of (Gteq left right) = numbers 37 (gpr_number left) (gpr_number right)
-- Branching
numbers_of (Jmpoff offset) = numbers 38 offset 0
numbers_of (Cjmpoff offset) = numbers 39 offset 0
numbers_of (Cjmp src) = numbers 40 (gpr_number src) 0
numbers_of (Call src) = numbers 41 (gpr_number src) 0
numbers_of Ret = numbers 42 0 0

-- the kind in bits 23..16, the first operand in bits 15..8 and the second in bits 7..0
abbrev pub packed : Numbers → ℕ
packed given = given.kind * 2 ^ 16 + given.first * 2 ^ 8 + given.second

-- what a word decodes to: the instruction, or the stop in bits 31..24 with its value
abbrev pub decoded_number : Result Instruction Undecodable → ℕ
decoded_number (Ok instruction) = packed (numbers_of instruction)
decoded_number (Err error) = undecodable * 2 ^ 24 + error.word

-- what a number stands for as an operand, if it stands for anything: a register of each sort, and a
-- byte for itself
abbrev pub gpr : ℕ → Option GeneralPurposeRegister
gpr number = register_of 8 gpr_at number

abbrev pub spr : ℕ → Option SpecialPurposeRegister
spr number = register_of 4 spr_at number

abbrev pub dr : ℕ → Option DecimalRegister
dr number = register_of 4 dr_at number

abbrev pub byte : ℕ → Option ℕ
byte number = Some number

-- a kind: the instruction that the numbers of its operands make, if they stand for any; a number
-- that it has no operand for is not looked at
abbrev pub Kind : Type 0
Kind = ℕ → ℕ → Option Instruction

abbrev pub alone : Instruction → Kind
alone instruction first second = Some instruction

abbrev pub one : {A : Type 0} → (ℕ → Option A) → (A → Instruction) → Kind
one operand make first second = option_map make (operand first)

abbrev pub two : {A B : Type 0} → (ℕ → Option A) → (ℕ → Option B) → (A → B → Instruction) → Kind
two left right make first second =
    option_map (λ both. make both.0 both.1) (option_zip (left first) (right second))

abbrev pub kinds : List Kind
kinds =
    -- Core
    alone Nop ∷
    alone Hlt ∷
    two gpr gpr Mov ∷
    two dr dr DMov ∷
    -- Immediate loads
    two gpr byte Putl ∷
    two gpr byte Puth ∷
    -- Memory
    two gpr gpr Read ∷
    two gpr gpr Write ∷
    two gpr byte Spread ∷
    two byte gpr Spwrite ∷
    two dr gpr DRead ∷
    two gpr dr DWrite ∷
    one gpr Push ∷
    one gpr Pop ∷
    -- Special-purpose registers
    two gpr spr Movso ∷
    two spr gpr Movsi ∷
    one gpr Spadd ∷
    alone Spinc ∷
    alone Spdec ∷
    -- Bit manipulation
    one gpr Not ∷
    two gpr gpr And ∷
    two gpr gpr Booland ∷
    two gpr gpr Or ∷
    two gpr gpr Xor ∷
    two gpr gpr Shl ∷
    two gpr gpr Shr ∷
    two gpr gpr Bitset ∷
    -- General-purpose arithmetic
    one gpr Neg ∷
    one gpr Inc ∷
    one gpr Dec ∷
    two gpr gpr Add ∷
    two gpr gpr Sub ∷
    two gpr gpr Mul ∷
    -- Comparison
    alone Inv ∷
    one gpr Eqz ∷
    two gpr gpr Eq ∷
    two gpr gpr Gt ∷
    two gpr gpr Gteq ∷
    -- Branching
    one byte Jmpoff ∷
    one byte Cjmpoff ∷
    one gpr Cjmp ∷
    one gpr Call ∷
    alone Ret ∷
    []

-- the instruction of a kind's number and two operands'; no kind has a number above 42
abbrev pub instruction_of : ℕ → Kind
instruction_of kind = get_or kinds kind (λ first second. None)

-- the word of the instruction, or 0x10000 where there is none
abbrev pub word_of : Option Instruction → ℕ
word_of (Some instruction) = encode_of instruction
word_of None = 0x10000

-- an operand's number is a byte, also where the kind has no such operand; of another the answer is
-- 0x10000 too
abbrev pub encoded_number : ℕ → ℕ → ℕ → ℕ
encoded_number kind first second =
    if ltb first 256
    then (if ltb second 256 then word_of (instruction_of kind first second) else 0x10000)
    else 0x10000

-- what decoding says of an instruction, encoding takes: its numbers, which are bytes as in every
-- value of the code, encode to its word
abbrev pub NumbersEncode : Type 0
NumbersEncode =
    (i : Instruction) → (numbers_of i).first < 256 → (numbers_of i).second < 256
    → encoded_number (numbers_of i).kind (numbers_of i).first (numbers_of i).second ≡ encode_of i
