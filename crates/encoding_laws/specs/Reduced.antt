-- What encoding keeps of an instruction: words of the claim `Inverse`, read with it.
use Rattle.std.specs.Prelude.{ℕ, ◌%◌}
use Rattle.instructions.specs.declared.ins.Instruction.{Instruction}
use Rattle.instructions.specs.declared.ins.Instruction.TheVariants.{Putl, Puth, Spread, Spwrite, Jmpoff, Cjmpoff}

-- the byte in bits 7..0, and 0 where the word holds no byte
abbrev pub byte_of : Instruction → ℕ
byte_of (Putl reg imm) = imm
byte_of (Puth reg imm) = imm
byte_of (Jmpoff offset) = offset
byte_of (Cjmpoff offset) = offset
byte_of i = 0

-- the instruction with a `spread` or `spwrite` offset reduced to its low four bits
abbrev pub reduced : Instruction → Instruction
reduced (Spread val offset) = Spread val (offset % 16)
reduced (Spwrite offset val) = Spwrite (offset % 16) val
reduced i = i
