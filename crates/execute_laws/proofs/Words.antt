-- An instruction that sees 16-bit words leaves 16-bit words.
use Prim.Native.Nat.{ℕ, ◌/◌, ◌%◌, ◌<◌}
use Rattle.std.specs.Prelude.{Result, Ok, Err}
use mathlib.Core.Bool.{Bool, true, false}
use mathlib.Core.Path.{subst}
use native.Mathlib.Omega.{arith}
use lib.Bits.{bit_and, bit_or, bit_xor, and_lt, or_lt, xor_lt}
use Rattle.opcode.specs.Opcode.{opcode_of}
use Rattle.opcode.specs.declared.InstructionOpcode.{InstructionOpcode}
use Rattle.opcode.specs.declared.InstructionOpcode.TheVariants.{Nop}
use Rattle.instructions.specs.Decoding.{operands_of, decode_of}
use Rattle.instructions.specs.declared.ins.Instruction.{Instruction}
use Rattle.instructions.specs.declared.ins.encoding.Undecodable.{Undecodable}
use Rattle.execute.specs.Execute.{execute_of}
use Rattle.execute.specs.declared.edition.Edition.{Edition}
use Rattle.execute.specs.Registers.{Registers}
use Rattle.execute.specs.Word.{with_bit, bit}
use Rattle.execute.proofs.Laws.{or_bit, and_bit_16}
use Rattle.execute_laws.specs.Words.{IsWord, RegistersFit, EffectFits, Words}

-- what the arithmetic of the table leaves is a word
pub reduced : (n : ℕ) → IsWord (n % 65536)
reduced n = omega arith

anded : (a b : ℕ) → IsWord a → IsWord b → IsWord (bit_and a b)
anded a b ha hb = and_lt 16 a b ha hb

ored : (a b : ℕ) → IsWord a → IsWord b → IsWord (bit_or a b)
ored a b ha hb = or_lt 16 a b ha hb

xored : (a b : ℕ) → IsWord a → IsWord b → IsWord (bit_xor a b)
xored a b ha hb = xor_lt 16 a b ha hb

-- a mask sets or clears the bit
with_bit_lem : (k : ℕ) (b : Bool) {a : ℕ} → IsWord a → k < 16 → IsWord (with_bit a k (bit b))
with_bit_lem k true {a} ha hk = rw (← or_bit a k hk) (ored a _ ha (reduced _))
with_bit_lem k false {a} ha hk = rw (← and_bit_16 a k ha hk) (anded a _ ha (omega arith))

ruleset word_steps = (anded, ored, xored, with_bit_lem, arith)

-- the claim, of what a word decodes to
abbrev Fits : Edition → Registers → ℕ → Result Instruction Undecodable → Type 0
Fits ed r w (Ok i) = EffectFits (execute_of ed r i w)
Fits ed r w (Err e) = Unit {0}

-- each opcode with the bytes hi and lo; of a word, lo is below 256
row : (ed : Edition) (r : Registers) → RegistersFit r → (w hi lo : ℕ) → lo < 256 → (o : InstructionOpcode) → Fits ed r w (operands_of o w hi lo)
unfolding execute_of
row ed r fit w hi lo byte Nop = tt
row ed r fit w hi lo byte o = search word_steps

pub words : Words
unfolding decode_of
words ed r w i fit e = subst (Fits ed r w) e (row ed r fit w (w / 256) (w % 256) (omega arith) (opcode_of (w / 256) (w % 256)))
