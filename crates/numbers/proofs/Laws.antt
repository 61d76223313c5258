-- The numbers of an instruction name it, and so encode to its word.
use mathlib.Core.Path.{◌∙◌}
use borrow.Author.Tests.{lt-ltb}
use Rattle.std.proofs.Common.{ℕ, ◌<◌, ◌≡◌, refl, ap, rules, Some}
use Rattle.instructions.specs.Reg.{gpr_number, spr_number, dr_number}
use Rattle.instructions.specs.declared.reg.GeneralPurposeRegister.{GeneralPurposeRegister}
use Rattle.instructions.specs.declared.reg.SpecialPurposeRegister.{SpecialPurposeRegister}
use Rattle.instructions.specs.declared.reg.DecimalRegister.{DecimalRegister}
use Rattle.instructions.specs.declared.ins.Instruction.{Instruction}
use Rattle.instructions.specs.declared.ins.Instruction.TheVariants.{Nop}
use Rattle.numbers.specs.Instruction.{numbers_of, gpr, spr, dr, instruction_of, word_of, encoded_number, NumbersEncode}

gpr_lem : (r : GeneralPurposeRegister) → gpr (gpr_number r) ≡ Some r
gpr_lem r = search rules

spr_lem : (r : SpecialPurposeRegister) → spr (spr_number r) ≡ Some r
spr_lem r = search rules

dr_lem : (r : DecimalRegister) → dr (dr_number r) ≡ Some r
dr_lem r = search rules

ruleset operands = (gpr_lem, spr_lem, dr_lem)

named : (i : Instruction) → instruction_of (numbers_of i).kind (numbers_of i).first (numbers_of i).second ≡ Some i
named Nop = refl
named i = search operands

-- bytes, as in every value of the code
pub of_bytes : (k a b : ℕ) → a < 256 → b < 256 → encoded_number k a b ≡ word_of (instruction_of k a b)
of_bytes k a b l m = rw (lt-ltb a 256 l, lt-ltb b 256 m)

pub numbers_encode : NumbersEncode
numbers_encode i l m = of_bytes (numbers_of i).kind _ _ l m ∙ ap word_of (named i)
