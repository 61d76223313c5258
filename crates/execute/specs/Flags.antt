-- The flags in the word ef (docs/MACHINE.md, Registers): bit 0 is halt, bit 1 is condition.
use Rattle.std.specs.Prelude.{ℕ, Bool}
use Rattle.execute.specs.Word.{has_bit, with_bit, bit}

-- whether halt is set, and ef with it set
abbrev pub halt_of : ℕ → Bool
halt_of ef = has_bit ef 0

abbrev pub with_halt : ℕ → ℕ
with_halt ef = with_bit ef 0 1

-- whether the condition holds, and ef with the condition set or cleared
abbrev pub cond_of : ℕ → Bool
cond_of ef = has_bit ef 1

abbrev pub with_cond : ℕ → Bool → ℕ
with_cond ef holds = with_bit ef 1 (bit holds)
