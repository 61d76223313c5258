-- Arithmetic on 16-bit words, as natural numbers below 65,536 (docs/MACHINE.md, Instructions).
use Rattle.std.specs.Prelude.{ℕ, ◌+◌, ◌-◌, ◌*◌, ◌/◌, ◌%◌, ◌^◌, Bool, ltb, ◌==◌, nat_lt, if◌then◌else◌}

-- sums and differences are taken modulo 65,536
abbrev pub add_word : ℕ → ℕ → ℕ
add_word left right = (left + right) % 65536

abbrev pub sub_word : ℕ → ℕ → ℕ
sub_word left right = (left + (65536 - right)) % 65536

-- multiplication keeps the low 16 bits
abbrev pub mul_word : ℕ → ℕ → ℕ
mul_word left right = (left * right) % 65536

-- a word with its low byte replaced, and with its high byte replaced
abbrev pub with_low : ℕ → ℕ → ℕ
with_low word byte = word / 256 * 256 + byte

abbrev pub with_high : ℕ → ℕ → ℕ
with_high word byte = byte * 256 + word % 256

-- 1 if both are above 0, else 0
abbrev pub bool_and : ℕ → ℕ → ℕ
bool_and left right = if nat_lt 0 left then (if ltb 0 right then 1 else 0) else 0

-- a byte read as -128..127, modulo 65,536
abbrev pub sign_extend : ℕ → ℕ
sign_extend byte = if nat_lt byte 128 then byte else 65536 - (256 - byte)

-- whether the bit of the word with that index is set
abbrev pub has_bit : ℕ → ℕ → Bool
has_bit word index = word / 2 ^ index % 2 == 1

-- the word with the bit of that index made `value`, 0 or 1: the bits above it, then `value`, then
-- the bits below it
abbrev pub with_bit : ℕ → ℕ → ℕ → ℕ
with_bit word index value = (word / 2 ^ index / 2 * 2 + value) * 2 ^ index + word % 2 ^ index

-- the number of a bit that is set or clear
abbrev pub bit : Bool → ℕ
bit is_set = if is_set then 1 else 0
