-- What a mask leaves of a byte.
use Rattle.std.proofs.Common.{◌≡◌, ◌<◌, ◌∙◌, ℕ, ◌+◌, ◌*◌, ◌/◌, ◌%◌, ap, arith, bit_and, ap₂, mod-eq_of_lt}
use lib.Bits.{and_block, and_high}

upper : (n : ℕ) → n < 16 → bit_and n 0x8 ≡ n / 8 * 8
upper n h = and_high n 1 3 ∙ ap (λ (k : ℕ). k * 8) (mod-eq_of_lt (omega arith))

-- the upper bit of each four
pub uppers : (lo : ℕ) → lo < 256 → bit_and lo 0x88 ≡ lo / 16 / 8 * 8 * 16 + lo % 16 / 8 * 8
uppers lo h =
    let split : lo ≡ lo / 16 * 16 + lo % 16 = omega arith in
    ap (λ (n : ℕ). bit_and n 0x88) split
    ∙ and_block 4 (lo / 16) 0x8 (lo % 16) 0x8 (omega arith) (omega arith)
    ∙ ap₂ (λ (a b : ℕ). a * 16 + b) (upper (lo / 16) (omega arith)) (upper (lo % 16) (omega arith))
