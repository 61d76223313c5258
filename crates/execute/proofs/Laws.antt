-- Laws on words: a mask sets or clears one bit, or replaces the low byte.
use Rattle.std.proofs.Common.{◌≡◌, ℕ, ◌+◌, ◌-◌, ◌*◌, ◌/◌, ◌%◌, ◌^◌, ◌<◌, sym, ap, ◌∙◌, ap₂, add-zero, mod-lt, mod-eq_of_lt, add-mul, one-mul, arith, pow_pos, pow-add, shl_exact, shr_lt}
use native.Mathlib.Nat.{max-eq_right}
use lib.Pow.{split, shr_mod, ones_lt}
use lib.Bits.{bit_and, bit_or, or_block, or_step, or_zero_r, and_block, and_mask, and_high, or_shifted}
use Rattle.execute.specs.Word.{with_bit, with_low}

-- the word that is 1 shifted by k
one_at : (k : ℕ) → k < 16 → (1 * 2 ^ k) % 65536 ≡ 2 ^ k
one_at k h = shl_exact {a = 1} 1 k 16 (omega arith) (omega arith) ∙ one-mul (2 ^ k)

-- the lowest bit set
or_one : (a : ℕ) → bit_or a 1 ≡ a / 2 * 2 + 1
or_one a =
    or_step a 1
    ∙ ap₂ (λ (x y : ℕ). x * 2 + y) (or_zero_r (a / 2)) (max-eq_right (omega arith))

-- bit k set by the word that is 1 shifted by k
pub or_bit : (n k : ℕ) → k < 16 → bit_or n ((1 * 2 ^ k) % 65536) ≡ with_bit n k 1
or_bit n k h =
    ap₂ bit_or (sym (split n k)) (one_at k h ∙ sym (add-zero (1 * 2 ^ k) ∙ one-mul (2 ^ k)))
    ∙ or_block k (n / 2 ^ k) 1 (n % 2 ^ k) 0 (mod-lt n (pow_pos k)) (pow_pos k)
    ∙ ap₂ (λ (x y : ℕ). x * 2 ^ k + y) (or_one (n / 2 ^ k)) (or_zero_r (n % 2 ^ k))

-- the mask with only bit k clear, of a number of j + 1 + k bits: ones above, a zero, ones below
mask : (j k : ℕ) → 2 ^ (j + 1 + k) - 1 - 2 ^ k ≡ (2 ^ (j + 1) - 2) * 2 ^ k + (2 ^ k - 1)
mask j k =
    let two : 2 ^ (j + 1) ≡ 2 ^ j * 2 = pow-add 2 j 1 in
    let parts : (2 ^ (j + 1) - 2 + 2) * 2 ^ k ≡ (2 ^ (j + 1) - 2) * 2 ^ k + 2 * 2 ^ k = add-mul (2 ^ (j + 1) - 2) 2 (2 ^ k) in
    let back : 2 ^ (j + 1) - 2 + 2 ≡ 2 ^ (j + 1) = omega (arith, pow_pos j) in
    let whole : 2 ^ (j + 1 + k) ≡ (2 ^ (j + 1) - 2) * 2 ^ k + 2 * 2 ^ k = pow-add 2 (j + 1) k ∙ ap (λ (x : ℕ). x * 2 ^ k) (sym back) ∙ parts in
    omega (arith, pow_pos k)

-- bit k cleared by that mask
and_bit : (n j k : ℕ) → n < 2 ^ (j + 1 + k) → bit_and n (2 ^ (j + 1 + k) - 1 - 2 ^ k) ≡ with_bit n k 0
and_bit n j k h =
    ap₂ bit_and (sym (split n k)) (mask j k)
    ∙ and_block k (n / 2 ^ k) (2 ^ (j + 1) - 2) (n % 2 ^ k) (2 ^ k - 1) (mod-lt n (pow_pos k)) (ones_lt k)
    ∙ ap₂
    (λ (x y : ℕ). x * 2 ^ k + y)
    (and_high (n / 2 ^ k) j 1 ∙ ap (λ (x : ℕ). x * 2) (shr_mod j 1 (shr_lt (j + 1) k h)) ∙ sym (add-zero (n / 2 ^ k / 2 * 2)))
    (and_mask (n % 2 ^ k) k ∙ mod-eq_of_lt (mod-lt n (pow_pos k)))

-- the same of a word of 16 bits, by the inverse of the word that is 1 shifted by k
pub and_bit_16 : (n k : ℕ) → n < 65536 → k < 16 → bit_and n (65535 - (1 * 2 ^ k) % 65536) ≡ with_bit n k 0
and_bit_16 n k hn hk =
    let e : 15 - k + 1 + k ≡ 16 = omega arith in
    rw (one_at k hk) ((rw e at (and_bit n (15 - k) k)) hn)

-- the low byte of a word replaced
pub low_byte : (a b : ℕ) → a < 65536 → b < 256 → bit_or (bit_and a 0xFF00) b ≡ with_low a b
low_byte a b ha hb =
    ap (λ (x : ℕ). bit_or x b) (and_high a 8 8 ∙ ap (λ (x : ℕ). x * 256) (shr_mod 8 8 ha))
    ∙ or_shifted (a / 256) 8 b hb
