-- Laws of numbers in decimal: one digit, one digit more, and how many digits a number has.
use Prim.Native.Nat.{ℕ, zero, suc, ◌+◌, ◌*◌, ◌/◌, ◌%◌, ◌^◌, ◌<◌, ◌≤◌}
use mathlib.Core.List.{List, [], ◌∷◌, ◌++◌}
use mathlib.Core.Path.{◌≡◌, refl, sym, ap, ◌∙◌}
use native.Mathlib.Nat.{pow-suc}
use native.Mathlib.Omega.{arith}
use lib.Dec.{ltb}
use lib.ListN.{length, length-append}
use borrow.Author.Tests.{lt-ltb, le-ltb, ltb-true, ltb-false}
use Rattle.instructions.proofs.Cases.{by_test}
use Rattle.line.specs.Decimal.{digit, digits_of, decimal_of}
use Rattle.line.specs.Line.{field}

digits_one : (more n : ℕ) → n < 10 → digits_of more n ≡ digit n ∷ []
unfolding digits_of
digits_one zero n l = refl
digits_one (suc more) n l = rw (lt-ltb n 10 l)

digits_more : (more n : ℕ) → 10 ≤ n → digits_of (suc more) n ≡ digits_of more (n / 10) ++ digit (n % 10) ∷ []
unfolding digits_of
digits_more more n l = rw (le-ltb n 10 l)

-- any bound that suffices gives the same digits
digits_any : (a b n : ℕ) → n ≤ a → n ≤ b → digits_of a n ≡ digits_of b n
digits_any zero b n p q = let l : n < 10 = omega arith in digits_one zero n l ∙ sym (digits_one b n l)
digits_any (suc a) zero n p q = let l : n < 10 = omega arith in digits_one (suc a) n l ∙ sym (digits_one zero n l)
digits_any (suc a) (suc b) n p q =
    by_test (ltb n 10)
    (λ t. let l = ltb-true n 10 t in digits_one (suc a) n l ∙ sym (digits_one (suc b) n l))
    (λ t.
    let l = ltb-false n 10 t in
    digits_more a n l ∙ ((rw (digits_any a b (n / 10) (omega arith) (omega arith))) ∙ sym (digits_more b n l)))

pub decimal_one : (n : ℕ) → n < 10 → decimal_of n ≡ digit n ∷ []
unfolding decimal_of
decimal_one n l = digits_one n n l

pub decimal_more : (n : ℕ) → 10 ≤ n → decimal_of n ≡ decimal_of (n / 10) ++ digit (n % 10) ∷ []
unfolding decimal_of
decimal_more zero l = absurd (omega arith)
decimal_more (suc n) l =
    digits_more n (suc n) l ∙ ap (λ (ds : List ℕ). ds ++ digit (suc n % 10) ∷ []) (digits_any n (suc n / 10) (suc n / 10) (omega arith) (omega arith))

pub length_more : (n : ℕ) → 10 ≤ n → length (decimal_of n) ≡ length (decimal_of (n / 10)) + 1
length_more n l = ap length (decimal_more n l) ∙ length-append (decimal_of (n / 10)) (digit (n % 10) ∷ [])

-- below a power of ten there are at most as many digits as it has zeros
pub at_most : (k n : ℕ) → n < 10 ^ k * 10 → length (decimal_of n) ≤ k + 1
at_most zero n l = let e = ap length (decimal_one n l) in omega arith
at_most (suc k) n l =
    by_test (ltb n 10)
    (λ t. let e = ap length (decimal_one n (ltb-true n 10 t)) in omega arith)
    (λ t.
    let ten = pow-suc 10 k in
    let e = length_more n (ltb-false n 10 t) in
    let less = at_most k (n / 10) (omega arith) in
    omega arith)

-- a field of a word of 16 bits, and one of 32
pub field_16 : (n : ℕ) → n < 65536 → length (field n) ≤ 6
field_16 n l = let d = at_most 4 n (omega arith) in omega arith

pub field_32 : (n : ℕ) → n < 4294967296 → length (field n) ≤ 11
field_32 n l = let d = at_most 9 n (omega arith) in omega arith
