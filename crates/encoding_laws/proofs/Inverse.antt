-- `decode_of` is the inverse of `encode_of`.
-- Assumes nothing.
use mathlib.Core.Path.{◌≡◌, ◌∙◌, refl, subst}
use mathlib.Core.Bool.{Bool, true}
use Prim.Native.Nat.{ℕ, ◌+◌, ◌*◌, ◌/◌, ◌%◌, ◌<◌}
use native.Mathlib.Omega.{arith}
use lib.Dec.{eqb}
use Rattle.std.proofs.lemmas.Bool.{agree_below, agree_below_at, eqb-true}
use Rattle.std.specs.Prelude.{Result, Ok, Err}
use Rattle.instructions.specs.Encoding.{encode_of}
use Rattle.encoding_laws.specs.Reduced.{byte_of, reduced}
use Rattle.instructions.specs.Reg.{gpr_number, gpr_at, gpr_at_lem}
use Rattle.instructions.specs.declared.reg.GeneralPurposeRegister.{GeneralPurposeRegister}
use Rattle.instructions.specs.declared.ins.Instruction.TheVariants.{Nop, Hlt, Mov, DMov, Putl, Puth, Read, Write, Spread, Spwrite, DRead, DWrite, Push, Pop, Movso, Movsi, Spadd, Spinc, Spdec, Not, And, Booland, Or, Xor, Shl, Shr, Bitset, Neg, Inc, Dec, Add, Sub, Mul, Inv, Eqz, Eq, Gt, Gteq, Jmpoff, Cjmpoff, Cjmp, Call, Ret}
use borrow.Author.Tests.{lt-ltb, le-ltb}
use Rattle.instructions.specs.Decoding.{decode_of, decode_bytes, no_instruction}
use Rattle.instructions.proofs.RegLaws.{Sort, general, special, decimal, gpr_below}
use Rattle.instructions.specs.declared.ins.Instruction.{Instruction}
use Rattle.instructions.specs.declared.ins.encoding.Undecodable.{Undecodable}
use Rattle.encoding_laws.specs.Inverse.{Inverse}

-- the answer leads back to the word
abbrev back : ℕ → Result Instruction Undecodable → Bool
back w (Ok i) = eqb (encode_of i) w
back w (Err e) = eqb e.word w

abbrev back_at : ℕ → ℕ → Bool
back_at h l = back (h * 256 + l) (decode_bytes (h * 256 + l) h l)

-- all 65,536 words, computed
all_back : agree_below (λ h. agree_below (back_at h) (λ l. true) 256) (λ h. true) 256 ≡ true
all_back = refl

back_word : (w : ℕ) → w < 65536 → back w (decode_of w) ≡ true
unfolding decode_of
back_word w s =
    let h = w / 256 in
    let l = w % 256 in
    let row = agree_below_at (λ h. agree_below (back_at h) (λ l. true) 256) (λ h. true) 256 h all_back (omega arith) in
    let e : h * 256 + l ≡ w = omega arith in
    subst (λ (v : ℕ). back v (decode_bytes v h l) ≡ true) e (agree_below_at (back_at h) (λ l. true) 256 l row (omega arith))

-- a word that decodes is the encoding of what it decodes to
encode_decode : (w : ℕ) → w < 65536 → (i : Instruction) → decode_of w ≡ Ok i → encode_of i ≡ w
encode_decode w h i e = eqb-true (encode_of i) w (rw e at (back_word w h))

-- a word that does not is undecodable, with that word
undecodable : (w : ℕ) → w < 65536 → (v : ℕ) → decode_of w ≡ no_instruction v → v ≡ w
undecodable w h v e = eqb-true v w (rw e at (back_word w h))

-- the upper and the lower byte of a word
pub bytes : (h l w : ℕ) → w ≡ h * 256 + l → l < 256 → decode_of w ≡ decode_bytes w h l
unfolding decode_of
bytes h l w e s =
    let eh : w / 256 ≡ h = omega arith in
    let el : w % 256 ≡ l = omega arith in
    rw (eh, el)

-- an instruction of one register, and of two
ones : {R : Type 0} (s : Sort R) (k : R → Instruction) → s.values (λ q. decode_of (encode_of (k q))) ≡ s.values (λ q. Ok (k q)) → (q : R) → decode_of (encode_of (k q)) ≡ Ok (k q)
ones s k e = s.equal (λ q. decode_of (encode_of (k q))) (λ q. Ok (k q)) e

pairs : {P Q : Type 0} (s : Sort P) (t : Sort Q) (k : P → Q → Instruction)
    → s.values (λ p. t.values (λ q. decode_of (encode_of (k p q)))) ≡ s.values (λ p. t.values (λ q. Ok (k p q)))
    → (p : P) (q : Q) → decode_of (encode_of (k p q)) ≡ Ok (k p q)
pairs s t k e p = ones t (k p) (s.equal (λ p. t.values (λ q. decode_of (encode_of (k p q)))) (λ p. t.values (λ q. Ok (k p q))) e p)

putl : (r : GeneralPurposeRegister) (imm : ℕ) → imm < 256 → decode_of (encode_of (Putl r imm)) ≡ Ok (Putl r imm)
putl r imm h =
    bytes (0x10 + gpr_number r) imm _ (omega arith) h ∙
    general.equal (λ r. decode_bytes (encode_of (Putl r imm)) (0x10 + gpr_number r) imm) (λ r. Ok (Putl r imm)) refl r

puth : (r : GeneralPurposeRegister) (imm : ℕ) → imm < 256 → decode_of (encode_of (Puth r imm)) ≡ Ok (Puth r imm)
puth r imm h =
    bytes (0x18 + gpr_number r) imm _ (omega arith) h ∙
    general.equal (λ r. decode_bytes (encode_of (Puth r imm)) (0x18 + gpr_number r) imm) (λ r. Ok (Puth r imm)) refl r

high : (r : GeneralPurposeRegister) → gpr_at (8 + gpr_number r) ≡ r
high r = general.equal (λ r. gpr_at (8 + gpr_number r)) (λ r. r) refl r

spread : (r : GeneralPurposeRegister) (offset : ℕ) → decode_of (encode_of (Spread r offset)) ≡ Ok (Spread r (offset % 16))
spread r offset =
    let s = gpr_below r in
    let lo : ℕ = gpr_number r * 16 + offset % 16 in
    let ep : lo / 16 ≡ gpr_number r = omega arith in
    let eo : lo % 16 ≡ offset % 16 = omega arith in
    bytes 0x30 lo (encode_of (Spread r offset)) (omega arith) (omega arith) ∙
    simp (lt-ltb lo 0x80 (omega arith), ep, eo, gpr_at_lem r)

spwrite : (r : GeneralPurposeRegister) (offset : ℕ) → decode_of (encode_of (Spwrite offset r)) ≡ Ok (Spwrite (offset % 16) r)
spwrite r offset =
    let s = gpr_below r in
    let lo : ℕ = 0x80 + gpr_number r * 16 + offset % 16 in
    let ep : lo / 16 ≡ 8 + gpr_number r = omega arith in
    let eo : lo % 16 ≡ offset % 16 = omega arith in
    bytes 0x30 lo (encode_of (Spwrite offset r)) (omega arith) (omega arith) ∙
    simp (le-ltb lo 0x80 (omega arith), ep, eo, high r)

-- an instruction is what its word decodes to, but for a spread or spwrite offset above 15
decode_encode : (i : Instruction) → byte_of i < 256 → decode_of (encode_of i) ≡ Ok (reduced i)
unfolding decode_of
decode_encode Nop h = refl
decode_encode Hlt h = refl
decode_encode (Mov dest src) h = pairs general general Mov refl dest src
decode_encode (DMov dest src) h = pairs decimal decimal DMov refl dest src
decode_encode (Putl reg imm) h = putl reg imm h
decode_encode (Puth reg imm) h = puth reg imm h
decode_encode (Read val addr) h = pairs general general Read refl val addr
decode_encode (Write addr val) h = pairs general general Write refl addr val
decode_encode (Spread val offset) h = spread val offset
decode_encode (Spwrite offset val) h = spwrite val offset
decode_encode (DRead val addr) h = pairs decimal general DRead refl val addr
decode_encode (DWrite addr val) h = pairs general decimal DWrite refl addr val
decode_encode (Push val) h = ones general Push refl val
decode_encode (Pop val) h = ones general Pop refl val
decode_encode (Movso dest src) h = pairs general special Movso refl dest src
decode_encode (Movsi dest src) h = pairs special general Movsi refl dest src
decode_encode (Spadd val) h = ones general Spadd refl val
decode_encode Spinc h = refl
decode_encode Spdec h = refl
decode_encode (Not reg) h = ones general Not refl reg
decode_encode (And reg val) h = pairs general general And refl reg val
decode_encode (Booland reg val) h = pairs general general Booland refl reg val
decode_encode (Or reg val) h = pairs general general Or refl reg val
decode_encode (Xor reg val) h = pairs general general Xor refl reg val
decode_encode (Shl reg val) h = pairs general general Shl refl reg val
decode_encode (Shr reg val) h = pairs general general Shr refl reg val
decode_encode (Bitset reg idx) h = pairs general general Bitset refl reg idx
decode_encode (Neg reg) h = ones general Neg refl reg
decode_encode (Inc reg) h = ones general Inc refl reg
decode_encode (Dec reg) h = ones general Dec refl reg
decode_encode (Add reg val) h = pairs general general Add refl reg val
decode_encode (Sub reg val) h = pairs general general Sub refl reg val
decode_encode (Mul reg val) h = pairs general general Mul refl reg val
decode_encode Inv h = refl
decode_encode (Eqz reg) h = ones general Eqz refl reg
decode_encode (Eq left right) h = pairs general general Eq refl left right
decode_encode (Gt left right) h = pairs general general Gt refl left right
decode_encode (Gteq left right) h = pairs general general Gteq refl left right
decode_encode (Jmpoff offset) h = bytes 0x60 offset (encode_of (Jmpoff offset)) (omega arith) h
decode_encode (Cjmpoff offset) h = bytes 0x61 offset (encode_of (Cjmpoff offset)) (omega arith) h
decode_encode (Cjmp src) h = ones general Cjmp refl src
decode_encode (Call src) h = ones general Call refl src
decode_encode Ret h = refl

pub inverse : Inverse
inverse = record { decode_encode = decode_encode; encode_decode = encode_decode; undecodable = undecodable }
