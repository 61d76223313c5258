-- How many words decode, and to which kinds (docs/MACHINE.md, Instructions).
use Rattle.std.specs.Prelude.{List, [], ◌∷◌, ◌≡◌, ℕ, zero, suc, sum, replicate, Result, Ok, Err}
use Rattle.instructions.specs.Decoding.{decode_of}
use Rattle.instructions.specs.declared.ins.Instruction.{Instruction}
use Rattle.instructions.specs.declared.ins.Instruction.TheVariants.{Nop, Hlt, Mov, DMov, Putl, Puth, Read, Write, Spread, Spwrite, DRead, DWrite, Push, Pop, Movso, Movsi, Spadd, Spinc, Spdec, Not, And, Booland, Or, Xor, Shl, Shr, Bitset, Neg, Inc, Dec, Add, Sub, Mul, Inv, Eqz, Eq, Gt, Gteq, Jmpoff, Cjmpoff, Cjmp, Call, Ret}
use Rattle.instructions.specs.declared.ins.encoding.Undecodable.{Undecodable}

-- the numbers below n, taken in one after another
abbrev pub over : {A : Type 0} → (ℕ → A → A) → ℕ → A → A
over f zero a = a
over f (suc n) a = f n (over f n a)

-- the kind's place in the order of the enum
abbrev pub kind_of : Instruction → ℕ
kind_of Nop = 0
kind_of Hlt = 1
kind_of (Mov dest src) = 2
kind_of (DMov dest src) = 3
kind_of (Putl reg imm) = 4
kind_of (Puth reg imm) = 5
kind_of (Read val addr) = 6
kind_of (Write addr val) = 7
kind_of (Spread val offset) = 8
kind_of (Spwrite offset val) = 9
kind_of (DRead val addr) = 10
kind_of (DWrite addr val) = 11
kind_of (Push val) = 12
kind_of (Pop val) = 13
kind_of (Movso dest src) = 14
kind_of (Movsi dest src) = 15
kind_of (Spadd val) = 16
kind_of Spinc = 17
kind_of Spdec = 18
kind_of (Not reg) = 19
kind_of (And reg val) = 20
kind_of (Booland reg val) = 21
kind_of (Or reg val) = 22
kind_of (Xor reg val) = 23
kind_of (Shl reg val) = 24
kind_of (Shr reg val) = 25
kind_of (Bitset reg idx) = 26
kind_of (Neg reg) = 27
kind_of (Inc reg) = 28
kind_of (Dec reg) = 29
kind_of (Add reg val) = 30
kind_of (Sub reg val) = 31
kind_of (Mul reg val) = 32
kind_of Inv = 33
kind_of (Eqz reg) = 34
kind_of (Eq left right) = 35
kind_of (Gt left right) = 36
kind_of (Gteq left right) = 37
kind_of (Jmpoff offset) = 38
kind_of (Cjmpoff offset) = 39
kind_of (Cjmp src) = 40
kind_of (Call src) = 41
kind_of Ret = 42

-- one more at the place k
abbrev pub more : ℕ → List ℕ → List ℕ
more k [] = []
more zero (n ∷ ns) = suc n ∷ ns
more (suc k) (n ∷ ns) = n ∷ more k ns

abbrev pub count : Result Instruction Undecodable → List ℕ → List ℕ
count (Ok i) ns = more (kind_of i) ns
count (Err e) ns = ns

-- how many of the words below n decode to each kind
unfoldable pub kinds_below : ℕ → List ℕ
kinds_below n = over (λ w. count (decode_of w)) n (replicate 43 0)

-- how many of all words, with a row for each category of the enum
abbrev pub kinds_of_all : List ℕ
kinds_of_all =
    1 ∷ 1 ∷ 64 ∷ 16
    ∷ 2048 ∷ 2048
    ∷ 64 ∷ 64 ∷ 128 ∷ 128 ∷ 32 ∷ 32 ∷ 8 ∷ 8
    ∷ 32 ∷ 32 ∷ 8 ∷ 1 ∷ 1
    ∷ 8 ∷ 64 ∷ 64 ∷ 64 ∷ 64 ∷ 64 ∷ 64 ∷ 64
    ∷ 8 ∷ 8 ∷ 8 ∷ 64 ∷ 64 ∷ 64
    ∷ 1 ∷ 8 ∷ 64 ∷ 64 ∷ 64
    ∷ 256 ∷ 256 ∷ 8 ∷ 8 ∷ 1 ∷ []

pub record Count : Type 0 where
  pub kinds : kinds_below 65536 ≡ kinds_of_all
  pub words : sum (kinds_below 65536) ≡ 6118
