-- Laws of records from bytes, one for each way through the code.
use Prim.Native.Nat.{ℕ, zero, suc, ◌+◌, ◌*◌, ◌/◌, ◌%◌, ◌<◌, ◌≤◌}
use mathlib.Core.List.{List, [], ◌∷◌}
use mathlib.Core.Path.{◌≡◌, refl, ap, ◌∙◌}
use native.Mathlib.Numerals.{add-one}
use native.Mathlib.Omega.{arith}
use lib.ListN.{length, get_or, set, take, drop, drop_of_length-le, length-set}
use lib.Seq.{sets}
use Rattle.std.proofs.Common.{drop-drop}
use Rattle.std.specs.Int.{from_le_bytes, w32}
use Rattle.std.specs.Prelude.{Ok}
use Rattle.std.specs.Simd.{first_chunks}
use Rattle.sheet.specs.Write.{wrote, in_front}
use Rattle.sheet.specs.Input.{records_of}
use Rattle.memory.proofs.Stores.{sets_front, four}

-- a chunk of four bytes, and the record that it is
chunk_at : (n i : ℕ) (bytes : List ℕ) → i < n → get_or (first_chunks 4 n bytes) i [] ≡ take 4 (drop (i * 4) bytes)
chunk_at zero i bytes l = absurd (omega arith)
chunk_at (suc n) zero bytes l = refl
chunk_at (suc n) (suc i) bytes l =
    let later : 4 + i * 4 ≡ suc i * 4 = omega arith in
    chunk_at n i (drop 4 bytes) (omega arith) ∙ ap (take 4) (drop-drop (i * 4) 4 bytes ∙ ap (λ (k : ℕ). drop k bytes) later)

record_at : (bytes : List ℕ) (n i : ℕ) → i < n → n ≡ length bytes / 4
    → records_of (drop (i * 4) bytes) ≡ from_le_bytes w32 (get_or (first_chunks 4 n bytes) i []) ∷ records_of (drop (i * 4 + 4) bytes)
unfolding records_of
record_at bytes n i l e = let h : i * 4 + 4 ≤ length bytes = omega arith in rw (chunk_at n i bytes l, four bytes (i * 4) h)

-- the records that are left make what all of them make
pub record Putting (bytes out₀ out : List ℕ) (i : ℕ) : Type 0 where
  pub long : length out ≡ length out₀
  pub rest : sets out i (records_of (drop (i * 4) bytes)) ≡ sets out₀ 0 (records_of bytes)

pub input_next : {bytes out₀ out : List ℕ} {i : ℕ} {chunks : List (List ℕ)} {w : ℕ} → Putting bytes out₀ out i
    → chunks ≡ first_chunks 4 (length bytes / 4) bytes → i < length bytes / 4 → w ≡ from_le_bytes w32 (get_or chunks i [])
    → Putting bytes out₀ (set out i w) (i + 1)
input_next {bytes = bytes} {out = out} {i = i} {w = w} p c l e =
    let next : i * 4 + 4 ≡ (i + 1) * 4 = omega arith in
    record {
      long = length-set out i w ∙ p.long;
      rest = rw (e, c, add-one i) (rw (next, add-one i) at (rw (record_at bytes (length bytes / 4) i l refl) at p.rest));
    }

pub input_last : {bytes out₀ out : List ℕ} {i : ℕ} → Putting bytes out₀ out i → length bytes % 4 ≡ 0 → length bytes / 4 ≤ i → out ≡ sets out₀ 0 (records_of bytes)
unfolding records_of
input_last {bytes = bytes} {i = i} p whole l = let past : length bytes ≤ i * 4 = omega arith in rw (drop_of_length-le bytes past) at p.rest

pub length_records : (bytes : List ℕ) → length (records_of bytes) ≡ length bytes / 4
unfolding records_of
length_records [] = refl
length_records (a ∷ []) = refl
length_records (a ∷ b ∷ []) = refl
length_records (a ∷ b ∷ c ∷ []) = refl
length_records (a ∷ b ∷ c ∷ d ∷ bytes) = let e = length_records bytes in omega arith

-- the records at the front of a buffer that has room for them
pub records_in_front : (bytes out : List ℕ) → length bytes / 4 ≤ length out
    → wrote (Ok (length bytes / 4)) (sets out 0 (records_of bytes)) ≡ in_front (records_of bytes) out
records_in_front bytes out room =
    let e = length_records bytes in
    rw (sets_front (records_of bytes) out (omega arith), e)
