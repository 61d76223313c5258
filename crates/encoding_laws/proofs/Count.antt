-- 6,118 words of 43 kinds decode.
-- Assumes nothing.
use mathlib.Core.List.{List}
use mathlib.Core.Path.{◌≡◌, ◌∙◌, refl, ap}
use Prim.Native.Nat.{ℕ, ◌+◌, ◌*◌}
use lib.ListN.{replicate}
use Rattle.std.specs.Prelude.{Result, sum}
use Rattle.instructions.specs.Decoding.{decode_of, decode_bytes}
use Rattle.instructions.specs.declared.ins.Instruction.{Instruction}
use Rattle.instructions.specs.declared.ins.encoding.Undecodable.{Undecodable}
use Rattle.encoding_laws.specs.Count.{over, count, kinds_below, kinds_of_all, Count}
use Rattle.encoding_laws.proofs.Inverse.{bytes}
use Rattle.encoding_laws.proofs.Table.{by_rows, over_same}

abbrev by_bytes : ℕ → ℕ → List ℕ → List ℕ
by_bytes h l = count (decode_bytes (h * 256 + l) h l)

-- all 65,536 words, computed
computed : over (λ h. over (by_bytes h) 256) 256 (replicate 43 0) ≡ kinds_of_all
computed = refl

kinds : kinds_below 65536 ≡ kinds_of_all
unfolding kinds_below
kinds =
    by_rows (λ w. count (decode_of w)) 256 256 (replicate 43 0) ∙
    over_same (λ h. over (λ l. count (decode_of (h * 256 + l))) 256) (λ h. over (by_bytes h) 256) 256 (replicate 43 0)
    (λ h _ y. over_same (λ l. count (decode_of (h * 256 + l))) (by_bytes h) 256 y
    (λ l s z. ap (λ (d : Result Instruction Undecodable). count d z) (bytes h l (h * 256 + l) refl s))) ∙
    computed

pub counted : Count
counted = record { kinds = kinds; words = ap sum kinds }
