-- `decode_of` is exactly the inverse of the table `encode_of` (docs/MACHINE.md, Instructions).
use Rattle.std.specs.Prelude.{◌≡◌, ℕ, ◌<◌, Ok}
use Rattle.instructions.specs.Encoding.{encode_of}
use Rattle.instructions.specs.Decoding.{decode_of, no_instruction}
use Rattle.instructions.specs.declared.ins.Instruction.{Instruction}
use Rattle.encoding_laws.specs.Reduced.{byte_of, reduced}

pub record Inverse : Type 0 where
  -- an instruction, with its byte below 256 as in every value of the code, is what its word decodes
  -- to, but for an offset that the word shortens
  pub decode_encode : (i : Instruction) → byte_of i < 256 → decode_of (encode_of i) ≡ Ok (reduced i)
  -- what decodes, encodes to the same word
  pub encode_decode : (w : ℕ) → w < 65536 → (i : Instruction) → decode_of w ≡ Ok i → encode_of i ≡ w
  -- every other word is undecodable, with that word
  pub undecodable : (w : ℕ) → w < 65536 → (v : ℕ) → decode_of w ≡ no_instruction v → v ≡ w
