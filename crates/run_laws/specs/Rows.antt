-- The twelve rows of known words, in edition 1; and what edition 2 does in the place of stops 13
-- and 14 (docs/MACHINE.md, Known words, Editions).
use Rattle.std.specs.Prelude.{ℕ, List, [], ◌∷◌, ◌++◌, ◌≡◌, replicate, Result, Ok}
use Rattle.instructions.specs.Decoding.{decode_of, no_instruction}
use Rattle.instructions.specs.Encoding.{encode_of}
use Rattle.instructions.specs.declared.reg.DecimalRegister.TheVariants.{D0, D1}
use Rattle.instructions.specs.declared.reg.GeneralPurposeRegister.TheVariants.{R1, R2, R3, R5}
use Rattle.instructions.specs.declared.reg.SpecialPurposeRegister.TheVariants.{SP}
use Rattle.instructions.specs.declared.ins.Instruction.TheVariants.{Mov, DMov, Spread, Movsi}
use Rattle.instructions.specs.declared.ins.Instruction.{Instruction}
use Rattle.instructions.specs.declared.ins.encoding.Undecodable.{Undecodable}
use Rattle.emulator.specs.Core.{core_of, new_core}
use Rattle.memory.specs.Memory.{Memory, lent}
use Rattle.memory.specs.Outcome.{Outcome, stepped, halted, limit, fault}
use Rattle.emulator.specs.Machine.{plan_of, Turn, step_of, Ran, run_of}
use Rattle.emulator.specs.declared.core_record.Core.{Core}

-- what a row shows: a word, what a word decodes to, a step's outcome and core, or a run's end,
-- steps, core and marks
pub data Seen : Type 0 where
  word : ℕ → Seen
  decoded : Result Instruction Undecodable → Seen
  step : Outcome → Core → Seen
  run : Outcome → ℕ → Core → List ℕ → Seen

-- a core with these words in r0 and r1, and ip
abbrev pub core : ℕ → ℕ → ℕ → Core
core r0 r1 ip = core_of (r0 ∷ r1 ∷ replicate 6 0) ip 0 0xFFFF 0

abbrev pub step_seen : Turn Memory → Seen
step_seen made = step made.outcome made.core

-- a step, in an edition, of an instruction, which stands at address 0, with these words in r0 and
-- r1
abbrev pub stepped_in : ℕ → ℕ → ℕ → ℕ → Seen
stepped_in edition instruction r0 r1 = step_seen (step_of plan_of (core r0 r1 0) (lent (instruction ∷ []) (0 ∷ [])) edition)

abbrev pub stepped_at_0 : ℕ → ℕ → ℕ → Seen
stepped_at_0 = stepped_in 1

abbrev pub run_seen : Ran Memory → Seen
run_seen made = run made.end made.steps made.core made.memory.marks

-- a fresh core pushes, in memory of 1 + more words
abbrev pub fresh_push : ℕ → Seen
fresh_push more = step_seen (step_of plan_of new_core (lent (0x23D0 ∷ replicate more 0) (0 ∷ replicate more 0)) 1)

abbrev pub pushed : Core
pushed = core_of (replicate 8 0) 1 0 0xFFFE 0

-- memory of just the words 0x1003, 0xFFFF, core fresh
abbrev pub two_words : ℕ → Seen
two_words most = run_seen (run_of plan_of new_core (lent (0x1003 ∷ 0xFFFF ∷ []) (0 ∷ 0 ∷ [])) 1 most)

abbrev pub halted_core : Core
halted_core = core_of (replicate 8 0) 0 0 0xFFFF 1

abbrev pub computed : List Seen
computed =
    -- 1, 2, 3, 4, 5
    word (encode_of (Mov R3 R5))
    ∷ decoded (decode_of 0x2158) ∷ decoded (decode_of 0x2118)
    ∷ word (encode_of (Spread R2 19))
    ∷ decoded (decode_of 0x4600) ∷ decoded (decode_of 0x6219)
    ∷ word (encode_of (Movsi SP R1))
    -- 6, 7
    ∷ fresh_push 65535 ∷ fresh_push 32767
    ∷ step_seen (step_of plan_of (core 0 0 5) (lent (replicate 5 0 ++ 0x60FF ∷ []) (replicate 6 0)) 1)
    -- 8, 9, 10
    ∷ stepped_at_0 0x4810 0xFFFF 0 ∷ stepped_at_0 0x4B10 0x0100 0x0100
    ∷ stepped_at_0 0x4410 1 15 ∷ stepped_at_0 0x4410 1 16
    ∷ stepped_at_0 0x4800 1 0 ∷ stepped_at_0 0x4800 0x8000 0
    -- 11, 12
    ∷ run_seen (run_of plan_of halted_core (lent (0 ∷ []) (0 ∷ [])) 1 0)
    ∷ two_words 2 ∷ two_words 1
    -- in edition 2: shl and shr by 16, bitset at 16, neg of 0x8000
    ∷ stepped_in 2 0x4410 1 16 ∷ stepped_in 2 0x4510 1 16 ∷ stepped_in 2 0x4710 0xFFFF 16 ∷ stepped_in 2 0x4800 0x8000 0 ∷ []

abbrev pub expected : List Seen
expected =
    word 0x2153
    ∷ decoded (no_instruction 0x2158) ∷ decoded (Ok (DMov D0 D1))
    ∷ word 0x3023
    ∷ decoded (no_instruction 0x4600) ∷ decoded (no_instruction 0x6219)
    ∷ word 0x21E1
    ∷ step stepped pushed ∷ step (fault 11 0xFFFE) pushed
    ∷ step stepped (core 0 0 5)
    ∷ step stepped (core 0 0 1) ∷ step stepped (core 0 0x0100 1)
    ∷ step stepped (core 0x8000 15 1) ∷ step (fault 13 16) (core 1 16 1)
    ∷ step stepped (core 0xFFFF 0 1) ∷ step (fault 14 0x8000) (core 0x8000 0 1)
    ∷ run halted 0 halted_core (0 ∷ [])
    ∷ run halted 2 (core_of (3 ∷ replicate 7 0) 2 0 0xFFFF 1) (1 ∷ 1 ∷ [])
    ∷ run limit 1 (core_of (3 ∷ replicate 7 0) 1 0 0xFFFF 0) (1 ∷ 0 ∷ [])
    ∷ step stepped (core 0 16 1) ∷ step stepped (core 0 16 1) ∷ step stepped (core 0xFFFF 16 1) ∷ step stepped (core 0x8000 0 1) ∷ []

abbrev pub Rows : Type 0
Rows = computed ≡ expected
