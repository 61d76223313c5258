-- How many records the writer can answer.
use Rattle.std.proofs.Common.{ℕ, ◌<◌, ◌^◌, ltb, List, length, arith}
use Rattle.std.specs.Prelude.{IfOk}
use Rattle.instructions.proofs.Cases.{if_elim}
use Rattle.execute.specs.Edition.{refused_edition}
use Rattle.memory.specs.Memory.{refused_length}
use Rattle.memory.proofs.Laws.{length_most}
use Rattle.emulator.specs.declared.core_record.Core.{Core}
use Rattle.sheet.specs.Write.{Wrote, sheet_of, write_sheet_of}
use Rattle.sheet_laws.proofs.Size.{sheet_fits}

-- fewer than 2 ^ 32, from which on a host sees a refusal
pub few_records : (c : Core) (edition : ℕ) (mem sheet : List ℕ)
    → IfOk (write_sheet_of c edition mem sheet).answer (λ n. n < 2 ^ 32)
unfolding write_sheet_of
few_records c edition mem sheet =
    if_elim Few (refused_length (length mem)) (λ _. tt)
    (λ short. if_elim Few (refused_edition edition) (λ _. tt)
    (λ _. if_elim Few (ltb (length sheet) (length (sheet_of c edition mem))) (λ _. tt)
    (λ _. let size = length_most (length mem) short in omega (arith, sheet_fits c edition mem))))
  where
    Few : Wrote → Type 0
    Few w = IfOk w.answer (λ n. n < 2 ^ 32)
