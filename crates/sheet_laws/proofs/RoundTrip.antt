-- Loading what the writer gives restores core, edition and memory.
use Prim.Native.Nat.{ℕ, ◌+◌, ◌≤◌}
use mathlib.Core.List.{List, [], ◌∷◌, ◌++◌}
use mathlib.Core.Path.{◌≡◌, refl, ap, ◌∙◌}
use native.Mathlib.Omega.{arith}
use lib.ListN.{length, replicate}
use Rattle.std.specs.Prelude.{false}
use Rattle.execute.specs.Edition.{refused_edition}
use Rattle.emulator.specs.declared.core_record.Core.{Core}
use Rattle.emulator.specs.Core.{new_core}
use Rattle.memory.proofs.Laws.{length_accepted}
use Rattle.sheet.specs.Load.{Reading, every_record, read_from, sheet_reads, load_sheet_of}
use Rattle.sheet.specs.Write.{edition_records, end_record, stretches_from, sheet_of}
use Rattle.sheet_laws.specs.RoundTrip.{Words, WholeCore, RoundTrip}
use Rattle.sheet.proofs.WriteLaws.{before_count, body, sheet_parts}
use Rattle.sheet_laws.proofs.ReadBack.{one_at_most, stretches_few, read_edition, read_presets, read_stretches}

-- the writer's sheet is accepted: it gives the core, the edition and the memory that it was made of
pub accepted : (c : Core) (ed : ℕ) (mem : List ℕ) → WholeCore c → refused_edition ed ≡ false → Words mem → length mem ≤ 65536
    → sheet_reads (sheet_of c ed mem) (length mem) ≡ Reading.gives c ed mem
accepted c ed mem h p w l =
    let es = edition_records ed in
    let ss = stretches_from 0 0 mem in
    let zeros : List ℕ = replicate (length mem) 0 in
    let total = before_count ed mem in
    let first = one_at_most ed in
    let few = stretches_few mem 0 0 in
    ap (λ (s : List ℕ). read_from every_record s 0 0 new_core 1 zeros) (sheet_parts c ed mem)
    ∙ (read_edition (body c mem total) 0 0 new_core 1 zeros ed p refl
    ∙ (read_presets c h (ss ++ end_record total ∷ []) 0 (0 + length es) ed zeros
    ∙ read_stretches mem [] 0 0 (0 + length es + 12) 0 total ed c refl (omega arith) w (λ n. refl) (omega arith) (omega arith)))

pub round_trip : RoundTrip
unfolding load_sheet_of
round_trip c ed mem held h p w l m e = rw (e, length_accepted (length mem) l m, accepted c ed mem h p w m)
