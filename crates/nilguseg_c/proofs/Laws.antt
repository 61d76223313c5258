-- What a host's call wrote loads back, and how much room it needs.
use Rattle.std.proofs.Common.{◌≡◌, ℕ, ◌+◌, ◌*◌, ◌/◌, ◌<◌, ◌≤◌, ◌^◌, List, length, take, ltb, Ok, inl, inr}
use native.Mathlib.Omega.{arith}
use Rattle.std.proofs.Math.Seq.{take-append_seam}
use Rattle.std.proofs.lemmas.Bool.{cases_Bool}
use borrow.Author.Tests.{ltb-true}
use Rattle.instructions.proofs.Cases.{if_elim}
use Rattle.std.proofs.lemmas.List.{length-take-le}
use Rattle.emulator.specs.declared.core_record.Core.{Core}
use Rattle.execute.specs.Edition.{refused_edition}
use Rattle.memory.specs.Memory.{refused_length}
use Rattle.memory.proofs.Laws.{length_least, length_most}
use Rattle.nilguseg.specs.Host.{core_from, written_number}
use Rattle.nilguseg.proofs.CoreWords.{front_fits}
use Rattle.sheet.specs.Load.{left, load_sheet_of}
use Rattle.sheet.specs.Write.{Wrote, sheet_of, write_sheet_of}
use Rattle.sheet_laws.specs.RoundTrip.{Words, WholeCore}
use Rattle.sheet_laws.proofs.RoundTrip.{round_trip}
use Rattle.sheet_laws.proofs.Size.{sheet_fits}

-- twelve 16-bit words are a core record
pub whole_core : (ws : List ℕ) → length ws ≡ 12 → Words ws → WholeCore (core_from ws)
whole_core ws l h =
    record {
      eight = length-take-le 8 ws (omega arith);
      gprs = front_fits ws 8 h;
      ip = h 8;
      rp = h 9;
      sp = h 10;
      ef = h 11;
    }

module _ (c : Core) (ed : ℕ) (mem sheet new held : List ℕ) (n : ℕ) (whole : WholeCore c) (words : Words mem) (sizes : length held ≡ length mem) (below : n < 2 ^ 32) where
  -- a number below 2 ^ 32 is no refusal's, so it counts the records at the buffer's front
  pub loads_back : n ≡ written_number (write_sheet_of c ed mem sheet).answer → new ≡ (write_sheet_of c ed mem sheet).buffer
      → load_sheet_of (take n new) held ≡ left (Ok tt) c ed mem
  unfolding write_sheet_of
  loads_back e b =
      elim (cases_Bool (refused_length (length mem))) [
        | inl t ↦ let x = rw t at e in absurd (omega arith)
        | inr f ↦
            elim (cases_Bool (refused_edition ed)) [
              | inl t ↦ let x = rw (f, t) at e in absurd (omega arith)
              | inr g ↦
                  elim (cases_Bool (ltb (length sheet) (length (sheet_of c ed mem)))) [
                    | inl t ↦ let x = rw (f, g, t) at e in absurd (omega arith)
                    | inr h ↦
                        rw (rw (f, g, h) at e, rw (f, g, h) at b, take-append_seam)
                        (round_trip c ed mem held whole g words (length_least (length mem) f) (length_most (length mem) f) sizes)
                  ]
            ]
      ]

-- a buffer for so many records isn't too short
pub fits : (c : Core) (ed : ℕ) (mem sheet : List ℕ) → 14 + length mem + (length mem + 1) / 2 ≤ length sheet
    → written_number (write_sheet_of c ed mem sheet).answer ≡ 4 * 2 ^ 32 → ⊥
unfolding write_sheet_of
fits c ed mem sheet enough =
    if_elim Other (refused_length (length mem)) (λ _ e. omega arith)
    (λ short. if_elim Other (refused_edition ed) (λ _ e. omega arith)
    (λ _. if_elim Other (ltb (length sheet) (length (sheet_of c ed mem)))
    (λ t _. let less = ltb-true (length sheet) _ t in omega (arith, sheet_fits c ed mem))
    (λ _ e. let size = length_most (length mem) short in omega (arith, sheet_fits c ed mem))))
  where
    Other : Wrote → Type 0
    Other w = written_number w.answer ≡ 4 * 2 ^ 32 → ⊥
