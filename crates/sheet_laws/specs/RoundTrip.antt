-- The round trip (docs/SHEETS.md, What the writer gives): loading the sheet that the writer gives,
-- into memory of the same length, restores core, edition and memory. That every value is a 16-bit
-- word and that there are eight general registers is assumed here; the types of the code say so.
use Rattle.std.specs.Prelude.{ℕ, false, Ok, ◌^◌, ◌<◌, ◌≤◌, List, ◌≡◌, length, get_or}
use Rattle.execute.specs.Edition.{refused_edition}
use Rattle.emulator.specs.declared.core_record.Core.{Core}
use Rattle.sheet.specs.Load.{left, load_sheet_of}
use Rattle.sheet.specs.Write.{sheet_of}

abbrev pub Words : List ℕ → Type 0
Words l = (k : ℕ) → get_or l k 0 < 2 ^ 16

pub record WholeCore (c : Core) : Type 0 where
  pub eight : length c.gprs ≡ 8
  pub gprs : Words c.gprs
  pub ip : c.ip < 2 ^ 16
  pub rp : c.rp < 2 ^ 16
  pub sp : c.sp < 2 ^ 16
  pub ef : c.ef < 2 ^ 16

-- `held` is whatever the memory held that is loaded into
abbrev pub RoundTrip : Type 0
RoundTrip =
    (c : Core) (ed : ℕ) (mem held : List ℕ) → WholeCore c → refused_edition ed ≡ false → Words mem → 1 ≤ length mem → length mem ≤ 65536
    → length held ≡ length mem
    → load_sheet_of (sheet_of c ed mem) held ≡ left (Ok tt) c ed mem
