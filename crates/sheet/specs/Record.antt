-- A record of a rule sheet (docs/SHEETS.md, The records): a 32-bit word, bits 31..28 the kind.
use Rattle.std.specs.Prelude.{ℕ, ◌-◌, ◌/◌, ◌%◌, ◌^◌, Result, Ok, Err, ltb, eqb, if◌then◌else◌}
use Rattle.execute.specs.Edition.{refused_edition}
use Rattle.instructions.specs.Reg.{gpr_at, spr_at}
use Rattle.emulator.specs.declared.core_record.Core.{Core}
use Rattle.emulator.specs.Core.{read_gpr, write_gpr, read_spr, write_spr}
use Rattle.sheet.specs.declared.fields.Record.{Record}
use Rattle.sheet.specs.declared.fields.Record.TheVariants.{Place, Word, Preset, Edition, End}
use Rattle.sheet.specs.declared.refusal.SheetRefusal.{SheetRefusal}
use Rattle.sheet.specs.declared.refusal.SheetRefusal.TheVariants.{UnknownKind, NonzeroBit, UnknownRegister, UnknownEdition}

-- bits 31..28, 27..16, 27..20, 19..16, 15..0 and 27..0
abbrev pub kind : ℕ → ℕ
kind w = w / 2 ^ 28

abbrev pub above16 : ℕ → ℕ
above16 w = w / 2 ^ 16 % 2 ^ 12

abbrev pub above20 : ℕ → ℕ
above20 w = w / 2 ^ 20 % 2 ^ 8

abbrev pub register : ℕ → ℕ
register w = w / 2 ^ 16 % 2 ^ 4

abbrev pub low : ℕ → ℕ
low w = w % 2 ^ 16

abbrev pub count : ℕ → ℕ
count w = w % 2 ^ 28

-- the record that a word is, or the test that it fails: unknown kind, a bit set that must be 0,
-- register above 11, edition neither 1 nor 2
unfoldable pub record_of : ℕ → Result Record SheetRefusal
record_of w =
    if eqb (kind w) 1 then (if eqb (above16 w) 0 then Ok (Place (low w)) else Err NonzeroBit)
    else if eqb (kind w) 2 then (if eqb (above16 w) 0 then Ok (Word (low w)) else Err NonzeroBit)
    else if eqb (kind w) 3 then
    (if eqb (above20 w) 0 then (if ltb 11 (register w) then Err UnknownRegister else Ok (Preset (register w) (low w))) else Err NonzeroBit)
    else if eqb (kind w) 7 then
    (if eqb (above16 w) 0 then (if refused_edition (low w) then Err UnknownEdition else Ok (Edition (low w))) else Err NonzeroBit)
    else if eqb (kind w) 15 then Ok (End (count w))
    else Err UnknownKind

-- a register by its number, 0 to 7 general, 8 ip, 9 rp, 10 sp, 11 ef, and the core with it changed
unfoldable pub register_of : Core → ℕ → ℕ
register_of core number = if ltb number 8 then read_gpr core (gpr_at number) else read_spr core (spr_at (number - 8))

unfoldable pub with_register : Core → ℕ → ℕ → Core
with_register core number value =
    if ltb number 8 then write_gpr core (gpr_at number) value else write_spr core (spr_at (number - 8)) value
