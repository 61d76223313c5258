-- The two editions of the instruction set (docs/MACHINE.md, Editions), and their numbers.
use Rattle.std.specs.Prelude.{ℕ, Bool, true, false, Option, Some, None, ◌==◌, if◌then◌else◌}
use Rattle.execute.specs.declared.edition.Edition.{Edition}
use Rattle.execute.specs.declared.edition.Edition.TheVariants.{First, Second}

-- test 34 (docs/NUMBERS.md): the number of an edition is 1 or 2; whether a number is another
unfoldable pub refused_edition : ℕ → Bool
refused_edition number = if number == 1 then false else (if number == 2 then false else true)

-- the edition of a number that the test doesn't refuse
unfoldable pub edition_of : ℕ → Edition
edition_of number = if number == 1 then First else Second

-- the code's answer
abbrev pub edition_at : ℕ → Option Edition
edition_at number = if refused_edition number then None else Some (edition_of number)

-- where the editions differ: what the first one does, or the second
abbrev pub in_edition : {A : Type 0} → Edition → A → A → A
in_edition First first second = first
in_edition Second first second = second
