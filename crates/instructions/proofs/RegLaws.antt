-- Laws of the registers: what holds of each of finitely many, and what their numbers say.
-- Assumes nothing.
use mathlib.Core.Path.{◌≡◌}
use mathlib.Core.List.{List, [], ◌∷◌}
use Prim.Native.Nat.{◌<◌}
use borrow.Author.Rules.{rules}
use Rattle.instructions.specs.Reg.{gpr_number}
use Rattle.instructions.specs.declared.reg.GeneralPurposeRegister.{GeneralPurposeRegister}
use Rattle.instructions.specs.declared.reg.GeneralPurposeRegister.TheVariants.{R0, R1, R2, R3, R4, R5, R6, R7}
use Rattle.instructions.specs.declared.reg.SpecialPurposeRegister.{SpecialPurposeRegister}
use Rattle.instructions.specs.declared.reg.SpecialPurposeRegister.TheVariants.{IP, RP, SP, EF}
use Rattle.instructions.specs.declared.reg.DecimalRegister.{DecimalRegister}
use Rattle.instructions.specs.declared.reg.DecimalRegister.TheVariants.{D0, D1, D2, D3}

-- a sort of registers: the values of a function of them, as a list, and that two functions are
-- equal where their lists are
pub record Sort (R : Type 0) : Type 1 where
  pub values : {A : Type 0} → (R → A) → List A
  pub equal : {A : Type 0} (f g : R → A) → values f ≡ values g → (r : R) → f r ≡ g r

module _ {A : Type 0} where
  abbrev gprs : (GeneralPurposeRegister → A) → List A
  gprs f = f R0 ∷ f R1 ∷ f R2 ∷ f R3 ∷ f R4 ∷ f R5 ∷ f R6 ∷ f R7 ∷ []

  abbrev sprs : (SpecialPurposeRegister → A) → List A
  sprs f = f IP ∷ f RP ∷ f SP ∷ f EF ∷ []

  abbrev drs : (DecimalRegister → A) → List A
  drs f = f D0 ∷ f D1 ∷ f D2 ∷ f D3 ∷ []

  pub by_gprs : (f g : GeneralPurposeRegister → A) → gprs f ≡ gprs g → (r : GeneralPurposeRegister) → f r ≡ g r
  by_gprs f g e R0 = cc
  by_gprs f g e r = cc

  pub by_sprs : (f g : SpecialPurposeRegister → A) → sprs f ≡ sprs g → (r : SpecialPurposeRegister) → f r ≡ g r
  by_sprs f g e IP = cc
  by_sprs f g e r = cc

  pub by_drs : (f g : DecimalRegister → A) → drs f ≡ drs g → (r : DecimalRegister) → f r ≡ g r
  by_drs f g e D0 = cc
  by_drs f g e r = cc

abbrev pub general : Sort GeneralPurposeRegister
general = record { values = gprs; equal = by_gprs }

abbrev pub special : Sort SpecialPurposeRegister
special = record { values = sprs; equal = by_sprs }

abbrev pub decimal : Sort DecimalRegister
decimal = record { values = drs; equal = by_drs }

-- there are eight general registers
pub gpr_below : (r : GeneralPurposeRegister) → gpr_number r < 8
gpr_below r = search rules
