-- What the two editions have in common: the rows that ask for the edition, and the rest, which
-- compute.
use Rattle.std.specs.Prelude.{◌≡◌, ℕ, ltb, eqb}
use mathlib.Core.Path.{refl}
use Rattle.instructions.proofs.Cases.{by_test, if_elim}
use Rattle.instructions.specs.declared.ins.Instruction.{Instruction}
use Rattle.instructions.specs.declared.ins.Instruction.TheVariants.{Movsi, Shl, Shr, Bitset, Neg, Cjmpoff, Cjmp}
use Rattle.instructions.specs.declared.reg.GeneralPurposeRegister.{GeneralPurposeRegister}
use Rattle.instructions.specs.declared.reg.SpecialPurposeRegister.{SpecialPurposeRegister}
use Rattle.instructions.specs.declared.reg.SpecialPurposeRegister.TheVariants.{IP, RP, SP, EF}
use Rattle.execute.specs.Execute.{amount_below16, if_cond, to_spr, execute_of}
use Rattle.execute.specs.Flags.{cond_of}
use Rattle.execute.specs.Registers.{Registers, gpr}
use Rattle.execute.specs.declared.edition.Edition.TheVariants.{First, Second}
use Rattle.execute.specs.declared.effect.Effect.{Effect}
use Rattle.execute.specs.declared.effect.Effect.TheVariants.{None, Gpr, Ip, Amount, Negation}
use Rattle.execute_laws.specs.Editions.{NoOverflow, Editions}

module _ (amount : ℕ) (e past : Effect) where
  amount_same : NoOverflow (amount_below16 First amount e past) → amount_below16 Second amount e past ≡ amount_below16 First amount e past
  amount_same h = by_test (ltb amount 16) (λ t. rw t) (λ f. absurd (h.amount amount (rw f)))

  amount_never : NoOverflow e → NoOverflow past → NoOverflow (amount_below16 Second amount e past)
  amount_never h k = if_elim NoOverflow (ltb amount 16) (λ _. h) (λ _. k)

same_effect : (r : Registers) (i : Instruction) (w : ℕ) → NoOverflow (execute_of First r i w) → execute_of Second r i w ≡ execute_of First r i w
unfolding execute_of
same_effect r (Shl reg val) w h = amount_same (gpr r val) _ _ h
same_effect r (Shr reg val) w h = amount_same (gpr r val) _ _ h
same_effect r (Bitset reg idx) w h = amount_same (gpr r idx) _ _ h
same_effect r (Neg reg) w h = by_test (eqb (gpr r reg) 0x8000) (λ t. absurd (h.negation 0x8000 (rw t))) (λ f. rw f)
same_effect r i w h = refl

-- edition 2, by what the rows come to
other : {e : Effect} → ((a : ℕ) → e ≡ Amount a → ⊥) → ((v : ℕ) → e ≡ Negation v → ⊥) → NoOverflow e
other h k = record { amount = h; negation = k }

nothing : NoOverflow None
nothing = other (λ a q. cc) (λ v q. cc)

general : (reg : GeneralPurposeRegister) (v : ℕ) → NoOverflow (Gpr reg v)
general reg v = other (λ a q. cc) (λ v q. cc)

special : (reg : SpecialPurposeRegister) (v : ℕ) → NoOverflow (to_spr reg v)
special IP v = other (λ a q. cc) (λ v q. cc)
special RP v = other (λ a q. cc) (λ v q. cc)
special SP v = other (λ a q. cc) (λ v q. cc)
special EF v = other (λ a q. cc) (λ v q. cc)

on_cond : (r : Registers) (v : ℕ) → NoOverflow (if_cond r (Ip v))
on_cond r v = if_elim NoOverflow (cond_of r.ef) (λ _. special IP v) (λ _. nothing)

never_stops : (r : Registers) (i : Instruction) (w : ℕ) → NoOverflow (execute_of Second r i w)
unfolding execute_of
never_stops r (Shl reg val) w = amount_never (gpr r val) _ _ (general _ _) (general _ _)
never_stops r (Shr reg val) w = amount_never (gpr r val) _ _ (general _ _) (general _ _)
never_stops r (Bitset reg idx) w = amount_never (gpr r idx) _ _ (general _ _) nothing
never_stops r (Neg reg) w = if_elim NoOverflow (eqb (gpr r reg) 0x8000) (λ _. general _ _) (λ _. general _ _)
never_stops r (Movsi dest src) w = special dest (gpr r src)
never_stops r (Cjmpoff offset) w = on_cond r _
never_stops r (Cjmp src) w = on_cond r _
never_stops r i w = other (λ a q. cc) (λ v q. cc)

pub editions : Editions
editions = record { same = same_effect; never = never_stops }
