-- Words stay 16-bit: what an instruction leaves to the registers and to memory, of a core that
-- holds words.
use Prim.Native.Nat.{ℕ}
use mathlib.Core.List.{List}
use mathlib.Core.Path.{◌≡◌, refl}
use mathlib.Core.Logic.{⊎_elim}
use lib.Dec.{ltb}
use lib.ListN.{length, get_or, set}
use lib.Seq.{get_or-set_same, get_or-set_other, set_out}
use borrow.Author.Tests.{ltb-true, ltb-false}
use Rattle.instructions.proofs.Cases.{by_test}
use Rattle.instructions.specs.Decoding.{decode_of}
use Rattle.instructions.specs.Reg.{gpr_number}
use Rattle.instructions.specs.declared.ins.Instruction.{Instruction}
use Rattle.instructions.specs.declared.ins.encoding.Undecodable.{Undecodable}
use Rattle.std.specs.Prelude.{Result, Ok, Err}
use Rattle.instructions.specs.declared.reg.GeneralPurposeRegister.{GeneralPurposeRegister}
use Rattle.execute.specs.Execute.{execute_of}
use Rattle.execute.specs.Registers.{registers}
use Rattle.execute.specs.declared.edition.Edition.{Edition}
use Rattle.execute.specs.declared.effect.Effect.{Effect}
use Rattle.execute.specs.declared.effect.Effect.TheVariants as effect
use Rattle.execute_laws.specs.Words.{IsWord, EffectFits}
use Rattle.execute_laws.proofs.Words.{reduced, words}
use Rattle.emulator.specs.Core.{write_gpr}
use Rattle.emulator.specs.Machine.{after_of, access_of, loaded, plan_of, decoded_plan, advanced}
use Rattle.emulator.specs.declared.core_record.Core.{Core}
use Rattle.memory.proofs.Marks.{same_or_not}
use Rattle.run_laws.proofs.Simulation.{AccessFits}
use Rattle.replay_laws.specs.Replay.{CoreFits}

-- a word put into a list of words
pub set_fits : (l : List ℕ) (k v : ℕ) → IsWord v → ((a : ℕ) → IsWord (get_or l a 0)) → (a : ℕ) → IsWord (get_or (set l k v) a 0)
set_fits l k v w h a =
    ⊎_elim
    (λ e. rw e
    (by_test (ltb k (length l))
    (λ t. rw (get_or-set_same l k v 0 (ltb-true _ _ t)) w)
    (λ t. rw (set_out l k v (ltb-false _ _ t)) (h k))))
    (λ n. rw (get_or-set_other l k a v 0 n) (h a))
    (same_or_not k a)

-- a core with one register changed to a word
gpr_fits : (c : Core) (r : GeneralPurposeRegister) (v : ℕ) → CoreFits c → IsWord v → CoreFits (write_gpr c r v)
gpr_fits c r v h w = record { gprs = set_fits c.gprs (gpr_number r) v w h.gprs; ip = h.ip; rp = h.rp; sp = h.sp; ef = h.ef }

pub load_fits : (c : Core) (r : GeneralPurposeRegister) (up w : ℕ) → CoreFits c → IsWord w → CoreFits (loaded c r up w)
load_fits c r up w h f = let g = gpr_fits c r w h f in record { gprs = g.gprs; ip = h.ip; rp = h.rp; sp = reduced _; ef = h.ef }

-- the registers after an effect, and the word that it stores
after_fits : (c : Core) (e : Effect) → CoreFits c → EffectFits e → CoreFits (after_of c e)
after_fits c effect.None h f = h
after_fits c (effect.Gpr r v) h f = gpr_fits c r v h f
after_fits c (effect.Ip v) h f = record { gprs = h.gprs; ip = f; rp = h.rp; sp = h.sp; ef = h.ef }
after_fits c (effect.Rp v) h f = record { gprs = h.gprs; ip = h.ip; rp = f; sp = h.sp; ef = h.ef }
after_fits c (effect.Sp v) h f = record { gprs = h.gprs; ip = h.ip; rp = h.rp; sp = f; ef = h.ef }
after_fits c (effect.Ef v) h f = record { gprs = h.gprs; ip = h.ip; rp = h.rp; sp = h.sp; ef = f }
after_fits c (effect.Call a) h f = record { gprs = h.gprs; ip = f; rp = h.ip; sp = h.sp; ef = h.ef }
after_fits c (effect.Load a r up) h f = h
after_fits c (effect.Store a v low) h f = record { gprs = h.gprs; ip = h.ip; rp = h.rp; sp = reduced _; ef = h.ef }
after_fits c (effect.Decimal w) h f = h
after_fits c (effect.Amount a) h f = h
after_fits c (effect.Negation v) h f = h

stored_fits : (e : Effect) → EffectFits e → AccessFits IsWord (access_of e)
stored_fits effect.None f = tt
stored_fits (effect.Gpr r v) f = tt
stored_fits (effect.Ip v) f = tt
stored_fits (effect.Rp v) f = tt
stored_fits (effect.Sp v) f = tt
stored_fits (effect.Ef v) f = tt
stored_fits (effect.Call a) f = tt
stored_fits (effect.Load a r up) f = tt
stored_fits (effect.Store a v low) f = f
stored_fits (effect.Decimal w) f = tt
stored_fits (effect.Amount a) f = tt
stored_fits (effect.Negation v) f = tt

-- ip advanced
advanced_fits : (c : Core) → CoreFits c → CoreFits (advanced c)
advanced_fits c h = record { gprs = h.gprs; ip = reduced _; rp = h.rp; sp = h.sp; ef = h.ef }

-- a plan, by what the word decodes to
decoded_fits : (ed : Edition) (c : Core) (w : ℕ) → CoreFits c → (d : Result Instruction Undecodable) → decode_of w ≡ d → CoreFits (decoded_plan ed c w d).core
decoded_fits ed c w h (Ok i) e = after_fits c (execute_of ed (registers c.gprs c.ip c.rp c.sp c.ef) i w) h (words ed _ w i h e)
decoded_fits ed c w h (Err v) e = h

decoded_stored : (ed : Edition) (c : Core) (w : ℕ) → CoreFits c → (d : Result Instruction Undecodable) → decode_of w ≡ d → AccessFits IsWord (decoded_plan ed c w d).access
decoded_stored ed c w h (Ok i) e = stored_fits (execute_of ed (registers c.gprs c.ip c.rp c.sp c.ef) i w) (words ed _ w i h e)
decoded_stored ed c w h (Err v) e = tt

pub plan_fits : (ed : Edition) (c : Core) (w : ℕ) → CoreFits c → IsWord w → CoreFits (plan_of ed (advanced c) w).core
unfolding plan_of
plan_fits ed c w h f = decoded_fits ed (advanced c) w (advanced_fits c h) (decode_of w) refl

pub access_fits : (ed : Edition) (c : Core) (w : ℕ) → CoreFits c → IsWord w → AccessFits IsWord (plan_of ed (advanced c) w).access
unfolding plan_of
access_fits ed c w h f = decoded_stored ed (advanced c) w (advanced_fits c h) (decode_of w) refl
