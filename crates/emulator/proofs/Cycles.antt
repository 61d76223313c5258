-- Laws of a cycle on any store: one for each way through the code.
use Rattle.std.specs.Prelude.{◌≡◌, ℕ, [], ◌++◌, Result, Ok, Err}
use Rattle.instructions.specs.Decoding.{decode_of, undecodable}
use Rattle.instructions.specs.declared.ins.Instruction.{Instruction}
use Rattle.instructions.specs.declared.ins.encoding.Undecodable.{Undecodable}
use Rattle.execute.specs.Execute.{execute_of}
use Rattle.execute.specs.Registers.{registers}
use Rattle.execute.specs.declared.edition.Edition.{Edition}
use Rattle.execute.specs.declared.effect.Effect.{Effect}
use Rattle.memory.specs.Log.{Logged, logged, read_log}
use Rattle.memory.specs.Memory.{accessed}
use Rattle.memory.specs.Outcome.{fault, stop_of}
use Rattle.memory.specs.Store.{Store}
use Rattle.emulator.specs.Machine.{Turn, turn, after_of, access_of, planned, plan_of, carry_out, advanced, cycle_of}
use Rattle.emulator.specs.declared.core_record.Core.{Core}
use Rattle.memory.specs.declared.log.Purpose.{Purpose}
use Rattle.memory.specs.declared.stop.Stop.{Stop}

module _ {S : Type 0} (on : Store S) (ed : Edition) (c : Core) {m m₁ : S} {r : Result ℕ Stop} (q : accessed r m₁ ≡ on.read m Purpose.Fetch c.ip) where
  -- the fetch stops, or its word stands for no instruction
  pub cycle_stopped : {s : Stop} → r ≡ Err s → logged (turn (stop_of s) c m₁) (read_log Purpose.Fetch c.ip r ++ []) ≡ cycle_of on (plan_of ed) c m
  unfolding cycle_of
  cycle_stopped e = rw (← q, e)

  pub cycle_undecodable : {w : ℕ} {e : Undecodable} → r ≡ Ok w → Err e ≡ decode_of w
      → logged (turn (fault undecodable e.word) (advanced c) m₁) (read_log Purpose.Fetch c.ip r ++ []) ≡ cycle_of on (plan_of ed) c m
  unfolding cycle_of plan_of
  cycle_undecodable e d = rw (← q, e, ← d)

  -- it is obeyed
  abbrev obeyed : Effect → Logged (Turn S)
  obeyed e = carry_out on (planned (after_of (advanced c) e) (access_of e)) m₁

  pub cycle_obeyed : {w ip : ℕ} {i : Instruction} {e : Effect} → r ≡ Ok w → Ok i ≡ decode_of w → ip ≡ (advanced c).ip
      → e ≡ execute_of ed (registers c.gprs ip c.rp c.sp c.ef) i w
      → logged (obeyed e).result (read_log Purpose.Fetch c.ip r ++ (obeyed e).log) ≡ cycle_of on (plan_of ed) c m
  unfolding cycle_of plan_of
  cycle_obeyed e d p h = rw (← q, e, ← d, h, p)
