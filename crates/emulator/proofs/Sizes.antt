-- A log never passes the buffer that is lent for it: a cycle logs at most four words, and a turn is
-- made only where four are free.
use Rattle.std.specs.Prelude.{ℕ, zero, suc, ◌+◌, ◌-◌, ◌≤◌, List, ◌++◌, length, Result, Ok, Err}
use native.Mathlib.Omega.{arith}
use lib.ListN.{length-append}
use borrow.Author.Tests.{ltb-false}
use Rattle.instructions.proofs.Cases.{if_elim}
use Rattle.emulator.specs.Core.{is_halted}
use Rattle.memory.specs.Log.{read_log, Reply, reply_log, Logged, words, is_full}
use Rattle.memory.specs.Store.{Store}
use Rattle.emulator.specs.Machine.{Plan, Turn, make_of, carry_out, on_fetch, advanced, cycle_of, Ran, is_stepped, next_of, run_until}
use Rattle.emulator.specs.declared.core_record.Core.{Core}
use Rattle.memory.specs.declared.log.Purpose.{Purpose}
use Rattle.memory.specs.declared.refusal.LogEnd.{LogEnd}
use Rattle.memory.specs.declared.stop.Stop.{Stop}

read_short : (p : Purpose) (a : ℕ) (r : Result ℕ Stop) → length (read_log p a r) ≤ 2
read_short p a (Ok w) = omega arith
read_short p a (Err s) = omega arith

reply_short : (r : Reply) → length (reply_log r) ≤ 2
reply_short Reply.done = omega arith
reply_short (Reply.word a w) = omega arith
reply_short (Reply.stopped s) = omega arith

module _ {S : Type 0} (on : Store S) (plan : Core → ℕ → Plan) where
  cycle_short : (c : Core) (m : S) → length (cycle_of on plan c m).log ≤ 4
  unfolding cycle_of
  cycle_short c m =
      let one = read_short Purpose.Fetch c.ip (on.read m Purpose.Fetch c.ip).answer in
      let other = after (on.read m Purpose.Fetch c.ip).answer in
      rw length-append (omega arith)
    where
      after : (r : Result ℕ Stop) → length (on_fetch (λ w. carry_out on (plan (advanced c) w)) c (on.read m Purpose.Fetch c.ip).memory r).log ≤ 2
      after (Ok w) = reply_short (make_of on (plan (advanced c) w).access (on.read m Purpose.Fetch c.ip).memory).answer
      after (Err s) = omega arith

  module _ (size : ℕ) (why : LogEnd) where
    abbrev Fits : Logged (Ran S) → Type 0
    Fits r = length r.log ≤ size

    next_fits : (more : Core → S → List ℕ → Logged (Ran S)) (n : ℕ) (l : List ℕ)
        → ((c : Core) (m : S) (k : List ℕ) → length k ≤ size → Fits (more c m k)) → (t : Logged (Turn S)) → length (l ++ t.log) ≤ size → Fits (next_of more n l t)
    next_fits more n l h t w = if_elim Fits (is_stepped t.result.outcome) (λ _. h t.result.core t.result.memory (l ++ t.log) w) (λ _. w)

    pub run_fits : (k n : ℕ) (c : Core) (m : S) (l : List ℕ) → length l ≤ size → Fits (run_until on plan (λ l. is_full (words size) (length l)) why k n c m l)
    unfolding run_until
    run_fits zero n c m l w = if_elim Fits (is_halted c) (λ _. w) (λ _. w)
    run_fits (suc k) n c m l w =
        if_elim Fits (is_halted c) (λ _. w)
        (λ _. if_elim Fits (is_full (words size) (length l)) (λ _. w)
        (λ free.
        let four : 4 ≤ size - length l = ltb-false _ _ free in
        let short = cycle_short c m in
        next_fits (run_until on plan (λ l. is_full (words size) (length l)) why k (n + 1)) n l (run_fits k (n + 1)) (cycle_of on plan c m) (rw length-append (omega arith))))
