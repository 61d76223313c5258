-- Need not be believed: Core::run_logged, proved by it, promises its definition without it.
-- What the parts of a logged run promise. Nothing here says what an access or a log is.
use Rattle.std.specs.Prelude.{ℕ, ◌+◌, ◌≡◌, ◌<◌, ◌≤◌, List, [], length, nat_lt, if◌then◌else◌, refl}
use Rattle.std.proofs.Common.{arith, add-zero}
use Rattle.std.proofs.lemmas.List.Edits.{sets}
use Rattle.memory.specs.Log.{entry_of, Written, written}
use Rattle.memory.specs.declared.log.Purpose.{Purpose}

-- what becomes of a buffer and the count of its log words when a read is logged: nothing, if it has
-- no room
abbrev pub pushed : Purpose → ℕ → ℕ → Written → Written
pushed p a w x = if nat_lt (length x.buffer) (x.count + 2) then x else written (x.count + 2) (sets x.buffer x.count (entry_of p a w))

-- a buffer b₀ that had k₀ log words is b with k, now that l more are logged: they stand there,
-- unless they don't fit
pub record Logs (b₀ : List ℕ) (k₀ : ℕ) (b : List ℕ) (k : ℕ) (l : List ℕ) : Type 0 where
  pub size : length b ≡ length b₀
  pub count : k₀ + length l ≤ length b₀ → k ≡ k₀ + length l
  pub stored : k₀ + length l ≤ length b₀ → b ≡ sets b₀ k₀ l
  pub past : length b₀ < k₀ + length l → length b₀ < k + 2

-- nothing is logged at first
pub logs_start : (b : List ℕ) (k : ℕ) → Logs b k b k []
logs_start b k = record { size = refl; count = λ _. rw add-zero; stored = λ _. refl; past = λ l. omega arith }
