-- Need not be believed: Instruction::encode, proved by it, promises the table of words alone.
-- A number that is known, and below a bound: what the parts of a word promise, so that the word
-- that they add up to is one.
use Rattle.std.specs.Prelude.{◌≡◌, ℕ, ◌<◌}

pub record Bounded (r value bound : ℕ) : Type 0 where
  pub is : r ≡ value
  pub below : r < bound
