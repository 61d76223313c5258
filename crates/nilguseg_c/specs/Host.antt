-- Need not be believed: nilguseg_compare's clause `order` leaves it one value for each of 0, 1, 2.
-- The answer of nilguseg_compare once the lists have changed places.
use Rattle.std.specs.Prelude.{ℕ, ◌==◌, if◌then◌else◌}

-- the number of a comparison once the lists have changed places: 1, the first comes first, becomes
-- 2, the second does, and 2 becomes 1; 0, they are equal, stays
abbrev pub exchanged : ℕ → ℕ
exchanged number = if number == 1 then 2 else (if number == 2 then 1 else number)
