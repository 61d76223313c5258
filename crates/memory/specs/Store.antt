-- Where a run reads and writes: a medium, which is memory or what stands in its place, as the log
-- of a replay. A store is its two accesses.
use Rattle.std.specs.Prelude.{ℕ, List, Option, Result}
use Rattle.memory.specs.Memory.{Memory, Accessed, read_of, write_of}
use Rattle.memory.specs.declared.log.Purpose.{Purpose}
use Rattle.memory.specs.declared.stop.Stop.{Stop}

-- a read for a purpose, at an address, and a write to an address, of a word
pub record Store (Medium : Type 0) : Type 0 where
  pub read : Medium → Purpose → ℕ → Accessed Medium (Result ℕ Stop)
  pub write : Medium → ℕ → ℕ → Accessed Medium (Result (Unit {0}) Stop)

-- lent memory, with the rights over its pages
abbrev pub memory_store : Option (List ℕ) → Store Memory
memory_store rights = record { read = read_of rights; write = write_of rights }
