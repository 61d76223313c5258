-- Memory with its marks, and what an access to it comes to: the place where it may be made, its
-- answer, the word that a write puts, and the mark that it leaves. The same stands in words in
-- docs/MACHINE.md, Memory and marks, and for the right that an access needs, Rights; the numbers
-- of what is refused in docs/NUMBERS.md, The numbers.
use Rattle.std.specs.Prelude.{◌≡◌, ℕ, ◌+◌, ◌/◌, ◌%◌, Bool, true, List, length, ◌==◌, nat_eq, nat_lt, slice_index, slice_set, if◌then◌else◌, Option, Result, Ok, Err}
use Rattle.memory.specs.Rights.{right_of, has_right}
use Rattle.memory.specs.declared.log.Purpose.{Purpose}
use Rattle.memory.specs.declared.refusal.Refusal.{Refusal}
use Rattle.memory.specs.declared.rights.Right.{Right}
use Rattle.memory.specs.declared.stop.Stop.{Stop}
use Rattle.memory.specs.declared.stop.Stop.TheVariants.{OutOfRange, NoRight}

-- the lent list of words, and that of their marks
pub record Memory : Type 0 where
  pub words : List ℕ
  pub marks : List ℕ

abbrev pub lent : List ℕ → List ℕ → Memory
lent words marks = record { words = words; marks = marks }

-- host test 1: memory is a list of 1 to 65,536 words; whether a length is another
unfoldable pub refused_length : ℕ → Bool
refused_length size = if size == 0 then true else nat_lt 65536 size

abbrev pub length_test : ℕ → Result (Unit {0}) Refusal
length_test size = if refused_length size then Err Refusal.MemoryLength else Ok tt

-- whether a mark includes 1, read at an address that this run hadn't yet written; and whether it
-- includes 2, written: 1 or 0
abbrev pub was_read : ℕ → ℕ
was_read mark = mark % 2

abbrev pub was_written : ℕ → ℕ
was_written mark = mark / 2 % 2

-- a mark after a read: it includes 1, unless it includes 2; a bit that is set stays set, all others
-- keep their value
unfoldable pub read_mark : ℕ → ℕ
read_mark mark = if was_written mark == 1 then mark else (if nat_eq (was_read mark) 1 then mark else mark + 1)

-- a mark after a write: it includes 2
unfoldable pub write_mark : ℕ → ℕ
write_mark mark = if was_written mark == 1 then mark else mark + 2

-- the marks after a read, and after a write, at an address
abbrev pub mark_read : List ℕ → ℕ → List ℕ
mark_read marks address = slice_set marks address (read_mark (slice_index marks address))

abbrev pub mark_write : List ℕ → ℕ → List ℕ
mark_write marks address = slice_set marks address (write_mark (slice_index marks address))

-- what an access comes to: its answer, and what it leaves of the medium, the memory or what stands
-- in its place
pub record Accessed (Medium Answer : Type 0) : Type 0 where
  pub answer : Answer
  pub memory : Medium

abbrev pub accessed : {Medium Answer : Type 0} → Answer → Medium → Accessed Medium Answer
accessed answer memory = record { answer = answer; memory = memory }

-- the place in so many words of an access that needs a right: it may be made where its address is
-- in range, which is tested first, and its page has the right
unfoldable pub place_of : Option (List ℕ) → ℕ → Right → ℕ → Result ℕ Stop
place_of rights size right address =
    if nat_lt address size
    then (if has_right rights right address then Ok address else Err (NoRight address))
    else Err (OutOfRange address)

-- an access made at its place; one that may not be made stops, and leaves all as it is, marks too
abbrev pub at_place : {Medium Answer : Type 0} → Result ℕ Stop → (ℕ → Accessed Medium (Result Answer Stop)) → Medium → Accessed Medium (Result Answer Stop)
at_place (Ok place) made memory = made place
at_place (Err stop) made memory = accessed (Err stop) memory

-- a read, which a fetch is too, gives the word, a write puts one
abbrev pub read_at : Memory → Result ℕ Stop → Accessed Memory (Result ℕ Stop)
read_at memory place =
    at_place place
    (λ address. accessed (Ok (slice_index memory.words address)) (lent memory.words (mark_read memory.marks address)))
    memory

abbrev pub write_at : Memory → ℕ → Result ℕ Stop → Accessed Memory (Result (Unit {0}) Stop)
write_at memory value place =
    at_place place
    (λ address. accessed (Ok tt) (lent (slice_set memory.words address value) (mark_write memory.marks address)))
    memory

unfoldable pub read_of : Option (List ℕ) → Memory → Purpose → ℕ → Accessed Memory (Result ℕ Stop)
read_of rights memory purpose address =
    read_at memory (place_of rights (length memory.words) (right_of purpose) address)

unfoldable pub write_of : Option (List ℕ) → Memory → ℕ → ℕ → Accessed Memory (Result (Unit {0}) Stop)
write_of rights memory address value =
    write_at memory value (place_of rights (length memory.words) Right.Write address)

-- a bit that is set in the marks before is set in the marks after
abbrev pub Below : (ℕ → ℕ) → List ℕ → List ℕ → Type 0
Below bit before after = (address : ℕ) → bit (slice_index before address) ≡ 1 → bit (slice_index after address) ≡ 1

-- what every access keeps: marks only grow, their other bits keep their value, and the lengths
-- never change
pub record Kept (before after : Memory) : Type 0 where
  pub read : Below was_read before.marks after.marks
  pub written : Below was_written before.marks after.marks
  pub others : (address : ℕ) → slice_index after.marks address / 4 ≡ slice_index before.marks address / 4
  pub words_length : length after.words ≡ length before.words
  pub marks_length : length after.marks ≡ length before.marks
