-- Rights over memory's pages: which right an access needs, where a page has it, and the host test
-- of rights bytes. The same stands in words in docs/MACHINE.md, Rights, and the number of the test
-- in docs/NUMBERS.md, The numbers.
use Rattle.std.specs.Prelude.{ℕ, ◌/◌, ◌%◌, Bool, true, false, List, [], ◌∷◌, length, nat_eq, nat_lt, slice_index, if◌then◌else◌, Option, Some, None, option_map, Result, Ok, Err}
use Rattle.std.specs.Borrow.{Bor}
use Rattle.memory.specs.declared.log.Purpose.{Purpose}
use Rattle.memory.specs.declared.refusal.Refusal.{Refusal}
use Rattle.memory.specs.declared.rights.Right.{Right}

-- a right's value in a rights byte, which is a sum
abbrev pub right_value : Right → ℕ
right_value Right.Read = 1
right_value Right.Write = 2
right_value Right.Execute = 4

-- a fetch needs execute, every other read read
abbrev pub right_of : Purpose → Right
right_of Purpose.Fetch = Right.Execute
right_of Purpose.Read = Right.Read

-- the rights byte of the page of an address: a page is 256 addresses
abbrev pub rights_at : List ℕ → ℕ → ℕ
rights_at bytes address = slice_index bytes (address / 256)

-- whether an address's page has a right: where no rights bytes are given, each has
unfoldable pub has_right : Option (List ℕ) → Right → ℕ → Bool
has_right None right address = true
has_right (Some bytes) right address = nat_eq (rights_at bytes address / right_value right % 2) 1

-- whether no rights byte is above 7
unfoldable pub all_rights : List ℕ → Bool
all_rights [] = true
all_rights (byte ∷ rest) = if nat_lt 7 byte then false else all_rights rest

-- host test 32: there are 256 rights bytes, none above 7; whether they are others
unfoldable pub refused_rights : List ℕ → Bool
refused_rights bytes = if nat_eq (length bytes) 256 then (if all_rights bytes then false else true) else true

-- whether it refuses: it is made where rights bytes are given
abbrev pub refused_bytes : Option (List ℕ) → Bool
refused_bytes None = false
refused_bytes (Some bytes) = refused_rights bytes

-- the code's answer
abbrev pub rights_test : List ℕ → Result (List ℕ) Refusal
rights_test bytes = if refused_rights bytes then Err Refusal.Rights else Ok bytes

abbrev pub tested_bytes : Result (Bor (List ℕ)) Refusal → Result (List ℕ) Refusal
tested_bytes (Ok bytes) = Ok bytes.now
tested_bytes (Err refusal) = Err refusal

-- the rights bytes that are lent
abbrev pub bytes_of : Option (Bor (List ℕ)) → Option (List ℕ)
bytes_of = option_map (λ bytes. bytes.now)
