-- Why a load, a write or an input is refused (docs/NUMBERS.md, The numbers).
use Rattle.std.specs.Prelude.{ℕ}
use Rattle.memory.specs.Outcome.{refusal_number}
use Rattle.sheet.specs.declared.refusal.SheetRefusal.{SheetRefusal}
use Rattle.sheet.specs.declared.refusal.SheetRefusal.TheVariants.{Host, LongList, ShortBuffer, UnknownKind, NonzeroBit, UnknownRegister, UnknownEdition, PastMemory, NoEnd, AfterEnd, WrongCount, Input}

-- the numbers of docs/NUMBERS.md
abbrev pub sheet_refusal_number : SheetRefusal → ℕ
sheet_refusal_number (Host refusal) = refusal_number refusal
sheet_refusal_number LongList = 3
sheet_refusal_number ShortBuffer = 4
sheet_refusal_number UnknownKind = 20
sheet_refusal_number NonzeroBit = 21
sheet_refusal_number UnknownRegister = 22
sheet_refusal_number UnknownEdition = 34
sheet_refusal_number PastMemory = 23
sheet_refusal_number NoEnd = 24
sheet_refusal_number AfterEnd = 25
sheet_refusal_number WrongCount = 26
sheet_refusal_number Input = 27
