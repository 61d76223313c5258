-- The line that `berth` prints (docs/SHEETS.md, The line).
use Rattle.std.specs.Prelude.{ℕ, Result, Ok, Err, List, [], ◌∷◌, ◌++◌, replicate}
use Rattle.emulator.specs.declared.core_record.Core.{Core}
use Rattle.memory.specs.Memory.{Memory, lent}
use Rattle.memory.specs.Outcome.{Outcome, stepped, halted, limit, fault, refused, ended}
use Rattle.emulator.specs.Answers.{end_of}
use Rattle.emulator.specs.Machine.{plan_of, Ran, run_of}
use Rattle.emulator.specs.declared.core_record.Run.{Run}
use Rattle.sheet.specs.declared.refusal.SheetRefusal.{SheetRefusal}
use Rattle.sheet.specs.Refusal.{sheet_refusal_number}
use Rattle.sheet.specs.Load.{Left, load_sheet_of}
use Rattle.sheet.specs.Input.{input_records}
use Rattle.line.specs.Decimal.{decimal_of}

-- the words `halted`, `limit`, `fault` and `refused`
abbrev pub halted_word : List ℕ
halted_word = 104 ∷ 97 ∷ 108 ∷ 116 ∷ 101 ∷ 100 ∷ []

abbrev pub limit_word : List ℕ
limit_word = 108 ∷ 105 ∷ 109 ∷ 105 ∷ 116 ∷ []

abbrev pub fault_word : List ℕ
fault_word = 102 ∷ 97 ∷ 117 ∷ 108 ∷ 116 ∷ []

abbrev pub refused_word : List ℕ
refused_word = 114 ∷ 101 ∷ 102 ∷ 117 ∷ 115 ∷ 101 ∷ 100 ∷ []

-- a number after a space, and each of several
abbrev pub field : ℕ → List ℕ
field number = 32 ∷ decimal_of number

unfoldable pub fields : List ℕ → List ℕ
fields [] = []
fields (number ∷ numbers) = field number ++ fields numbers

-- a line: a word, numbers, each after a single space, and a line feed
unfoldable pub row : List ℕ → List ℕ → List ℕ
row word numbers = word ++ (fields numbers ++ 10 ∷ [])

-- what a run leaves: steps, ip, rp, sp, ef, r0 to r7
abbrev pub state_of : ℕ → Core → List ℕ
state_of steps core = steps ∷ core.ip ∷ core.rp ∷ core.sp ∷ core.ef ∷ core.gprs

-- `refused` and the number
abbrev pub refused_line : ℕ → List ℕ
refused_line number = row refused_word (number ∷ [])

-- the line of a run by its end, a fault with number and value; no run ends as stepped, and none
-- here has a log to end it
unfoldable pub end_line : Outcome → ℕ → Core → List ℕ
end_line stepped steps core = []
end_line halted steps core = row halted_word (state_of steps core)
end_line limit steps core = row limit_word (state_of steps core)
end_line (fault number value) steps core = row fault_word (number ∷ value ∷ state_of steps core)
end_line (refused number) steps core = refused_line number
end_line (ended number) steps core = []

abbrev pub ran_line : Ran Memory → List ℕ
ran_line ran = end_line ran.end ran.steps ran.core

-- the same of the code's answer, which may be a refusal
abbrev pub run_line : Result Run SheetRefusal → List ℕ
run_line (Ok run) = end_line (end_of run.end) run.steps run.core
run_line (Err refusal) = refused_line (sheet_refusal_number refusal)

-- a sheet loaded: its run in its edition, with limit 1,000,000
abbrev pub loaded_line : Result (Unit {0}) SheetRefusal → Core → ℕ → List ℕ → List ℕ
loaded_line (Ok done) core edition words = ran_line (run_of plan_of core (lent words (replicate 32768 0)) edition 1000000)
loaded_line (Err refusal) core edition words = refused_line (sheet_refusal_number refusal)

abbrev pub left_line : Left → List ℕ
left_line left = loaded_line left.answer left.core left.edition left.memory

-- a sheet: it is loaded into 32,768 words
unfoldable pub sheet_line : List ℕ → List ℕ
sheet_line records = left_line (load_sheet_of records (replicate 32768 0))

-- the line of an input (docs/SHEETS.md, What the program reads): that of the sheet that its records
-- make
abbrev pub input_line : Result (List ℕ) SheetRefusal → List ℕ
input_line (Ok records) = sheet_line records
input_line (Err refusal) = refused_line (sheet_refusal_number refusal)

unfoldable pub line_of : List ℕ → List ℕ
line_of input = input_line (input_records input)
