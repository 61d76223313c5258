-- The line that the program prints: `refused` and the number of the first test that fails, and
-- another word where none fails.
use Rattle.std.specs.Prelude.{ℕ, ◌≡◌, ◌+◌, ◌%◌, false, ltb, eqb, List, [], ◌∷◌, length, get_or, set, replicate, Option, Some, None, Result, Ok, Err}
use mathlib.Core.Path.{refl, sym, ap, ◌∙◌}
use native.Mathlib.Omega.{arith}
use lib.ListN.{length-set, length-replicate}
use Rattle.instructions.proofs.Cases.{by_test, if_elim}
use Rattle.execute.specs.Edition.{refused_edition}
use Rattle.memory.specs.Memory.{Memory, lent, refused_length}
use Rattle.memory.specs.Outcome.{Outcome, stepped, halted, limit, fault, refused, ended}
use Rattle.memory.proofs.Laws.{length_accepted}
use Rattle.emulator.specs.Core.{new_core}
use Rattle.emulator.specs.Machine.{plan_of, plain, refusal_in, run_of}
use Rattle.emulator.specs.declared.core_record.Core.{Core}
use Rattle.emulator.proofs.Laws.{test_none}
use Rattle.sheet.specs.Input.{input_records, records_of}
use Rattle.sheet.specs.Load.{Reading, closed, every_record, record_reads, read_from, sheet_reads, Left, settled, load_sheet_of}
use Rattle.sheet.specs.Record.{kind, above16, above20, register, low, record_of, with_register}
use Rattle.sheet.specs.declared.fields.Record.{Record}
use Rattle.sheet.specs.declared.fields.Record.TheVariants.{Place, Word, Preset, Edition, End}
use Rattle.sheet.specs.declared.refusal.SheetRefusal.{SheetRefusal}
use Rattle.line.specs.Line.{row, refused_line as refusal_line, end_line, loaded_line, left_line, sheet_line, line_of}
use Rattle.refusal_laws.specs.Refused.{outcome_refusal, answer_refusal, RefusedLine}
use Rattle.refusal_laws.specs.Tests.{first_failing, sheet_tests, program_tests}
use Rattle.refusal_laws.proofs.Calls.{plain_run, run_number}
use Rattle.refusal_laws.proofs.Sheets.{load_sheet_refused}

-- What a load leaves has the length that was lent, and an edition that no test refuses: so it can
-- be run.

abbrev Known : ℕ → Type 0
Known ed = refused_edition ed ≡ false

-- of a record that gives an edition
abbrev KnownIn : Result Record SheetRefusal → Type 0
KnownIn (Ok (Place p)) = Unit {0}
KnownIn (Ok (Word v)) = Unit {0}
KnownIn (Ok (Preset r v)) = Unit {0}
KnownIn (Ok (Edition e)) = Known e
KnownIn (Ok (End k)) = Unit {0}
KnownIn (Err k) = Unit {0}

-- a word that is a record has passed that test
known : (w : ℕ) → KnownIn (record_of w)
unfolding record_of
known w =
    if_elim KnownIn (eqb (kind w) 1) (λ _. if_elim KnownIn (eqb (above16 w) 0) (λ _. tt) (λ _. tt))
    (λ _. if_elim KnownIn (eqb (kind w) 2) (λ _. if_elim KnownIn (eqb (above16 w) 0) (λ _. tt) (λ _. tt))
    (λ _. if_elim KnownIn (eqb (kind w) 3)
    (λ _. if_elim KnownIn (eqb (above20 w) 0) (λ _. if_elim KnownIn (ltb 11 (register w)) (λ _. tt) (λ _. tt)) (λ _. tt))
    (λ _. if_elim KnownIn (eqb (kind w) 7)
    (λ _. if_elim KnownIn (eqb (above16 w) 0) (λ _. if_elim KnownIn (refused_edition (low w)) (λ _. tt) (λ f. f)) (λ _. tt))
    (λ _. if_elim KnownIn (eqb (kind w) 15) (λ _. tt) (λ _. tt)))))

-- of what a sheet gives
abbrev Runnable : ℕ → Reading → Type 0
Runnable size (Reading.gives c ed mem) = (length mem ≡ size) × Known ed
Runnable size (Reading.fails k) = Unit {0}

module _ (size : ℕ) where
  -- of what records give, where the state before them was so too
  abbrev RunnableFrom : List ℕ → Type 0
  RunnableFrom ws =
      (a n : ℕ) (c : Core) (ed : ℕ) (mem : List ℕ) → length mem ≡ size → Known ed → Runnable size (read_from every_record ws a n c ed mem)

  -- after an end
  closed_runnable : (ws : List ℕ) (c : Core) (ed : ℕ) (mem : List ℕ) → length mem ≡ size → Known ed → Runnable size (closed ws c ed mem)
  closed_runnable [] c ed mem s k = (s, k)
  closed_runnable (w ∷ ws) c ed mem s k = tt

  -- one record, before others
  record_runnable : (x : Result Record SheetRefusal) → KnownIn x → (ws : List ℕ) → RunnableFrom ws
      → (a n : ℕ) (c : Core) (ed : ℕ) (mem : List ℕ) → length mem ≡ size → Known ed
      → Runnable size (record_reads every_record x ws (read_from every_record ws) a n c ed mem)
  record_runnable (Ok (Place p)) h ws later a n c ed mem s k = later p (n + 1) c ed mem s k
  record_runnable (Ok (Word v)) h ws later a n c ed mem s k =
      if_elim (Runnable size) (ltb a (length mem)) (λ _. later (a + 1) (n + 1) c ed (set mem a v) (length-set mem a v ∙ s) k) (λ _. tt)
  record_runnable (Ok (Preset r v)) h ws later a n c ed mem s k = later a (n + 1) (with_register c r v) ed mem s k
  record_runnable (Ok (Edition e)) h ws later a n c ed mem s k = later a (n + 1) c e mem s h
  record_runnable (Ok (End m)) h ws later a n c ed mem s k = if_elim (Runnable size) (eqb m n) (λ _. closed_runnable ws c ed mem s k) (λ _. tt)
  record_runnable (Err m) h ws later a n c ed mem s k = tt

  -- all records
  reads_runnable : (ws : List ℕ) → RunnableFrom ws
  unfolding read_from
  reads_runnable [] a n c ed mem s k = tt
  reads_runnable (w ∷ ws) a n c ed mem s k = record_runnable (record_of w) (known w) ws (reads_runnable ws) a n c ed mem s k

-- of what a load leaves, refused or not
abbrev LeftRunnable : ℕ → Left → Type 0
LeftRunnable size l = (length l.memory ≡ size) × Known l.edition

-- after the reading
settled_runnable : (mem : List ℕ) (x : Reading) → Runnable (length mem) x → LeftRunnable (length mem) (settled mem x)
unfolding refused_edition
settled_runnable mem (Reading.gives c ed mem') h = h
settled_runnable mem (Reading.fails k) h = (refl, refl)

-- the whole load
load_runnable : (sheet mem : List ℕ) → LeftRunnable (length mem) (load_sheet_of sheet mem)
unfolding load_sheet_of refused_edition
load_runnable sheet mem =
    if_elim (LeftRunnable (length mem)) (refused_length (length mem)) (λ _. (refl, refl))
    (λ _. settled_runnable mem (sheet_reads sheet (length mem))
    (reads_runnable (length mem) sheet 0 0 new_core 1 (replicate (length mem) 0) (length-replicate (length mem) 0) refl))

-- A run whose host tests pass doesn't end as refused.
abbrev Unrefused : Outcome → Type 0
Unrefused o = outcome_refusal o ≡ None

run_unrefused : (c : Core) (m : Memory) (ed most : ℕ) → refusal_in (plain ed) m ≡ 0 → Unrefused (run_of plan_of c m ed most).end
run_unrefused c m ed most ok = (plain_run c m None ed most).number ∙ (run_number None ed m ∙ (rw ok refl))

-- What a line tells: a refusal by its number, or that there is none.

abbrev Tells : Option ℕ → List ℕ → Type 0
Tells (Some k) line = line ≡ refusal_line k
Tells None line = (n : ℕ) → line ≡ refusal_line n → ⊥

-- a line with another first letter than `refused`, or with none
other_letter : (a : ℕ) (line : List ℕ) (n : ℕ) → get_or line 0 0 ≡ a → (a ≡ 114 → ⊥) → line ≡ refusal_line n → ⊥
unfolding row
other_letter a line n first other e =
    let letter : get_or line 0 0 ≡ 114 = ap (λ (l : List ℕ). get_or l 0 0) e in
    other (omega arith)

-- the line of a run that does not end as refused
end_tells : (o : Outcome) (steps : ℕ) (c : Core) → Unrefused o → Tells None (end_line o steps c)
unfolding end_line row
end_tells stepped steps c u n = other_letter 0 _ n refl (λ z. omega arith)
end_tells halted steps c u n = other_letter 104 _ n refl (λ z. omega arith)
end_tells limit steps c u n = other_letter 108 _ n refl (λ z. omega arith)
end_tells (fault k v) steps c u n = other_letter 102 _ n refl (λ z. omega arith)
end_tells (refused k) steps c u n = absurd (cc)
end_tells (ended k) steps c u n = other_letter 0 _ n refl (λ z. omega arith)

-- the host tests refuse no run of what is loaded
run_accepted : (words marks : List ℕ) (ed : ℕ) → length words ≡ 32768 → length marks ≡ 32768 → Known ed
    → refusal_in (plain ed) (lent words marks) ≡ 0
run_accepted words marks ed s m k =
    let fits = length_accepted (length words) (omega arith) (omega arith) in
    rw (k, ← test_none words marks {u = tt} (rw fits) (m ∙ sym s))

-- the line of a load by its answer, where what it leaves can be run
answer_tells : (x : Result (Unit {0}) SheetRefusal) (c : Core) (ed : ℕ) (words : List ℕ) → length words ≡ 32768 → Known ed
    → Tells (answer_refusal x) (loaded_line x c ed words)
answer_tells (Ok u) c ed words s k =
    let zeros : List ℕ = replicate 32768 0 in
    end_tells _ _ _ (run_unrefused c (lent words zeros) ed 1000000 (run_accepted words zeros ed s (length-replicate {A = ℕ} 32768 0) k))
answer_tells (Err r) c ed words s k = refl

-- the line of a sheet, by the tests of its load
load_tells : (sheet mem : List ℕ) → length mem ≡ 32768 → Tells (first_failing (sheet_tests sheet 32768)) (left_line (load_sheet_of sheet mem))
load_tells sheet mem s =
    let l = load_sheet_of sheet mem in
    let h = load_runnable sheet mem in
    rw (← s, ← (load_sheet_refused sheet mem).number) (answer_tells l.answer l.core l.edition l.memory (h.0 ∙ s) h.1)

-- the line of an input, by the program's tests
line_tells : (input : List ℕ) → Tells (first_failing (program_tests input)) (line_of input)
unfolding line_of input_records sheet_line first_failing
line_tells input =
    by_test (eqb (length input % 4) 0)
    (λ whole. by_test (ltb 32768 (length input))
    (λ long. rw (whole, long))
    (λ fits. rw (whole, fits) (load_tells (records_of input) (replicate 32768 0) (length-replicate {A = ℕ} 32768 0))))
    (λ ragged. rw ragged)

pub refused_line : RefusedLine
refused_line =
    record {
      refused = λ input n e. rw e at (line_tells input);
      accepted = λ input n e. (rw e at (line_tells input)) n;
    }
