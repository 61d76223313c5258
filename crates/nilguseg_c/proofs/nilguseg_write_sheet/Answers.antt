-- What was written loads back, since a core and memory have 16-bit words by their types.
use Rattle.std.proofs.Common.{ap, sym, ◌∙◌, arith, ◌≡◌, ℕ, ◌<◌, ◌*◌, ◌^◌, List, [], ◌∷◌, Result, Ok, Err, refl, rules}
use Rattle.emulator.specs.declared.core_record.Core.{Core}
use Rattle.nilguseg.specs.Host.{core_from, written_number, call, write_call}
use Rattle.sheet.specs.Write.{Wrote, write_sheet_of, wrote}
use Rattle.nilguseg_c.proofs.Laws.{whole_core, loads_back, fits}
use Rattle.std.specs.Prelude.{IfOk, MatchOption}
use Rattle.sheet.specs.declared.refusal.SheetRefusal.{SheetRefusal}
use Rattle.sheet_laws.proofs.FewRecords.{few_records}
use Rattle.nilguseg.proofs.Refusal.{by_tests}
use Rattle.refusal_laws.specs.Refused.{answer_refusal}
use Rattle.refusal_laws.proofs.Refused.{refused}
use Rattle.nilguseg_c.proofs.nilguseg_write_sheet.Goals as goal

pub returns-clause-loads_back : goal.returns-clause-loads_back
returns-clause-loads_back c held sizes below =
    let ws = c.args.core.now in
    let mem = c.args.memory.now in
    let same = c.write_sheet.ensures ∙ ap (λ (k : Core). write_sheet_of k c.args.edition mem c.args.sheet.now) c.core_of.ensures in
    loads_back (core_from ws) c.args.edition mem c.args.sheet.now _ held _ (whole_core ws c.told-core c.fits-core) (λ k. omega (arith, c.type_inv.memory k)) sizes below
    (c.written_number.ensures ∙ ap (λ (w : Wrote). written_number w.answer) same)
    (ap (λ (w : Wrote). w.buffer) same)

-- an answer, as the host sees it: a number of records, or a refusal that leaves the sheet
told : (x : Result ℕ SheetRefusal) (sheet : List ℕ) (answer : ℕ)
    → IfOk x (λ n. n < 2 ^ 32) → answer ≡ written_number x
    → MatchOption (answer_refusal x) (answer < 2 ^ 32)
    (λ n. write_call (wrote x sheet) ≡ call (n * 2 ^ 32) (sheet ∷ []))
told (Ok n) sheet answer few e = omega arith
told (Err r) sheet answer few e = refl

pub returns-clause-refused : goal.returns-clause-refused
returns-clause-refused c =
    let a = c.args in
    let k = core_from a.core.now in
    let x = (write_sheet_of k a.edition a.memory.now a.sheet.now).answer in
    let known = refused.write_sheet k a.edition a.memory.now a.sheet.now in
    by_tests write_call _ _ known (search rules)
    (told x a.sheet.now _ (few_records k a.edition a.memory.now a.sheet.now) (search rules))

pub returns-clause-fits : goal.returns-clause-fits
returns-clause-fits c enough e =
    let a = c.args in
    let same = c.write_sheet.ensures ∙ ap (λ (k : Core). write_sheet_of k a.edition a.memory.now a.sheet.now) c.core_of.ensures in
    fits (core_from a.core.now) a.edition a.memory.now a.sheet.now enough
    (sym (c.written_number.ensures ∙ ap (λ (w : Wrote). written_number w.answer) same) ∙ e)
