-- Every call that can be refused is refused by the first of its tests that fails.
use Rattle.std.specs.Prelude.{Some, None}
use Rattle.refusal_laws.specs.Refused.{Refused}
use Rattle.refusal_laws.proofs.Calls as calls
use Rattle.refusal_laws.proofs.Sheets.{load_sheet_refused}

pub refused : Refused
refused =
    record {
      step = calls.step;
      run = λ c m. calls.plain_run c m None;
      run_guarded = λ c m rights. calls.plain_run c m (Some rights);
      run_logged = λ c m. calls.logged_run c m None;
      run_logged_guarded = λ c m rights. calls.logged_run c m (Some rights);
      replay = calls.replay;
      load_words = calls.load_words;
      load_sheet = load_sheet_refused;
      write_sheet = calls.write_sheet;
      records = calls.records;
    }
