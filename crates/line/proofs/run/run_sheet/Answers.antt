-- `run_sheet`: the run of what is loaded.
use Rattle.line.proofs.LineLaws.{sheet_ran}
use Rattle.line.proofs.run.run_sheet.Goals as goal

pub returns : goal.returns
returns c = sheet_ran _ c.load_sheet-load.ensures c.in_ok-load.was c.run.ensures
