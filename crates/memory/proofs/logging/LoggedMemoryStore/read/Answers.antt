-- A read is logged.
use Rattle.memory.proofs.Logs.{logs_pushed}
use Rattle.memory.proofs.logging.LoggedMemoryStore.read.Goals as goal

pub returns-clause-noted : goal.returns-clause-noted
returns-clause-noted c start l h = (h.0, h.1, h.2, logs_pushed h.3 _ _ _ c.push-self.ensures)
