-- `is_entry`: the word names the read, and holds its value, or not.
use mathlib.Core.Path.{sym, ◌∙◌}
use borrow.Author.Tests.{ne_eqb}
use Rattle.replay.proofs.Tapes.{read_named, read_other}
use Rattle.replay.proofs.tape.is_entry.Goals as goal

pub returns-then-named-address_word : goal.returns-then-named-address_word
returns-then-named-address_word c = read_named _ _ _ _ (c.if-named-address_word.true ∙ c.address_word.ensures)

pub returns-else-named-address_word : goal.returns-else-named-address_word
returns-else-named-address_word c =
    ne_eqb _ _ c.if-named-address_word.false ∙ read_other _ _ _ _ (λ e. c.if-named-address_word.false (e ∙ sym c.address_word.ensures))
