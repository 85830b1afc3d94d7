-- A name's bytes, and a tilde.
use Rattle.text_write_item.proofs.Puts.{puts}
use borrow.Author.Rules.{rules}
use Rattle.text_write_item.proofs.is_bare.Goals as goal

pub returns-then-continues_name : goal.returns-then-continues_name
returns-then-continues_name c = search (puts, rules)

pub returns-else-continues_name : goal.returns-else-continues_name
returns-else-continues_name c = search (puts, rules)
