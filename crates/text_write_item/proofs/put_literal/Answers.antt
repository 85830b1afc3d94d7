-- By the kind.
use Rattle.text_write_item.proofs.Puts.{puts}
use borrow.Author.Rules.{rules}
use Rattle.text_write_item.proofs.put_literal.Goals as goal

pub returns-in-0 : goal.returns-in-0
returns-in-0 c = search (puts, rules)

pub returns-in-1 : goal.returns-in-1
returns-in-1 c = search (puts, rules)

pub returns-in-2 : goal.returns-in-2
returns-in-2 c = search (puts, rules)

pub returns-in-3 : goal.returns-in-3
returns-in-3 c = search (puts, rules)

pub returns-in-6 : goal.returns-in-6
returns-in-6 c = search (puts, rules)

pub returns-in_default : goal.returns-in_default
returns-in_default c = search (puts, rules)
