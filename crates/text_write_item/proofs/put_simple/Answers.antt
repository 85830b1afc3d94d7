use Rattle.text_write_item.proofs.Puts.{puts}
use borrow.Author.Rules.{rules}
use Rattle.text_write_item.proofs.put_simple.Goals as goal

pub returns-in-20 : goal.returns-in-20
returns-in-20 c = search (puts, rules)

pub returns-in-21 : goal.returns-in-21
returns-in-21 c = search (puts, rules)

pub returns-in-22 : goal.returns-in-22
returns-in-22 c = search (puts, rules)

pub returns-in_default : goal.returns-in_default
returns-in_default c = search (puts, rules)
