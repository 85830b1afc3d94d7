use Rattle.text_read_item.proofs.Found.{naming}
use borrow.Author.Rules.{rules}
use Rattle.text_read_item.proofs.named_at.Goals as goal

pub returns-then-is_group : goal.returns-then-is_group
returns-then-is_group c = search (naming, rules)

pub returns-then-is_relative : goal.returns-then-is_relative
returns-then-is_relative c = search (naming, rules)

pub returns : goal.returns
returns c = search (naming, rules)
