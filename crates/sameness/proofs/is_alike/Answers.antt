-- Their heads, and then their strings.
use borrow.Author.Rules.{rules}
use Rattle.sameness.proofs.Items.{item_ways}
use Rattle.sameness.proofs.is_alike.Goals as goal

pub returns-then-not-same_head : goal.returns-then-not-same_head
returns-then-not-same_head c = search (item_ways, rules)

pub returns-then-not-has_string : goal.returns-then-not-has_string
returns-then-not-has_string c = search (item_ways, rules)

pub returns : goal.returns
returns c = search (item_ways, rules)
