use Rattle.text_read_item.proofs.WordWays.{reading, after_rest, after_zero}
use Rattle.text_write_item.specs.Spellings.{after_by}
use borrow.Author.Rules.{rules}
use Rattle.text_read_item.proofs.length_after.Goals as goal

pub returns-in-Ari : goal.returns-in-Ari
returns-in-Ari c = (search (reading, rules), search (reading, rules))

pub returns-in-Value : goal.returns-in-Value
returns-in-Value c = (search (reading, rules), search (reading, rules))

pub returns-in-Label : goal.returns-in-Label
returns-in-Label c = (search (reading, rules), search (reading, rules))

pub returns-in-ObjectId : goal.returns-in-ObjectId
unfolding after_by
returns-in-ObjectId c = (search (after_zero, rules), search rules)

pub returns-in-Unspelled : goal.returns-in-Unspelled
unfolding after_by
returns-in-Unspelled c = (search (after_zero, rules), search rules)

pub returns-in_default : goal.returns-in_default
returns-in_default c = (search (after_rest, rules), search rules)
