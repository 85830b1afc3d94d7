-- By the spelling.
use Rattle.text_write_item.specs.Spellings.{after_by}
use Rattle.text_write_item.proofs.Spelled.{ways_through, after_by_lem}
use borrow.Author.Rules.{rules}
use Rattle.text_write_item.proofs.put_after.Goals as goal

pub returns-in-Ari : goal.returns-in-Ari
unfolding after_by
returns-in-Ari c = search (after_by_lem, rules)

pub returns-in-TypeName : goal.returns-in-TypeName
unfolding after_by
returns-in-TypeName c = search (after_by_lem, rules)

pub returns-in-Value : goal.returns-in-Value
unfolding after_by
returns-in-Value c = search (after_by_lem, rules)

pub returns-in-Label : goal.returns-in-Label
unfolding after_by
returns-in-Label c = search (after_by_lem, rules)

pub returns-in-Namespace : goal.returns-in-Namespace
unfolding after_by
returns-in-Namespace c = search (after_by_lem, rules)

pub returns-in-ObjectNamespace : goal.returns-in-ObjectNamespace
unfolding after_by
returns-in-ObjectNamespace c = search (after_by_lem, rules)

pub returns-in-ObjectType : goal.returns-in-ObjectType
unfolding after_by
returns-in-ObjectType c = search (after_by_lem, rules)

pub returns-in-Parameters : goal.returns-in-Parameters
unfolding after_by
returns-in-Parameters c = search (after_by_lem, rules)

pub returns-in-Key : goal.returns-in-Key
unfolding after_by
returns-in-Key c = search (after_by_lem, rules)

pub returns-in-ObjectId : goal.returns-in-ObjectId
returns-in-ObjectId c = search (ways_through, rules)

pub returns-in-Unspelled : goal.returns-in-Unspelled
returns-in-Unspelled c = search (ways_through, rules)
