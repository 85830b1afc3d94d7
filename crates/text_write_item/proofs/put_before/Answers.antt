-- By the spelling.
use Rattle.text_write_item.specs.Spellings.{before_by}
use Rattle.text_write_item.proofs.Spelled.{ways_through, before_by_lem}
use borrow.Author.Rules.{rules}
use Rattle.text_write_item.proofs.put_before.Goals as goal

pub returns-in-Ari : goal.returns-in-Ari
unfolding before_by
returns-in-Ari c = search (before_by_lem, rules)

pub returns-in-TypeName : goal.returns-in-TypeName
unfolding before_by
returns-in-TypeName c = search (before_by_lem, rules)

pub returns-in-Value : goal.returns-in-Value
unfolding before_by
returns-in-Value c = search (before_by_lem, rules)

pub returns-in-Label : goal.returns-in-Label
unfolding before_by
returns-in-Label c = search (before_by_lem, rules)

pub returns-in-Namespace : goal.returns-in-Namespace
unfolding before_by
returns-in-Namespace c = search (before_by_lem, rules)

pub returns-in-ObjectNamespace : goal.returns-in-ObjectNamespace
unfolding before_by
returns-in-ObjectNamespace c = search (before_by_lem, rules)

pub returns-in-ObjectType : goal.returns-in-ObjectType
unfolding before_by
returns-in-ObjectType c = search (before_by_lem, rules)

pub returns-in-ObjectId : goal.returns-in-ObjectId
unfolding before_by
returns-in-ObjectId c = search (before_by_lem, rules)

pub returns-in-Parameters : goal.returns-in-Parameters
unfolding before_by
returns-in-Parameters c = search (before_by_lem, rules)

pub returns-in-Key : goal.returns-in-Key
unfolding before_by
returns-in-Key c = search (before_by_lem, rules)

pub returns-in-Unspelled : goal.returns-in-Unspelled
returns-in-Unspelled c = search (ways_through, rules)
