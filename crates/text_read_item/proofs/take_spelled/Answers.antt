use Rattle.text_read_item.proofs.Found.{spelling_by, no_spelling}
use Rattle.text_read_item.specs.Words.{take_spelled}
use borrow.Author.Rules.{rules}
use Rattle.text_read_item.proofs.take_spelled.Goals as goal

pub returns-in-Ari : goal.returns-in-Ari
unfolding take_spelled
returns-in-Ari c = search (spelling_by, rules)

pub returns-in-TypeName : goal.returns-in-TypeName
unfolding take_spelled
returns-in-TypeName c = search (spelling_by, rules)

pub returns-in-Value : goal.returns-in-Value
unfolding take_spelled
returns-in-Value c = search (spelling_by, rules)

pub returns-in-Parameters : goal.returns-in-Parameters
unfolding take_spelled
returns-in-Parameters c = search (spelling_by, rules)

pub returns-in-Key : goal.returns-in-Key
unfolding take_spelled
returns-in-Key c = search (spelling_by, rules)

pub returns-in-Unspelled : goal.returns-in-Unspelled
returns-in-Unspelled c = search (no_spelling, rules)
