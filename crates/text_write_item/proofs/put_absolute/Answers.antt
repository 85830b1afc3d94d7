use Rattle.text_write_item.proofs.Spelled.{ways_through}
use borrow.Author.Rules.{rules}
use Rattle.text_write_item.proofs.put_absolute.Goals as goal

pub returns : goal.returns
returns c = search (ways_through, rules)
