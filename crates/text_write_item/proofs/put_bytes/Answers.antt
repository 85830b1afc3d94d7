use Rattle.text_write_item.proofs.Puts.{puts}
use borrow.Author.Rules.{rules}
use Rattle.text_write_item.proofs.put_bytes.Goals as goal

pub returns : goal.returns
returns c = search (puts, rules)
