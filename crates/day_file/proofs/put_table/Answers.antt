use borrow.Author.Rules.{rules}
use Rattle.day_file.proofs.Adding.{puts}
use Rattle.day_file.proofs.put_table.Goals as goal

pub returns : goal.returns
returns c = search (puts, rules)
