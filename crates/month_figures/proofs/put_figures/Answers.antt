use borrow.Author.Rules.{rules}
use Rattle.month_figures.proofs.Words.{puts}
use Rattle.month_figures.proofs.put_figures.Goals as goal

pub returns : goal.returns
returns c = search (puts, rules)
