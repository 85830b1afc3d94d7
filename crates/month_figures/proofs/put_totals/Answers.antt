use borrow.Author.Rules.{rules}
use Rattle.month_figures.proofs.Words.{totals}
use Rattle.month_figures.proofs.put_totals.Goals as goal

pub returns : goal.returns
returns c = search (totals, rules)
