use borrow.Author.Rules.{rules}
use Rattle.day_file.proofs.Adding.{fulls}
use Rattle.day_file.proofs.is_full.Goals as goal

pub returns : goal.returns
returns c = search (fulls, rules)
