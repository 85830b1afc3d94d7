use borrow.Author.Rules.{rules}
use Rattle.day_upgrade.proofs.Rewriting.{rewritings}
use Rattle.day_upgrade.proofs.put_rewritten.Goals as goal

pub returns : goal.returns
returns c = search (rewritings, rules)
