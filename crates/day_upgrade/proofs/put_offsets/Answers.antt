use borrow.Author.Rules.{rules}
use Rattle.day_upgrade.proofs.Rewriting.{rewritings}
use Rattle.day_upgrade.proofs.put_offsets.Goals as goal

pub loop-k-preserved : goal.loop-k-preserved
loop-k-preserved c = search (rewritings, rules)
