use borrow.Author.Rules.{rules}
use Rattle.day_upgrade.proofs.Rewriting.{upgradings}
use Rattle.day_upgrade.proofs.upgrade_checked.Goals as goal

pub returns-clause-out_after : goal.returns-clause-out_after
returns-clause-out_after c = search (upgradings, rules)
