use borrow.Author.Rules.{rules}
use Rattle.day_file.proofs.Adding.{adds}
use Rattle.day_file.proofs.add_accepted.Goals as goal

pub returns-clause-out_after : goal.returns-clause-out_after
returns-clause-out_after c = search (adds, rules)
