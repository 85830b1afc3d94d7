use borrow.Author.Rules.{rules}
use Rattle.day_file.proofs.Ways.{tests}
use Rattle.day_file.proofs.entry_stands.Goals as goal

pub returns : goal.returns
returns c = search (tests, rules)
