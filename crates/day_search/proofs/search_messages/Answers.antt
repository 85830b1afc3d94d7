use borrow.Author.Rules.{rules}
use Rattle.day_search.proofs.Searching.{rooms}
use Rattle.day_search.proofs.search_messages.Goals as goal

pub returns-then-file-out-clause-out_after : goal.returns-then-file-out-clause-out_after
returns-then-file-out-clause-out_after c = search (rooms, rules)

pub returns-clause-out_after : goal.returns-clause-out_after
returns-clause-out_after c = search (rooms, rules)
