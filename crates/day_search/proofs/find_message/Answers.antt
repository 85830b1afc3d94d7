use borrow.Author.Rules.{rules}
use Rattle.reader.proofs.Results.{tabled}
use Rattle.day_search.proofs.Finding.{messages}
use Rattle.day_search.proofs.find_message.Goals as goal

pub find_table-requires-clause-tabled : goal.find_table-requires-clause-tabled
find_table-requires-clause-tabled c = search (messages, tabled, rules)

pub returns-in-Ok-clause-finds : goal.returns-in-Ok-clause-finds
returns-in-Ok-clause-finds c = search (messages, rules)

pub returns-in-Err-clause-finds : goal.returns-in-Err-clause-finds
returns-in-Err-clause-finds c = search (messages, rules)
