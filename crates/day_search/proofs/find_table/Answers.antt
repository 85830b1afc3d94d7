use borrow.Author.Rules.{rules}
use Rattle.day_search.proofs.Finding.{findings}
use Rattle.day_search.proofs.find_table.Goals as goal

pub loop-k-init : goal.loop-k-init
loop-k-init c = search (findings, rules)

pub loop-k-preserved-in_default : goal.loop-k-preserved-in_default
loop-k-preserved-in_default c = search (findings, rules)

pub loop-k-preserved-then-not-is_sought : goal.loop-k-preserved-then-not-is_sought
loop-k-preserved-then-not-is_sought c = search (findings, rules)

pub overflow_mul-found : goal.overflow_mul-found
overflow_mul-found c = search (findings, rules)

pub overflow_add-base : goal.overflow_add-base
overflow_add-base c = search (findings, rules)

pub overflow_add-base-in-loop-k : goal.overflow_add-base-in-loop-k
overflow_add-base-in-loop-k c = search (findings, rules)

pub loop-k-preserved : goal.loop-k-preserved
loop-k-preserved c = search (findings, rules)

pub returns-clause-finds : goal.returns-clause-finds
returns-clause-finds c = search (findings, rules)
