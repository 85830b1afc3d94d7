-- `composer::finish` meets its contract: test by test.
use Rattle.composer.proofs.Finishing.{answered, left}
use borrow.Author.Rules.{rules}
use Rattle.composer.proofs.finish.Goals as goal

pub returns-then-most-b-clause-value : goal.returns-then-most-b-clause-value
returns-then-most-b-clause-value c = search (answered, left, rules)

pub returns-then-most-b-clause-out_after : goal.returns-then-most-b-clause-out_after
returns-then-most-b-clause-out_after c = search (answered, left, rules)

pub returns-then-most-count-clause-value : goal.returns-then-most-count-clause-value
returns-then-most-count-clause-value c = search (answered, left, rules)

pub returns-then-most-count-clause-out_after : goal.returns-then-most-count-clause-out_after
returns-then-most-count-clause-out_after c = search (answered, left, rules)

pub returns-in-Err-clause-value : goal.returns-in-Err-clause-value
returns-in-Err-clause-value c = search (answered, left, rules)

pub returns-in-Err-clause-out_after : goal.returns-in-Err-clause-out_after
returns-in-Err-clause-out_after c = search (answered, left, rules)

pub returns-in-Ok-clause-value : goal.returns-in-Ok-clause-value
returns-in-Ok-clause-value c = search (answered, left, rules)

pub returns-in-Ok-clause-out_after : goal.returns-in-Ok-clause-out_after
returns-in-Ok-clause-out_after c = search (answered, left, rules)
