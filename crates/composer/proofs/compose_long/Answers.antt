-- `composer::compose_long` meets its contract: by what was built, and then by the texts that are left.
use Rattle.composer.proofs.Building.{orders, orders_left}
use borrow.Author.Rules.{rules}
use Rattle.composer.proofs.compose_long.Goals as goal

pub finish-requires : goal.finish-requires
finish-requires c = search (orders, orders_left, rules)

pub returns-in-None-clause-value : goal.returns-in-None-clause-value
returns-in-None-clause-value c = search (orders, orders_left, rules)

pub returns-in-None-clause-out_after : goal.returns-in-None-clause-out_after
returns-in-None-clause-out_after c = search (orders, orders_left, rules)

pub returns-in-Ok-clause-value : goal.returns-in-Ok-clause-value
returns-in-Ok-clause-value c = search (orders, orders_left, rules)

pub returns-in-Ok-clause-out_after : goal.returns-in-Ok-clause-out_after
returns-in-Ok-clause-out_after c = search (orders, orders_left, rules)
