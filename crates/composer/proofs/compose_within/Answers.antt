-- `composer::compose_within` meets its contract: the nonce is judged first.
use Rattle.composer.proofs.Building.{nonced, nonced_left}
use borrow.Author.Rules.{rules}
use Rattle.composer.proofs.compose_within.Goals as goal

pub returns-then-not-is_nonce-clause-value : goal.returns-then-not-is_nonce-clause-value
returns-then-not-is_nonce-clause-value c = search (nonced, nonced_left, rules)

pub returns-then-not-is_nonce-clause-out_after : goal.returns-then-not-is_nonce-clause-out_after
returns-then-not-is_nonce-clause-out_after c = search (nonced, nonced_left, rules)

pub returns-then-nonce-lt-SHORT-clause-value : goal.returns-then-nonce-lt-SHORT-clause-value
returns-then-nonce-lt-SHORT-clause-value c = search (nonced, nonced_left, rules)

pub returns-then-nonce-lt-SHORT-clause-out_after : goal.returns-then-nonce-lt-SHORT-clause-out_after
returns-then-nonce-lt-SHORT-clause-out_after c = search (nonced, nonced_left, rules)

pub returns-clause-value : goal.returns-clause-value
returns-clause-value c = search (nonced, nonced_left, rules)

pub returns-clause-out_after : goal.returns-clause-out_after
returns-clause-out_after c = search (nonced, nonced_left, rules)
