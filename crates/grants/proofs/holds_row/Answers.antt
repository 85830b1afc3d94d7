-- By the subscriber, and then by the namespace.
use Rattle.std.proofs.Common.{rules, ◌∙◌}
use borrow.Author.Tests.{ne_eqb}
use Rattle.grants.proofs.RowWays.{its_namespace, other_subscriber}
use Rattle.grants.proofs.holds_row.Goals as goal

pub returns-then-load8-subscriber : goal.returns-then-load8-subscriber
returns-then-load8-subscriber c =
    its_namespace c.args.row.now 0 c.args.subscriber c.args.namespace c.requires c.load8.ensures c.if-load8-subscriber.true c.load8-then-load8-subscriber.ensures
    (search rules)
    (search rules)

pub returns-else-load8-subscriber : goal.returns-else-load8-subscriber
returns-else-load8-subscriber c =
    ne_eqb _ _ c.if-load8-subscriber.false
    ∙ other_subscriber c.args.row.now 0 c.args.subscriber c.args.namespace c.requires c.load8.ensures c.if-load8-subscriber.false
