-- By the namespace, and then by the subscriber.
use Rattle.std.proofs.Common.{rules, ◌∙◌}
use borrow.Author.Tests.{ne_eqb}
use Rattle.grants.proofs.RowWays.{its_subscriber, other_namespace}
use Rattle.grants.proofs.clashes.Goals as goal

pub returns-then-load8-namespace : goal.returns-then-load8-namespace
returns-then-load8-namespace c =
    its_subscriber c.args.row.now 0 c.args.subscriber c.args.namespace c.requires.0 c.requires.1 (search rules) c.load8.ensures c.if-load8-namespace.true c.load8-then-load8-namespace.ensures

pub returns-else-load8-namespace : goal.returns-else-load8-namespace
returns-else-load8-namespace c =
    ne_eqb _ _ c.if-load8-namespace.false
    ∙ other_namespace c.args.row.now 0 c.args.subscriber c.args.namespace c.requires.0 c.requires.1 (search rules) c.load8.ensures (search rules) c.if-load8-namespace.false
