-- The published list, then the own one.
use Rattle.std.proofs.Common.{rules}
use Rattle.names.proofs.Lines.{published_wrong, own_wrong}
use Rattle.names.proofs.check_names.Goals as goal

pub returns-in-Some : goal.returns-in-Some
returns-in-Some c = published_wrong c.args.published.now c.args.own.now c.first_wrong.ensures c.in-Some.is (search rules)

pub returns-in-Some-first_wrong : goal.returns-in-Some-first_wrong
returns-in-Some-first_wrong c =
    own_wrong c.args.published.now c.args.own.now c.first_wrong.ensures c.in_default.is c.first_wrong-2.ensures c.in-Some-first_wrong.is c.saturating_add.ensures
