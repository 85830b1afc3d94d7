-- A reference, a container or a literal.
use Rattle.std.proofs.Common.{rules}
use Rattle.item_records.proofs.Entries.{kind_ways}
use Rattle.item_records.proofs.kind_of.Goals as goal

pub returns-then-reference : goal.returns-then-reference
returns-then-reference c = search (kind_ways, rules)

pub returns-in-4 : goal.returns-in-4
returns-in-4 c = search (kind_ways, rules)

pub returns-in-5 : goal.returns-in-5
returns-in-5 c = search (kind_ways, rules)

pub returns-in_default : goal.returns-in_default
returns-in_default c = search (kind_ways, rules)
