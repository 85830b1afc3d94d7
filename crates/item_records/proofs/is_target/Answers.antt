-- One of two slots.
use Rattle.std.proofs.Common.{rules}
use Rattle.item_records.proofs.Counting.{target_ways}
use Rattle.item_records.proofs.is_target.Goals as goal

pub returns-then-slot-eq-TARGET : goal.returns-then-slot-eq-TARGET
returns-then-slot-eq-TARGET c = search (target_ways, rules)

pub returns-else-slot-eq-TARGET : goal.returns-else-slot-eq-TARGET
returns-else-slot-eq-TARGET c = search (target_ways, rules)
