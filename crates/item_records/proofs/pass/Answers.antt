-- By the word's slot.
use Rattle.std.proofs.Common.{rules}
use Rattle.item_records.proofs.Counting.{target_ways}
use Rattle.item_records.proofs.pass.Goals as goal

pub returns-then-is_target : goal.returns-then-is_target
returns-then-is_target c = search (target_ways, rules)

pub returns : goal.returns
returns c = search (target_ways, rules)
