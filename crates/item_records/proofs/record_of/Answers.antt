-- The fields of the entry, and the head that stands there.
use Rattle.std.proofs.Common.{rules}
use Rattle.item_records.proofs.Entries.{the_record}
use Rattle.item_records.proofs.record_of.Goals as goal

pub returns : goal.returns
returns c = search (the_record, rules)
