use Rattle.reader.proofs.Results.{tabled}
use Rattle.month.proofs.Walking.{message_counted}
use Rattle.month.proofs.count_message.Goals as goal

pub count_table-requires-clause-tabled : goal.count_table-requires-clause-tabled
count_table-requires-clause-tabled c = tabled _ _ _ c.keep.ensures.value c.keep.ensures.kept c.keep.auto.entries c.type_inv.s c.requires.s_in_bounds c.in_ok-count.was

pub returns : goal.returns
returns c = message_counted _ _ _ _ _ _ _ c.keep.ensures.value c.type_inv.s c.in_ok-count.was c.with_size-sized.ensures c.count_table.ensures
