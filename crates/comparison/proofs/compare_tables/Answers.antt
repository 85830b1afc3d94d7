-- 16, or all of them.
use Rattle.std.proofs.Common.{rules}
use Rattle.comparison.proofs.Going.{rooms}
use Rattle.comparison.proofs.compare_tables.Goals as goal

pub put_entries-requires-clause-b_in_bounds : goal.put_entries-requires-clause-b_in_bounds
put_entries-requires-clause-b_in_bounds c = search (rooms, rules)

pub returns-then-most-room-clause-value : goal.returns-then-most-room-clause-value
returns-then-most-room-clause-value c = search (rooms, rules)

pub returns-then-room-entries-clause-value : goal.returns-then-room-entries-clause-value
returns-then-room-entries-clause-value c = search (rooms, rules)

pub put_entries-requires-2-clause-b_in_bounds : goal.put_entries-requires-2-clause-b_in_bounds
put_entries-requires-2-clause-b_in_bounds c = search (rooms, rules)

pub returns-clause-value : goal.returns-clause-value
returns-clause-value c = search (rooms, rules)
