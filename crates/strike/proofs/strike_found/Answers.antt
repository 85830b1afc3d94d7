-- What is known of the part that was found.
use Rattle.std.proofs.Common.{rules}
use Rattle.strike.proofs.Ways.{strikings}
use Rattle.strike.proofs.strike_found.Goals as goal

pub overflow_add-bytes : goal.overflow_add-bytes
overflow_add-bytes c = search (strikings, rules)

pub overflow_add-bytes-2 : goal.overflow_add-bytes-2
overflow_add-bytes-2 c = search (strikings, rules)

pub overflow_add-bytes-3 : goal.overflow_add-bytes-3
overflow_add-bytes-3 c = search (strikings, rules)

pub returns-then-out-bytes-clause-value : goal.returns-then-out-bytes-clause-value
returns-then-out-bytes-clause-value c = search (strikings, rules)

pub returns-clause-value : goal.returns-clause-value
returns-clause-value c = search (strikings, rules)

pub returns-clause-out_after : goal.returns-clause-out_after
returns-clause-out_after c = search (strikings, rules)
