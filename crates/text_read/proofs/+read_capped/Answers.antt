-- `text_read::read_capped` meets its contract: test 1, and then a candidate that leaves room is whole.
use Rattle.text_read.proofs.Settled.{short_answers, short_fills, long_refused, long_kept, front_answers, front_fills}
use borrow.Author.Rules.{rules}
use Rattle.text_read.proofs.+read_capped.Goals as goal

pub returns-then-enough-t-clause-value : goal.returns-then-enough-t-clause-value
returns-then-enough-t-clause-value t c = search (front_answers, rules)

pub returns-then-enough-t-clause-out_after : goal.returns-then-enough-t-clause-out_after
returns-then-enough-t-clause-out_after t c = search (front_fills, rules)

pub returns-then-limits-t-clause-value : goal.returns-then-limits-t-clause-value
returns-then-limits-t-clause-value t c = search (long_refused, rules)

pub returns-then-limits-t-clause-out_after : goal.returns-then-limits-t-clause-out_after
returns-then-limits-t-clause-out_after t c = search (long_kept, rules)

pub returns-then-size-lt128-clause-value : goal.returns-then-size-lt128-clause-value
returns-then-size-lt128-clause-value t c = search (short_answers, rules)

pub returns-then-size-lt128-clause-out_after : goal.returns-then-size-lt128-clause-out_after
returns-then-size-lt128-clause-out_after t c = search (short_fills, rules)
