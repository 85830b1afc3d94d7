-- `text_write::write_capped` meets its contract: what is too long is refused as its front is, and otherwise no text is longer than the scratch.
use Rattle.text_write.proofs.Handing.{at_once, at_once_filled, front_answers, front_fills}
use borrow.Author.Rules.{rules}
use Rattle.text_write.proofs.+write_capped.Goals as goal

pub returns-then-enough-s-clause-value : goal.returns-then-enough-s-clause-value
returns-then-enough-s-clause-value t c = search (front_answers, rules)

pub returns-then-enough-s-clause-out_after : goal.returns-then-enough-s-clause-out_after
returns-then-enough-s-clause-out_after t c = search (front_fills, rules)

pub returns-then-longest-out-clause-value : goal.returns-then-longest-out-clause-value
returns-then-longest-out-clause-value t c = search (at_once, rules)

pub returns-then-longest-out-clause-out_after : goal.returns-then-longest-out-clause-out_after
returns-then-longest-out-clause-out_after t c = search (at_once_filled, rules)
