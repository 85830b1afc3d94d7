-- A message: too long, refused, or accepted.
use borrow.Author.Rules.{rules}
use Rattle.buffer.proofs.ByteLaws.{all_bytes}
use Rattle.reader.proofs.Whole.{message_ways}
use Rattle.reader.proofs.Bounds.{bounds}
use Rattle.reader.proofs.read_message.Goals as goal

pub returns-then-limits-s-clause-value : goal.returns-then-limits-s-clause-value
returns-then-limits-s-clause-value c = search (message_ways, rules)

pub walk_version-requires : goal.walk_version-requires
walk_version-requires c = all_bytes c.args.s.now c.type_inv.s

pub returns-in_err-next-clause-value : goal.returns-in_err-next-clause-value
returns-in_err-next-clause-value c = search (message_ways, rules)

pub walk_sets-requires : goal.walk_sets-requires
walk_sets-requires c = (all_bytes c.args.s.now c.type_inv.s, search (bounds, rules), search (bounds, rules))

pub returns-in_err-sets-clause-value : goal.returns-in_err-sets-clause-value
returns-in_err-sets-clause-value c = search (message_ways, rules)

pub returns-clause-value : goal.returns-clause-value
returns-clause-value c = search (message_ways, rules)

pub returns-clause-kept : goal.returns-clause-kept
returns-clause-kept c = search (message_ways, rules)

pub returns-clause-noted : goal.returns-clause-noted
returns-clause-noted c = search (message_ways, rules)
