-- A single ARI: too long, refused, with bytes behind it, or accepted.
use borrow.Author.Rules.{rules}
use Rattle.buffer.proofs.ByteLaws.{all_bytes}
use Rattle.reader.proofs.Whole.{single_ways}
use Rattle.reader.proofs.read_single.Goals as goal

pub returns-then-limits-s-clause-value : goal.returns-then-limits-s-clause-value
returns-then-limits-s-clause-value c = search (single_ways, rules)

pub walk_level-requires : goal.walk_level-requires
walk_level-requires c = (all_bytes c.args.s.now c.type_inv.s, search rules, search rules, search rules, search rules)

pub returns-in_err-next-clause-value : goal.returns-in_err-next-clause-value
returns-in_err-next-clause-value c = search (single_ways, rules)

pub returns-then-next-s-clause-value : goal.returns-then-next-s-clause-value
returns-then-next-s-clause-value c = search (single_ways, rules)

pub returns-clause-value : goal.returns-clause-value
returns-clause-value c = search (single_ways, rules)

pub returns-clause-kept : goal.returns-clause-kept
returns-clause-kept c = search (single_ways, rules)

pub returns-clause-noted : goal.returns-clause-noted
returns-clause-noted c = search (single_ways, rules)
