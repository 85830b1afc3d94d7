-- One head: the walk's refusal, or the head looked at again.
use borrow.Author.Rules.{rules}
use Rattle.buffer.proofs.ByteLaws.{all_bytes}
use Rattle.cbor.proofs.HeadWays.{kind_known}
use Rattle.reader.proofs.Alone.{alone_ways, no_read, ends_on, ends_in, take_falls, take_rises, alone_bounded}
use Rattle.reader.proofs.take.Goals as goal

pub returns-in_err-end-clause-value : goal.returns-in_err-end-clause-value
returns-in_err-end-clause-value c = search (alone_ways, rules)

pub returns-in_default-clause-value : goal.returns-in_default-clause-value
returns-in_default-clause-value c = absurd (search (no_read, rules))

pub falls-requires : goal.falls-requires
falls-requires c = (search (ends_on, kind_known, rules), search (ends_in, kind_known, rules))

pub returns-then-falls-clause-value : goal.returns-then-falls-clause-value
returns-then-falls-clause-value c = search (take_falls, all_bytes, rules)

pub returns-clause-value : goal.returns-clause-value
returns-clause-value c = search (take_rises, all_bytes, rules)

pub returns-clause-bounded : goal.returns-clause-bounded
returns-clause-bounded c = alone_bounded _ _ _ _ _ _ c.first_head.ensures c.in_ok-end.was c.head_again-h.ensures.value c.in-Good.is (search (kind_known, rules))
