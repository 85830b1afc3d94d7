-- The message stays within the limit.
use Rattle.std.proofs.Common.{rules}
use Rattle.stream.proofs.Calling.{received}
use Rattle.stream.proofs.append.Goals as goal

pub returns-then-end-until : goal.returns-then-end-until
returns-then-end-until c = search (received, rules)

pub returns : goal.returns
returns c = search (received, rules)
