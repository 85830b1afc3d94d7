-- The front of the fragment fills the message up.
use Rattle.std.proofs.Common.{rules}
use Rattle.stream.proofs.Calling.{received}
use Rattle.stream.proofs.fill.Goals as goal

pub returns : goal.returns
returns c = search (received, rules)
