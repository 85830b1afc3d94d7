-- What refuses the first bytes stands, or that they are too many.
use Rattle.std.proofs.Common.{rules}
use Rattle.stream.proofs.Calling.{outcomes}
use Rattle.stream.proofs.overflow.Goals as goal

pub returns-in-Err : goal.returns-in-Err
returns-in-Err c = search (outcomes, rules)

pub returns-in-Ok : goal.returns-in-Ok
returns-in-Ok c = search (outcomes, rules)
