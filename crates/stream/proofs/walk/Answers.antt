-- What the walk came to is in the words.
use Rattle.std.proofs.Common.{rules}
use Rattle.stream.proofs.Calling.{outcomes}
use Rattle.stream.proofs.walk.Goals as goal

pub returns-in-Err : goal.returns-in-Err
returns-in-Err c = search (outcomes, rules)

pub returns-in-Ok : goal.returns-in-Ok
returns-in-Ok c = search (outcomes, rules)
