-- `composer::build` meets its contract: the front, and the targets behind it.
use Rattle.composer.proofs.Building.{built}
use borrow.Author.Rules.{rules}
use Rattle.composer.proofs.build.Goals as goal

pub returns-then-room-many : goal.returns-then-room-many
returns-then-room-many c = search (built, rules)

pub returns-then-room-q : goal.returns-then-room-q
returns-then-room-q c = search (built, rules)

pub put_targets-requires : goal.put_targets-requires
put_targets-requires c = search (built, rules)

pub returns : goal.returns
returns c = search (built, rules)
