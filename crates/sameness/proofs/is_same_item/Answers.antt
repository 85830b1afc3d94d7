-- Of one slot, and alike.
use Rattle.std.proofs.Common.{arith}
use Rattle.std.proofs.lemmas.Grind.{common_steps}
use Rattle.sameness.specs.Code.{same_item_by}
use Rattle.sameness.proofs.is_same_item.Goals as goal

pub returns-then-p-q : goal.returns-then-p-q
unfolding same_item_by
returns-then-p-q c = grind (arith, common_steps)

pub returns-else-p-q : goal.returns-else-p-q
unfolding same_item_by
returns-else-p-q c = grind (arith, common_steps)
