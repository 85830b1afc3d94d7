-- Names are folded, other strings are as they are.
use Rattle.std.proofs.Common.{arith}
use Rattle.std.proofs.lemmas.Grind.{common_steps}
use Rattle.sameness.specs.Code.{same_string}
use Rattle.sameness.proofs.Items.{same_bytes}
use Rattle.sameness.proofs.same_string.Goals as goal

pub returns-then-takes_name : goal.returns-then-takes_name
unfolding same_string
returns-then-takes_name c = grind (arith, common_steps)

pub returns-else-takes_name : goal.returns-else-takes_name
unfolding same_string
returns-else-takes_name c = grind (arith, common_steps, same_bytes)
