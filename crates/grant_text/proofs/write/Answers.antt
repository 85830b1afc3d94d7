use Rattle.std.proofs.Common.{arith}
use Rattle.grant_text.proofs.Whole.{written_all}
use Rattle.grant_text.proofs.write.Goals as goal

pub returns : goal.returns
returns c = written_all c.loop-from.invariant (omega arith)
