use Rattle.std.proofs.Common.{arith}
use Rattle.buffer.proofs.DecimalWays.{unsigned_one, unsigned_many}
use Rattle.buffer.proofs.unsigned.Goals as goal
use Rattle.buffer.proofs.unsigned.Goals.{in_default-via-then-t-lt2, in_default-via-else-t-lt2+in_default-1}

pub returns-in_default : goal.returns-in_default
returns-in_default c = elim c.in_default.branch [ in_default-via-then-t-lt2 w ↦ grind (arith, unsigned_one) | in_default-via-else-t-lt2+in_default-1 w ↦ grind (arith, unsigned_many) ]
