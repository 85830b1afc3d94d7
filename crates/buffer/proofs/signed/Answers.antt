use Rattle.std.proofs.Common.{arith}
use Rattle.std.proofs.lemmas.Grind.{common_steps}
use Rattle.buffer.proofs.DecimalWays.{unsigned_none, signed_none, signed_plain}
use Rattle.buffer.proofs.signed.Goals as goal
use Rattle.buffer.proofs.signed.Goals.{in_default-via-then-t-lt1, in_default-via-else-t-lt1+in_default-1}

pub returns-in_ok-unsigned-in_default : goal.returns-in_ok-unsigned-in_default
returns-in_ok-unsigned-in_default c =
    elim c.in_default.branch [
      | in_default-via-then-t-lt1 w ↦ grind (arith, unsigned_none, signed_none, common_steps)
      | in_default-via-else-t-lt1+in_default-1 w ↦ grind (arith, common_steps, signed_plain)
    ]
