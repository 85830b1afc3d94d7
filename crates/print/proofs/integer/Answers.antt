use Rattle.std.proofs.Common.{arith}
use Rattle.print.proofs.IntegerWays.{integer_positive, integer_negative}
use Rattle.print.proofs.integer.Goals as goal

pub returns-then-w-lt9223372036854775808 : goal.returns-then-w-lt9223372036854775808
returns-then-w-lt9223372036854775808 c = integer_positive c.args.w c.if-w-lt9223372036854775808.true c.put_decimal.ensures

pub returns : goal.returns
returns c = integer_negative c.args.w (omega arith) c.negative.ensures
