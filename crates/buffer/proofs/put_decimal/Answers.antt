use Rattle.buffer.proofs.DecimalWays.{as_decimal}
use Rattle.buffer.proofs.put_decimal.Goals as goal

pub returns-then-n-lt100 : goal.returns-then-n-lt100
returns-then-n-lt100 c = as_decimal c.args.n c.put_few.ensures

pub returns : goal.returns
returns c = as_decimal c.args.n c.put_digits.ensures
