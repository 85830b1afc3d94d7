use Rattle.buffer.proofs.DecimalWays.{few_digits}
use Rattle.buffer.proofs.Decimals.{few_two}
use Rattle.buffer.proofs.put_few.Goals as goal

pub returns-then-n-lt10 : goal.returns-then-n-lt10
returns-then-n-lt10 c = few_digits c.args.f c.args.n c.if-n-lt10.true c.digit.ensures c.put.ensures

pub returns : goal.returns
returns c = few_two c.args.f c.args.n c.requires.1 c.if-n-lt10.false c.requires.0 c.put_two.ensures
