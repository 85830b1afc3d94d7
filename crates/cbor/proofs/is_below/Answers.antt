use Rattle.cbor.proofs.OrderWays.{slices_below}
use Rattle.cbor.proofs.is_below.Goals as goal

pub returns : goal.returns
returns c = slices_below c.args.a.now c.args.b.now c.lt.result c.lt.ensures
