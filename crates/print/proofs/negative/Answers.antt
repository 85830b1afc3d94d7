use Rattle.print.proofs.Numerals.{put_least}
use Rattle.print.proofs.Putting.{put_then}
use Rattle.print.proofs.negative.Goals as goal

pub returns-then-n-eq18446744073709551615 : goal.returns-then-n-eq18446744073709551615
returns-then-n-eq18446744073709551615 c = put_least c.if-n-eq18446744073709551615.true c.put_all.ensures

pub returns : goal.returns
returns c = put_then c.put-p.ensures c.put_decimal.ensures
