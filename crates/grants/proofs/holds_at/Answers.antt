-- What stands from the place on is a row.
use Rattle.std.proofs.Common.{arith, length}
use Rattle.std.proofs.lemmas.Slice.{between_to_end}
use Rattle.grants.proofs.RowWays.{holds_here}
use Rattle.grants.proofs.holds_at.Goals as goal

pub returns : goal.returns
returns c =
    let t = c.args.t.now in
    let at = c.args.at in
    let e = rw (between_to_end t at (length t) (omega arith)) at c.holds_row.ensures in
    holds_here t at c.args.subscriber c.args.namespace (omega arith) (omega arith) e
