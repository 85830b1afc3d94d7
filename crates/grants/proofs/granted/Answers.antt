-- The chunks are the rows.
use Rattle.std.proofs.Common.{rules, ◌∙◌}
use borrow.Author.Tests.{tests}
use Rattle.std.proofs.lemmas.Iterator.Search.{any_from_yields_List}
use Rattle.ari.specs.Signed.{signed}
use Rattle.grants.specs.Grants.{holds}
use Rattle.grants.specs.Bytes.{rows}
use Rattle.grants.proofs.RowWays.{YieldsList-from_rows, some_is}
use Rattle.grants.proofs.granted.Goals as goal

pub returns : goal.returns
returns c =
    let p = holds c.args.subscriber (signed c.args.namespace) in
    any_from_yields_List p _ _ _ c.any.ensures.ran (YieldsList-from_rows c.chunks_exact.result c.args.t.now c.chunks_exact.ensures.rest c.chunks_exact.ensures.size) (λ x b q k. search (rules, tests))
    ∙ some_is p (rows c.args.t.now)
