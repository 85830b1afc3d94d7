-- The chunks are the rows.
use Rattle.std.proofs.Common.{rules, ◌∙◌}
use borrow.Author.Tests.{tests}
use Rattle.std.proofs.lemmas.Iterator.Search.{any_from_yields_List}
use Rattle.grants.specs.Grants.{clash}
use Rattle.grants.specs.Bytes.{row_by, rows}
use Rattle.grants.proofs.RowWays.{YieldsList-from_rows, some_is}
use Rattle.grants.proofs.has_partner.Goals as goal

pub returns : goal.returns
returns c =
    let p = clash (row_by c.args.subscriber c.args.namespace) in
    any_from_yields_List p _ _ _ c.any.ensures.ran (YieldsList-from_rows c.chunks_exact.result c.args.t.now c.chunks_exact.ensures.rest c.chunks_exact.ensures.size) (λ x b q k. search (rules, tests))
    ∙ some_is p (rows c.args.t.now)
