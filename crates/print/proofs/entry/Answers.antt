use Rattle.std.proofs.Common.{arith}
use Rattle.print.proofs.Lined.{entry_none, entry_past, entry_put}
use Rattle.print.proofs.entry.Goals as goal

pub returns-then-listing-lt24 : goal.returns-then-listing-lt24
returns-then-listing-lt24 c = entry_none c.args.s.now c.args.listing.now c.args.from (omega arith)

pub returns-then-listing-from : goal.returns-then-listing-from
returns-then-listing-from c = entry_past c.args.s.now c.args.listing.now c.args.from (omega arith) (omega arith)

pub returns : goal.returns
returns c =
    entry_put c.args.s.now c.args.listing.now c.args.from (omega arith) (omega arith) c.load8-ends.ensures c.load8-kind.ensures c.load8-w.ensures
    c.line.ensures
