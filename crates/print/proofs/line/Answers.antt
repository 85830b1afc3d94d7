use Rattle.print.proofs.Lined.{line_put}
use Rattle.print.proofs.line.Goals as goal

pub returns : goal.returns
returns c =
    line_put c.args.s.now c.args.ends c.args.kind c.args.w c.field-a.ensures c.field-b.ensures c.namespace-c.ensures c.put.ensures
