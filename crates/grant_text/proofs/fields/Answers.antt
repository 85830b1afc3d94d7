use Rattle.std.proofs.Common.{arith}
use Rattle.grant_text.proofs.LineWays.{fields_blank, fields_more, fields_two}
use Rattle.grant_text.proofs.fields.Goals as goal

pub returns-then-t-a : goal.returns-then-t-a
returns-then-t-a c = fields_blank c.args.t.now c.behind-a.result c.behind-a.ensures (omega arith)

pub returns-then-e-t : goal.returns-then-e-t
returns-then-e-t c =
    fields_more c.args.t.now c.behind-a.result c.behind-a.ensures (omega arith) c.behind-b.ensures c.behind-c.ensures c.behind-d.ensures c.behind-e.ensures
    (omega arith)

pub returns : goal.returns
returns c =
    fields_two c.args.t.now c.behind-a.result c.behind-a.ensures (omega arith) c.behind-b.ensures c.behind-c.ensures c.behind-d.ensures c.behind-e.ensures
    (omega arith) c.unsigned-s.ensures c.signed-n.ensures c.grant.ensures
