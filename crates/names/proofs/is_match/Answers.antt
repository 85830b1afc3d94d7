use Rattle.names.proofs.Lines.{own_name}
use Rattle.names.proofs.is_match.Goals as goal

pub returns-then-same_name : goal.returns-then-same_name
returns-then-same_name c = own_name c.args.line.now c.up_to-q.ensures c.args.name.now c.same_name.ensures c.if-same_name.true c.is_formed.ensures
