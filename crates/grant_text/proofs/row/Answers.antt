use Rattle.grant_text.proofs.LineWays.{row_is}
use Rattle.grant_text.proofs.row.Goals as goal

pub returns : goal.returns
returns c = row_is c.args.line.now c.behind-end.ensures c.fields.ensures
