use Rattle.buffer.proofs.Putting.{put_both}
use Rattle.print.proofs.negated.Goals as goal

pub returns : goal.returns
returns c = put_both c.put_all-p.ensures c.negative.ensures
