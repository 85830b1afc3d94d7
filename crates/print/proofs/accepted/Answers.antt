use Rattle.buffer.proofs.Putting.{put_both}
use Rattle.print.proofs.accepted.Goals as goal

pub returns : goal.returns
returns c = put_both c.numbered-a.ensures c.put.ensures
