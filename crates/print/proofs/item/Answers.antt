use Rattle.buffer.proofs.Putting.{put_both}
use Rattle.print.proofs.item.Goals as goal

pub returns : goal.returns
returns c = put_both c.numbers-a.ensures (put_both c.repeat-b.ensures (put_both c.kind-c.ensures c.put.ensures))
