use Rattle.buffer.proofs.Putting.{put_both}
use Rattle.print.proofs.refused.Goals as goal

pub returns : goal.returns
returns c = rw (← c.number.ensures) (put_both c.put_all-a.ensures (put_both c.field-b.ensures (put_both c.put_decimal-c.ensures c.put.ensures)))
