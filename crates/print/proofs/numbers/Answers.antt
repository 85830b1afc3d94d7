use Rattle.buffer.proofs.Putting.{put_both}
use Rattle.print.proofs.numbers.Goals as goal

pub returns : goal.returns
returns c =
    put_both c.field-a.ensures (put_both c.field-b.ensures (put_both c.field-c.ensures (put_both c.field-d.ensures c.target_number.ensures)))
