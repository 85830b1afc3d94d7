use Rattle.print.proofs.Putting.{put_again, put_no_times}
use Rattle.print.proofs.repeat.Goals as goal

pub loop-init : goal.loop-init
loop-init c = put_no_times c.args.out.now c.args.text.now c.args.at

pub loop-preserved : goal.loop-preserved
loop-preserved c = put_again c.args.text.now c.loop.counter c.loop.invariant c.put_all-p.ensures
