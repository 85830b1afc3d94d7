use Rattle.buffer.proofs.Putting.{put_turn}
use Rattle.buffer.proofs.put_all.Goals as goal

pub loop-x-preserved : goal.loop-x-preserved
loop-x-preserved c = put_turn c.args.s.now c.loop-x.x-index c.loop-x.invariant c.loop-x-test.true c.put-r.ensures
