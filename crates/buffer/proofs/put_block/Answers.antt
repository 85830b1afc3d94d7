use Rattle.std.proofs.Common.{◌≡◌, length, min, ◌-◌, arith}
use Rattle.buffer.proofs.Putting.{put_out, put_next, put_most, in_text_lem, in_room}
use Rattle.buffer.proofs.put_block.Goals as goal

pub returns-then-out-at : goal.returns-then-out-at
returns-then-out-at c = put_out c.args.out.now c.args.at c.args.s.now c.if-out-at.true

pub loop-i-preserved : goal.loop-i-preserved
loop-i-preserved c =
    let e : c.min-n.result ≡ min (length c.args.s.now) (length c.args.out.now - c.args.at) = omega (arith, c.min-n.ensures) in
    put_next c.args.s.now c.loop-i.i c.loop-i.invariant (in_text_lem c.min-n.result c.args.s.now c.args.out.now c.args.at e c.loop-i.i c.loop-i-test.true)
    (in_room c.min-n.result c.args.s.now c.args.out.now c.args.at e c.loop-i.i c.loop-i-test.true)

pub returns : goal.returns
returns c =
    let e : c.min-n.result ≡ min (length c.args.s.now) (length c.args.out.now - c.args.at) = omega (arith, c.min-n.ensures) in
    put_most c.args.s.now c.min-n.result c.loop-i.i c.loop-i.invariant c.loop-i.auto.i-end (omega (arith, c.loop-i-test.false)) (omega (arith, c.if-out-at.false)) e
