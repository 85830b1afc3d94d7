-- A run ends at a byte of another class, or with the text.
use Rattle.std.proofs.Common.{◌≡◌, arith, length}
use Rattle.buffer.proofs.RunLaws.{run_on, run_ends, run_out}
use Rattle.grant_text.specs.Rows.{is_of}
use Rattle.grant_text.proofs.behind.Goals as goal

pub loop-i-preserved : goal.loop-i-preserved
loop-i-preserved c = run_on (is_of c.args.class) c.args.t.now c.args.from c.loop-i.i c.loop-i.invariant (omega arith) c.is.ensures c.if-not-is.false

pub returns-then-not-is : goal.returns-then-not-is
returns-then-not-is c = run_ends (is_of c.args.class) c.args.t.now c.args.from c.loop-i.i c.loop-i.invariant (omega arith) c.is.ensures c.if-not-is.true

pub returns : goal.returns
returns c =
    let e : c.loop-i.i ≡ length c.args.t.now = omega arith in
    rw e at (run_out (is_of c.args.class) c.args.t.now c.args.from c.loop-i.i c.loop-i.invariant (omega arith))
