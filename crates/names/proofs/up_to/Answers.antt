-- A run ends at the byte that is looked for, or with the list.
use Rattle.std.proofs.Common.{◌≡◌, arith, length, ap}
use mathlib.Core.Bool.{not}
use borrow.Author.Tests.{eq-eqb, ne_eqb}
use Rattle.buffer.proofs.RunLaws.{run_on, run_ends, run_out}
use Rattle.names.specs.Names.{other_than}
use Rattle.names.proofs.Lines.{is_other}
use Rattle.names.proofs.up_to.Goals as goal

pub loop-i-preserved : goal.loop-i-preserved
loop-i-preserved c =
    run_on (other_than c.args.stop) c.args.t.now c.args.from c.loop-i.i c.loop-i.invariant (omega arith) (is_other _ _) (ap not (ne_eqb _ _ c.if-t-i.false))

pub returns-then-t-i : goal.returns-then-t-i
returns-then-t-i c =
    run_ends (other_than c.args.stop) c.args.t.now c.args.from c.loop-i.i c.loop-i.invariant (omega arith) (is_other _ _) (ap not (eq-eqb _ _ c.if-t-i.true))

pub returns : goal.returns
returns c =
    let e : c.loop-i.i ≡ length c.args.t.now = omega arith in
    rw e at (run_out (other_than c.args.stop) c.args.t.now c.args.from c.loop-i.i c.loop-i.invariant (omega arith))
