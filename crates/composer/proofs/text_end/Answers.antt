-- A run, byte by byte.
use mathlib.Core.Path.{◌≡◌}
use native.Mathlib.Omega.{arith}
use lib.ListN.{length}
use Rattle.buffer.proofs.RunLaws.{run_ends, run_on, run_out}
use Rattle.composer.specs.Code.{in_text}
use Rattle.composer.proofs.text_end.Goals as goal

pub returns-then-not-is_in_text : goal.returns-then-not-is_in_text
returns-then-not-is_in_text c = run_ends in_text _ _ _ c.loop-i.invariant c.loop-i-test.true c.is_in_text.ensures c.if-not-is_in_text.true

pub loop-i-preserved : goal.loop-i-preserved
loop-i-preserved c = run_on in_text _ _ _ c.loop-i.invariant c.loop-i-test.true c.is_in_text.ensures c.if-not-is_in_text.false

pub returns : goal.returns
returns c =
    let e : c.loop-i.i ≡ length c.args.texts.now = omega (arith, c.loop-i.invariant.inside) in
    rw e at (run_out in_text _ _ _ c.loop-i.invariant c.loop-i-test.false)
