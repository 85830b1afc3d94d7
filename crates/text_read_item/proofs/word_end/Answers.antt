use mathlib.Core.Path.{◌≡◌}
use native.Mathlib.Omega.{arith}
use lib.ListN.{length}
use Rattle.buffer.proofs.RunLaws.{run_out}
use Rattle.text.specs.Parse.{in_word}
use Rattle.text_read_item.proofs.Leaves.{word_ends, word_on}
use Rattle.text_read_item.proofs.word_end.Goals as goal

pub returns-then-is_end : goal.returns-then-is_end
returns-then-is_end c = word_ends _ _ _ c.loop-i.invariant c.loop-i-test.true c.is_end.ensures c.if-is_end.true

pub loop-i-preserved : goal.loop-i-preserved
loop-i-preserved c = word_on _ _ _ c.loop-i.invariant c.loop-i-test.true c.is_end.ensures c.if-is_end.false

pub returns : goal.returns
returns c =
    let e : c.loop-i.i ≡ length c.args.t.now = omega (arith, c.loop-i.invariant.inside) in
    rw e at (run_out in_word _ _ _ c.loop-i.invariant c.loop-i-test.false)
