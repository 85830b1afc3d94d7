-- Whatever float is found from here on is the first of the whole input.
use Rattle.text_write.proofs.Forming.{forming, float_short}
use mathlib.Core.Path.{◌≡◌}
use Rattle.std.specs.Prelude.{None}
use borrow.Author.Rules.{rules}
use Rattle.text_write.proofs.first_float.Goals as goal

pub loop-p-preserved-then-is_whole : goal.loop-p-preserved-then-is_whole
loop-p-preserved-then-is_whole c = search (forming, rules)

pub returns-in_default : goal.returns-in_default
returns-in_default c = search (forming, rules)

pub returns-then-kind-ge-HALF : goal.returns-then-kind-ge-HALF
returns-then-kind-ge-HALF c = search (forming, rules)

pub returns-in_err-end : goal.returns-in_err-end
returns-in_err-end c =
    let e : c.from_residual.result ≡ None = search rules in
    rw e (float_short _ _ c.loop-p.invariant.0 c.loop-p-test.true c.head_again-h.ensures.value c.in-Good.is c.string_end.ensures c.in_err-end.was)

pub loop-p-smaller : goal.loop-p-smaller
loop-p-smaller c = search (forming, rules)

pub loop-p-preserved : goal.loop-p-preserved
loop-p-preserved c = search (forming, rules)

pub returns : goal.returns
returns c = search (forming, rules)
