-- `comparison::compare_at` meets its contract.
use mathlib.Core.Path.{ap}
use mathlib.Core.Bool.{not}
use native.Mathlib.Omega.{arith}
use borrow.Author.Rules.{rules}
use Rattle.comparison.proofs.Walking.{differ_here, walked_on, walks}
use Rattle.comparison.proofs.compare_at.Goals as goal

pub loop-p-init : goal.loop-p-init
loop-p-init c = search (walks, rules)

pub returns-then-end-begins_at : goal.returns-then-end-begins_at
returns-then-end-begins_at c = search (walks, rules)

pub bounds-ys-q : goal.bounds-ys-q
bounds-ys-q c = search (walks, rules)

pub returns-then-not-is_alike : goal.returns-then-not-is_alike
returns-then-not-is_alike c =
    differ_here c.loop-p.invariant.1 c.loop-p-test.true c.begins_at.ensures c.if-end-begins_at.false c.is_alike.ensures (ap not c.if-not-is_alike.true)

pub loop-p-preserved : goal.loop-p-preserved
loop-p-preserved c =
    (omega arith, walked_on c.loop-p.invariant.1 c.loop-p-test.true c.begins_at.ensures c.if-end-begins_at.false c.is_alike.ensures (ap not c.if-not-is_alike.false))

pub returns : goal.returns
returns c = search (walks, rules)
