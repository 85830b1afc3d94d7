-- The sets of a message: each by the law of its turn.
use mathlib.Core.Path.{◌≡◌}
use borrow.Author.Rules.{rules}
use Rattle.std.specs.declared.result.Result.TheVariants.{Err}
use Rattle.reader.proofs.Bounds.{bounds, read_past, falls_to}
use Rattle.reader.proofs.Whole.{sets_again, sets_halt, sets_done}
use Rattle.reader.proofs.walk_sets.Goals as goal

pub returns-in_err-next : goal.returns-in_err-next
returns-in_err-next c =
    let e : c.from_residual.result ≡ Err c.in_err-next.field-0.0 = search rules in
    rw e (sets_halt _ _ _ _ _ _ _ _ _ c.loop-p.invariant.0 c.loop-p-test.true c.walk_set.ensures c.in_err-next.was)

pub loop-p-smaller : goal.loop-p-smaller
loop-p-smaller c = search (falls_to, read_past, bounds, rules)

pub loop-p-preserved : goal.loop-p-preserved
loop-p-preserved c =
    (sets_again _ _ _ _ _ _ _ _ _ c.loop-p.invariant.0 c.loop-p-test.true c.walk_set.ensures c.in_ok-next.was, search (bounds, rules), search (bounds, rules), search rules, search rules)

pub returns : goal.returns
returns c = search (sets_done, rules)
