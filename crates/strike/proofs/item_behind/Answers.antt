-- What is left of the table counts the rest.
use Rattle.std.proofs.Common.{rules}
use Rattle.strike.proofs.Ways.{behinds, behind_end}
use Rattle.strike.proofs.item_behind.Goals as goal

pub loop-k-init : goal.loop-k-init
loop-k-init c = search (behinds, rules)

pub returns-then-place-item_of : goal.returns-then-place-item_of
returns-then-place-item_of c = search (behinds, rules)

pub loop-k-preserved : goal.loop-k-preserved
loop-k-preserved c = search (behinds, rules)

pub returns : goal.returns
returns c = behind_end c.requires.tabled c.loop-k.invariant c.loop-k-test.false (c.loop-k.auto.k-end c.requires.from_le_count)
