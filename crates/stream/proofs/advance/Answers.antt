-- Each way that a turn ends.
use Rattle.std.proofs.Common.{rules}
use Rattle.buffer.proofs.ByteLaws.{all_bytes}
use Rattle.stream.proofs.Going.{turned, ends, turns}
use Rattle.stream.proofs.advance.Goals as goal

pub loop-here-init : goal.loop-here-init
loop-here-init c = search (turns, rules)

pub returns-then-limits-here : goal.returns-then-limits-here
returns-then-limits-here c = search (turns, rules)

pub returns-in-Err : goal.returns-in-Err
returns-in-Err c = search (turns, rules)

pub loop-here-preserved : goal.loop-here-preserved
loop-here-preserved c =
    turned c.loop-here.invariant c.requires.0 c.loop-here-test.true c.due-f.ensures c.take_due.ensures.value (all_bytes c.args.s.now c.type_inv.s) c.in-Ok.is
    c.take_due.ensures.taken_due c.requires.3 c.settle-opened.ensures.value c.settle-opened.ensures.state_after

pub returns : goal.returns
returns c = ends c.loop-here.invariant c.requires.0 c.loop-here-test.false c.requires.1
