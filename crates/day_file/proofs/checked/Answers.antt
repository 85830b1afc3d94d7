use mathlib.Core.Path.{ap}
use mathlib.Core.Bool.{not}
use Rattle.day_file.proofs.Ways.{bad_message, this_fails}
use Rattle.day_file.proofs.checked.Goals as goal

pub returns-then-not-message_stands-clause-value : goal.returns-then-not-message_stands-clause-value
returns-then-not-message_stands-clause-value c =
    let fails = this_fails _ _ c.loop-message.invariant c.loop-message-test.true c.message_stands.ensures (ap not c.if-not-message_stands.true) in
    bad_message _ _ _ c.outline.ensures.value c.in_ok-count.was fails c.loop-message-test.true
