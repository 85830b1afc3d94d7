-- A text that does not fit into the scratch is longer than t.
use Rattle.text_read.proofs.Settled.{text_confirmed, confirmed_filled}
use Rattle.text_read.proofs.confirm.Goals as goal

pub returns-clause-value : goal.returns-clause-value
returns-clause-value c = text_confirmed _ _ _ _ c.put_text.ensures.value c.requires c.in-Ok.is c.put_text.ensures.out_after c.same-spelled.ensures _ c.hand_over_if.ensures.value

pub returns-clause-out_after : goal.returns-clause-out_after
returns-clause-out_after c = confirmed_filled _ _ _ _ c.put_text.ensures.value c.requires c.in-Ok.is c.put_text.ensures.out_after c.same-spelled.ensures _ _ c.hand_over_if.ensures.out_after
