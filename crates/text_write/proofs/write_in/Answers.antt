-- The scratch has the text whole.
use Rattle.text_write.proofs.Handing.{front_of, answers_text, fills_room}
use Rattle.text_write.proofs.write_in.Goals as goal

pub returns-clause-value : goal.returns-clause-value
returns-clause-value c = answers_text _ _ c.type_inv.s c.requires (front_of _ _ _ c.put_text.ensures.value c.in_ok-length.was c.put_text.ensures.out_after) _ c.hand_over.ensures.value

pub returns-clause-out_after : goal.returns-clause-out_after
returns-clause-out_after c = fills_room _ _ c.type_inv.s c.requires (front_of _ _ _ c.put_text.ensures.value c.in_ok-length.was c.put_text.ensures.out_after) _ _ c.hand_over.ensures.out_after
