use Rattle.text_write.proofs.Handing.{room_filled}
use borrow.Author.Rules.{rules}
use Rattle.text_write.proofs.hand_over.Goals as goal

pub returns-clause-out_after : goal.returns-clause-out_after
returns-clause-out_after c = search (room_filled, rules)
