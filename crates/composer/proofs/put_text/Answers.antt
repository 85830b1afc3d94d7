-- `composer::put_text` meets its contract: the part of the room from the place on is put back.
use Rattle.composer.proofs.Taking.{text_put}
use borrow.Author.Rules.{rules}
use Rattle.composer.proofs.put_text.Goals as goal

pub returns : goal.returns
returns c = search (text_put, rules)
