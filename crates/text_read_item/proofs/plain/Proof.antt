use Rattle.text_read_item.proofs.Found.{found}
use borrow.Author.Rules.{rules}
use Rattle.text_read_item.proofs.plain.Statement.{statement}
use Rattle.text_read_item.proofs.plain.Tie as tie

pub plain_spec : {M : Type 1} → statement M
plain_spec = tie.close (tie.spec (λ c. search (found, rules)))
