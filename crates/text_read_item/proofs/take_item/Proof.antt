use Rattle.text_read_item.proofs.WordWays.{reading}
use borrow.Author.Rules.{rules}
use Rattle.text_read_item.proofs.take_item.Statement.{statement}
use Rattle.text_read_item.proofs.take_item.Tie as tie

pub take_item_spec : {M : Type 1} → statement M
take_item_spec = tie.close (tie.spec (λ c κs. search (reading, rules)) (λ c κs. search (reading, rules)) (λ c κs. search (reading, rules))
    (λ c κs. search (reading, rules)) (λ c κs. search (reading, rules)) (λ c. search (reading, rules)) (λ c. search (reading, rules)))
