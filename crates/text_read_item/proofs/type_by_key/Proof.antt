use Rattle.text.specs.Text.{names}
use Rattle.text_read_item.specs.Words.{horner, key_of}
use Rattle.text_read_item.proofs.Found.{key_by, key_none}
use borrow.Author.Rules.{rules}
use Rattle.text_read_item.proofs.type_by_key.Statement.{statement}
use Rattle.text_read_item.proofs.type_by_key.Tie as tie

pub type_by_key_spec : {M : Type 1} → statement M
unfolding names key_of horner
type_by_key_spec = tie.close (tie.spec (λ c. search (key_by, rules)) (λ c. search (key_by, rules)) (λ c. search (key_by, rules))
    (λ c. search (key_by, rules)) (λ c. search (key_by, rules)) (λ c. search (key_by, rules)) (λ c. search (key_by, rules))
    (λ c. search (key_by, rules)) (λ c. search (key_by, rules)) (λ c. search (key_by, rules)) (λ c. search (key_by, rules))
    (λ c. search (key_by, rules)) (λ c. search (key_by, rules)) (λ c. search (key_by, rules)) (λ c. search (key_by, rules))
    (λ c. search (key_by, rules)) (λ c. search (key_by, rules)) (λ c. search (key_by, rules)) (λ c. search (key_by, rules))
    (λ c. search (key_none, rules)))
