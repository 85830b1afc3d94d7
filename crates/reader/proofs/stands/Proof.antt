-- `reader::stands` meets its contract: the place, the count and the byte, one after the other.
use borrow.Author.Rules.{rules}
use Rattle.reader.proofs.Fixed.{standing}
use Rattle.reader.proofs.stands.Statement.{statement}
use Rattle.reader.proofs.stands.Tie as tie

pub stands_spec : {M : Type 1} → statement M
stands_spec = tie.close (tie.spec (λ c. search (standing, rules)) (λ c. search (standing, rules)) (λ c. search rules) (λ c. search (standing, rules)))
