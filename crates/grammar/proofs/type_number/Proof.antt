-- `grammar::type_number` meets its contract: below 22 the number itself, and 0 from there on.
use Rattle.grammar.proofs.TableWays.{a_type, no_type}
use borrow.Author.Rules.{rules}
use Rattle.grammar.proofs.type_number.Statement.{statement}
use Rattle.grammar.proofs.type_number.Tie as tie

pub type_number_spec : {M : Type 1} → statement M
type_number_spec = tie.close (tie.spec (λ c. (search (a_type, rules), search rules)) (λ c. (search (no_type, rules), search rules)))
