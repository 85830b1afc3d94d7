-- `grammar::continues_name` meets its contract: the bits are computed.
use borrow.Author.Rules.{rules}
use Rattle.grammar.proofs.NameWays.{names}
use Rattle.grammar.proofs.continues_name.Statement.{statement}
use Rattle.grammar.proofs.continues_name.Tie as tie

pub continues_name_spec : {M : Type 1} → statement M
continues_name_spec = tie.close (tie.spec (λ c κs. search rules) (λ c κs. search rules) (λ c. search rules) (λ c. search (names, rules)))
