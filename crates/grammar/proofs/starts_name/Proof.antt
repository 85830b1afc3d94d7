-- `grammar::starts_name` meets its contract: the bits are computed.
use borrow.Author.Rules.{rules}
use Rattle.grammar.proofs.NameWays.{names}
use Rattle.grammar.proofs.starts_name.Statement.{statement}
use Rattle.grammar.proofs.starts_name.Tie as tie

pub starts_name_spec : {M : Type 1} → statement M
starts_name_spec = tie.close (tie.spec (λ c κs. search rules) (λ c. search (names, rules)) (λ c. search (names, rules)) (λ c. search rules)
    (λ c. search (names, rules)))
