-- `grammar::walk_members` meets its contract: by the kind.
use borrow.Author.Rules.{rules}
use Rattle.grammar.proofs.TableWays.{inside_ways}
use Rattle.grammar.proofs.walk_members.Statement.{statement}
use Rattle.grammar.proofs.walk_members.Tie as tie

pub walk_members_spec : {M : Type 1} → statement M
walk_members_spec = tie.close (tie.spec (λ c. search (inside_ways, rules)) (λ c. search (inside_ways, rules)) (λ c κs. search rules)
    (λ c κs. search (inside_ways, rules)) (λ c. search (inside_ways, rules)) (λ c κs. search (inside_ways, rules)) (λ c. search (inside_ways, rules)))
