-- `grammar::in_map` meets its contract: a map holds pairs or nothing.
use borrow.Author.Rules.{rules}
use Rattle.grammar.proofs.TableWays.{pairs, no_pairs}
use Rattle.grammar.proofs.in_map.Statement.{statement}
use Rattle.grammar.proofs.in_map.Tie as tie

pub in_map_spec : {M : Type 1} → statement M
in_map_spec = tie.close (tie.spec (λ c κs. search rules) (λ c. search (pairs, rules)) (λ c. search (no_pairs, rules)))
