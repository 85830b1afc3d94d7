-- `grammar::next_by` meets its contract: the bits of the word say what follows.
use Rattle.grammar.proofs.TableWays.{none_left, next_due}
use borrow.Author.Rules.{rules}
use Rattle.grammar.proofs.next_by.Statement.{statement}
use Rattle.grammar.proofs.next_by.Tie as tie

pub next_by_spec : {M : Type 1} → statement M
next_by_spec = tie.close (tie.spec (λ c κs. search rules) (λ c. search (none_left, rules)) (λ c κs. search rules) (λ c κs. search rules)
    (λ c. search rules)
    (λ c. next_due _ _ _ c.before.before.before.if_set-rest.ensures (search rules) c.before.type_number.ensures c.if_set.ensures))
