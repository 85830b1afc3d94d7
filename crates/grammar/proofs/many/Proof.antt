-- `grammar::many` meets its contract: nothing of none, or one and the others.
use borrow.Author.Rules.{rules}
use Rattle.grammar.proofs.TableWays.{no_more, one_more}
use Rattle.grammar.proofs.many.Statement.{statement}
use Rattle.grammar.proofs.many.Tie as tie

pub many_spec : {M : Type 1} → statement M
many_spec = tie.close (tie.spec (λ c. search (no_more, rules)) (λ c. search rules) (λ c. search (one_more, rules)))
