-- `grammar::if_set` meets its contract: a number stays or is gone.
use borrow.Author.Rules.{rules}
use Rattle.grammar.proofs.TableWays.{gone, stays}
use Rattle.grammar.proofs.if_set.Statement.{statement}
use Rattle.grammar.proofs.if_set.Tie as tie

pub if_set_spec : {M : Type 1} → statement M
if_set_spec = tie.close (tie.spec (λ c. (search (gone, rules), search rules)) (λ c. (search (stays, rules), search rules)))
