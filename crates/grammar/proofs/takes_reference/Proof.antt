-- `grammar::takes_reference` meets its contract: a bit of the inner word.
use borrow.Author.Rules.{rules}
use Rattle.grammar.proofs.TableWays.{asks_means}
use Rattle.grammar.proofs.takes_reference.Statement.{statement}
use Rattle.grammar.proofs.takes_reference.Tie as tie

pub takes_reference_spec : {M : Type 1} → statement M
takes_reference_spec = tie.close (tie.spec (λ c κs. search rules) (λ c. asks_means c.before.args.slot _ c.inside_word.ensures))
