-- `grammar::extra_test` meets its contract: two bits of the word.
use borrow.Author.Rules.{rules}
use Rattle.grammar.proofs.TableWays.{extra_means}
use Rattle.grammar.proofs.extra_test.Statement.{statement}
use Rattle.grammar.proofs.extra_test.Tie as tie

pub extra_test_spec : {M : Type 1} → statement M
extra_test_spec = tie.close (tie.spec (λ c κs. search rules) (λ c. extra_means c.before.args.slot _ c.follow_word.ensures))
