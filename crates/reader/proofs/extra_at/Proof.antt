-- `reader::extra_at` meets its contract: two bits of the word.
use borrow.Author.Rules.{rules}
use Rattle.grammar.proofs.TableWays.{word_means_lem}
use Rattle.reader.proofs.extra_at.Statement.{statement}
use Rattle.reader.proofs.extra_at.Tie as tie

pub extra_at_spec : {M : Type 1} → statement M
extra_at_spec = tie.close (tie.spec (λ c. search (word_means_lem, rules)))
