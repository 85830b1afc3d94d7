-- `reader::spelling_at` meets its contract: the highest bits of the word.
use borrow.Author.Rules.{rules}
use Rattle.grammar.proofs.TableWays.{word_means_lem}
use Rattle.reader.proofs.spelling_at.Statement.{statement}
use Rattle.reader.proofs.spelling_at.Tie as tie

pub spelling_at_spec : {M : Type 1} → statement M
spelling_at_spec = tie.close (tie.spec (λ c. search (word_means_lem, rules)))
