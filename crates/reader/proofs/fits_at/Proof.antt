-- `reader::fits_at` meets its contract: the word answers.
use borrow.Author.Rules.{rules}
use Rattle.grammar.proofs.TableWays.{word_means_lem}
use Rattle.reader.proofs.fits_at.Statement.{statement}
use Rattle.reader.proofs.fits_at.Tie as tie

pub fits_at_spec : {M : Type 1} → statement M
fits_at_spec = tie.close (tie.spec (λ c κs. search rules) (λ c. search (word_means_lem, rules)))
