-- `grammar::fits_by` meets its contract: each way through the tests has its law.
use borrow.Author.Rules.{rules}
use Rattle.grammar.proofs.TableWays.{fit_ways}
use Rattle.grammar.proofs.fits_by.Statement.{statement}
use Rattle.grammar.proofs.fits_by.Tie as tie

pub fits_by_spec : {M : Type 1} → statement M
fits_by_spec = tie.close (tie.spec (λ c. search (fit_ways, rules)) (λ c. search rules) (λ c. search rules) (λ c κs. search rules) (λ c. search rules)
    (λ c. search (fit_ways, rules)) (λ c κs. search rules) (λ c. search (fit_ways, rules)))
