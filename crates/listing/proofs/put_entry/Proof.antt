-- `listing::put_entry` meets its contract: its ends as one number, its namespace as two.
use borrow.Author.Rules.{rules}
use Rattle.listing.proofs.put_entry.Statement.{statement}
use Rattle.listing.proofs.put_entry.Tie as tie

pub put_entry_spec : {M : Type 1} → statement M
put_entry_spec = tie.close (tie.spec (λ c. search rules) (λ c. search rules) (λ c κs. search rules) (λ c κs. search rules) (λ c κs. search rules)
    (λ c. search rules) (λ c. cc))
