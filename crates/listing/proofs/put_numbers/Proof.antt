-- `listing::put_numbers` meets its contract: three numbers one behind the other.
use Rattle.listing.proofs.Stored.{entry_back}
use borrow.Author.Rules.{rules}
use Rattle.listing.proofs.put_numbers.Statement.{statement}
use Rattle.listing.proofs.put_numbers.Tie as tie

returns : tie.Need-returns
returns c =
    let third = c.before.before in
    let second = third.before.before.before in
    let first = second.before.before.before.before in
    let asked = first.before.before.before.before in
    let a = asked.args in
    entry_back a.out.now a.at a.ends a.kind a.word asked.requires first.store8.ensures second.store8-2.ensures third.store8-3.ensures

pub put_numbers_spec : {M : Type 1} → statement M
put_numbers_spec = tie.close (tie.spec (λ c. search rules) (λ c. search rules) (λ c. search rules) (λ c. search rules) (λ c κs. search rules)
    (λ c κs. search rules) (λ c κs. search rules) (λ c. search rules) returns)
