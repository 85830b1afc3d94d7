-- `composer::feed` meets its contract.
use borrow.Author.Rules.{rules}
use Rattle.composer.proofs.Ways.{counting}
use Rattle.composer.proofs.feed.Statement.{statement}
use Rattle.composer.proofs.feed.Tie as tie

pub feed_spec : {M : Type 1} → statement M
feed_spec = tie.close (tie.spec (λ c. (search (counting, rules), search rules)) (λ c. (search (counting, rules), search rules)))
