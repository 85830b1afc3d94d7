-- `text_read::put_candidate` meets its contract: the walk from behind the scheme over the level of one ARI is the candidate.
use Rattle.text_read.proofs.Settled.{settling}
use borrow.Author.Rules.{rules}
use Rattle.text_read.proofs.put_candidate.Statement.{statement}
use Rattle.text_read.proofs.put_candidate.Tie as tie

pub put_candidate_spec : {M : Type 1} → statement M
put_candidate_spec = tie.close (tie.spec (λ c κs. search rules) (λ c κs. search rules) (λ c. search rules) (λ c. search (settling, rules)))
