-- `text_write::put_whole` meets its contract: the scheme, then the level of one ARI.
use Rattle.text_write.proofs.Forming.{forming}
use borrow.Author.Rules.{rules}
use Rattle.text_write.proofs.put_whole.Statement.{statement}
use Rattle.text_write.proofs.put_whole.Tie as tie

pub put_whole_spec : {M : Type 1} → statement M
put_whole_spec = tie.close (tie.spec (λ c κs. search rules) (λ c κs. search rules) (λ c. search rules) (λ c. search (forming, rules)))
