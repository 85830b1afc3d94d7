use Rattle.text_read_item.proofs.Found.{found}
use borrow.Author.Rules.{rules}
use Rattle.text_read_item.proofs.group.Statement.{statement}
use Rattle.text_read_item.proofs.group.Tie as tie

pub group_spec : {M : Type 1} → statement M
group_spec = tie.close (tie.spec (λ c κs. search rules) (λ c κs. search rules) (λ c κs. search rules) (λ c. search (found, rules)))
