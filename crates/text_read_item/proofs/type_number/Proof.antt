use Rattle.buffer.proofs.ByteLaws.{all_bytes}
use Rattle.text_read_item.proofs.Found.{type_named}
use borrow.Author.Rules.{rules}
use Rattle.text_read_item.proofs.type_number.Statement.{statement}
use Rattle.text_read_item.proofs.type_number.Tie as tie

returns : tie.Need-returns
returns c =
    type_named _ (all_bytes c.before.before.before.args.u.now c.before.before.shared_slice_known-1.given) c.before.key_of.ensures
    c.type_by_key.ensures

pub type_number_spec : {M : Type 1} → statement M
type_number_spec = tie.close (tie.spec (λ c κs. search rules) (λ c κs. search rules) returns)
