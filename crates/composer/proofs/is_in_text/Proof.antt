-- `composer::is_in_text` meets its contract.
use Rattle.composer.proofs.Ways.{in_text_lem}
use borrow.Author.Rules.{rules}
use Rattle.composer.proofs.is_in_text.Statement.{statement}
use Rattle.composer.proofs.is_in_text.Tie as tie

returns : tie.Need-returns
returns c = search (in_text_lem, rules)

pub is_in_text_spec : {M : Type 1} → statement M
is_in_text_spec = tie.close (tie.spec returns)
