-- `item_table::put_plain` meets its contract: past the end nothing is stored.
use mathlib.Core.Path.{sym}
use borrow.Author.Rules.{rules}
use lib.Seq.{set_out}
use Rattle.item_table.proofs.put_plain.Statement.{statement}
use Rattle.item_table.proofs.put_plain.Tie as tie

pub put_plain_spec : {M : Type 1} → statement M
put_plain_spec = tie.close (tie.spec (λ c κs. search rules) (λ c. search rules) (λ c. search rules) (λ c. search rules) (λ c. cc)
    (λ c. sym (set_out _ _ _ c.if-k-entries.false)))
