-- `item_table::put` meets its contract: past the end nothing is stored.
use mathlib.Core.Path.{sym}
use borrow.Author.Rules.{rules}
use lib.Seq.{set_out}
use Rattle.item_table.proofs.put.Statement.{statement}
use Rattle.item_table.proofs.put.Tie as tie

pub put_spec : {M : Type 1} → statement M
put_spec = tie.close (tie.spec (λ c κs. search rules) (λ c κs. search rules) (λ c. search rules) (λ c. search rules) (λ c. search rules)
    (λ c. rw (← c.before.head_by.ensures, ← c.pack.ensures)) (λ c. sym (set_out _ _ _ c.if-k-entries.false)))
