-- `grammar::next_slot` meets its contract: its word answers.
use borrow.Author.Rules.{rules}
use Rattle.grammar.proofs.TableWays.{due_beside}
use Rattle.grammar.proofs.next_slot.Statement.{statement}
use Rattle.grammar.proofs.next_slot.Tie as tie

pub next_slot_spec : {M : Type 1} → statement M
next_slot_spec = tie.close (tie.spec (λ c κs. search rules) (λ c κs. search rules) (λ c. search (due_beside, rules)))
