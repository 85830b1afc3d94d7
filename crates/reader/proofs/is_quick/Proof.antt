-- `reader::is_quick` meets its contract: where it says yes, all three tests have.
use mathlib.Core.Path.{sym, ◌∙◌}
use mathlib.Core.Bool.{true≢false}
use borrow.Author.Rules.{rules}
use Rattle.reader.proofs.is_quick.Statement.{statement}
use Rattle.reader.proofs.is_quick.Tie as tie

pub is_quick_spec : {M : Type 1} → statement M
is_quick_spec = tie.close (tie.spec (λ c. λ e. absurd (true≢false (sym e))) (λ c. λ e. absurd (true≢false (sym e))) (λ c. search rules)
    (λ c κs. search rules) (λ c. λ e. record { there = search rules; few = search rules; taken = sym c.takes_number.ensures ∙ e }))
