-- `release::is_other` meets its contract: where it says yes, the row has another subscriber.
use mathlib.Core.Path.{sym, ◌∙◌}
use native.Mathlib.Omega.{arith}
use borrow.Author.Tests.{eqb-false, not-true}
use Rattle.std.proofs.lemmas.Bool.{leb-true}
use Rattle.release.proofs.Search.{other_row}
use Rattle.release.proofs.is_other.Goals.{then-grants-ge16, else-grants-ge16}
use Rattle.release.proofs.is_other.Goals as goal

pub returns-then-at-grants : goal.returns-then-at-grants
returns-then-at-grants c =
    elim c.if-grants-ge16.branch [
      | then-grants-ge16 w ↦ λ e.
          (let z = leb-true _ _ (sym w.value-is ∙ c.if-at-grants.true) in
          other_row _ _ _ (omega arith) c.load8.ensures (eqb-false _ _ (not-true _ e)))
      | else-grants-ge16 w ↦ (let z = leb-true _ _ (sym w.value-is ∙ c.if-at-grants.true) in absurd (omega arith))
    ]
