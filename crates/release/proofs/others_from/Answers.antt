-- `release::others_from` meets its contract: one row, or it and the three behind it.
use Rattle.release.specs.Rows.{none, one, four}
use Rattle.release.proofs.others_from.Goals as goal

pub returns-then-not-is_other : goal.returns-then-not-is_other
returns-then-not-is_other c = none

pub returns-then-is_other-3 : goal.returns-then-is_other-3
returns-then-is_other-3 c =
    four (c.is_other.ensures c.if-not-is_other.false) (c.is_other-then-grants-at-ge64.ensures c.if-is_other.true)
    (c.is_other-then-is_other.ensures c.if-is_other-2.true) (c.is_other-then-is_other-2.ensures c.if-is_other-3.true)

pub returns : goal.returns
returns c = one (c.is_other.ensures c.if-not-is_other.false)
