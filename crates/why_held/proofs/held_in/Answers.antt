-- `why_held::held_in` meets its contract: what release has accepted is accepted again.
use Rattle.reader.proofs.Results.{tabled}
use Rattle.why_held.proofs.held_in.Goals as goal

pub held_table-requires-clause-tabled : goal.held_table-requires-clause-tabled
held_table-requires-clause-tabled c =
    tabled _ _ _ c.keep.ensures.value c.keep.ensures.kept c.keep.auto.entries c.type_inv.s c.requires.s_in_bounds c.in_ok-count.was
