-- The refusals in their order; else each table is that of its message.
use Rattle.std.proofs.Common.{rules, sym}
use Rattle.std.proofs.lemmas.List.{length-take-le}
use Rattle.comparison.proofs.Going.{first_refused, second_refused, both_accepted, table_kept, items_kept}
use Rattle.comparison.proofs.compare_in.Goals as goal

pub returns-in_err-count-clause-value : goal.returns-in_err-count-clause-value
returns-in_err-count-clause-value c = search (first_refused, rules)

pub returns-in_err-other-clause-value : goal.returns-in_err-other-clause-value
returns-in_err-other-clause-value c = search (second_refused, rules)

pub slice_bounds-compare_tables-end : goal.slice_bounds-compare_tables-end
slice_bounds-compare_tables-end c = items_kept c.args.limits c.args.a.now c.keep.ensures.value c.keep.ensures.kept c.keep.auto.entries c.type_inv.a c.requires.a_in_bounds c.in_ok-count.was

pub slice_bounds-compare_tables-end-2 : goal.slice_bounds-compare_tables-end-2
slice_bounds-compare_tables-end-2 c = sym (length-take-le c.in_ok-count.count c.keep.new.entries (items_kept c.args.limits c.args.a.now c.keep.ensures.value c.keep.ensures.kept c.keep.auto.entries c.type_inv.a c.requires.a_in_bounds c.in_ok-count.was))

pub slice_bounds-compare_tables-end-3 : goal.slice_bounds-compare_tables-end-3
slice_bounds-compare_tables-end-3 c =
    items_kept c.args.limits c.args.b.now c.keep-2.ensures.value c.keep-2.ensures.kept c.keep-2.auto.entries c.type_inv.b
    (c.requires.b_in_bounds, c.requires.a_in_bounds.1, c.requires.a_in_bounds.2) c.in_ok-other.was

pub slice_bounds-compare_tables-end-4 : goal.slice_bounds-compare_tables-end-4
slice_bounds-compare_tables-end-4 c = sym (length-take-le c.in_ok-other.other c.keep-2.new.entries (items_kept c.args.limits c.args.b.now c.keep-2.ensures.value c.keep-2.ensures.kept c.keep-2.auto.entries c.type_inv.b
    (c.requires.b_in_bounds, c.requires.a_in_bounds.1, c.requires.a_in_bounds.2) c.in_ok-other.was))

pub compare_tables-requires : goal.compare_tables-requires
compare_tables-requires c = (
  table_kept c.args.limits c.args.a.now c.keep.ensures.value c.keep.ensures.kept c.keep.auto.entries c.type_inv.a c.requires.a_in_bounds c.in_ok-count.was,
  table_kept c.args.limits c.args.b.now c.keep-2.ensures.value c.keep-2.ensures.kept c.keep-2.auto.entries c.type_inv.b
      (c.requires.b_in_bounds, c.requires.a_in_bounds.1, c.requires.a_in_bounds.2) c.in_ok-other.was,
)

pub returns-clause-value : goal.returns-clause-value
returns-clause-value c = search (both_accepted, rules)
