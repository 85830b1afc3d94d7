-- The refusals in their order; else each table is that of its ARI.
use Rattle.std.proofs.Common.{rules, sym}
use Rattle.std.proofs.lemmas.List.{length-take-le}
use Rattle.ari.specs.declared.Input.TheVariants.{Single}
use Rattle.item_table.specs.Entries.{Tabled}
use Rattle.reader.proofs.Results.{tabled}
use Rattle.sameness.proofs.Going.{first_refused, second_refused, counts_differ, counts_agree}
use Rattle.sameness.proofs.same_in.Goals as goal

first : (c : goal.Else-count-other) → Tabled c.args.limits Single c.args.a.now c.in_ok-count.count c.keep.new.entries
first c = tabled c.args.limits Single c.args.a.now c.keep.ensures.value c.keep.ensures.kept c.keep.auto.entries c.type_inv.a c.requires.a_in_bounds c.in_ok-count.was

second : (c : goal.Else-count-other) → Tabled c.args.limits Single c.args.b.now c.in_ok-count.count c.keep-2.new.entries
second c =
    rw c.if-count-other.false
    (tabled c.args.limits Single c.args.b.now c.keep-2.ensures.value c.keep-2.ensures.kept c.keep-2.auto.entries c.type_inv.b
    (c.requires.b_in_bounds, c.requires.a_in_bounds.1, c.requires.a_in_bounds.2) c.in_ok-other.was)

pub returns-in_err-count : goal.returns-in_err-count
returns-in_err-count c = search (rules, first_refused)

pub returns-in_err-other : goal.returns-in_err-other
returns-in_err-other c = search (rules, second_refused)

pub returns-then-count-other : goal.returns-then-count-other
returns-then-count-other c =
    counts_differ c.args.limits c.args.a.now c.args.b.now c.keep.ensures.value c.in_ok-count.was c.keep-2.ensures.value c.in_ok-other.was
    (tabled c.args.limits Single c.args.a.now c.keep.ensures.value c.keep.ensures.kept c.keep.auto.entries c.type_inv.a c.requires.a_in_bounds c.in_ok-count.was)
    (tabled c.args.limits Single c.args.b.now c.keep-2.ensures.value c.keep-2.ensures.kept c.keep-2.auto.entries c.type_inv.b
    (c.requires.b_in_bounds, c.requires.a_in_bounds.1, c.requires.a_in_bounds.2) c.in_ok-other.was)
    c.if-count-other.true

pub slice_bounds-all_same-end : goal.slice_bounds-all_same-end
slice_bounds-all_same-end c = (first c).room

pub slice_bounds-all_same-end-2 : goal.slice_bounds-all_same-end-2
slice_bounds-all_same-end-2 c = sym (length-take-le c.in_ok-count.count c.keep.new.entries (first c).room)

pub slice_bounds-all_same-end-3 : goal.slice_bounds-all_same-end-3
slice_bounds-all_same-end-3 c = (second c).room

pub slice_bounds-all_same-end-4 : goal.slice_bounds-all_same-end-4
slice_bounds-all_same-end-4 c = sym (length-take-le c.in_ok-count.count c.keep-2.new.entries (second c).room)

pub returns : goal.returns
returns c = search (counts_agree, tabled, rules)
