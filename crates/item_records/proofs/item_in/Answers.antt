-- The input's refusal, 17, or the item of the word.
use Rattle.std.proofs.Common.{◌≤◌, ◌<◌, sym, ◌+◌, length, arith, rules}
use Rattle.std.proofs.lemmas.List.{length-take-le}
use Rattle.item_table.specs.Entries.{Tabled}
use Rattle.reader.proofs.Results.{tabled}
use Rattle.item_records.proofs.Counting.{few, targets_first}
use Rattle.item_records.proofs.Entries.{item_refused, no_item, item_is}
use Rattle.item_records.proofs.item_in.Goals as goal

table : (c : goal.Else-count-k) → Tabled c.args.limits c.args.input c.args.s.now c.in_ok-count.count c.keep.new.entries
table c =
    tabled c.args.limits c.args.input c.args.s.now c.keep.ensures.value c.keep.ensures.kept c.keep.auto.entries c.type_inv.s c.requires c.in_ok-count.was

pub returns-in_err-count : goal.returns-in_err-count
returns-in_err-count c = search (item_refused, rules)

pub returns-then-count-k : goal.returns-then-count-k
returns-then-count-k c = no_item c.args.limits c.args.input c.args.s.now c.args.k c.keep.ensures.value c.in_ok-count.was c.if-count-k.true

pub slice_bounds-targets_to-end : goal.slice_bounds-targets_to-end
slice_bounds-targets_to-end c = omega (arith, (table c).room, c.if-count-k.false)

pub slice_bounds-targets_to-end-2 : goal.slice_bounds-targets_to-end-2
slice_bounds-targets_to-end-2 c =
    let h : c.args.k + 1 ≤ length c.keep.new.entries = omega (arith, (table c).room, c.if-count-k.false) in
    sym (length-take-le (c.args.k + 1) c.keep.new.entries h)

pub offset_bounds-entries-k : goal.offset_bounds-entries-k
offset_bounds-entries-k c =
    let t =
    tabled c.args.limits c.args.input c.args.s.now c.keep.ensures.value c.keep.ensures.kept c.keep.auto.entries c.type_inv.s c.requires c.in_ok-count.was in
    record { fits = omega (arith, few t, c.if-count-k.false) }

pub bounds-entries-k : goal.bounds-entries-k
bounds-entries-k c =
    let t =
    tabled c.args.limits c.args.input c.args.s.now c.keep.ensures.value c.keep.ensures.kept c.keep.auto.entries c.type_inv.s c.requires c.in_ok-count.was in
    omega (arith, t.room, c.if-count-k.false)

pub returns : goal.returns
returns c =
    let t =
    tabled c.args.limits c.args.input c.args.s.now c.keep.ensures.value c.keep.ensures.kept c.keep.auto.entries c.type_inv.s c.requires c.in_ok-count.was in
    let h : c.args.k < length c.keep.new.entries = omega (arith, t.room, c.if-count-k.false) in
    item_is c.args.limits c.args.input c.args.s.now c.args.k c.keep.ensures.value c.in_ok-count.was c.if-count-k.false t
    (targets_first c.keep.new.entries c.args.k h c.targets_to-targets.ensures) c.record_of.ensures
