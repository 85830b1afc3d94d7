-- `comparison::put_entries` meets its contract.
use Prim.Native.Nat.{◌<◌}
use mathlib.Core.Logic.{◌⊎◌, inl, inr}
use native.Mathlib.Omega.{arith}
use lib.ListN.{length}
use borrow.Author.Rules.{rules}
use Rattle.comparison.proofs.Going.{gone_none, gone_first, gone_second, gone_few, gone_size, gone_less, gone_on, gone_tally, gone_room, one_at_most}
use Rattle.comparison.proofs.put_entries.Goals.{then-i-xs, else-i-xs+then-j-ys}
use Rattle.comparison.proofs.put_entries.Goals as goal

pub loop-i-init : goal.loop-i-init
loop-i-init c = search (gone_none, rules)

pub entry_at-e-requires-clause-table : goal.entry_at-e-requires-clause-table
entry_at-e-requires-clause-table c = gone_first c.loop-i.invariant

pub entry_at-e-requires-clause-table_2 : goal.entry_at-e-requires-clause-table_2
entry_at-e-requires-clause-table_2 c = gone_second c.loop-i.invariant

pub overflow_add-different : goal.overflow_add-different
overflow_add-different c =
    record { fits = omega (arith, gone_few c.loop-i.invariant, one_at_most c.entry_at-e.result, c.is_different-different.ensures) }

pub loop-i-smaller : goal.loop-i-smaller
loop-i-smaller c =
    let reached : (c.loop-i.i < length c.args.xs.now) ⊎ (c.loop-i.j < length c.args.ys.now) =
    elim c.if-i-xs.branch [ then-i-xs w ↦ inl w.if-i-xs.true | else-i-xs+then-j-ys w ↦ inr w.if-j-ys.true ] in
    gone_less c.loop-i.invariant reached c.target_behind-i.ensures c.target_behind-j.ensures

pub loop-i-preserved : goal.loop-i-preserved
loop-i-preserved c =
    let reached : (c.loop-i.i < length c.args.xs.now) ⊎ (c.loop-i.j < length c.args.ys.now) =
    elim c.if-i-xs.branch [ then-i-xs w ↦ inl w.if-i-xs.true | else-i-xs+then-j-ys w ↦ inr w.if-j-ys.true ] in
    gone_on c.loop-i.invariant reached c.target_behind-i.ensures c.target_behind-j.ensures c.entry_at-e.ensures c.put_entry-p.ensures
    c.is_different-different.ensures

pub returns-clause-value : goal.returns-clause-value
returns-clause-value c = gone_tally c.loop-i.invariant c.if-i-xs.false c.if-j-ys.false

pub returns-clause-out_after : goal.returns-clause-out_after
returns-clause-out_after c = gone_room c.loop-i.invariant c.if-i-xs.false c.if-j-ys.false
