-- `grant_structs::release_entries` meets its contract: an entry's rows are looked through, and counted, until one is not granted.
use Prim.Native.Nat.{◌<◌, ◌≤◌}
use mathlib.Core.Path.{◌≡◌, refl, sym, ◌∙◌}
use native.Mathlib.Numerals.{add-one}
use native.Mathlib.Omega.{arith}
use Rattle.grant_structs.specs.Structs.{grants, granted_at, cost_at}
use Rattle.grant_structs.proofs.Entries.{is_granted, not_granted, costs, passed, held, all_passed}
use Rattle.grant_structs.proofs.release_entries.Goals.{else-entries-test, then-entries-test+then-row-rows}
use Rattle.grant_structs.proofs.release_entries.Goals as goal

pub entries-preserved : goal.entries-preserved
entries-preserved c =
    let ys = c.args.t.now in
    let s = c.args.subscriber in
    let l = c.args.list.now in
    let i = c.entries.i in
    let k = c.rows_for-rows.ensures in
    let g = c.wanted.ensures in
    let r = c.first_row-row.ensures in
    (omega arith, rw (add-one i) (passed (granted_at (grants ys) s l) (cost_at (grants ys) s l) c.args.n c.entries.invariant.1 c.entries-test.true (costs ys s l i k g r c.compared_rows.ensures) c.saturating_add-compared.ensures (is_granted ys s l i k g r c.if-row-rows.false)))

pub returns : goal.returns
returns c =
    let ys = c.args.t.now in
    let s = c.args.subscriber in
    let l = c.args.list.now in
    let i = c.entries.i in
    let ok = granted_at (grants ys) s l in
    let cost = cost_at (grants ys) s l in
    elim c.entries-test.branch [
      | else-entries-test w ↦ c.judged.ensures ∙ rw w.compared-is (all_passed ok cost c.args.n c.entries.invariant.1 (omega arith))
      | then-entries-test+then-row-rows w ↦
          let k = w.rows_for-rows.ensures in
          let g = w.wanted.ensures in
          let r = w.first_row-row.ensures in
          c.judged.ensures ∙ rw w.compared-is (held ok cost c.args.n c.entries.invariant.1 w.entries-test.true (costs ys s l i k g r w.compared_rows.ensures) w.saturating_add-compared.ensures (not_granted ys s l i k g r w.if-row-rows.true))
    ]
