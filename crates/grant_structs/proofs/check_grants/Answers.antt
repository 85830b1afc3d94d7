-- `grant_structs::check_grants` meets its contract: what is left from row i on decides, until a row has a partner before it.
use Prim.Native.Nat.{◌<◌, ◌≤◌}
use mathlib.Core.Path.{◌≡◌, refl, sym, ◌∙◌}
use native.Mathlib.Numerals.{add-one}
use native.Mathlib.Omega.{arith}
use borrow.Author.Tests.{lt-ltb, le-ltb}
use Rattle.grants.specs.Grants.{clash}
use Rattle.grant_structs.specs.Structs.{grant_of, row_at}
use Rattle.grant_structs.proofs.Searched.{row_tells, at_first, alone, paired, all_seen}
use Rattle.grant_structs.proofs.check_grants.Goals.{else-rows-test, then-rows-test+then-first_row-i}
use Rattle.grant_structs.proofs.check_grants.Goals as goal

pub rows-init : goal.rows-init
rows-init c = (omega arith, refl, at_first c.args.t.now)

pub rows-preserved : goal.rows-preserved
rows-preserved c =
    let ys = c.args.t.now in
    let i = c.rows.i in
    let tells = row_tells (clash (grant_of (row_at ys i))) ys i (omega arith) c.first_row.ensures in
    (omega arith, refl, rw (add-one i) (alone ys i c.rows-test.true c.rows.invariant.2 (sym tells ∙ le-ltb c.first_row.result i c.if-first_row-i.false)))

pub returns : goal.returns
returns c =
    let ys = c.args.t.now in
    let i = c.rows.i in
    elim c.rows-test.branch [
      | else-rows-test w ↦ c.verdict.ensures ∙ all_seen ys i (omega arith) c.rows.invariant.2
      | then-rows-test+then-first_row-i w ↦
          let tells = row_tells (clash (grant_of (row_at ys i))) ys i (omega arith) w.first_row.ensures in
          c.verdict.ensures ∙ paired ys i w.rows-test.true c.rows.invariant.2 (sym tells ∙ lt-ltb w.first_row.result i w.if-first_row-i.true)
    ]
