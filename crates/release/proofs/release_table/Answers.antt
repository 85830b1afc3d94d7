-- `release::release_table` meets its contract.
use Prim.Native.Nat.{ℕ}
use mathlib.Core.Path.{◌≡◌, refl, ◌∙◌}
use Rattle.std.specs.Prelude.{Option}
use Rattle.std.specs.declared.option.Option.TheVariants.{None, Some}
use Rattle.std.specs.declared.result.Result.{Result}
use Rattle.std.specs.declared.result.Result.TheVariants.{Ok}
use native.Mathlib.Omega.{arith}
use Rattle.ari.specs.declared.Refusal.{Refusal}
use Rattle.release.specs.declared.Released.{Released}
use Rattle.release.specs.declared.Released.TheVariants.{No}
use Rattle.release.proofs.Search.{passed_none, passed_over, started, rows_passed, next_row, no_row, a_row, no_number, not_found, found, all_passed}
use Rattle.release.proofs.release_table.Goals.{in-To+in-Some+else-grants-at-lt16+else-others-gt0+then-holds_at, in_default}
use Rattle.release.proofs.release_table.Goals.{else-entries-test, then-entries-test+in-To+in_default-sought, then-entries-test+in-To+in-Some+then-grants-at-lt16}
use Rattle.release.proofs.release_table.Goals as goal

-- the entry that holds the message, where one does
one_held : {h : Option ℕ} {i k : ℕ} → h ≡ Some i → h ≡ Some k → i ≡ k
one_held e f = cc

not_held : {h : Option ℕ} {k : ℕ} → h ≡ None → h ≡ Some k → ⊥
not_held e f = let z : ◌≡◌ {A = ℕ} 0 1 = cc in omega arith

-- the no with this entry and this count
no_with : {i k a e : ℕ} {x : Result Released Refusal} → i ≡ k → a ≡ e → Ok (No k e) ≡ x → Ok (No i a) ≡ x
no_with p q f = rw (p, q) f

pub entries-init : goal.entries-init
entries-init c =
    let a = c.args in
    record { fewer = omega arith; passed = passed_none c.requires a.grants.now a.published.now a.own.now a.subscriber; last = tt; none_held = refl }

pub rows-init : goal.rows-init
rows-init c = let a = c.args in record {
  same_count = refl;
  none_held = c.entries.invariant.none_held;
  before = started a.grants.now a.subscriber _ c.entries.invariant.last c.start-at.ensures;
}

pub rows-preserved-then-others-gt0 : goal.rows-preserved-then-others-gt0
rows-preserved-then-others-gt0 c =
    let r = c.rows.invariant in
    record { same_count = r.same_count; none_held = r.none_held; before = rows_passed r.before c.others_from-others.ensures }

pub rows-preserved : goal.rows-preserved
rows-preserved c =
    let r = c.rows.invariant in
    record { same_count = r.same_count; none_held = r.none_held; before = next_row r.before c.if-grants-at-lt16.false c.holds_at.ensures c.if-holds_at.false }

pub entries-preserved : goal.entries-preserved
entries-preserved c =
    let a = c.args in
    let e = c.entries.invariant in
    elim c.match-reference_at.branch [
      | in-To+in-Some+else-grants-at-lt16+else-others-gt0+then-holds_at w ↦
          let r = w.rows.invariant in
          let row = a_row r.before w.if-grants-at-lt16.false w.holds_at.ensures w.if-holds_at.true in
          record {
            fewer = omega arith;
            passed = rw (w.entry-is, w.compared-is, w.last-is)
                (found c.requires a.grants.now a.published.now a.own.now a.subscriber e.passed c.entries-test.true c.reference_at.ensures w.in-To.is w.sought.ensures
                (r.same_count ∙ w.settled-compared.ensures) w.in-Some.is row);
            last = rw w.last-is r.before;
            none_held = w.held-is ∙ r.none_held;
          }
      | in_default w ↦ record {
        fewer = omega arith;
        passed = rw (w.entry-is, w.compared-is, w.last-is)
            (passed_over c.requires a.grants.now a.published.now a.own.now a.subscriber e.passed c.entries-test.true c.reference_at.ensures w.in_default.is);
        last = rw w.last-is e.last;
        none_held = w.held-is ∙ e.none_held;
      }
    ]

pub returns-in-Some-held : goal.returns-in-Some-held
returns-in-Some-held c =
    let a = c.args in
    let e = c.entries.invariant in
    elim c.entries-test.branch [
      | else-entries-test w ↦ absurd (not_held (w.held-is ∙ e.none_held) c.in-Some-held.is)
      | then-entries-test+in-To+in_default-sought w ↦ no_with (one_held c.in-Some-held.is w.held-is) w.compared-is
          (no_number c.requires a.grants.now a.published.now a.own.now a.subscriber e.passed w.entries-test.true w.reference_at.ensures w.in-To.is w.sought.ensures
          w.settled-compared.ensures w.in_default-sought.is)
      | then-entries-test+in-To+in-Some+then-grants-at-lt16 w ↦
          let r = w.rows.invariant in
          no_with (one_held c.in-Some-held.is w.held-is) refl
          (not_found c.requires a.grants.now a.published.now a.own.now a.subscriber e.passed w.entries-test.true w.reference_at.ensures w.in-To.is w.sought.ensures
          (r.same_count ∙ w.settled-compared.ensures) w.in-Some.is (no_row r.before w.if-grants-at-lt16.true) (w.compared-is ∙ w.saturating_add-compared.ensures))
    ]

pub returns : goal.returns
returns c =
    let a = c.args in
    elim c.entries-test.branch [
      | else-entries-test w ↦
          all_passed c.requires a.grants.now a.published.now a.own.now a.subscriber c.entries.invariant.passed w.entries-test.false c.entries.auto.item-index-end
          (rw (← w.compared-is) c.settled.ensures)
      | then-entries-test+in-To+in_default-sought w ↦ absurd (not_held c.in_default-held.is w.held-is)
      | then-entries-test+in-To+in-Some+then-grants-at-lt16 w ↦ absurd (not_held c.in_default-held.is w.held-is)
    ]
