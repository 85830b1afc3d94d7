-- Release: entries by rows. The idea: the answer for the whole listing is that for the entries from item k on, counted from the i that passed; and
-- while one entry's rows are searched, that for the rows from `at` on.
use Prim.Native.Nat.{ℕ, ◌+◌, ◌-◌, ◌*◌, ◌%◌, ◌/◌, ◌<◌, ◌≤◌, min}
use mathlib.Core.Path.{◌≡◌, refl, sym, ◌∙◌, ap}
use mathlib.Core.Bool.{Bool, true, false, not, cond, true≢false}
use mathlib.Core.List.{List, map}
use native.Mathlib.Omega.{arith}
use native.Mathlib.Numerals.{add-one}
use lib.ListN.{length, get_or, take, drop, length-drop}
use Rattle.std.proofs.lemmas.List.{get_or-take}
use lib.Dec.{eqb}
use lib.Seq.{drop-drop, length-take-le}
use borrow.Author.Tests.{eq-eqb, ne_eqb, eqb-true, not-true, not-false}
use Rattle.ari.specs.declared.Limits.{Limits}
use Rattle.ari.specs.declared.Input.TheVariants.{Message}
use Rattle.ari.specs.Reader.{read}
use Rattle.ari.specs.Signed.{signed, word}
use Rattle.ari.specs.Listing.{Space, number, name, relative, Entry}
use Rattle.ari.proofs.Named.{InRange}
use Rattle.item_table.specs.Entries.{Tabled}
use Rattle.std.specs.declared.result.Result.{Result}
use Rattle.std.specs.declared.result.Result.TheVariants.{Ok, Err}
use Rattle.std.specs.Prelude.{Option, IfSome}
use Rattle.std.specs.declared.option.Option.TheVariants.{None, Some}
use Rattle.ari.specs.declared.Refusal.{Refusal}
use Rattle.ari.specs.Refusals.{refused}
use Rattle.ari.specs.Reader.{refuse, accept}
use Rattle.ari.specs.Reader as reader
use Rattle.reader.specs.Results.{result_of}
use Rattle.reader.proofs.Results.{is_accepted, is_refused}
use Rattle.listing.specs.declared.Reference.{Reference}
use Rattle.listing.specs.declared.Reference.TheVariants.{Nothing, To}
use Rattle.listing.specs.declared.Namespace.{Namespace}
use Rattle.listing.specs.Entries.{reference_from, space_code}
use Rattle.listing.proofs.Table.{listing_from, Here, from_start, from_end, no_reference, here}
use Rattle.names.specs.declared.Names.{Names}
use Rattle.names.specs.declared.Names.TheVariants as lists
use Rattle.names.specs.Names.{check_names}
use Rattle.names.specs.Translated.{stands_for, translate, translated, stands_by}
use Rattle.names.proofs.Translation.{stands_in_range, stands_code}
use Rattle.grants.specs.Grants.{Grant, some, holds, granted}
use Rattle.grants.specs.Bytes.{row_of, holds_at, rows, ragged}
use Rattle.ari.proofs.SignedLaws.{signed_word}
use Rattle.buffer.specs.Bytes.{load_at}
use Rattle.grants.proofs.RowWays.{holds_here, other_subscriber, rows_more, rows_end, row_holds, some_end, some_here, some_behind}
use Rattle.release.specs.declared.LastRow.{LastRow}
use Rattle.release.specs.Rows.{sought_by, start_by, Other, Others, none, one, four, last_rows, Before, NoRow, RowAt}
use Rattle.release.specs.declared.Released.{Released}
use Rattle.release.specs.declared.Released.TheVariants.{Yes, No}
use Rattle.release.specs.Release.{Release, yes, no, judge_from, judge, release, after_lists, release_bytes}
use Rattle.release.specs.Compared.{rows_up_to, compared_for, compared_over, within64, compared, counted, counted_bytes, judged_over}

-- what a namespace stands for, as the code has it
module _ (t : List Grant) (s : ℕ) where
  number_granted : (x : Space) → InRange x → {w : ℕ} → sought_by (space_code x) ≡ Some w → granted t s x ≡ some (holds s (signed w)) t
  number_granted (number z) h {w} e = let q : word z ≡ w = cc in rw (← q, signed_word z h)
  number_granted (name p n) h e = cc
  number_granted relative h e = cc

  never_granted : (x : Space) → sought_by (space_code x) ≡ None → granted t s x ≡ false
  never_granted (number z) e = cc
  never_granted (name p n) e = refl
  never_granted relative e = refl

  -- and what it costs
  number_compared : (x : Space) → InRange x → {w : ℕ} → sought_by (space_code x) ≡ Some w → compared_for t s x ≡ rows_up_to (holds s (signed w)) t
  number_compared (number z) h {w} e = let q : word z ≡ w = cc in rw (← q, signed_word z h)
  number_compared (name p n) h e = cc
  number_compared relative h e = cc

  never_compared : (x : Space) → sought_by (space_code x) ≡ None → compared_for t s x ≡ 0
  never_compared (number z) e = cc
  never_compared (name p n) e = refl
  never_compared relative e = refl

-- the rows compared, at the place from which rows decide
module _ (q : Grant → Bool) (b : List ℕ) (at : ℕ) (e : 16 * rows_up_to q (rows b) ≡ at + 16 * rows_up_to q (rows (drop at b))) where
  up_to_end : length b - at < 16 → 16 * rows_up_to q (rows b) ≡ at
  up_to_end h = e ∙ rw (rows_end (drop at b) (rw length-drop h)) (omega arith)

  module _ (h : 16 ≤ length b - at) {x : Bool} (f : x ≡ q (row_of (drop at b))) where
    up_to_here : x ≡ true → 16 * rows_up_to q (rows b) ≡ at + 16
    up_to_here g = e ∙ rw (rows_more (drop at b) (rw length-drop h), ← f, g) (omega arith)

    up_to_behind : x ≡ false → 16 * rows_up_to q (rows b) ≡ at + 16 + 16 * rows_up_to q (rows (drop (at + 16) b))
    up_to_behind g = e ∙ rw (rows_more (drop at b) (rw length-drop h), ← f, g, drop-drop 16 at b) (omega arith)

-- 64 bits of a sum, one part after the other
sum_within : (a x : ℕ) {c : ℕ} → c ≡ min a 18446744073709551615 → within64 (a + x) ≡ within64 (c + x)
sum_within a x e = rw e (omega arith)

module _ (t : List ℕ) (s : ℕ) where
  before_none : (w : ℕ) → Before t s w 0
  before_none w = record { inside = omega arith; from_here = refl; behind = omega arith }

  -- where the search for a word starts that may be the one found last
  pub started : (last : Option LastRow) → IfSome last (λ r. Before t s r.word r.place) → {w x : ℕ} → x ≡ start_by w last → Before t s w x
  started None p {w} e = rw e (before_none w)
  started (Some r) p {w} {x} e = go (eqb r.word w) refl e
    where
      go : (y : Bool) → eqb r.word w ≡ y → x ≡ cond y r.place 0 → Before t s w x
      go true f g = rw (g, ← eqb-true r.word w f) p
      go false f g = rw g (before_none w)

-- the rows from a place on that grant a number or do not
module _ {t : List ℕ} {s w at : ℕ} (p : Before t s w at) where
  pub no_row : length t - at < 16 → NoRow t s w
  no_row h =
      let all = holds s (signed w) in record {
        not_granted = sym (some_end all t at p.from_here h);
        compared = omega (arith, up_to_end all t at p.behind h, p.inside);
      }

  module _ (h : 16 ≤ length t - at) {y : Bool} (f : y ≡ holds_at t at s w) where
    abbrev row : y ≡ holds s (signed w) (row_of (drop at t))
    row = row_holds t at s w h f

    pub a_row : y ≡ true → RowAt t s w at
    a_row g =
        let this = holds s (signed w) in record {
          granted = sym (some_here this t at p.from_here h row g);
          compared = omega (arith, up_to_here this t at p.behind h row g);
          before = p;
        }

    pub next_row : y ≡ false → Before t s w (at + 16)
    next_row g =
        let this = holds s (signed w) in record {
          inside = omega arith;
          from_here = some_behind this t at p.from_here h row g;
          behind = up_to_behind this t at p.behind h row g;
        }

-- rows of other subscribers
pub other_row : (t : List ℕ) (at s : ℕ) → at + 16 ≤ length t → {x : ℕ} → x ≡ load_at 8 t at → (x ≡ s → ⊥) → Other t at s
other_row t at s h e m = record {
  there = h;
  grants_none = λ n. sym (holds_here t at s n (omega arith) (omega arith) (other_subscriber t at s n h e m));
}

pub rows_passed : {t : List ℕ} {s w at n : ℕ} → Before t s w at → Others t at s n → Before t s w (at + n)
rows_passed {t} {s} {w} {at} p o = go o
  where
    past : {x y : ℕ} → Before t s w x → Other t x s → x + 16 ≡ y → Before t s w y
    past p o e = rw e at (next_row p (let l = o.there in omega arith) (sym (o.grants_none w)) refl)

    go : {n : ℕ} → Others t at s n → Before t s w (at + n)
    go none = let e : at ≡ at + 0 = omega arith in rw e at p
    go (one o) = past p o refl
    go (four o o₁ o₂ o₃) =
        past {x = at + 48} {y = at + 64} (past {x = at + 32} {y = at + 48} (past {x = at + 16} {y = at + 32} (past p o refl) o₁ (omega arith)) o₂ (omega arith)) o₃ (omega arith)

-- The entries before item k are granted, i of them, and as far as 64 bits go, c rows were compared for them.
pub record Passed (b t published own : List ℕ) (s i k c : ℕ) : Type 0 where
  pub so_far : judge_from (granted (rows t) s) 0 (translated published own b) ≡ judge_from (granted (rows t) s) i (map (translate published own) (listing_from b k))
  pub tally : within64 (compared_over (rows t) s (translated published own b)) ≡ within64 (c + compared_over (rows t) s (map (translate published own) (listing_from b k)))

-- an answer with its count
judged_over_lem : (t : List Grant) (s : ℕ) (es : List Entry) (r : Release) (c : ℕ) → judge_from (granted t s) 0 es ≡ r → within64 (compared_over t s es) ≡ c → counted r c ≡ judged_over t s es
judged_over_lem t s es r c e f = sym (rw (e, f))

module _ {m : Limits} {b ws : List ℕ} {n : ℕ} (c : Tabled m Message b n ws) (t published own : List ℕ) (s : ℕ) where
  pub passed_none : Passed b t published own s 0 0 0
  passed_none = record { so_far = rw (from_start c); tally = rw (from_start c) (omega arith) }

  module _ {i k d : ℕ} (p : Passed b t published own s i k d) where
    pub all_passed : length (take n ws) ≤ k → k ≤ length (take n ws) → {e : ℕ} → e ≡ min d 18446744073709551615 → Ok (Yes e) ≡ judged_over (rows t) s (translated published own b)
    all_passed h l {e} q =
        let z = length-take-le n ws c.room in
        let end = from_end c k (omega arith) (omega arith) in
        judged_over_lem (rows t) s (translated published own b) yes e (p.so_far ∙ rw end) (p.tally ∙ rw (end, q) (omega arith))

    module _ (inside : k < length (take n ws)) {r : Reference} (taken : r ≡ reference_from b (get_or (take n ws) k 0)) where
      h : k < n
      h = let e = length-take-le n ws c.room in omega arith

      f : r ≡ reference_from b (get_or ws k 0)
      f = taken ∙ ap (reference_from b) (get_or-take n ws k 0 h)

      pub passed_over : r ≡ Nothing → Passed b t published own s i (k + 1) d
      passed_over g = record { so_far = p.so_far ∙ rw (no_reference c k h f g); tally = p.tally ∙ rw (no_reference c k h f g) }

      module _ {fst aft : ℕ} {v : Namespace} (g : r ≡ To fst aft v) where
        abbrev x : Here b k fst aft v
        x = here c k h f g

        -- what its namespace stands for
        abbrev for : Space
        for = stands_for published own x.entry.space

        this_entry : {y : Bool} → granted (rows t) s for ≡ y
            → judge_from (granted (rows t) s) 0 (translated published own b)
            ≡ cond y (judge_from (granted (rows t) s) (i + 1) (map (translate published own) (listing_from b (k + 1)))) (no i)
        this_entry z = p.so_far ∙ rw (x.listed, add-one i, z)

        its_tally : {y : Bool} → granted (rows t) s for ≡ y → {e : ℕ} → compared_for (rows t) s for ≡ e
            → within64 (compared_over (rows t) s (translated published own b))
            ≡ within64 (d + (e + cond y (compared_over (rows t) s (map (translate published own) (listing_from b (k + 1)))) 0))
        its_tally z q = p.tally ∙ rw (x.listed, z, q)

        module _ {y : Option ℕ} (z : y ≡ sought_by (stands_by published own b v)) {a : ℕ} (l : a ≡ min d 18446744073709551615) where
          is_sought : sought_by (space_code for) ≡ y
          is_sought = sym (z ∙ ap sought_by (ap (stands_by published own b) x.space_is ∙ stands_code published own b x.entry.space x.name_is))

          pub no_number : y ≡ None → Ok (No i a) ≡ judged_over (rows t) s (translated published own b)
          no_number e =
              let never = never_granted (rows t) s for (is_sought ∙ e) in
              let none = never_compared (rows t) s for (is_sought ∙ e) in
              judged_over_lem (rows t) s (translated published own b) (no i) a (this_entry never) (its_tally never none ∙ rw l (omega arith))

          module _ {w : ℕ} (e : y ≡ Some w) where
            by_rows : granted (rows t) s for ≡ some (holds s (signed w)) (rows t)
            by_rows = number_granted (rows t) s for (stands_in_range published own x.entry.space x.range) (is_sought ∙ e)

            by_count : compared_for (rows t) s for ≡ rows_up_to (holds s (signed w)) (rows t)
            by_count = number_compared (rows t) s for (stands_in_range published own x.entry.space x.range) (is_sought ∙ e)

            pub not_found : NoRow t s w → {e : ℕ} → e ≡ min (a + length t / 16) 18446744073709551615 → Ok (No i e) ≡ judged_over (rows t) s (translated published own b)
            not_found r {e} q =
                let no_rows = by_rows ∙ r.not_granted in
                let tally = its_tally no_rows (by_count ∙ r.compared) in
                judged_over_lem (rows t) s (translated published own b) (no i) e (this_entry no_rows) (tally ∙ rw (q, l) (omega arith))

            pub found : {at : ℕ} → RowAt t s w at → Passed b t published own s (i + 1) (k + 1) (a + (at / 16 + 1))
            found {at} r =
                let row = by_rows ∙ r.granted in record {
                  so_far = this_entry row;
                  tally = its_tally row (by_count ∙ r.compared) ∙ sum_within d _ l ∙ ap within64 (omega arith);
                }

-- from the message's answer
module _ (m : Limits) (b t published own : List ℕ) (s : ℕ) {a : Result ℕ Refusal} (e : a ≡ result_of (read m Message b)) where
  pub release_refused : {x : Refusal} → a ≡ Err x → Err x ≡ counted_bytes m b t published own s
  unfolding counted_bytes release_bytes
  release_refused f =
      is_refused m Message b e f
      (λ y. counted (after_lists y (check_names published own) (cond (ragged t) (Release.refused 18 (length t / 16)) (release m b (rows t) published own s))) (compared (rows t) b published own s))
      (λ r p. refl)

  module _ {n : ℕ} (f : a ≡ Ok n) {l : Names} (g : l ≡ check_names published own) where
    pub release_ill_formed : {p : ℕ} → l ≡ lists.Refused p → refused 19 p ≡ counted_bytes m b t published own s
    unfolding counted_bytes release_bytes
    release_ill_formed i = rw (is_accepted m Message b e f, ← g, i)

    pub release_ragged : l ≡ lists.Passes → (length t % 16 ≡ 0 → ⊥) → refused 18 (length t / 16) ≡ counted_bytes m b t published own s
    unfolding counted_bytes release_bytes
    release_ragged i h = rw (is_accepted m Message b e f, ← g, i, ne_eqb (length t % 16) 0 h)

    pub release_judged : l ≡ lists.Passes → length t % 16 ≡ 0 → {x : Released} → Ok x ≡ judged_over (rows t) s (translated published own b)
        → Ok x ≡ counted_bytes m b t published own s
    unfolding counted_bytes release_bytes release compared
    release_judged i h q = rw (is_accepted m Message b e f, ← g, i, eq-eqb (length t % 16) 0 h) q

pub ruleset outcomes = (release_refused, release_ill_formed, release_ragged, release_judged)
