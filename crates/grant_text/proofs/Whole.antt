-- The ways through a text, line after line.
use Prim.Native.Nat.{ℕ, suc, ◌+◌, ◌*◌, ◌/◌, ◌≤◌, ◌<◌}
use mathlib.Core.Path.{◌≡◌, refl, sym, ◌∙◌, ap}
use mathlib.Core.Bool.{Bool, true, false, not, cond}
use mathlib.Core.List.{List, [], ◌∷◌, ◌++◌, map}
use native.Mathlib.Omega.{arith}
use lib.ListN.{length, drop, length-drop}
use lib.Seq.{sets, length-sets}
use lib.Dec.{leb, eqb}
use borrow.Author.Tests.{le-leb, lt-leb, leb-false}
use Rattle.buffer.specs.Bytes.{be, part, store_at}
use Rattle.buffer.proofs.Putting.{sets_append}
use Rattle.buffer.specs.Runs.{front, past, RunTo}
use Rattle.buffer.proofs.Numbers.{joined, store_room}
use Rattle.buffer.proofs.RunLaws.{here, beyond}
use Rattle.grant_text.specs.declared.Line.{Line}
use Rattle.grant_text.specs.declared.Line.TheVariants.{Blank, Grant, Bad}
use Rattle.grant_text.specs.declared.Taken.{Taken}
use Rattle.grant_text.specs.declared.Class.TheVariants.{InLine}
use Rattle.std.specs.declared.result.Result.TheVariants.{Ok, Err}
use Rattle.grant_text.specs.declared.Fault.TheVariants as fault
use Rattle.grant_text.specs.Rows.{is_of, row_of}
use Rattle.grant_text.specs.Table.{onto, lines, contents, gather, table_of, packed, HasRoom, TakenAt}

-- a line ends at its end, or with the text
abbrev in_line : ℕ → Bool
in_line = is_of InLine

in_line_lem : (x : ℕ) {b : Bool} → eqb x 10 ≡ b → in_line x ≡ not b
unfolding is_of
in_line_lem x e = rw e

abbrev tail_of : List ℕ → List ℕ
tail_of [] = []
tail_of (x ∷ t) = t

line_ends : (u : List ℕ) {y : ℕ} {v : List ℕ} → past in_line u ≡ y ∷ v → lines u ≡ front in_line u ∷ lines v
unfolding past front lines
line_ends [] e = absurd (let q : 0 ≡ suc _ = ap length e in omega arith)
line_ends (x ∷ u) {y} {v} e = go (eqb x 10) refl (λ h. line_ends u h)
  where
    go : (b : Bool) → eqb x 10 ≡ b → (past in_line u ≡ y ∷ v → lines u ≡ front in_line u ∷ lines v) → lines (x ∷ u) ≡ front in_line (x ∷ u) ∷ lines v
    go true q i = rw (in_line_lem x q, q) (ap (λ (l : List ℕ). [] ∷ lines (tail_of l)) (rw (in_line_lem x q) at e))
    go false q i = rw (in_line_lem x q, q) (ap (onto x) (i (rw (in_line_lem x q) at e)))

last_onto : (u : List ℕ) (x : ℕ) → past in_line u ≡ [] → onto x (lines u) ≡ (x ∷ front in_line u) ∷ []
unfolding past front lines
last_onto [] x e = refl
last_onto (y ∷ u) x e = go (eqb y 10) refl (λ h. last_onto u y h)
  where
    go : (b : Bool) → eqb y 10 ≡ b → (past in_line u ≡ [] → onto y (lines u) ≡ (y ∷ front in_line u) ∷ []) → onto x (lines (y ∷ u)) ≡ (x ∷ front in_line (y ∷ u)) ∷ []
    go true q i = absurd (let r : suc (length u) ≡ 0 = ap length (rw (in_line_lem y q) at e) in omega arith)
    go false q i = rw (in_line_lem y q, q) (ap (onto x) (i (rw (in_line_lem y q) at e)))

line_last : (u : List ℕ) → 0 < length u → past in_line u ≡ [] → lines u ≡ front in_line u ∷ []
unfolding past front lines
line_last [] h e = absurd (omega arith)
line_last (x ∷ u) h e = go (eqb x 10) refl
  where
    go : (b : Bool) → eqb x 10 ≡ b → lines (x ∷ u) ≡ front in_line (x ∷ u) ∷ []
    go true q = absurd (let r : suc (length u) ≡ 0 = ap length (rw (in_line_lem x q) at e) in omega arith)
    go false q = rw (in_line_lem x q, q) (last_onto u x (rw (in_line_lem x q) at e))

abbrev taken : Line → ℕ → Taken
taken l p = record { content = l; next = p }

module _ (t : List ℕ) (a e : ℕ) {l : Line} (g : a < length t) (w : RunTo (is_of InLine) t a e) (k : l ≡ row_of (part t a e)) where
  pub taken_on : e < length t → TakenAt t a (taken l (e + 1))
  unfolding contents
  taken_on h = record {
    is = ap (map row_of) (line_ends (drop a t) (w.past_is ∙ here t e h)) ∙ rw (w.front_is, k);
    on = omega (arith, w.on);
    inside = omega arith;
  }

  pub taken_last : length t ≤ e → TakenAt t a (taken l e)
  unfolding contents lines
  taken_last h = record {
    is = ap (map row_of) (line_last (drop a t) (rw (length-drop a t) (omega arith)) (w.past_is ∙ beyond t e h)) ∙ rw (w.front_is, k, beyond t e h);
    on = omega (arith, w.inside);
    inside = w.inside;
  }

-- a row as it is stored
pub row_stored : (o : List ℕ) (at s n : ℕ) {o₁ o₂ : List ℕ} → at + 16 ≤ length o → o₁ ≡ store_at 8 o at s → o₂ ≡ store_at 8 o₁ (at + 8) n
    → o₂ ≡ sets o at (be 8 s ++ be 8 n)
row_stored o at s n h e f =
    let l : at + 8 + 8 ≤ length (sets o at (be 8 s)) = rw (length-sets o at (be 8 s)) (omega arith) in
    rw (f, e, store_room 8 o at s (omega arith), store_room 8 (sets o at (be 8 s)) (at + 8) n l) (joined o at 8 s (be 8 n))

-- The text from a place on, behind so many lines and rows: what finishes it finishes the whole.
pub record Gathers (t : List ℕ) (room a k n : ℕ) : Type 0 where
  pub inside : a ≤ length t
  pub few : k ≤ a
  pub fewer : n ≤ k
  pub says : gather room k n (contents (drop a t)) ≡ table_of t room

pub gathers_none : (t : List ℕ) (room : ℕ) → Gathers t room 0 0 0
unfolding table_of
gathers_none t room = record { inside = omega arith; few = omega arith; fewer = omega arith; says = refl }

module _ {t : List ℕ} {room a k n : ℕ} {r : Taken} (g : Gathers t room a k n) (w : TakenAt t a r) where
  pub gathers_blank : r.content ≡ Blank → Gathers t room r.next (k + 1) n
  gathers_blank f = record {
    inside = w.inside;
    few = omega (arith, g.few, w.on);
    fewer = omega (arith, g.fewer);
    says = rw (w.is, f) at g.says;
  }

  pub gathers_bad : r.content ≡ Bad → Err (fault.Bad (k + 1)) ≡ table_of t room
  gathers_bad f = rw (w.is, f) at g.says

  module _ {s v : ℕ} (f : r.content ≡ Grant s v) where
    says_row : cond (leb room n) (Err (fault.Full (k + 1))) (gather room (k + 1) (n + 1) (contents (drop r.next t))) ≡ table_of t room
    says_row = rw (w.is, f) at g.says

    pub gathers_full : room ≤ n → Err (fault.Full (k + 1)) ≡ table_of t room
    gathers_full h = rw (le-leb room n h) at says_row

    pub gathers_row : n < room → Gathers t room r.next (k + 1) (n + 1)
    gathers_row h = record {
      inside = w.inside;
      few = omega (arith, g.few, w.on);
      fewer = omega (arith, g.fewer);
      says = rw (lt-leb room n h) at says_row;
    }

pub gathers_end : {t : List ℕ} {room a k n : ℕ} → Gathers t room a k n → length t ≤ a → Ok n ≡ table_of t room
unfolding contents lines
gathers_end {t} {room} {a} g h = rw (beyond t a h) at g.says

-- The same where the rows are written.
pub record Writing (t xs : List ℕ) (a n : ℕ) (ys : List ℕ) : Type 0 where
  pub inside : a ≤ length t
  pub room : n ≤ length xs / 16
  pub same : length ys ≡ length xs
  pub lines : ℕ
  pub rows : ℕ
  pub goes : gather (length xs / 16) lines n (contents (drop a t)) ≡ Ok rows
  pub writes : sets ys (n * 16) (packed (contents (drop a t))) ≡ sets xs 0 (packed (contents t))

pub writing_none : (t xs : List ℕ) → HasRoom t (length xs / 16) → Writing t xs 0 0 xs
unfolding table_of
writing_none t xs h = record {
  inside = omega arith;
  room = omega arith;
  same = refl;
  lines = 0;
  rows = h.rows;
  goes = h.is;
  writes = refl;
}

module _ {t xs : List ℕ} {a n : ℕ} {ys : List ℕ} {r : Taken} (g : Writing t xs a n ys) (w : TakenAt t a r) where
  pub writing_blank : r.content ≡ Blank → Writing t xs r.next n ys
  writing_blank f = record {
    inside = w.inside;
    room = g.room;
    same = g.same;
    lines = g.lines + 1;
    rows = g.rows;
    goes = rw (w.is, f) at g.goes;
    writes = rw (w.is, f) at g.writes;
  }

  writing_bad : r.content ≡ Bad → ⊥
  writing_bad f =
      let e : Err (fault.Bad (g.lines + 1)) ≡ Ok g.rows = rw (w.is, f) at g.goes in
      let z : ◌≡◌ {A = ℕ} 0 1 = cc in omega arith

  -- so what is no row is blank
  pub writing_other : ((s v : ℕ) → r.content ≡ Grant s v → ⊥) → Writing t xs r.next n ys
  writing_other never = go r.content refl
    where
      go : (l : Line) → r.content ≡ l → Writing t xs r.next n ys
      go Blank e = writing_blank e
      go (Grant s v) e = absurd (never s v e)
      go Bad e = absurd (writing_bad e)

  module _ {s v : ℕ} (f : r.content ≡ Grant s v) where
    goes_row : cond (leb (length xs / 16) n) (Err (fault.Full (g.lines + 1))) (gather (length xs / 16) (g.lines + 1) (n + 1) (contents (drop r.next t))) ≡ Ok g.rows
    goes_row = rw (w.is, f) at g.goes

    pub has_room : n < length xs / 16
    has_room = go (leb (length xs / 16) n) refl goes_row
      where
        go : (b : Bool) → leb (length xs / 16) n ≡ b → cond b (Err (fault.Full (g.lines + 1))) (gather (length xs / 16) (g.lines + 1) (n + 1) (contents (drop r.next t))) ≡ Ok g.rows → n < length xs / 16
        go true e q = absurd (let z : ◌≡◌ {A = ℕ} 0 1 = cc in omega arith)
        go false e q = omega (arith, leb-false (length xs / 16) n e)

    pub room_for : n * 16 + 16 ≤ length ys
    room_for = omega (arith, has_room, g.same)

    pub writing_row : {zs : List ℕ} → zs ≡ sets ys (n * 16) (be 8 s ++ be 8 v) → Writing t xs r.next (n + 1) zs
    writing_row {zs} z = record {
      inside = w.inside;
      room = omega (arith, has_room);
      same = ap length z ∙ length-sets ys (n * 16) (be 8 s ++ be 8 v) ∙ g.same;
      lines = g.lines + 1;
      rows = g.rows;
      goes = rw (lt-leb (length xs / 16) n has_room) at goes_row;
      writes = rows_on;
    }
      where
        rows_on : sets zs ((n + 1) * 16) (packed (contents (drop r.next t))) ≡ sets xs 0 (packed (contents t))
        rows_on =
            let p : (n + 1) * 16 ≡ n * 16 + 16 = omega arith in
            rw (z, p) (sym (sets_append ys (n * 16) (be 8 s ++ be 8 v) (packed (contents (drop r.next t)))) ∙ rw (w.is, f) at g.writes)

pub written_all : {t xs : List ℕ} {a n : ℕ} {ys : List ℕ} → Writing t xs a n ys → length t ≤ a → ys ≡ sets xs 0 (packed (contents t))
unfolding contents lines
written_all {t} {xs} {a} g h = rw (beyond t a h) at g.writes

pub ruleset whole = (taken_on, taken_last, row_stored)

pub ruleset counting_ways = (gathers_none, gathers_blank, gathers_bad, gathers_full, gathers_row, gathers_end)

pub ruleset writing_ways = (writing_none, writing_other, room_for, writing_row, written_all)
