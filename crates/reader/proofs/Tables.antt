-- Runs of entries in the table.
use Prim.Native.Nat.{ℕ, suc, pred, ◌+◌, ◌<◌}
use mathlib.Core.Path.{◌≡◌, refl, ◌∙◌}
use mathlib.Core.Logic.{◌≢◌}
use mathlib.Core.Bool.{true, false}
use mathlib.Core.List.{List, [], ◌∷◌, ◌++◌, map, map-append}
use native.Mathlib.Omega.{arith}
use lib.ListN.{length, set, length-append, length-map}
use lib.Seq.{sets, set_comm}
use Rattle.buffer.proofs.Putting.{sets_append}
use Rattle.ari.specs.Table.{Level, done, due, rule, members}
use Rattle.ari.specs.Reader.{end, push}
use Rattle.ari.specs.Items.{Items, none, item, encode, heads, Spot, spots, inside_at}
use Rattle.ari.specs.Due.{Due}
use Rattle.ari.proofs.Due.{prev_after}
use Rattle.ari.specs.Table.{is_reference}
use Rattle.item_table.specs.Entries.{entry_of, reference_by}
use Rattle.item_table.specs.References.{filled, place_for, reserved_for}
use Rattle.item_table.proofs.References.{item_noted}
use Rattle.reader.specs.Walks.{Tables, both, kept_in}

pub set_sets : (l : List ℕ) (i a j : ℕ) (vs : List ℕ) → i < j → set (sets l j vs) i a ≡ sets (set l i a) j vs
set_sets l i a j [] h = refl
set_sets l i a j (v ∷ vs) h =
    let n : j ≢ i = λ e. omega arith in
    rw (set_comm l j i v a n) at (set_sets (set l j v) i a (suc j) vs (omega arith))

-- a level has an item for each head
pub spots_heads : (g : Items) (v : Level) (prev : List ℕ) (d p around : ℕ) → Due g (push v prev d end) → length (spots g false v p around) ≡ heads g
spots_heads none done prev d p around f = refl
spots_heads none (due s n) prev d p around f = absurd f
spots_heads (item l str ms rs) done prev d p around f = absurd f
spots_heads (item l str ms rs) (due s n) prev d p around f =
    let xs = spots ms false (members s l) (inside_at p l str) (suc around) in
    let ys = spots rs false ((rule s).next l.arg n) (inside_at p l str + length (encode ms)) around in
    omega (
      arith,
      length-append xs ys,
      spots_heads ms (members s l) [] (pred d) (inside_at p l str) (suc around) f.2,
      spots_heads rs ((rule s).next l.arg n) (prev_after s prev l str) d (inside_at p l str + length (encode ms)) around f.3,
    )

-- an item's own entry, its members' and those behind it
item_entries : (t : List ℕ) (c n x : ℕ) (xs ys : List Spot) → length xs ≡ n
    → sets (set (sets t (suc c) (map entry_of xs)) c x) (suc c + n) (map entry_of ys) ≡ sets t c (x ∷ map entry_of (xs ++ ys))
item_entries t c n x xs ys e =
    let l : length (map entry_of xs) ≡ n = length-map xs entry_of ∙ e in
    rw (map-append entry_of xs ys, sets_append (set t c x) (suc c) (map entry_of xs) (map entry_of ys), l, set_sets t c x (suc c) (map entry_of xs) (omega arith))

pub both_are : {t t' u u' : List ℕ} → t ≡ t' → u ≡ u' → both t u ≡ both t' u'
both_are e f = rw (e, f)

-- the same in both tables: the item takes its place among the references before its members and its word after them
pub item_kept : (t : Tables) (c n i k a : ℕ) (x : Spot) (xs ys : List Spot) → length xs ≡ n → {e : ℕ} → e ≡ suc c + n
    → is_reference x.slot x.lead ≡ reference_by i k a → {res : List ℕ} → res ≡ reserved_for i k a t.references → {pl : ℕ} → pl ≡ place_for i k a t.references
    → {t₁ t₂ : Tables} → t₁ ≡ kept_in (both t.items res) (suc c) xs → t₂.items ≡ set t₁.items c (entry_of x) → {v : ℕ} → t₂.references ≡ filled t₁.references pl v
    → (reference_by i k a ≡ true → v ≡ entry_of x) → kept_in t₂ e ys ≡ kept_in t c (x ∷ (xs ++ ys))
item_kept t c n i k a x xs ys l {e} ce is {res} taken {pl} at {t₁} {t₂} inner put {v} fill own =
    both_are
    (rw (put, inner, ce) (item_entries t.items c n (entry_of x) xs ys l))
    (rw (fill, inner, taken, at) (item_noted t.references x xs ys i k a v is own))
