-- The items of a target or report stand in those of its message as one run: itself, then its members and theirs; and what follows begins behind its end.
-- The idea: this is how the items of a tree are laid out, whatever tree it is.
use Prim.Native.Nat.{ℕ, zero, suc, ◌+◌, ◌-◌, ◌≤◌, ◌<◌}
use mathlib.Core.Path.{◌≡◌, refl, sym, ◌∙◌, ap}
use mathlib.Core.Bool.{Bool, true, false}
use mathlib.Core.List.{List, [], ◌∷◌, ◌++◌, append_assoc}
use native.Mathlib.Omega.{arith}
use native.Mathlib.Nat.{add-zero}
use lib.ListN.{length, get_or, drop, length-append, length-drop, get_or-append}
use lib.Seq.{drop-append-le, drop-append-add, drop-cons, get_or-drop, get_or-append-add}
use lib.Dec.{ltb}
use borrow.Author.Tests.{ltb-true, ltb-false}
use Rattle.cbor.specs.Head.{Lead, arity}
use Rattle.cbor.proofs.HeadLaws.{length_lead}
use Rattle.ari.specs.Table.{message, Slot, ari, Level, done, due, rule, members}
use Rattle.ari.specs.declared.Limits.{Limits}
use Rattle.ari.specs.declared.Input.{Input}
use Rattle.ari.specs.Reader.{first_slot}
use Rattle.ari.specs.Items.{Items, none, item, encode, Spot, inside_at, spot_at, spots, open_ended, spots_of}
use Rattle.ari.specs.Rules.{Is}
use Rattle.ari.specs.Due.{Good}
use Rattle.ari.proofs.Due.{Fit, prev_after}
use Rattle.ari.proofs.Demand.{stands_fit}
use Rattle.ari.proofs.Well.{trees}
use Rattle.ari.proofs.Weight.{well_fit}
use Rattle.ari.proofs.Spots.{All, no_spot_lem, spot_too, all_append, all_map, Between}
use Rattle.ari.proofs.Members.{within}
use Rattle.item_table.specs.Entries.{no_spot}
use Rattle.comparison.specs.Comparison.{items_of}

-- items from one byte to another
data Laid : ℕ → ℕ → List Spot → Type 0 where
  nothing : {p : ℕ} → Laid p p []
  tree : {lo hi : ℕ} {x : Spot} {ys : List Spot} → x.first ≡ lo → Laid (inside_at lo x.lead x.str) x.after (within x) → Laid x.after hi ys
      → Laid lo hi (x ∷ (within x ++ ys))

laid_item : (s : Slot) (p d : ℕ) (l : Lead) (str : List ℕ) (ms rs : Items) {ys : List Spot}
    → Laid (inside_at p l str) (inside_at p l str + length (encode ms)) (within (spot_at s p d l str ms))
    → Laid (inside_at p l str + length (encode ms)) (inside_at p l str + length (encode ms) + length (encode rs)) ys
    → Laid p (p + length (encode (item l str ms rs))) (spot_at s p d l str ms ∷ (within (spot_at s p d l str ms) ++ ys))
laid_item s p d l str ms rs f g =
    let e : p + length (encode (item l str ms rs)) ≡ inside_at p l str + length (encode ms) + length (encode rs)
    = simp length-append (omega (arith, length_lead l)) in
    rw e (tree refl f g)

laid : (g : Items) (more : Bool) (v : Level) (prev : List ℕ) (p d : ℕ) → Fit g more v prev → Laid p (p + length (encode g)) (spots g more v p d)
laid none more done prev p d f = rw (add-zero p) nothing
laid none more (due s n) prev p d f = absurd f
laid (item l str ms rs) false done prev p d f = absurd f
laid (item l str ms rs) true done prev p d f =
    let q : ℕ = inside_at p l str in
    laid_item (ari message) p d l str ms rs (laid ms false (members (ari message) l) [] q (suc d) f.1)
    (laid rs true ((rule (ari message)).next l.arg 0) (prev_after (ari message) [] l str) (q + length (encode ms)) d f.2)
laid (item l str ms rs) more (due s n) prev p d f =
    let q : ℕ = inside_at p l str in
    laid_item s p d l str ms rs (laid ms false (members s l) [] q (suc d) f.1)
    (laid rs more ((rule s).next l.arg n) (prev_after s prev l str) (q + length (encode ms)) d f.2)

laid_le : {lo hi : ℕ} {xs : List Spot} → Laid lo hi xs → lo ≤ hi
laid_le nothing = omega arith
laid_le (tree e f g) = omega (arith, laid_le f, laid_le g)

bounds : {lo hi : ℕ} {xs : List Spot} → Laid lo hi xs → All (Between lo hi) xs
bounds nothing = no_spot_lem
bounds (tree {x = x} e f g) =
    spot_too {x = x} (omega arith, omega (arith, laid_le f), laid_le g)
    (all_append (all_map (λ y b. (omega arith, b.1, omega (arith, laid_le g))) (bounds f))
    (all_map (λ y b. (omega (arith, laid_le f), b.1, b.2)) (bounds g)))

-- the run that begins at item k, and what follows
record Run (hi : ℕ) (xs : List Spot) (k : ℕ) : Type 0 where
  spot : Spot
  rest : List Spot
  here : drop k xs ≡ items_of spot ++ rest
  ends : spot.after ≤ hi
  inner : All (λ y. y.first < spot.after) (items_of spot)
  past : All (λ y. spot.after ≤ y.first) rest

run_at : {lo hi : ℕ} {xs : List Spot} → Laid lo hi xs → (k : ℕ) → k < length xs → Run hi xs k
run_at nothing k h = absurd (omega arith)
run_at (tree {x = x} {ys = ys} e f g) zero h = record {
  spot = x;
  rest = ys;
  here = refl;
  ends = laid_le g;
  inner = spot_too {x = x} (omega (arith, laid_le f)) (all_map (λ y b. omega arith) (bounds f));
  past = all_map (λ y b. b.0) (bounds g);
}
run_at (tree {hi = hi} {x = x} {ys = ys} e f g) (suc k) h = go (ltb k (length (within x))) refl (λ l. run_at f k l) (λ o l. run_at g o l)
  where
    go : (t : Bool) → ltb k (length (within x)) ≡ t → (k < length (within x) → Run x.after (within x) k) → ((o : ℕ) → o < length ys → Run hi ys o)
        → Run hi (x ∷ (within x ++ ys)) (suc k)
    go true q here there =
        let r = here (ltb-true k (length (within x)) q) in
        let l : k < length (within x) = ltb-true k (length (within x)) q in
        record {
          spot = r.spot;
          rest = r.rest ++ ys;
          here = drop-append-le k (within x) ys (omega arith) ∙ ap (λ (z : List Spot). z ++ ys) r.here ∙ append_assoc (items_of r.spot) r.rest ys;
          ends = omega (arith, r.ends, laid_le g);
          inner = r.inner;
          past = all_append r.past (all_map (λ y b. omega (arith, r.ends)) (bounds g));
        }
    go false q here there =
        let l : length (within x) ≤ k = ltb-false k (length (within x)) q in
        let o : ℕ = k - length (within x) in
        let z : k ≡ length (within x) + o = omega arith in
        let r = there o (omega (arith, length-append (within x) ys)) in
        record {
          spot = r.spot;
          rest = r.rest;
          here = ap (λ (n : ℕ). drop n (within x ++ ys)) z ∙ drop-append-add (within x) ys o ∙ r.here;
          ends = r.ends;
          inner = r.inner;
          past = r.past;
        }

at_all : {P : Spot → Type 0} (xs : List Spot) (k : ℕ) (d : Spot) → All P xs → k < length xs → P (get_or xs k d)
at_all [] k d a h = absurd (omega arith)
at_all (x ∷ xs) zero d (spot_too p a) h = p
at_all (x ∷ xs) (suc k) d (spot_too p a) h = at_all xs k d a (omega arith)

front_of : {x y : Spot} {xs ys : List Spot} → x ∷ xs ≡ y ∷ ys → x ≡ y
front_of e = cc

-- The items from item k on, which is x: its own, each before its end, and others behind it.
pub record Own (xs : List Spot) (k : ℕ) (x : Spot) : Type 0 where
  pub many : k + length (items_of x) ≤ length xs
  pub item_is : (o : ℕ) → o < length (items_of x) → get_or xs (k + o) no_spot ≡ get_or (items_of x) o no_spot
  pub inside : (o : ℕ) → o < length (items_of x) → (get_or xs (k + o) no_spot).first < x.after
  pub behind : (o : ℕ) → length (items_of x) ≤ o → k + o < length xs → x.after ≤ (get_or xs (k + o) no_spot).first

own_run : {hi : ℕ} (xs : List Spot) (k : ℕ) → k < length xs → (r : Run hi xs k) → Own xs k r.spot
own_run xs k h r = record {
  many = omega (arith, long);
  item_is = λ o l. at o ∙ get_or-append u r.rest no_spot o l;
  inside = λ o l. rw (at o, get_or-append u r.rest no_spot o l) (at_all u o no_spot r.inner l);
  behind = λ o l g.
      let j : ℕ = o - length u in
      let z : o ≡ length u + j = omega arith in
      rw (at o, z, get_or-append-add u r.rest j no_spot) (at_all r.rest j no_spot r.past (omega (arith, long)));
}
  where
    u : List Spot
    u = items_of r.spot

    at : (o : ℕ) → get_or xs (k + o) no_spot ≡ get_or (u ++ r.rest) o no_spot
    at o = sym (get_or-drop k xs o no_spot) ∙ ap (λ (l : List Spot). get_or l o no_spot) r.here

    long : length xs - k ≡ length u + length r.rest
    long = sym (length-drop k xs) ∙ ap length r.here ∙ length-append u r.rest

module _ {m : Limits} {i : Input} {b : List ℕ} {g : Items} {n : ℕ} (c : Is m i b g n) where
  pub own : (k : ℕ) → k < length (spots_of i g) → Own (spots_of i g) k (get_or (spots_of i g) k no_spot)
  own k h =
      let xs : List Spot = spots_of i g in
      let r = run_at (laid g (open_ended i) (due (first_slot i) 0) [] 0 0 (stands_fit c.stands)) k h in
      let s : r.spot ≡ get_or xs k no_spot = front_of (sym r.here ∙ drop-cons xs k no_spot h) in
      rw s at (own_run xs k h r)

-- what an item's head announces stands inside it
pub record Fitting (x : Spot) : Type 0 where
  pub before : List ℕ
  pub good : Good x.slot before x.lead x.str
  pub full : trees x.inside ≡ arity x.lead
  pub members_fit : Fit x.inside false (members x.slot x.lead) []

fitting_all : (g : Items) (more : Bool) (v : Level) (prev : List ℕ) (p d : ℕ) → Fit g more v prev → All Fitting (spots g more v p d)
fitting_all none more v prev p d f = no_spot_lem
fitting_all (item l str ms rs) false done prev p d f = no_spot_lem
fitting_all (item l str ms rs) true done prev p d f =
    let q : ℕ = inside_at p l str in
    spot_too {x = spot_at (ari message) p d l str ms} (record { before = []; good = f.0; full = (well_fit (item l str ms rs) true done prev f).2; members_fit = f.1 })
    (all_append (fitting_all ms false (members (ari message) l) [] q (suc d) f.1)
    (fitting_all rs true ((rule (ari message)).next l.arg 0) (prev_after (ari message) [] l str) (q + length (encode ms)) d f.2))
fitting_all (item l str ms rs) more (due s n) prev p d f =
    let q : ℕ = inside_at p l str in
    spot_too {x = spot_at s p d l str ms} (record { before = prev; good = f.0; full = (well_fit (item l str ms rs) more (due s n) prev f).2; members_fit = f.1 })
    (all_append (fitting_all ms false (members s l) [] q (suc d) f.1)
    (fitting_all rs more ((rule s).next l.arg n) (prev_after s prev l str) (q + length (encode ms)) d f.2))

module _ {m : Limits} {i : Input} {b : List ℕ} {g : Items} {n : ℕ} (c : Is m i b g n) where
  pub fitting : (k : ℕ) → k < length (spots_of i g) → Fitting (get_or (spots_of i g) k no_spot)
  fitting k h = at_all (spots_of i g) k no_spot (fitting_all g (open_ended i) (due (first_slot i) 0) [] 0 0 (stands_fit c.stands)) h
