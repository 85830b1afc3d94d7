-- Items that are due, without limits (Fit): Due is Fit and depth.
use Prim.Native.Nat.{ℕ, suc, pred, ◌≤◌}
use mathlib.Core.Path.{◌≡◌, refl}
use mathlib.Core.Bool.{Bool, true, false, ◌&&◌, cond, true≢false}
use mathlib.Core.List.{List, []}
use native.Mathlib.Omega.{arith}
use lib.Dec.{eqb}
use borrow.Author.Tests.{eqb-false, ne_eqb, eq-eqb, le-leb, lt-leb}
use Rattle.cbor.specs.Head.{array, map, Lead, string_size, is_container}
use Rattle.buffer.proofs.ByteLaws.{within_true}
use Rattle.ari.specs.Table.{message, Slot, ari, Level, done, due, rule, members}
use Rattle.cbor.specs.Head.{key_bytes}
use Rattle.ari.specs.Reader.{Dues, end, sets, frame, push, key_after}
use Rattle.ari.specs.Items.{Items, none, item, depth}
use Rattle.ari.specs.Due.{Good, Due}

-- more sets, if there is another one
pub due_sets : (d : ℕ) (g : Items) → Due g (frame (ari message) 0 [] d (sets d)) → Due g (sets d)
due_sets d none f = absurd f
due_sets d (item l str ms rs) f = f

-- the key before, for what is due next on the level
abbrev pub prev_after : Slot → List ℕ → Lead → List ℕ → List ℕ
prev_after s prev l str = key_after (rule s).extra prev (key_bytes l str)

-- the items are those of a level, after a key before; where more is true, the sets of a message follow
abbrev pub Fit : Items → Bool → Level → List ℕ → Type 0
Fit none more done prev = Unit {0}
Fit none more (due s n) prev = ⊥
Fit (item l str ms rs) false done prev = ⊥
Fit (item l str ms rs) true done prev =
    Good (ari message) [] l str × Fit ms false (members (ari message) l) []
    × Fit rs true ((rule (ari message)).next l.arg 0) (prev_after (ari message) [] l str)
Fit (item l str ms rs) more (due s n) prev =
    Good s prev l str × Fit ms false (members s l) [] × Fit rs more ((rule s).next l.arg n) (prev_after s prev l str)

abbrev pub bottom_of : Bool → ℕ → Dues
bottom_of true d = sets d
bottom_of false d = end

pub members_leaf : (s : Slot) (l : Lead) → is_container l.kind ≡ false → members s l ≡ done
unfolding members is_container
members_leaf s l e = rw (ne_eqb l.kind 4 (λ q. true≢false (rw q at e)), ne_eqb l.kind 5 (λ q. true≢false (rw q at e)))

-- the level inside an array or a map
abbrev pub member_level : Slot → ℕ → ℕ → Level
member_level s k n = cond (eqb k array) ((rule s).in_array n) ((rule s).in_map n)

pub members_held : (s : Slot) (l : Lead) → is_container l.kind ≡ true → members s l ≡ member_level s l.kind l.arg
unfolding members is_container
members_held s l c = go (eqb l.kind array) refl
  where
    go : (t : Bool) → eqb l.kind array ≡ t
        → cond t ((rule s).in_array l.arg) (cond (eqb l.kind map) ((rule s).in_map l.arg) done) ≡ cond t ((rule s).in_array l.arg) ((rule s).in_map l.arg)
    go true e = refl
    go false e =
        let (p, q) = within_true 4 5 l.kind c in
        let n : l.kind ≡ 4 → ⊥ = eqb-false l.kind 4 e in
        rw (eq-eqb l.kind 5 (omega arith))

pub container_string : (l : Lead) → is_container l.kind ≡ true → string_size l ≡ 0
unfolding string_size is_container
container_string l c = let (p, q) = within_true 4 5 l.kind c in rw (le-leb 2 l.kind (omega arith), lt-leb l.kind 3 (omega arith))

-- the depth of one item's members
room : (t : Bool) (d m : ℕ) → (t && eqb d 0) ≡ false → m ≤ pred d → cond t (suc m) 0 ≤ d
room true d m e h = let n : d ≡ 0 → ⊥ = eqb-false d 0 e in omega arith
room false d m e h = omega arith

roomy : (t : Bool) (d m : ℕ) → cond t (suc m) 0 ≤ d → (t && eqb d 0) ≡ false
roomy true d m h = ne_eqb d 0 (λ e. omega arith)
roomy false d m h = refl

leaf_depth : (g : Items) (s : Slot) (l : Lead) (d : ℕ) (t : Bool) → is_container l.kind ≡ t → Fit g false (members s l) []
    → cond t (suc (depth g)) 0 ≤ d → depth g ≤ pred d
leaf_depth g s l d true e f h = omega arith
leaf_depth none s l d false e f h = omega arith
leaf_depth (item k str ms rs) s l d false e f h = absurd (rw (members_leaf s l e) at f)

pub split : (g : Items) (more : Bool) (v : Level) (prev : List ℕ) (d : ℕ) → Due g (push v prev d (bottom_of more d)) → Fit g more v prev × (depth g ≤ d)
split none more done prev d f = (tt, omega arith)
split none more (due s n) prev d f = absurd f
split (item l str ms rs) false done prev d f = absurd f
split (item l str ms rs) true done prev d f =
    let (p, h) = split ms false (members (ari message) l) [] (pred d) f.2 in
    let (q, k) = split rs true ((rule (ari message)).next l.arg 0) (prev_after (ari message) [] l str) d f.3 in
    ((f.0, p, q), omega (arith, room (is_container l.kind) d (depth ms) f.1 h))
split (item l str ms rs) more (due s n) prev d f =
    let (p, h) = split ms false (members s l) [] (pred d) f.2 in
    let (q, k) = split rs more ((rule s).next l.arg n) (prev_after s prev l str) d f.3 in
    ((f.0, p, q), omega (arith, room (is_container l.kind) d (depth ms) f.1 h))

pub unsplit : (g : Items) (more : Bool) (v : Level) (prev : List ℕ) (d : ℕ) → Fit g more v prev → depth g ≤ d → Due g (push v prev d (bottom_of more d))
unsplit none true done prev d f h = tt
unsplit none false done prev d f h = tt
unsplit none more (due s n) prev d f h = absurd f
unsplit (item l str ms rs) false done prev d f h = absurd f
unsplit (item l str ms rs) true done prev d f h =
    let k : cond (is_container l.kind) (suc (depth ms)) 0 ≤ d = omega arith in (
      f.0,
      roomy (is_container l.kind) d (depth ms) k,
      unsplit ms false (members (ari message) l) [] (pred d) f.1 (leaf_depth ms (ari message) l d (is_container l.kind) refl f.1 k),
      unsplit rs true ((rule (ari message)).next l.arg 0) (prev_after (ari message) [] l str) d f.2 (omega arith),
    )
unsplit (item l str ms rs) more (due s n) prev d f h =
    let k : cond (is_container l.kind) (suc (depth ms)) 0 ≤ d = omega arith in (
      f.0,
      roomy (is_container l.kind) d (depth ms) k,
      unsplit ms false (members s l) [] (pred d) f.1 (leaf_depth ms s l d (is_container l.kind) refl f.1 k),
      unsplit rs more ((rule s).next l.arg n) (prev_after s prev l str) d f.2 (omega arith),
    )
