-- Items that are due are well formed: each array and map holds as many members as its head says.
use Prim.Native.Nat.{ℕ, zero, suc, pred, ◌+◌, ◌≤◌}
use mathlib.Core.Path.{◌≡◌, refl, ◌∙◌, ap}
use mathlib.Core.Bool.{Bool, true, false, cond, true≢false}
use mathlib.Core.List.{List, []}
use native.Mathlib.Omega.{arith}
use lib.Dec.{eqb}
use borrow.Author.Tests.{eqb-true, ne_eqb}
use Rattle.cbor.specs.Head.{array, map, Lead, is_container, arity}
use Rattle.ari.specs.Table.{Place, message, inside, param, Slot, version, ari, type, value, namespace, object_namespace, object_type, object_id, params, key, entry, nonce, set_time, target, report, report_time, report_source, Row, max64, ari_rows, Level, done, due, many, reference_level, ari_level, value_level, rule, fits, members}
use Rattle.ari.specs.Reader.{Dues, end, sets, frame}
use Rattle.ari.specs.Items.{Items, none, item, encode}
use Rattle.ari.proofs.Well.{trees, Well}
use Rattle.ari.specs.Decode.{decode}
use Rattle.ari.specs.Due.{Due}
use Rattle.ari.proofs.Due.{prev_after, Fit, split}
use Rattle.ari.proofs.Rows.{every, leaf_row, no_container, ArrayType, collection, orders, answers, array_type, arrays_only, array_range, no_map, ari_arrays, type_leaf}
use Rattle.ari.proofs.Decoded.{decode_encode}

-- the items that a slot, with so many again, takes on its level
weight : Slot → ℕ → ℕ
weight version n = 1
weight (ari w) n = suc n
weight (type w) n = 2
weight (value t w) n = 1
weight namespace n = 1
weight (object_namespace p) n = cond p 4 3
weight (object_type p) n = cond p 3 2
weight (object_id p) n = cond p 2 1
weight params n = 1
weight (key w) n = suc n + suc n
weight (entry w) n = suc (n + n)
weight (nonce t) n = suc (cond (eqb t 21) (suc n) n)
weight set_time n = suc n
weight target n = suc n
weight report n = suc n
weight report_time n = suc (suc n)
weight report_source n = suc n

pub weigh : Level → ℕ
weigh done = 0
weigh (due s n) = weight s n

weigh_many : (s : Slot) → ((n : ℕ) → weight s n ≡ suc n) → (n : ℕ) → weigh (many s n) ≡ n
unfolding weigh
weigh_many s f zero = refl
weigh_many s f (suc n) = f n

weigh_keys : (w : Place) (n : ℕ) → weigh (many (key w) n) ≡ n + n
unfolding weigh weight
weigh_keys w zero = refl
weigh_keys w (suc n) = refl

weigh_next : (s : Slot) (a n : ℕ) → suc (weigh ((rule s).next a n)) ≡ weight s n
unfolding weigh weight rule
weigh_next version a n = refl
weigh_next (ari w) a n = ap suc (weigh_many (ari w) (λ m. refl) n)
weigh_next (type w) a n = refl
weigh_next (value t w) a n = refl
weigh_next namespace a n = refl
weigh_next (object_namespace true) a n = refl
weigh_next (object_namespace false) a n = refl
weigh_next (object_type true) a n = refl
weigh_next (object_type false) a n = refl
weigh_next (object_id true) a n = refl
weigh_next (object_id false) a n = refl
weigh_next params a n = refl
weigh_next (key w) a n = omega arith
weigh_next (entry w) a n = ap suc (weigh_keys w n)
weigh_next (nonce t) a n = go (eqb t 21)
  where
    go : (b : Bool) → suc (weigh (cond b (due set_time n) (many target n))) ≡ suc (cond b (suc n) n)
    go true = refl
    go false = ap suc (weigh_many target (λ m. refl) n)
weigh_next set_time a n = ap suc (weigh_many report (λ m. refl) n)
weigh_next target a n = ap suc (weigh_many target (λ m. refl) n)
weigh_next report a n = ap suc (weigh_many report (λ m. refl) n)
weigh_next report_time a n = refl
weigh_next report_source a n = ap suc (weigh_many (ari inside) (λ m. refl) n)

-- a rule's members are as many as the head says
record Counts (rs : List Row) (f g : ℕ → Level) : Type 0 where
  of_array : (a : ℕ) → fits array a rs ≡ true → weigh (f a) ≡ a
  of_map : (a : ℕ) → fits map a rs ≡ true → weigh (g a) ≡ a + a

leaf_counts : (rs : List Row) (f g : ℕ → Level) → every leaf_row rs ≡ true → Counts rs f g
unfolding is_container
leaf_counts rs f g n = record {
  of_array = λ a e. absurd (true≢false (no_container array a rs n e));
  of_map = λ a e. absurd (true≢false (no_container map a rs n e));
}

array_counts : (lo hi : ℕ) (rs : List Row) (f g : ℕ → Level) → every (arrays_only lo hi) rs ≡ true
    → ((a : ℕ) → lo ≤ a → a ≤ hi → weigh (f a) ≡ a) → Counts rs f g
array_counts lo hi rs f g n h = record {
  of_array = λ a e. let (l, u) = array_range lo hi a rs n e in h a l u;
  of_map = λ a e. absurd (no_map lo hi a rs n e);
}

pub weigh_ari : (w : Place) (a : ℕ) → 1 ≤ a → a ≤ 4 → weigh (ari_level w a) ≡ a
unfolding weigh weight
weigh_ari w zero l h = absurd (omega arith)
weigh_ari w (suc zero) l h = refl
weigh_ari w (suc (suc zero)) l h = refl
weigh_ari w (suc (suc (suc zero))) l h = refl
weigh_ari w (suc (suc (suc (suc zero)))) l h = refl
weigh_ari w (suc (suc (suc (suc (suc a))))) l h = absurd (omega arith)

weigh_reference : (a : ℕ) → 3 ≤ a → a ≤ 4 → weigh (reference_level a) ≡ a
weigh_reference a l h = rw (ne_eqb a 2 (λ e. omega arith)) at (weigh_ari inside a (omega arith) h)

weigh_value : (t : ℕ) (w : Place) (a : ℕ) → ArrayType t a → weigh (value_level t w a) ≡ a
unfolding weigh weight
weigh_value t w a (collection e) = rw e (weigh_many (ari w) (λ m. refl) a)
weigh_value t w a (orders e h) = rw e (omega arith)
weigh_value t w a (answers e h) = rw e (omega arith)

ari_counts : (w : Place) (g : ℕ → Level) → Counts (ari_rows w) (ari_level w) g
ari_counts w g = array_counts 1 4 (ari_rows w) (ari_level w) g (ari_arrays w) (weigh_ari w)

counts : (s : Slot) → Counts (rule s).rows (rule s).in_array (rule s).in_map
unfolding rule weigh weight is_container
counts version = leaf_counts _ _ _ refl
counts (ari w) = ari_counts w _
counts (type w) = leaf_counts _ _ _ (type_leaf w)
counts (value t w) = record { of_array = λ a e. weigh_value t w a (array_type t a e); of_map = λ a e. weigh_keys w a }
counts namespace = leaf_counts _ _ _ refl
counts (object_namespace p) = leaf_counts _ _ _ refl
counts (object_type p) = leaf_counts _ _ _ refl
counts (object_id p) = leaf_counts _ _ _ refl
counts params = record { of_array = λ a e. weigh_many (ari param) (λ m. refl) a; of_map = λ a e. weigh_keys param a }
counts (key w) = leaf_counts _ _ _ refl
counts (entry w) = ari_counts w _
counts (nonce t) = leaf_counts _ _ _ refl
counts set_time = leaf_counts _ _ _ refl
counts target = array_counts 3 4 _ _ _ refl weigh_reference
counts report = array_counts 2 max64 _ _ _ refl (λ a l h. omega arith)
counts report_time = leaf_counts _ _ _ refl
counts report_source = array_counts 3 4 _ _ _ refl weigh_reference

weigh_members : (s : Slot) (l : Lead) → fits l.kind l.arg (rule s).rows ≡ true → weigh (members s l) ≡ arity l
unfolding weigh members arity
weigh_members s l e = go (eqb l.kind array) refl
  where
    go2 : (b : Bool) → eqb l.kind map ≡ b → weigh (cond b ((rule s).in_map l.arg) done) ≡ cond b (l.arg + l.arg) 0
    go2 true q = (counts s).of_map l.arg (rw (eqb-true l.kind map q) at e)
    go2 false q = refl

    go : (b : Bool) → eqb l.kind array ≡ b
        → weigh (cond b ((rule s).in_array l.arg) (cond (eqb l.kind map) ((rule s).in_map l.arg) done)) ≡ cond b l.arg (cond (eqb l.kind map) (l.arg + l.arg) 0)
    go true q = (counts s).of_array l.arg (rw (eqb-true l.kind array q) at e)
    go false q = go2 (eqb l.kind map) refl

-- a level weighs as many items
pub trees_fit : (g : Items) (v : Level) (prev : List ℕ) → Fit g false v prev → trees g ≡ weigh v
unfolding weigh
trees_fit none done prev f = refl
trees_fit none (due s n) prev f = absurd f
trees_fit (item l str ms rs) done prev f = absurd f
trees_fit (item l str ms rs) (due s n) prev f =
    ap suc (trees_fit rs ((rule s).next l.arg n) (prev_after s prev l str) f.2) ∙ weigh_next s l.arg n

members_fit : (g : Items) (s : Slot) (l : Lead) → fits l.kind l.arg (rule s).rows ≡ true → Fit g false (members s l) [] → trees g ≡ arity l
members_fit g s l e f = trees_fit g (members s l) [] f ∙ weigh_members s l e

pub well_fit : (g : Items) (more : Bool) (v : Level) (prev : List ℕ) → Fit g more v prev → Well g
well_fit none more v prev f = tt
well_fit (item l str ms rs) false done prev f = absurd f
well_fit (item l str ms rs) true done prev f =
    (f.0.head, f.0.sized, members_fit ms (ari message) l f.0.fitting f.1, well_fit ms false _ _ f.1, well_fit rs true _ _ f.2)
well_fit (item l str ms rs) more (due s n) prev f =
    (f.0.head, f.0.sized, members_fit ms s l f.0.fitting f.1, well_fit ms false _ _ f.1, well_fit rs more _ _ f.2)

pub well_due : (g : Items) (ds : Dues) → Due g ds → Well g
well_due none ds f = tt
well_due (item l str ms rs) end f = absurd f
well_due (item l str ms rs) (sets d) f =
    let m = (split ms false (members (ari message) l) [] (pred d) f.2).0 in
    (f.0.head, f.0.sized, members_fit ms (ari message) l f.0.fitting m, well_due ms _ f.2, well_due rs _ f.3)
well_due (item l str ms rs) (frame s n prev d ds) f =
    let m = (split ms false (members s l) [] (pred d) f.2).0 in
    (f.0.head, f.0.sized, members_fit ms s l f.0.fitting m, well_due ms _ f.2, well_due rs _ f.3)

-- So what is due is what its bytes decode to: there are no two.
pub decodes : (g : Items) (ds : Dues) → Due g ds → decode (encode g) ≡ g
decodes g ds f = decode_encode g (well_due g ds f)
