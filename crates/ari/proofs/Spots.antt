-- The spots of an accepted input: one for each head, laid out as the tree is, each over its own bytes.
use Prim.Native.Nat.{ℕ, suc, ◌+◌, ◌≤◌, ◌<◌}
use mathlib.Core.Logic.{◌⊎◌, inl, inr}
use mathlib.Core.Path.{◌≡◌, refl, sym, ◌∙◌, ap}
use mathlib.Core.Bool.{Bool, true, false}
use mathlib.Core.List.{List, [], ◌∷◌, ◌++◌, append_assoc, append-nil}
use native.Mathlib.Omega.{arith}
use native.Mathlib.Nat.{zero-add, add-zero}
use lib.ListN.{length, drop, length-append}
use lib.Seq.{drop_at}
use Rattle.cbor.specs.Head.{Lead, lead_bytes}
use Rattle.cbor.proofs.HeadLaws.{length_lead}
use Rattle.ari.specs.Table.{alone, message, Slot, ari, Level, done, due, rule, members}
use Rattle.ari.specs.declared.Limits.{Limits}
use Rattle.ari.specs.declared.Input.{Input}
use Rattle.ari.specs.declared.Input.TheVariants.{Single}
use Rattle.ari.specs.Reader.{first_slot}
use Rattle.ari.specs.Items.{Items, none, item, encode, heads, Spot, inside_at, spot_at, spots, open_ended, spots_of}
use Rattle.ari.specs.Rules.{Is, Stands, single_ari}
use Rattle.ari.proofs.Due.{Fit, prev_after}
use Rattle.ari.proofs.Demand.{stands_fit}

-- a spot for each head
pub one_each : (g : Items) (more : Bool) (v : Level) (prev : List ℕ) (p d : ℕ) → Fit g more v prev → length (spots g more v p d) ≡ heads g
one_each none more done prev p d f = refl
one_each none more (due s n) prev p d f = absurd f
one_each (item l str ms rs) false done prev p d f = absurd f
one_each (item l str ms rs) true done prev p d f =
    simp length-append
    (ap suc (rw (one_each ms false _ _ (inside_at p l str) (suc d) f.1, one_each rs true _ _ (inside_at p l str + length (encode ms)) d f.2)))
one_each (item l str ms rs) more (due s n) prev p d f =
    simp length-append
    (ap suc (rw (one_each ms false _ _ (inside_at p l str) (suc d) f.1, one_each rs more _ _ (inside_at p l str + length (encode ms)) d f.2)))

-- Spots that cover the bytes from lo to hi with d containers around: the first begins at lo; its members' spots follow it and cover the bytes
-- from behind its string to its end, one container deeper; the others cover the bytes from its end.
pub data Forest : ℕ → ℕ → ℕ → List Spot → Type 0 where
  nothing : {p d : ℕ} → Forest p p d []
  tree : {lo hi d : ℕ} {x : Spot} {xs ys : List Spot} → x.first ≡ lo → x.around ≡ d → length xs ≡ heads x.inside
      → Forest (inside_at lo x.lead x.str) x.after (suc d) xs → Forest x.after hi d ys → Forest lo hi d (x ∷ (xs ++ ys))

forest_item : (s : Slot) (p d : ℕ) (l : Lead) (str : List ℕ) (ms rs : Items) {xs ys : List Spot} → length xs ≡ heads ms
    → Forest (inside_at p l str) (inside_at p l str + length (encode ms)) (suc d) xs
    → Forest (inside_at p l str + length (encode ms)) (inside_at p l str + length (encode ms) + length (encode rs)) d ys
    → Forest p (p + length (encode (item l str ms rs))) d (spot_at s p d l str ms ∷ (xs ++ ys))
forest_item s p d l str ms rs c f g =
    let e : p + length (encode (item l str ms rs)) ≡ inside_at p l str + length (encode ms) + length (encode rs)
    = simp length-append (omega (arith, length_lead l)) in
    rw e (tree refl refl c f g)

pub forest : (g : Items) (more : Bool) (v : Level) (prev : List ℕ) (p d : ℕ) → Fit g more v prev → Forest p (p + length (encode g)) d (spots g more v p d)
forest none more done prev p d f = rw (add-zero p) nothing
forest none more (due s n) prev p d f = absurd f
forest (item l str ms rs) false done prev p d f = absurd f
forest (item l str ms rs) true done prev p d f =
    let q : ℕ = inside_at p l str in
    forest_item (ari message) p d l str ms rs (one_each ms false (members (ari message) l) [] q (suc d) f.1)
    (forest ms false (members (ari message) l) [] q (suc d) f.1)
    (forest rs true ((rule (ari message)).next l.arg 0) (prev_after (ari message) [] l str) (q + length (encode ms)) d f.2)
forest (item l str ms rs) more (due s n) prev p d f =
    let q : ℕ = inside_at p l str in
    forest_item s p d l str ms rs (one_each ms false (members s l) [] q (suc d) f.1) (forest ms false (members s l) [] q (suc d) f.1)
    (forest rs more ((rule s).next l.arg n) (prev_after s prev l str) (q + length (encode ms)) d f.2)

-- So their first bytes rise, and of two spots the second lies within the first or behind it: behind it, if the first has no members.
pub data All (P : Spot → Type 0) : List Spot → Type 0 where
  no_spot_lem : All P []
  spot_too : {x : Spot} {xs : List Spot} → P x → All P xs → All P (x ∷ xs)

pub all_append : {P : Spot → Type 0} {xs ys : List Spot} → All P xs → All P ys → All P (xs ++ ys)
all_append no_spot_lem q = q
all_append (spot_too h p) q = spot_too h (all_append p q)

pub all_map : {P Q : Spot → Type 0} {xs : List Spot} → ((x : Spot) → P x → Q x) → All P xs → All Q xs
all_map f no_spot_lem = no_spot_lem
all_map f (spot_too {x = x} h p) = spot_too (f x h) (all_map f p)

abbrev pub Between : ℕ → ℕ → Spot → Type 0
Between lo hi x = (lo ≤ x.first) × (x.first < x.after) × (x.after ≤ hi)

abbrev pub Later : Spot → Spot → Type 0
Later x y = (x.first < y.first) × ((y.after ≤ x.after) ⊎ (x.after ≤ y.first)) × (x.inside ≡ none → x.after ≤ y.first)

abbrev pub Rising : List Spot → Type 0
Rising [] = Unit {0}
Rising (x ∷ xs) = All (Later x) xs × Rising xs

forest_le : {lo hi d : ℕ} {xs : List Spot} → Forest lo hi d xs → lo ≤ hi
forest_le nothing = omega arith
forest_le (tree e a c f g) = omega (arith, forest_le f, forest_le g)

pub between : {lo hi d : ℕ} {xs : List Spot} → Forest lo hi d xs → All (Between lo hi) xs
between nothing = no_spot_lem
between (tree {x = x} e a c f g) =
    spot_too {x = x} (omega arith, omega (arith, forest_le f), forest_le g)
    (all_append (all_map (λ y b. (omega arith, b.1, omega (arith, forest_le g))) (between f))
    (all_map (λ y b. (omega (arith, forest_le f), b.1, b.2)) (between g)))

rising_append : {lo mid hi : ℕ} {ys : List Spot} (xs : List Spot) → All (Between lo mid) xs → All (Between mid hi) ys → Rising xs → Rising ys → Rising (xs ++ ys)
rising_append [] b c p q = q
rising_append (x ∷ xs) (spot_too h b) c p q = (all_append p.0 (all_map (λ y k. (omega arith, inr (omega arith), λ e. omega arith)) c), rising_append xs b c p.1 q)

inner_later : (x : Spot) (lo : ℕ) (xs : List Spot) → x.first < lo → length xs ≡ heads x.inside → All (Between lo x.after) xs → All (Later x) xs
inner_later x lo [] l c b = no_spot_lem
inner_later x lo (y ∷ ys) l c b = all_map (λ z k. (omega arith, inl k.2, λ e. absurd (omega (arith, ap heads e)))) b

pub rising : {lo hi d : ℕ} {xs : List Spot} → Forest lo hi d xs → Rising xs
rising nothing = tt
rising (tree {lo = lo} {x = x} {xs = xs} e a c f g) = (
  all_append (inner_later x (inside_at lo x.lead x.str) xs (omega arith) c (between f)) (all_map (λ y b. (omega (arith, forest_le f), inr b.0, λ q. b.0)) (between g)),
  rising_append xs (between f) (between g) (rising f) (rising g),
)

-- And the last ends where they all end.
abbrev pub last_after : ℕ → List Spot → ℕ
last_after p [] = p
last_after p (x ∷ xs) = last_after x.after xs

last_append : (p : ℕ) (xs ys : List Spot) → last_after p (xs ++ ys) ≡ last_after (last_after p xs) ys
last_append p [] ys = refl
last_append p (x ∷ xs) ys = last_append x.after xs ys

last_any : (p q : ℕ) (xs : List Spot) → last_after p xs ≡ q → last_after q xs ≡ q
last_any p q [] e = refl
last_any p q (x ∷ xs) e = e

pub last : {lo hi d : ℕ} {xs : List Spot} → Forest lo hi d xs → last_after lo xs ≡ hi
last nothing = refl
last (tree {lo = lo} {x = x} {xs = xs} {ys = ys} e a c f g) =
    last_append x.after xs ys ∙ rw (last_any (inside_at lo x.lead x.str) x.after xs (last f)) (last g)

-- Each stands for its own bytes.
abbrev pub Covers : List ℕ → Spot → Type 0
Covers b x = drop x.first b ≡ lead_bytes x.lead ++ (x.str ++ (encode x.inside ++ drop x.after b))

-- bytes with so much before them, and some behind them
pub record At (b : List ℕ) (p : ℕ) (mid : List ℕ) : Type 0 where
  pub before : List ℕ
  pub behind : List ℕ
  pub whole : b ≡ before ++ (mid ++ behind)
  pub place : length before ≡ p

module _ {b : List ℕ} {p : ℕ} (l : Lead) (str : List ℕ) (ms rs : Items) (a : At b p (encode (item l str ms rs))) where
  open a use {before, behind}

  at_members : At b (inside_at p l str) (encode ms)
  at_members = record {
    before = before ++ (lead_bytes l ++ str);
    behind = encode rs ++ behind;
    whole = a.whole ∙ simp append_assoc;
    place = simp length-append (omega (arith, a.place, length_lead l));
  }

  at_rest : At b (inside_at p l str + length (encode ms)) (encode rs)
  at_rest = record {
    before = before ++ (lead_bytes l ++ (str ++ encode ms));
    behind = behind;
    whole = a.whole ∙ simp append_assoc;
    place = simp length-append (omega (arith, a.place, length_lead l));
  }

  covers_item : (s : Slot) (d : ℕ) → Covers b (spot_at s p d l str ms)
  unfolding at_rest
  covers_item s d =
      let r = at_rest in
      let here : drop p b ≡ encode (item l str ms rs) ++ behind = ap (drop p) a.whole ∙ drop_at before _ p a.place in
      let there : drop (inside_at p l str + length (encode ms)) b ≡ encode rs ++ behind
      = ap (drop (inside_at p l str + length (encode ms))) r.whole ∙ drop_at r.before _ _ r.place in
      rw (here, there) (simp append_assoc)

pub covers : (g : Items) (more : Bool) (v : Level) (prev : List ℕ) (p d : ℕ) {b : List ℕ} → Fit g more v prev → At b p (encode g) → All (Covers b) (spots g more v p d)
covers none more done prev p d f a = no_spot_lem
covers none more (due s n) prev p d f a = absurd f
covers (item l str ms rs) false done prev p d f a = absurd f
covers (item l str ms rs) true done prev p d f a =
    let q : ℕ = inside_at p l str in
    spot_too (covers_item l str ms rs a (ari message) d)
    (all_append (covers ms false (members (ari message) l) [] q (suc d) f.1 (at_members l str ms rs a))
    (covers rs true ((rule (ari message)).next l.arg 0) (prev_after (ari message) [] l str) (q + length (encode ms)) d f.2 (at_rest l str ms rs a)))
covers (item l str ms rs) more (due s n) prev p d f a =
    let q : ℕ = inside_at p l str in
    spot_too (covers_item l str ms rs a s d)
    (all_append (covers ms false (members s l) [] q (suc d) f.1 (at_members l str ms rs a))
    (covers rs more ((rule s).next l.arg n) (prev_after s prev l str) (q + length (encode ms)) d f.2 (at_rest l str ms rs a)))

module _ {m : Limits} {i : Input} {b : List ℕ} {g : Items} {n : ℕ} (c : Is m i b g n) where
  pub spot_count : length (spots_of i g) ≡ n
  spot_count = one_each g (open_ended i) (due (first_slot i) 0) [] 0 0 (stands_fit c.stands) ∙ c.count

  pub spot_forest : Forest 0 (length b) 0 (spots_of i g)
  spot_forest = rw (← c.bytes) (rw (zero-add (length (encode g))) at (forest g (open_ended i) (due (first_slot i) 0) [] 0 0 (stands_fit c.stands)))

  pub spot_between : All (Between 0 (length b)) (spots_of i g)
  spot_between = between spot_forest

  pub spot_rising : Rising (spots_of i g)
  spot_rising = rising spot_forest

  pub spot_last : last_after 0 (spots_of i g) ≡ length b
  spot_last = last spot_forest

  pub spot_covers : All (Covers b) (spots_of i g)
  spot_covers =
      covers g (open_ended i) (due (first_slot i) 0) [] 0 0 (stands_fit c.stands)
      (record { before = []; behind = []; whole = sym (append-nil (encode g) ∙ c.bytes); place = refl })

-- A single ARI is one item, from the first byte to the last.
pub record Whole (b : List ℕ) (xs : List Spot) : Type 0 where
  pub outermost : Spot
  pub others : List Spot
  pub all_of_them : xs ≡ outermost ∷ others
  pub first_byte : outermost.first ≡ 0
  pub last_byte : outermost.after ≡ length b

stands_whole : {g : Items} → Stands Single g → Whole (encode g) (spots_of Single g)
stands_whole (single_ari {l = l} {s = s} {ms = ms} a) = record {
  outermost = spot_at (ari alone) 0 0 l s ms;
  others = _;
  all_of_them = refl;
  first_byte = refl;
  last_byte = simp length-append (omega (arith, length_lead l));
}

pub spot_whole : {m : Limits} {b : List ℕ} {g : Items} {n : ℕ} → Is m Single b g n → Whole b (spots_of Single g)
spot_whole c = rw (← c.bytes) (stands_whole c.stands)
