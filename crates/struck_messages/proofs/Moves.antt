-- Listings of runs of items: at another place they are the same but for their places; and which entries a cut takes away, and where it moves the others.
use Prim.Native.Nat.{ℕ, suc, ◌+◌, ◌-◌, ◌≤◌, ◌<◌}
use mathlib.Core.Path.{◌≡◌, refl, sym, ◌∙◌, ap}
use mathlib.Core.Bool.{Bool, true, false, cond, ◌&&◌}
use mathlib.Core.List.{List, [], ◌∷◌, ◌++◌, map, map-append}
use native.Mathlib.Omega.{arith}
use lib.ListN.{length}
use lib.IntN.{pos, negsuc}
use lib.Dec.{leb, eqb}
use borrow.Author.Tests.{le-leb, lt-leb}
use Rattle.cbor.specs.Head.{unsigned, negative, text, Lead}
use Rattle.ari.specs.Table.{message, Slot, ari, Level, done, due, rule, members, is_reference}
use Rattle.ari.specs.Items.{Items, none, item, encode, Spot, inside_at, spot_at, spots}
use Rattle.ari.specs.Listing.{Space, number, name, relative, Entry, space_in, entry_of, referring}
use Rattle.ari.proofs.Spots.{All, no_spot_lem, spot_too, all_append, all_map, Between}
use Rattle.ari.proofs.Referring.{referring_append}
use Rattle.strike.specs.Strike.{Cut}
use Rattle.strike.proofs.Runs.{run, bounds, run_bounds}
use Rattle.struck_messages.specs.Moved.{moved, moved_space, moved_entry, is_inside, staying}

-- what items list
abbrev pub listed : List Spot → List Entry
listed xs = map entry_of (referring xs)

pub listed_append : (xs ys : List Spot) → listed (xs ++ ys) ≡ listed xs ++ listed ys
listed_append xs ys = ap (map entry_of) (referring_append xs ys) ∙ map-append entry_of (referring xs) (referring ys)

pub listed_none : (x : Spot) (xs : List Spot) → is_reference x.slot x.lead ≡ false → listed (x ∷ xs) ≡ listed xs
listed_none x xs e = rw e

-- so many bytes later
abbrev pub later_space : ℕ → Space → Space
later_space c (number z) = number z
later_space c (name p s) = name (p + c) s
later_space c relative = relative

abbrev pub later : ℕ → Entry → Entry
later c e = record { first = e.first + c; after = e.after + c; space = later_space c e.space }

later_space_lem : (c p q : ℕ) (ms : Items) → q ≡ p + c → space_in q ms ≡ later_space c (space_in p ms)
later_space_lem c p q none e = refl
later_space_lem c p q (item l s ms rs) e = rw e (go (eqb l.kind unsigned) (eqb l.kind negative) (eqb l.kind text))
  where
    go : (t u v : Bool)
        → cond t (number (pos l.arg)) (cond u (number (negsuc l.arg)) (cond v (name (p + c) s) relative))
        ≡ later_space c (cond t (number (pos l.arg)) (cond u (number (negsuc l.arg)) (cond v (name p s) relative)))
    go true u v = refl
    go false true v = refl
    go false false true = refl
    go false false false = refl

module _ (c : ℕ) where
  later_entry : (s : Slot) (p d : ℕ) (l : Lead) (str : List ℕ) (ms : Items) → entry_of (spot_at s (p + c) d l str ms) ≡ later c (entry_of (spot_at s p d l str ms))
  later_entry s p d l str ms =
      let e : inside_at (p + c) l str + length (encode ms) ≡ inside_at p l str + length (encode ms) + c = omega arith in
      let f : inside_at (p + c) l str ≡ inside_at p l str + c = omega arith in
      rw (e, later_space_lem c (inside_at p l str) (inside_at (p + c) l str) ms f)

  later_item : (s : Slot) (p d : ℕ) (l : Lead) (str : List ℕ) (ms : Items) (xs ys : List Spot) → listed xs ≡ map (later c) (listed ys)
      → listed (spot_at s (p + c) d l str ms ∷ xs) ≡ map (later c) (listed (spot_at s p d l str ms ∷ ys))
  later_item s p d l str ms xs ys h = go (is_reference s l)
    where
      go : (t : Bool) → map entry_of (cond t (spot_at s (p + c) d l str ms ∷ referring xs) (referring xs)) ≡ map (later c) (map entry_of (cond t (spot_at s p d l str ms ∷ referring ys) (referring ys)))
      go true = ap (λ (z : List Entry). entry_of (spot_at s (p + c) d l str ms) ∷ z) h ∙ ap (λ (z : Entry). z ∷ map (later c) (listed ys)) (later_entry s p d l str ms)
      go false = h

  later_both : (xs xr ys yr : List Spot) → listed xs ≡ map (later c) (listed ys) → listed xr ≡ map (later c) (listed yr) → listed (xs ++ xr) ≡ map (later c) (listed (ys ++ yr))
  later_both xs xr ys yr h k =
      listed_append xs xr
      ∙ (ap (λ (z : List Entry). z ++ listed xr) h
      ∙ (ap (λ (z : List Entry). map (later c) (listed ys) ++ z) k
      ∙ (sym (map-append (later c) (listed ys) (listed yr)) ∙ ap (map (later c)) (sym (listed_append ys yr)))))

  inside_later : (p : ℕ) (l : Lead) (str : List ℕ) → inside_at (p + c) l str ≡ inside_at p l str + c
  inside_later p l str = omega arith

  past_later : (p : ℕ) (l : Lead) (str : List ℕ) (ms : Items) → inside_at (p + c) l str + length (encode ms) ≡ inside_at p l str + length (encode ms) + c
  past_later p l str ms = omega arith

  pub later_spots : (g : Items) (more : Bool) (v : Level) (p d : ℕ) → listed (spots g more v (p + c) d) ≡ map (later c) (listed (spots g more v p d))
  later_spots none more v p d = refl
  later_spots (item l str ms rs) false done p d = refl
  later_spots (item l str ms rs) true done p d =
      let q : ℕ = inside_at p l str in
      let s : Slot = ari message in
      let v : Level = (rule s).next l.arg 0 in
      later_item s p d l str ms (spots ms false (members s l) (inside_at (p + c) l str) (suc d) ++ spots rs true v (inside_at (p + c) l str + length (encode ms)) d)
      (spots ms false (members s l) q (suc d) ++ spots rs true v (q + length (encode ms)) d)
      (later_both (spots ms false (members s l) (inside_at (p + c) l str) (suc d)) (spots rs true v (inside_at (p + c) l str + length (encode ms)) d) (spots ms false (members s l) q (suc d)) (spots rs true v (q + length (encode ms)) d)
      (ap (λ (i : ℕ). listed (spots ms false (members s l) i (suc d))) (inside_later p l str) ∙ later_spots ms false (members s l) q (suc d))
      (ap (λ (i : ℕ). listed (spots rs true v i d)) (past_later p l str ms) ∙ later_spots rs true v (q + length (encode ms)) d))
  later_spots (item l str ms rs) more (due s n) p d =
      let q : ℕ = inside_at p l str in
      let v : Level = (rule s).next l.arg n in
      later_item s p d l str ms (spots ms false (members s l) (inside_at (p + c) l str) (suc d) ++ spots rs more v (inside_at (p + c) l str + length (encode ms)) d)
      (spots ms false (members s l) q (suc d) ++ spots rs more v (q + length (encode ms)) d)
      (later_both (spots ms false (members s l) (inside_at (p + c) l str) (suc d)) (spots rs more v (inside_at (p + c) l str + length (encode ms)) d) (spots ms false (members s l) q (suc d)) (spots rs more v (q + length (encode ms)) d)
      (ap (λ (i : ℕ). listed (spots ms false (members s l) i (suc d))) (inside_later p l str) ∙ later_spots ms false (members s l) q (suc d))
      (ap (λ (i : ℕ). listed (spots rs more v i d)) (past_later p l str ms) ∙ later_spots rs more v (q + length (encode ms)) d))

  pub later_run : (s : Slot) (g : Items) (p d : ℕ) → listed (run s g (p + c) d) ≡ map (later c) (listed (run s g p d))
  later_run s none p d = refl
  later_run s (item l str ms rs) p d =
      let q : ℕ = inside_at p l str in
      later_item s p d l str ms (spots ms false (members s l) (inside_at (p + c) l str) (suc d) ++ run s rs (inside_at (p + c) l str + length (encode ms)) d)
      (spots ms false (members s l) q (suc d) ++ run s rs (q + length (encode ms)) d)
      (later_both (spots ms false (members s l) (inside_at (p + c) l str) (suc d)) (run s rs (inside_at (p + c) l str + length (encode ms)) d) (spots ms false (members s l) q (suc d)) (run s rs (q + length (encode ms)) d)
      (ap (λ (i : ℕ). listed (spots ms false (members s l) i (suc d))) (inside_later p l str) ∙ later_spots ms false (members s l) q (suc d))
      (ap (λ (i : ℕ). listed (run s rs i d)) (past_later p l str ms) ∙ later_run s rs (q + length (encode ms)) d))

-- An item's places: its own ends, and that of its first member.
abbrev pub Lies : ℕ → ℕ → Spot → Type 0
Lies lo hi x = (lo ≤ x.first) × (x.first < x.after) × (x.after ≤ hi) × (inside_at x.first x.lead x.str ≤ x.after)

abbrev Own : Spot → Type 0
Own x = inside_at x.first x.lead x.str ≤ x.after

own : (g : Items) (more : Bool) (v : Level) (p d : ℕ) → All Own (spots g more v p d)
own none more v p d = no_spot_lem
own (item l str ms rs) false done p d = no_spot_lem
own (item l str ms rs) true done p d =
    spot_too {x = spot_at (ari message) p d l str ms} (omega arith)
    (all_append (own ms false (members (ari message) l) (inside_at p l str) (suc d)) (own rs true ((rule (ari message)).next l.arg 0) (inside_at p l str + length (encode ms)) d))
own (item l str ms rs) more (due s n) p d =
    spot_too {x = spot_at s p d l str ms} (omega arith)
    (all_append (own ms false (members s l) (inside_at p l str) (suc d)) (own rs more ((rule s).next l.arg n) (inside_at p l str + length (encode ms)) d))

own_run : (s : Slot) (g : Items) (p d : ℕ) → All Own (run s g p d)
own_run s none p d = no_spot_lem
own_run s (item l str ms rs) p d =
    spot_too {x = spot_at s p d l str ms} (omega arith) (all_append (own ms false (members s l) (inside_at p l str) (suc d)) (own_run s rs (inside_at p l str + length (encode ms)) d))

both : {lo hi : ℕ} {xs : List Spot} → All (Between lo hi) xs → All Own xs → All (Lies lo hi) xs
both no_spot_lem o = no_spot_lem
both (spot_too h a) (spot_too k o) = spot_too (h.0, h.1, h.2, k) (both a o)

pub lies : (g : Items) (more : Bool) (v : Level) (p d : ℕ) → All (Lies p (p + length (encode g))) (spots g more v p d)
lies g more v p d = both (bounds g more v p d) (own g more v p d)

pub lies_run : (s : Slot) (g : Items) (p d : ℕ) → All (Lies p (p + length (encode g))) (run s g p d)
lies_run s g p d = both (run_bounds s g p d) (own_run s g p d)

all_referring : {P : Spot → Type 0} (xs : List Spot) → All P xs → All P (referring xs)
all_referring [] a = no_spot_lem
all_referring {P} (x ∷ xs) (spot_too h a) = go (is_reference x.slot x.lead) (all_referring xs a)
  where
    go : (t : Bool) → All P (referring xs) → All P (cond t (x ∷ referring xs) (referring xs))
    go true r = spot_too h r
    go false r = r

-- The entries of items that lie apart from the cut's part stay, those of items within it go.
pub staying_append : (c : Cut) (us vs : List Entry) → staying c (us ++ vs) ≡ staying c us ++ staying c vs
staying_append c [] vs = refl
staying_append c (e ∷ us) vs = go (is_inside c e) (staying_append c us vs)
  where
    go : (t : Bool) → staying c (us ++ vs) ≡ staying c us ++ staying c vs → cond t (staying c (us ++ vs)) (e ∷ staying c (us ++ vs)) ≡ cond t (staying c us) (e ∷ staying c us) ++ staying c vs
    go true h = h
    go false h = ap (λ (z : List Entry). e ∷ z) h

stays : (c : Cut) (t : Bool) (ys : List Spot) → All (λ y. is_inside c (entry_of y) ≡ t) ys → staying c (map entry_of ys) ≡ cond t [] (map entry_of ys)
stays c true [] a = refl
stays c false [] a = refl
stays c true (y ∷ ys) (spot_too h a) = rw h (stays c true ys a)
stays c false (y ∷ ys) (spot_too h a) = rw h (ap (λ (z : List Entry). entry_of y ∷ z) (stays c false ys a))

no_and : (t : Bool) → (t && false) ≡ false
no_and true = refl
no_and false = refl

module _ (c : Cut) (xs : List Spot) where
  pub stay_before : {lo hi : ℕ} → All (Lies lo hi) xs → hi ≤ c.struck.first → staying c (listed xs) ≡ listed xs
  stay_before a h = stays c false (referring xs) (all_map (λ y k. rw (lt-leb c.struck.first y.first (omega (arith, k.1, k.2)))) (all_referring xs a))

  pub stay_behind : {lo hi : ℕ} → All (Lies lo hi) xs → c.struck.after ≤ lo → staying c (listed xs) ≡ listed xs
  stay_behind a h =
      stays c false (referring xs)
      (all_map (λ y k. rw (lt-leb y.after c.struck.after (omega (arith, k.0, k.1))) (no_and (leb c.struck.first y.first))) (all_referring xs a))

  pub go_within : {lo hi : ℕ} → All (Lies lo hi) xs → c.struck.first ≤ lo → hi ≤ c.struck.after → staying c (listed xs) ≡ []
  go_within a h l =
      stays c true (referring xs)
      (all_map (λ y k. rw (le-leb c.struck.first y.first (omega (arith, k.0)), le-leb y.after c.struck.after (omega (arith, k.2)))) (all_referring xs a))

-- Entries that were so many bytes later move back.
moved_space_lem : (c : Cut) (d lo hi j : ℕ) (ms : Items) → ((q : ℕ) → lo ≤ q → q ≤ hi → moved c (q + d) ≡ q) → lo ≤ j → j ≤ hi → moved_space c (later_space d (space_in j ms)) ≡ space_in j ms
moved_space_lem c d lo hi j none f l h = refl
moved_space_lem c d lo hi j (item k s ms rs) f l h = go (eqb k.kind unsigned) (eqb k.kind negative) (eqb k.kind text)
  where
    go : (t u v : Bool)
        → moved_space c (later_space d (cond t (number (pos k.arg)) (cond u (number (negsuc k.arg)) (cond v (name j s) relative))))
        ≡ cond t (number (pos k.arg)) (cond u (number (negsuc k.arg)) (cond v (name j s) relative))
    go true u v = refl
    go false true v = refl
    go false false true = ap (λ (i : ℕ). name i s) (f j l h)
    go false false false = refl

module _ (c : Cut) (d lo hi : ℕ) (f : (q : ℕ) → lo ≤ q → q ≤ hi → moved c (q + d) ≡ q) where
  back : (ys : List Spot) → All (Lies lo hi) ys → map (moved_entry c) (map (later d) (map entry_of ys)) ≡ map entry_of ys
  back [] a = refl
  back (y ∷ ys) (spot_too h a) =
      let j : ℕ = inside_at y.first y.lead y.str in
      rw (f y.first h.0 (omega (arith, h.1, h.2)), f y.after (omega (arith, h.0, h.1)) h.2, moved_space_lem c d lo hi j y.inside f (omega (arith, h.0)) (omega (arith, h.2, h.3)), back ys a)

  pub moved_back : (xs : List Spot) → All (Lies lo hi) xs → map (moved_entry c) (map (later d) (listed xs)) ≡ listed xs
  moved_back xs a = back (referring xs) (all_referring xs a)
