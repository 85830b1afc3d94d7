-- The namespaces of R79: each reference's first member is one, a listed number is in range (R23).
use Prim.Native.Nat.{ℕ, ◌≤◌}
use mathlib.Core.Path.{◌≡◌, refl}
use mathlib.Core.Bool.{Bool, true, false, not, ◌||◌, cond}
use mathlib.Core.List.{List, [], ◌∷◌, ◌++◌, Memᴰ}
use native.Mathlib.Omega.{arith}
use lib.IntN.{pos, negsuc}
use lib.Dec.{leb, eqb}
use borrow.Author.Tests.{eqb-true, leb-true, le-leb}
use Rattle.cbor.specs.Head.{unsigned, negative, text, Lead}
use Rattle.ari.specs.Table.{Place, Row, row, uint_to, nint_to, any_text, is_null, max63}
use Rattle.ari.specs.declared.Limits.{Limits}
use Rattle.ari.specs.declared.Input.{Input}
use Rattle.ari.specs.declared.Input.TheVariants.{Message}
use Rattle.ari.specs.Items.{Items, none, item, inside_at}
use Rattle.ari.specs.Rules.{Namespace, NamespaceOrNull, Ari, literal, namespace_ref, typed, object_ref, Object, plain, with_params, Params, list, table, Value, simple_value, ac, am, execset, rptset, Aris, no_aris, aris, Pairs, no_pairs, pairs, Targets, no_targets, targets, Reports, no_reports, reports, Sets, no_more, set, Stands, single_ari, a_message, Is}
use Rattle.ari.specs.Listing.{Space, number, name, relative, Entry, space_at, space_in, listing}
use Rattle.ari.specs.References.{Placed, in_ari, in_object, in_params, in_value, in_aris, in_pairs, in_targets, in_reports, in_sets, references}
use Rattle.ari.proofs.Rows.{FitsBy, fits_by}
use Rattle.ari.proofs.RulesFit.{fits_more}
use Rattle.ari.proofs.Listed.{nothing_else_is_listed}

-- the first of the members is a namespace, or null
abbrev pub Named : Items → Type 0
Named none = ⊥
Named (item l s ms rs) = NamespaceOrNull l s ms

data AllNamed : List Placed → Type 0 where
  no_one : AllNamed []
  one_too : {r : Placed} {rs : List Placed} → Named r.inside → AllNamed rs → AllNamed (r ∷ rs)

both : {xs ys : List Placed} → AllNamed xs → AllNamed ys → AllNamed (xs ++ ys)
both no_one b = b
both (one_too n a) b = one_too n (both a b)

or_null : {l : Lead} {s : List ℕ} {ms : Items} → Namespace l s ms → NamespaceOrNull l s ms
or_null {l} n = record {
  head = n.head;
  fitting = fits_more l.kind l.arg (uint_to max63 ∷ nint_to max63 ∷ any_text ∷ []) (is_null ∷ []) n.fitting;
  sized = n.sized;
  spelling = n.spelling;
  bare = n.bare;
}

mutual
  named_ari : {w : Place} {l : Lead} {s : List ℕ} {ms : Items} (a : Ari w l s ms) (p : ℕ) → AllNamed (in_ari a p)
  named_ari (literal f x) p = no_one
  named_ari (namespace_ref f h n) p = one_too (or_null n) no_one
  named_ari (typed h t v) p = named_value v _
  named_ari (object_ref f o) p = named_object o p

  named_object : {l : Lead} {s : List ℕ} {ms : Items} (o : Object l s ms) (p : ℕ) → AllNamed (in_object o p)
  named_object (plain h n t i) p = one_too n no_one
  named_object (with_params h n t i u) p = one_too n (named_params u _)

  named_params : {l : Lead} {s : List ℕ} {ms : Items} (u : Params l s ms) (p : ℕ) → AllNamed (in_params u p)
  named_params (list h r) p = named_aris r _
  named_params (table h r) p = named_pairs r _

  named_value : {t : ℕ} {w : Place} {l : Lead} {s : List ℕ} {ms : Items} (v : Value t w l s ms) (p : ℕ) → AllNamed (in_value v p)
  named_value (simple_value c x) p = no_one
  named_value (ac h r) p = named_aris r _
  named_value (am h r) p = named_pairs r _
  named_value (execset h n r) p = named_targets r _
  named_value (rptset h n t r) p = named_reports r _

  named_aris : {w : Place} {n : ℕ} {g : Items} (r : Aris w n g) (p : ℕ) → AllNamed (in_aris r p)
  named_aris no_aris p = no_one
  named_aris (aris a r) p = both (named_ari a p) (named_aris r _)

  named_pairs : {prev : List ℕ} {w : Place} {n : ℕ} {g : Items} (r : Pairs prev w n g) (p : ℕ) → AllNamed (in_pairs r p)
  named_pairs no_pairs p = no_one
  named_pairs (pairs k b v r) p = both (named_ari v _) (named_pairs r _)

  named_targets : {n : ℕ} {g : Items} (r : Targets n g) (p : ℕ) → AllNamed (in_targets r p)
  named_targets no_targets p = no_one
  named_targets (targets o r) p = both (named_object o p) (named_targets r _)

  named_reports : {n : ℕ} {g : Items} (r : Reports n g) (p : ℕ) → AllNamed (in_reports r p)
  named_reports no_reports p = no_one
  named_reports (reports h t o a r) p = both (named_object o _) (both (named_aris a _) (named_reports r _))

named_sets : {g : Items} (r : Sets g) (p : ℕ) → AllNamed (in_sets r p)
named_sets no_more p = no_one
named_sets (set a r) p = both (named_ari a p) (named_sets r _)

named_all : {i : Input} {g : Items} (r : Stands i g) → AllNamed (references r)
named_all (single_ari a) = named_ari a 0
named_all (a_message v r) = named_sets r _

mem_named : {r : Placed} {rs : List Placed} → AllNamed rs → Memᴰ r rs → Named r.inside
mem_named no_one m = elim m [ ]
mem_named (one_too n a) (Memᴰ.head e) = rw e n
mem_named (one_too n a) (Memᴰ.tail m) = mem_named a m

-- R23: negsuc a is -1 - a
abbrev pub InRange : Space → Type 0
InRange (number (pos a)) = a ≤ max63
InRange (number (negsuc a)) = a ≤ max63
InRange (name p s) = Unit {0}
InRange relative = Unit {0}

-- a row of integers that ends at 2^63 - 1
abbrev short : Row → Bool
short (row k lo hi) = not (leb k negative) || leb hi max63

space_fits : (p : ℕ) {l : Lead} {s : List ℕ} {ms : Items} → NamespaceOrNull l s ms → InRange (space_at p l s)
space_fits p {l} {s} n =
    go (eqb l.kind unsigned) (eqb l.kind negative) (eqb l.kind text) refl refl
    (fits_by short l.kind l.arg (uint_to max63 ∷ nint_to max63 ∷ any_text ∷ is_null ∷ []) refl n.fitting)
  where
    below : FitsBy short l.kind l.arg → l.kind ≤ negative → l.arg ≤ max63
    below f h =
        let k : leb f.hi max63 ≡ true = rw (le-leb l.kind negative h) at f.holds in
        omega (arith, leb-true f.hi max63 k, f.high)

    go : (t u v : Bool) → eqb l.kind unsigned ≡ t → eqb l.kind negative ≡ u → FitsBy short l.kind l.arg
        → InRange (cond t (number (pos l.arg)) (cond u (number (negsuc l.arg)) (cond v (name p s) relative)))
    go true u v i j f = below f (omega (arith, eqb-true l.kind unsigned i))
    go false true v i j f = below f (omega (arith, eqb-true l.kind negative j))
    go false false true i j f = tt
    go false false false i j f = tt

placed_fits : (p : ℕ) (g : Items) → Named g → InRange (space_in p g)
placed_fits p none n = absurd n
placed_fits p (item l s ms rs) n = space_fits p n

module _ {m : Limits} {b : List ℕ} {g : Items} {n : ℕ} (c : Is m Message b g n) where
  -- Each entry's namespace is its reference's own: the first member, which `entry_for` reads, is a namespace by the rules.
  pub own_namespace : (r : Placed) → Memᴰ r (references c.stands) → Named r.inside
  own_namespace r k = mem_named (named_all c.stands) k

  -- A listed number is in range.
  pub numbers_in_range : (e : Entry) → Memᴰ e (listing b) → InRange e.space
  numbers_in_range e k =
      let f = nothing_else_is_listed c e k in
      let r = f.0 in
      rw (← f.2) (placed_fits (inside_at r.first r.lead r.str) r.inside (own_namespace r f.1))
