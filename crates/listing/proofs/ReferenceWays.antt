-- What is read off a word of the item table and the bytes, way by way.
use Prim.Native.Nat.{ℕ, ◌+◌, ◌-◌, ◌^◌, ◌<◌, ◌≤◌}
use mathlib.Core.Path.{◌≡◌, sym, ◌∙◌}
use mathlib.Core.List.{List, []}
use native.Mathlib.Omega.{arith}
use lib.ListN.{length, take, drop, length-drop}
use lib.Seq.{take_all}
use borrow.Author.Tests.{ne_eqb}
use Rattle.cbor.specs.declared.Head.{Head}
use Rattle.cbor.specs.declared.Head.TheVariants.{Bad, Good}
use Rattle.cbor.specs.Answer.{head_at, Passed}
use Rattle.cbor.proofs.HeadWays.{stays_inside, bounds}
use Rattle.ari.specs.Table.{max64}
use Rattle.item_table.specs.declared.Item.{Item}
use Rattle.item_table.specs.Entries.{item_of, head_of}
use Rattle.listing.specs.declared.Namespace.{Namespace}
use Rattle.listing.specs.declared.Namespace.TheVariants.{Number, Name, Relative}
use Rattle.listing.specs.declared.Reference.TheVariants.{Nothing, To}
use Rattle.listing.specs.Entries.{namespace_of, reference_from, string_in}

module _ (b : List ℕ) (e : ℕ) {n : ℕ} (c : n ≡ head_of e) where
  pub no_reference : n ≡ 0 → Nothing ≡ reference_from b e
  unfolding reference_from
  no_reference m = rw (← c, m)

  module _ {x : Item} (i : x ≡ item_of e) where
    pub a_reference : (n ≡ 0 → ⊥) → {z : Namespace} → z ≡ namespace_of (x.first + n) (head_at b (x.first + n)) → To x.first x.after z ≡ reference_from b e
    unfolding reference_from
    a_reference m u = rw (u, ← c, ← i, ne_eqb n 0 m)

    -- its two fields of 16 bits
    pub namespace_place : e < 2 ^ 64 → x.first + n < 2 ^ 64
    unfolding item_of head_of
    namespace_place h = rw (i, c) (omega arith)

module _ (b : List ℕ) (p : ℕ) {h : Head} (g : h ≡ head_at b p) where
  pub no_namespace : {r : ℕ} → h ≡ Bad r → Relative ≡ namespace_of p (head_at b p)
  no_namespace f = rw (← g, f)

  module _ {k a n : ℕ} (f : h ≡ Good k a n) where
    pub not_negative : k ≡ 0 → Number a ≡ namespace_of p (head_at b p)
    not_negative e = rw (← g, f, e)

    pub a_negative : k ≡ 1 → Number (max64 - a) ≡ namespace_of p (head_at b p)
    a_negative e = rw (← g, f, e)

    pub a_name : k ≡ 3 → Name p a ≡ namespace_of p (head_at b p)
    a_name e = rw (← g, f, e)

    pub not_named : (k ≡ 0 → ⊥) → (k ≡ 1 → ⊥) → (k ≡ 3 → ⊥) → Relative ≡ namespace_of p (head_at b p)
    not_named u v w = rw (← g, f, ne_eqb k 0 u, ne_eqb k 1 v, ne_eqb k 3 w)

-- the string behind a head, as far as it is there
module _ (b : List ℕ) (p : ℕ) {h : Head} (g : h ≡ head_at b p) where
  pub no_string : {r : ℕ} → h ≡ Bad r → [] ≡ string_in b p
  unfolding string_in
  no_string f = rw (← g, f)

  module _ {k a q : ℕ} (f : h ≡ Good k a q) where
    pub string_cut : length b - q < a → take (length b - q) (drop q b) ≡ string_in b p
    unfolding string_in
    string_cut m =
        rw (← g, f)
        (take_all (length b - q) (drop q b) (omega (arith, length-drop q b)) ∙ sym (take_all a (drop q b) (omega (arith, length-drop q b))))

    pub string_here : take ((q + a) - q) (drop q b) ≡ string_in b p
    unfolding string_in
    string_here = let e : (q + a) - q ≡ a = omega arith in rw (← g, f, e)

pub string_ends : (b : List ℕ) (p : ℕ) {h : Head} → Passed b p h → {k a q : ℕ} → h ≡ Good k a q → a ≤ length b - q → q + a ≤ length b
string_ends b p c f m = let h = stays_inside b p c f in omega arith

pub ruleset string_ways = (no_string, string_cut, string_here, string_ends, bounds)

pub ruleset ways = (no_reference, a_reference, namespace_place, no_namespace, not_negative, a_negative, a_name, not_named)
