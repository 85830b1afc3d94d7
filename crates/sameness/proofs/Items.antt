-- Two items by their words of the item table, way by way; the premises are the tests as the code makes them.
use Prim.Native.Nat.{ℕ, ◌<◌, ◌≤◌}
use mathlib.Core.Path.{◌≡◌, refl, ◌∙◌}
use mathlib.Core.Bool.{Bool, true, false, not}
use mathlib.Core.List.{List, [], ◌∷◌}
use native.Mathlib.Omega.{arith}
use lib.ListN.{get_or-eq_default}
use lib.Dec.{ltb, leb, eqb}
use borrow.Author.Tests.{le-leb, lt-leb, ne_eqb, eq-eqb, not-true, not-false, ltb-true, ltb-false}
use Rattle.std.specs.Str.{bytes_eq}
use Rattle.std.proofs.Math.Bool.{and-false}
use Rattle.std.proofs.lemmas.Bool.{agree_below_at}
use Rattle.buffer.specs.Bytes.{within, same}
use Rattle.cbor.specs.declared.Head.{Head}
use Rattle.cbor.specs.declared.Head.TheVariants.{Good}
use Rattle.cbor.specs.Answer.{head_at}
use Rattle.ari.specs.Name.{same_name}
use Rattle.ari.specs.Table.{version}
use Rattle.grammar.specs.Code.{slots}
use Rattle.item_table.specs.declared.Item.{Item}
use Rattle.item_table.specs.Entries.{item_of}
use Rattle.listing.specs.Entries.{string_in}
use Rattle.sameness.specs.Code.{takes_name_by, same_head, has_string, same_string, alike_by, same_item_by}

-- the slots of names have the numbers 9 to 15
pub name_slot : (i : ℕ) → within 9 15 i ≡ takes_name_by i
name_slot i = go (ltb i 72) refl
  where
    go : (c : Bool) → ltb i 72 ≡ c → within 9 15 i ≡ takes_name_by i
    go true q = agree_below_at (within 9 15) takes_name_by 72 i refl (ltb-true i 72 q)
    go false q = let l = ltb-false i 72 q in rw (lt-leb i 15 (omega arith), get_or-eq_default slots version l) (and-false (leb 9 i))

-- `==` of two runs of bytes
pub same_bytes : (u v : List ℕ) → bytes_eq u v ≡ same u v
same_bytes [] [] = refl
same_bytes [] (y ∷ v) = refl
same_bytes (x ∷ u) [] = refl
same_bytes (x ∷ u) (y ∷ v) = rw (same_bytes u v) refl

-- two items
module _ (a : List ℕ) (x : ℕ) (b : List ℕ) (y : ℕ) {p q : Item} (ep : p ≡ item_of x) (eq : q ≡ item_of y) where
  module _ {h h' : Head} (eh : h ≡ head_at a p.first) (eh' : h' ≡ head_at b q.first) {r : Bool} (er : r ≡ same_head h h') where
    pub other_head : not r ≡ true → false ≡ alike_by a x b y
    unfolding alike_by
    other_head n = rw (← ep, ← eq, ← eh, ← eh', ← er, not-true r n)

    module _ (n : not r ≡ false) {t : Bool} (et : t ≡ has_string h) where
      pub no_strings : not t ≡ true → true ≡ alike_by a x b y
      unfolding alike_by
      no_strings m = rw (← ep, ← eq, ← eh, ← eh', ← er, not-false r n, ← et, not-true t m)

      pub their_strings : not t ≡ false → {u v : List ℕ} → u ≡ string_in a p.first → v ≡ string_in b q.first → {z : Bool} → z ≡ same_string p.slot u v
          → z ≡ alike_by a x b y
      unfolding alike_by
      their_strings m eu ev ez = ez ∙ rw (← ep, ← eq, ← eh, ← eh', ← er, not-false r n, ← et, not-false t m, eu, ev)

pub ruleset item_ways = (other_head, no_strings, their_strings)
