-- The listing: R76 to R80. It is read off the tree of the message's bytes, not off any walk over them. Interface: Space, Entry, listing.
use Rattle.std.specs.Prelude.{ℕ, true, cond, List, [], ◌∷◌, map, ℤ, pos, negsuc, eqb}
use Rattle.cbor.specs.Head.{unsigned, negative, text, Lead}
use Rattle.ari.specs.Table.{version, due, is_reference}
use Rattle.ari.specs.Items.{Items, none, item, Spot, inside_at, spots}
use Rattle.ari.specs.Decode.{decode}

-- R76: a namespace; a name is the place of its head and its bytes
pub data Space : Type 0 where
  number : ℤ → Space
  name : ℕ → List ℕ → Space
  relative : Space

-- R76: an entry
pub record Entry : Type 0 where
  pub first : ℕ
  pub after : ℕ
  pub space : Space

-- The namespace that a head at p is, with its string: an integer (R15), a name, or null.
abbrev pub space_at : ℕ → Lead → List ℕ → Space
space_at p l s =
    cond (eqb l.kind unsigned) (number (pos l.arg))
    (cond (eqb l.kind negative) (number (negsuc l.arg))
    (cond (eqb l.kind text) (name p s) relative))

-- [ns], [ns, object type, object id]: the first of the members that begin at p
abbrev pub space_in : ℕ → Items → Space
space_in p none = relative
space_in p (item l s ms rs) = space_at p l s

abbrev pub entry_of : Spot → Entry
entry_of x = record { first = x.first; after = x.after; space = space_in (inside_at x.first x.lead x.str) x.inside }

-- R77: the references among the items
abbrev pub referring : List Spot → List Spot
referring [] = []
referring (x ∷ xs) = let r = referring xs in cond (is_reference x.slot x.lead) (x ∷ r) r

unfoldable pub listing : List ℕ → List Entry
listing b = map entry_of (referring (spots (decode b) true (due version 0) 0 0))
