-- The shortened form of an input (R182): every number and length in its shortest head. Interface: all of it.
use Rattle.std.specs.Prelude.{ℕ, cond, List, leb}
use mathlib.Core.List as lists
use Rattle.cbor.specs.Head.{map, Lead, lead_of}
use Rattle.ari.specs.Items.{Items, none, item, encode}
use Rattle.ari.specs.Decode.{decode}
use Rattle.ari.specs.Listing.{Space, number, name, relative, Entry}

-- a simple value and a float have one form each
abbrev pub short_lead : Lead → Lead
short_lead l = cond (leb l.kind map) (lead_of l.kind l.arg) l

abbrev pub shortened : Items → Items
shortened none = none
shortened (item l s ms rs) = item (short_lead l) s (shortened ms) (shortened rs)

-- of an input's bytes
abbrev pub short_form : List ℕ → List ℕ
short_form b = encode (shortened (decode b))

-- what a listing says but for places: a namespace each, and of a name its bytes
abbrev pub unplaced : Space → Space
unplaced (number z) = number z
unplaced (name p s) = name 0 s
unplaced relative = relative

abbrev pub namespaces : List Entry → List Space
namespaces = lists.map (λ (e : Entry). unplaced e.space)
