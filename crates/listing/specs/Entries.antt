-- What is read off a word of the item table and the bytes. Interface: namespace_of, reference_from, space_code, string_in, NameStands.
use Rattle.std.specs.Prelude.{ℕ, ◌+◌, ◌-◌, ◌<◌, ◌≡◌, cond, List, [], length, take, drop, eqb}
use Rattle.cbor.specs.Head.{unsigned, negative, text}
use Rattle.cbor.specs.declared.Head.{Head}
use Rattle.cbor.specs.declared.Head.TheVariants.{Bad, Good}
use Rattle.cbor.specs.Answer.{head_at}
use Rattle.ari.specs.Signed.{word}
use Rattle.ari.specs.Table.{max64}
use Rattle.ari.specs.Listing.{Space, number, name, relative}
use Rattle.item_table.specs.declared.Item.{Item}
use Rattle.item_table.specs.Entries.{item_of, head_of}
use Rattle.listing.specs.declared.Reference.{Reference}
use Rattle.listing.specs.declared.Reference.TheVariants.{Nothing, To}
use Rattle.listing.specs.declared.Namespace.{Namespace}
use Rattle.listing.specs.declared.Namespace.TheVariants.{Number, Name, Relative}

-- the namespace that a head at p is: a number in two's complement, a name by its place and length, or null
abbrev pub namespace_of : ℕ → Head → Namespace
namespace_of p (Good k a q) = cond (eqb k unsigned) (Number a) (cond (eqb k negative) (Number (max64 - a)) (cond (eqb k text) (Name p a) Relative))
namespace_of p (Bad r) = Relative

-- a reference, with the namespace whose head stands behind its own
abbrev pub reference_to : List ℕ → Item → ℕ → Reference
reference_to b x n = To x.first x.after (namespace_of (x.first + n) (head_at b (x.first + n)))

unfoldable pub reference_from : List ℕ → ℕ → Reference
reference_from b e = cond (eqb (head_of e) 0) Nothing (reference_to b (item_of e) (head_of e))

-- a listed namespace as the code has it
abbrev pub space_code : Space → Namespace
space_code (number z) = Number (word z)
space_code (name p s) = Name p (length s)
space_code relative = Relative

-- the bytes of the string whose head stands at a place, as far as they are there
abbrev pub string_by : List ℕ → Head → List ℕ
string_by b (Good k a q) = take a (drop q b)
string_by b (Bad r) = []

unfoldable pub string_in : List ℕ → ℕ → List ℕ
string_in b p = string_by b (head_at b p)

-- a listed name is the string at its place
abbrev pub NameStands : List ℕ → Space → Type 0
NameStands b (number z) = Unit {0}
NameStands b (name p s) = (p < length b) × (string_in b p ≡ s)
NameStands b relative = Unit {0}
