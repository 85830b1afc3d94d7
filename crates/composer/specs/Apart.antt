-- A composed order taken apart (R225): the nonce and the targets' texts, read off the message's tree. Interface: nonce_in, texts_for; the others are their parts.
use Rattle.std.specs.Prelude.{ℕ, cond, List, [], ◌∷◌, ◌++◌, eqb}
use Rattle.cbor.specs.Head.{unsigned, bytes}
use Rattle.ari.specs.Items.{Items, none, item}
use Rattle.ari.specs.Decode.{decode}
use Rattle.text.specs.Text.{text_of}
use Rattle.composer.specs.Compose.{Nonce, null, number, string}

-- what an item holds, and what is behind it
abbrev pub held : Items → Items
held none = none
held (item l s ms rs) = ms

abbrev pub behind : Items → Items
behind none = none
behind (item l s ms rs) = rs

-- the nonce and the targets: what the second of a set's two holds, the set being behind the version
abbrev pub order_in : Items → Items
order_in g = held (behind (held (behind g)))

abbrev pub nonce_by : Items → Nonce
nonce_by none = null
nonce_by (item l s ms rs) = cond (eqb l.kind unsigned) (number l.arg) (cond (eqb l.kind bytes) (string s) null)

-- each target's text with a line feed
abbrev pub texts_by : Items → List ℕ
texts_by none = []
texts_by (item l s ms rs) = text_of (item l s ms none) ++ (10 ∷ texts_by rs)

abbrev pub nonce_in : List ℕ → Nonce
nonce_in b = nonce_by (order_in (decode b))

abbrev pub texts_for : List ℕ → List ℕ
texts_for b = texts_by (behind (order_in (decode b)))
