-- An order composed: the message of a nonce and of targets that are given as texts (R218 to R224). Interface: all of it.
use Rattle.std.specs.Prelude.{ℕ, suc, Bool, true, false, ◌&&◌, cond, List, [], ◌∷◌, length, ltb, leb, eqb}
use Rattle.buffer.specs.Bytes.{within}
use Rattle.cbor.specs.Head.{unsigned, bytes, array, simple, Lead, lead_of}
use Rattle.ari.specs.Table.{max63}
use Rattle.ari.specs.declared.Limits.{Limits}
use Rattle.ari.specs.Items.{Items, none, item, encode, heads, depth}
use Rattle.ari.specs.Decode.{decode}
use Rattle.text.specs.Answer.{Output, refused, output, read_text}

-- R218: a nonce; what is given by another kind than 0, 1 and 2 is none
pub data Nonce : Type 0 where
  null : Nonce
  number : ℕ → Nonce
  string : List ℕ → Nonce
  other : Nonce

abbrev pub nonce_of : ℕ → ℕ → List ℕ → Nonce
nonce_of kind n s = cond (eqb kind 0) null (cond (eqb kind 1) (number n) (cond (eqb kind 2) (string s) other))

abbrev pub in_range : Nonce → Bool
in_range null = true
in_range (number n) = leb n max63
in_range (string s) = true
in_range other = false

-- its head and its string
abbrev pub nonce_lead : Nonce → Lead
nonce_lead null = lead_of simple 22
nonce_lead (number n) = lead_of unsigned n
nonce_lead (string s) = lead_of bytes (length s)
nonce_lead other = lead_of simple 22

abbrev pub nonce_string : Nonce → List ℕ
nonce_string null = []
nonce_string (number n) = []
nonce_string (string s) = s
nonce_string other = []

-- R219: texts, each without the line feed that ends it; bytes behind the last line feed are one that is not ended
pub data Texts : Type 0 where
  no_more : Texts
  unended : Texts
  text : List ℕ → Texts → Texts

-- one byte more in front of the first
abbrev pub lengthen : ℕ → Texts → Texts
lengthen x no_more = unended
lengthen x unended = unended
lengthen x (text t ts) = text (x ∷ t) ts

abbrev pub texts_in : List ℕ → Texts
texts_in [] = no_more
texts_in (x ∷ b) = let ts = texts_in b in cond (eqb x 10) (text [] ts) (lengthen x ts)

-- R220: the object reference that a text is: the head, the string and the members of its ARI
pub data Reference : Type 0 where
  nothing : Reference
  reference : Lead → List ℕ → Items → Reference

abbrev pub is_object : Lead → Bool
is_object l = eqb l.kind array && within 3 4 l.arg

abbrev pub reference_in : Items → Reference
reference_in none = nothing
reference_in (item l s ms none) = cond (is_object l) (reference l s ms) nothing
reference_in (item l s ms (item k t ns rs)) = nothing

abbrev pub reference_by : Output → Reference
reference_by (refused r p) = nothing
reference_by (output b n) = reference_in (decode b)

unfoldable pub reference_of : Limits → List ℕ → Reference
reference_of m t = reference_by (read_text m t)

-- R221: the targets that texts are, counted; or the number of the first text that is none
pub data Gathered : Type 0 where
  wrong : ℕ → Gathered
  targets : ℕ → Items → Gathered

abbrev pub with_first : ℕ → Reference → Gathered → Gathered
with_first k nothing g = wrong k
with_first k (reference l s ms) (wrong j) = wrong j
with_first k (reference l s ms) (targets n rs) = targets (suc n) (item l s ms rs)

abbrev pub gather : Limits → ℕ → Texts → Gathered
gather m k no_more = targets 0 none
gather m k unended = wrong k
gather m k (text t ts) = with_first k (reference_of m t) (gather m (suc k) ts)

-- R222: version 1, and one EXECSET, of the nonce and so many targets
abbrev pub order_of : Nonce → ℕ → Items → Items
order_of z n ts =
    item (lead_of unsigned 1) [] none
    (item (lead_of array 2) []
    (item (lead_of unsigned 20) [] none (item (lead_of array (suc n)) [] (item (nonce_lead z) (nonce_string z) none ts) none))
    none)

-- R223: the limits, of the finished message; an answer is its bytes and its item count
unfoldable pub finished : Limits → Items → Output
finished m g =
    cond (ltb m.bytes (length (encode g))) (refused 1 0)
    (cond (ltb m.items (heads g)) (refused 5 0)
    (cond (ltb m.containers (depth g)) (refused 6 0)
    (output (encode g) (heads g))))

abbrev pub composed_by : Limits → Nonce → Gathered → Output
composed_by m z (wrong k) = refused 24 k
composed_by m z (targets n ts) = finished m (order_of z n ts)

-- R224: the refusals in their order; 16 is for the room that is lent (`lent` of `text`)
unfoldable pub compose : Limits → Nonce → List ℕ → Output
compose m z b = cond (in_range z) (composed_by m z (gather m 0 (texts_in b))) (refused 7 0)
