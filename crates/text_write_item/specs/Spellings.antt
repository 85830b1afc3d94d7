-- How the heads of each slot are spelled. Interface: spelling_at, before_by, after_by. Private to src/: the others. That they are those of the slots is proved in proofs/Spelled.antt.
use Rattle.std.specs.Prelude.{ℕ, Bool, cond, List, [], ◌∷◌, ◌++◌, get_or, eqb}
use Rattle.cbor.specs.Head.{is_container}
use Rattle.text.specs.Chars.{ascii, literal_text, name_text}
use Rattle.text.specs.Text.{type_name}
use Rattle.text_write_item.specs.Head.{head_of}
use Rattle.text_write_item.specs.declared.Spelling.{Spelling}
use Rattle.text_write_item.specs.declared.Spelling.TheVariants.{Unspelled, Ari, TypeName, Value, Label, Namespace, ObjectNamespace, ObjectType, ObjectId, Parameters, Key}

-- the spelling of each slot, by its number
abbrev pub spellings : List Spelling
spellings =
    Unspelled ∷ Ari ∷ Ari ∷ Ari ∷ Ari ∷ TypeName ∷ TypeName ∷ TypeName ∷ TypeName ∷ Namespace ∷ ObjectNamespace ∷ ObjectNamespace ∷ ObjectType
    ∷ ObjectType ∷ ObjectId ∷ ObjectId ∷ Parameters ∷ Key ∷ Key ∷ Ari ∷ Ari ∷ Unspelled ∷ Unspelled ∷ Unspelled ∷ Unspelled ∷ Unspelled ∷ Unspelled
    ∷ Unspelled ∷ Value ∷ Value ∷ Value ∷ Value ∷ Value ∷ Value ∷ Value ∷ Value ∷ Value ∷ Value ∷ Value ∷ Value ∷ Value ∷ Value ∷ Label ∷ Value
    ∷ Value ∷ Value ∷ Value ∷ Value ∷ Value ∷ Value ∷ Value ∷ Value ∷ Value ∷ Value ∷ Value ∷ Value ∷ Value ∷ Value ∷ Value ∷ Value ∷ Value ∷ Value
    ∷ Value ∷ Value ∷ Label ∷ Value ∷ Value ∷ Value ∷ Value ∷ Value ∷ Value ∷ Value
    ∷ []

abbrev pub spelling_at : ℕ → Spelling
spelling_at i = get_or spellings i Unspelled

-- an ARI's head; the bracket of a container, or a leaf's text; a namespace
unfoldable pub ari_text : ℕ → ℕ → List ℕ → List ℕ
ari_text k a s = cond (eqb k 4) (cond (eqb a 2) (ascii "/") []) (literal_text (head_of k a) s)

unfoldable pub opening : ℕ → List ℕ → List ℕ
opening k u = cond (is_container k) (ascii "(") u

unfoldable pub space_text : ℕ → ℕ → List ℕ → List ℕ
space_text k a s = cond (eqb k 6) (ascii ".") (ascii "//" ++ name_text (head_of k a) s)

-- what a head writes before its members
unfoldable pub before_by : Spelling → ℕ → ℕ → List ℕ → List ℕ
before_by Unspelled k a s = []
before_by Ari k a s = ari_text k a s
before_by TypeName k a s = type_name a
before_by Value k a s = opening k (literal_text (head_of k a) s)
before_by Label k a s = opening k s
before_by Namespace k a s = ascii "//" ++ name_text (head_of k a) s
before_by ObjectNamespace k a s = space_text k a s
before_by ObjectType k a s = name_text (head_of k a) s
before_by ObjectId k a s = name_text (head_of k a) s
before_by Parameters k a s = ascii "("
before_by Key k a s = literal_text (head_of k a) s

-- what it writes after them; whether more is due beside it
unfoldable pub closing : ℕ → List ℕ
closing k = cond (is_container k) (ascii ")") []

unfoldable pub after_by : Spelling → ℕ → Bool → List ℕ
after_by Unspelled k more = []
after_by Ari k more = cond more (ascii ",") []
after_by TypeName k more = ascii "/"
after_by Value k more = closing k
after_by Label k more = closing k
after_by Namespace k more = ascii "/"
after_by ObjectNamespace k more = ascii "/"
after_by ObjectType k more = ascii "/"
after_by ObjectId k more = []
after_by Parameters k more = ascii ")"
after_by Key k more = ascii "="
