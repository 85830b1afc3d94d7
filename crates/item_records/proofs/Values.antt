-- The kinds of heads in their order, each with the value that its record's kind means.
use Prim.Native.Nat.{ℕ}
use mathlib.Core.Path.{◌≡◌, refl}
use mathlib.Core.Bool.{true, false}
use mathlib.Core.List.{List, [], ◌∷◌, map}
use lib.IntN.{pos, negsuc}
use Rattle.cbor.specs.Head.{unsigned, negative, bytes, text, array, simple, half, single, double}
use Rattle.cbor.specs.Head as head
use Rattle.item_records.specs.Records.{kind_of}
use Rattle.item_records.specs.Values.{Value, value_of}
use Rattle.item_records.specs.Values as value

pub values : (a : ℕ)
    → map (λ k. value_of (kind_of false k a)) (unsigned ∷ negative ∷ bytes ∷ text ∷ array ∷ head.map ∷ simple ∷ half ∷ single ∷ double ∷ [])
    ≡ value.integer (pos a) ∷ value.integer (negsuc a) ∷ value.byte_string a ∷ value.text_string a ∷ value.array a ∷ value.map a ∷ value.simple a ∷ value.float 2 a
    ∷ value.float 4 a ∷ value.float 8 a ∷ []
unfolding kind_of
values a = refl

pub reference_value : (a : ℕ) → value_of (kind_of true array a) ≡ value.reference a
unfolding kind_of
reference_value a = refl
