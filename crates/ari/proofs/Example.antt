-- The worked examples that are proved, as one statement over one table, at the gate's own limits.
use Prim.Native.Nat.{ℕ}
use mathlib.Core.Path.{◌≡◌, refl}
use mathlib.Core.List.{List, [], ◌∷◌}
use Rattle.cbor.specs.Head.{width, shortest, major_of, kind_of, argument, short_bytes, too_long, bad_single, bad_double, bad_half, bad_float, unused, get_from, get_head, string_size, is_container}
use Rattle.cbor.specs.Utf8.{utf8_from}
use Rattle.ari.specs.Table.{types, rule, members}
use Rattle.ari.specs.declared.Input.{Input}
use Rattle.ari.specs.declared.Input.TheVariants.{Single, Message}
use Rattle.ari.specs.Reader.{judge, judge_content, judge_got, Answer, refuse, accept, take_step, visit, run, read}
use Rattle.ari.specs.Limits.{gate_limits}

pub data Example : Type 0 where
  example : Input → List ℕ → Answer → Example

abbrev pub Hold : List Example → Type 0
Hold [] = Unit {0}
Hold (example i b a ∷ es) = (read gate_limits i b ≡ a) × Hold es

abbrev pub examples : List Example
examples =
    example Single (0xf7 ∷ []) (accept 1)
    ∷ example Single (0x3b ∷ 0x7f ∷ 0xff ∷ 0xff ∷ 0xff ∷ 0xff ∷ 0xff ∷ 0xff ∷ 0xff ∷ []) (accept 1)
    ∷ example Single (0x3b ∷ 0x80 ∷ 0x00 ∷ 0x00 ∷ 0x00 ∷ 0x00 ∷ 0x00 ∷ 0x00 ∷ 0x00 ∷ []) (refuse 7 0)
    ∷ example Single (0x82 ∷ 0x02 ∷ 0x18 ∷ 0xff ∷ []) (accept 3)
    ∷ example Single (0x82 ∷ 0x02 ∷ 0x19 ∷ 0x01 ∷ 0x00 ∷ []) (refuse 7 2)
    ∷ example Single (0x82 ∷ 0x0e ∷ 0x61 ∷ 0x61 ∷ []) (refuse 7 1)
    ∷ example Single (0xfa ∷ 0x3f ∷ 0xc0 ∷ 0x00 ∷ 0x00 ∷ []) (refuse 4 0)
    ∷ example Single (0x84 ∷ 0x00 ∷ 0x20 ∷ 0x00 ∷ 0x80 ∷ []) (refuse 12 4)
    ∷ example Single (0x82 ∷ 0x12 ∷ 0xa2 ∷ 0x02 ∷ 0x00 ∷ 0x01 ∷ 0x00 ∷ []) (refuse 11 5)
    ∷ example Message [] (refuse 2 0)
    ∷ example Message (0x01 ∷ []) (accept 1)
    ∷ example Message (0x02 ∷ []) (refuse 8 0)
    ∷ example Message
    (0x01 ∷ 0x82 ∷ 0x14 ∷ 0x82 ∷ 0xf6 ∷ 0x84 ∷ 0x1a ∷ 0x00 ∷ 0x01 ∷ 0x00 ∷ 0x00 ∷ 0x22 ∷ 0x00 ∷ 0x81 ∷ 0x83 ∷ 0x33 ∷ 0x2a ∷ 0x05 ∷ [])
    (accept 14)
    ∷ []

pub the_examples : Hold examples
unfolding utf8_from width shortest major_of kind_of argument short_bytes too_long bad_single bad_double bad_half bad_float unused get_from get_head string_size is_container types rule members judge judge_content judge_got take_step visit run read
the_examples = (refl, (refl, (refl, (refl, (refl, (refl, (refl, (refl, (refl, (refl, (refl, (refl, (refl, tt)))))))))))))
