-- Message C of the worked examples: its program's `5 18 65536` and `14 18 -20`.
use mathlib.Core.Path.{◌≡◌, refl}
use mathlib.Core.List.{[], ◌∷◌}
use lib.IntN.{pos, negsuc}
use Rattle.cbor.specs.Head.{width, shortest, major_of, kind_of, argument, bad_float, bad_half, too_long, bad_single, bad_double, unused, get_from, get_head, string_size, arity, lead_bytes}
use Rattle.ari.specs.Table.{types, rule, members, is_reference}
use Rattle.ari.specs.Decode.{trace_got, trace, build, decode}
use Rattle.ari.specs.Listing.{number, listing}

pub c_listing : listing (0x01 ∷ 0x82 ∷ 0x14 ∷ 0x82 ∷ 0xf6 ∷ 0x84 ∷ 0x1a ∷ 0x00 ∷ 0x01 ∷ 0x00 ∷ 0x00 ∷ 0x22 ∷ 0x00 ∷ 0x81 ∷ 0x83 ∷ 0x33 ∷ 0x2a ∷ 0x05 ∷ [])
    ≡ record { first = 5; after = 18; space = number (pos 65536) } ∷ record { first = 14; after = 18; space = number (negsuc 19) } ∷ []
unfolding width shortest major_of kind_of argument bad_float bad_half too_long bad_single bad_double unused get_from get_head string_size arity lead_bytes types rule members is_reference trace_got trace build decode listing
c_listing = refl
