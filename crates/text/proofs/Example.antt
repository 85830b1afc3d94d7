-- The worked examples' texts and some more, written and read again, as one statement over one table, within the gate's own limits.
use Prim.Native.Nat.{ℕ}
use Prim.Native.String.{String}
use mathlib.Core.Path.{◌≡◌, refl}
use mathlib.Core.List.{List, [], ◌∷◌}
use Rattle.buffer.specs.Runs.{front, past}
use Rattle.buffer.specs.Decimal.{digits, decimal, push_of, digitsOf, unsigned_of}
use Rattle.cbor.specs.Head.{width, shortest, major_of, kind_of, argument, lead_bytes, short_bytes, too_long, bad_single, bad_double, bad_half, bad_float, unused, get_from, get_head, string_size, is_container, arity, lead_of}
use Rattle.cbor.specs.Utf8.{utf8_from}
use Rattle.ari.specs.Name.{starts_name, continues_name, identifier, namespace_name}
use Rattle.ari.specs.Table.{types, rule, members}
use Rattle.ari.specs.Reader.{judge, judge_content, judge_got, take_step, visit, run, read}
use Rattle.ari.specs.Decode.{trace_got, trace, build, decode}
use Rattle.ari.specs.Limits.{gate_limits}
use Rattle.text.specs.Chars.{ascii, integer, hex, bare, escape, text_string, byte_string, simple_text, literal_text, name_text}
use Rattle.text.specs.Text.{names, type_name, spell, is_relative, text_of, is_float, is_set, form}
use Rattle.text.specs.Parse.{ends, in_word, starts_by, number, unhex, unescape, unhexes, inner, integer_of, literal_of, starts_number, name_of, type_number, type_of, opened, commas, count, parts, take_ari, take_at, level, parse, candidate}
use Rattle.text.specs.Answer.{refused, output, write_text, read_text}

pub data Example : Type 0 where
  both : List ℕ → ℕ → String → Example  -- bytes, items, text
  unwritten : List ℕ → ℕ → Example  -- bytes that have no text form, the place
  unread : String → Example  -- a text that is none

abbrev pub Hold : List Example → Type 0
Hold [] = Unit {0}
Hold (both b n t ∷ es) = (write_text gate_limits b ≡ output (ascii t) n) × (read_text gate_limits (ascii t) ≡ output b n) × Hold es
Hold (unwritten b p ∷ es) = (write_text gate_limits b ≡ refused 14 p) × Hold es
Hold (unread t ∷ es) = (read_text gate_limits (ascii t) ≡ refused 15 0) × Hold es

abbrev pub examples : List Example
examples =
    both (0x82 ∷ 0x05 ∷ 0x0a ∷ []) 3 "ari:/UINT/10"
    ∷ both (0x83 ∷ 0xf6 ∷ 0x21 ∷ 0x18 ∷ 0x1e ∷ []) 4 "./-2/30"
    ∷ both (0x84 ∷ 0x1a ∷ 0x00 ∷ 0x01 ∷ 0x00 ∷ 0x00 ∷ 0x22 ∷ 0x00 ∷ 0x81 ∷ 0x83 ∷ 0x33 ∷ 0x2a ∷ 0x05 ∷ []) 9 "ari://65536/-3/0(//-20/-11/5)"
    ∷ both (0x82 ∷ 0x11 ∷ 0x80 ∷ []) 3 "ari:/AC/()"
    ∷ both (0x82 ∷ 0x12 ∷ 0xa2 ∷ 0x20 ∷ 0xf5 ∷ 0x61 ∷ 0x61 ∷ 0x82 ∷ 0x11 ∷ 0x82 ∷ 0x01 ∷ 0x42 ∷ 0x00 ∷ 0xff ∷ []) 11 "ari:/AM/(-1=true,%22a%22=/AC/(1,h%2700ff%27))"
    ∷ both (0x65 ∷ 0x22 ∷ 0x25 ∷ 0x20 ∷ 0x7e ∷ 0x61 ∷ []) 1 "ari:%22%22%25%20~a%22"
    ∷ both (0x81 ∷ 0x63 ∷ 0x21 ∷ 0x61 ∷ 0x62 ∷ []) 2 "ari://!ab/"
    ∷ both (0x84 ∷ 0x61 ∷ 0x61 ∷ 0x20 ∷ 0x61 ∷ 0x62 ∷ 0xa1 ∷ 0x01 ∷ 0x82 ∷ 0x0e ∷ 0x61 ∷ 0x63 ∷ []) 9 "ari://a/-1/b(1=/LABEL/c)"
    ∷ unwritten (0x82 ∷ 0x14 ∷ 0x81 ∷ 0xf6 ∷ []) 0
    ∷ unwritten (0x82 ∷ 0x11 ∷ 0x82 ∷ 0x01 ∷ 0xf9 ∷ 0x3c ∷ 0x00 ∷ []) 4
    ∷ unread "ari:/UINT/010"
    ∷ unread "ari://a/-1/b()"
    ∷ []

pub the_examples : Hold examples
unfolding utf8_from width shortest major_of kind_of argument lead_bytes short_bytes too_long bad_single bad_double bad_half bad_float unused get_from get_head string_size is_container arity starts_name continues_name identifier namespace_name types rule members judge judge_content judge_got take_step visit run read trace_got trace build decode digits decimal integer hex bare escape text_string byte_string simple_text literal_text name_text names type_name spell is_relative text_of is_float is_set form ends in_word front past starts_by push_of digitsOf unsigned_of number unhex unescape unhexes inner lead_of integer_of literal_of starts_number name_of type_number type_of opened commas count parts take_ari take_at level parse candidate write_text read_text
the_examples = (refl, refl, (refl, refl, (refl, refl, (refl, refl, (refl, refl, (refl, refl, (refl, refl, (refl, refl, (refl, (refl, (refl, (refl, tt))))))))))))
