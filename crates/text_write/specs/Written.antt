-- What writing a text, or reading one, answers, and what the lent room holds then: R48, R49. Interface: bytes_of, written_of, room_after. Private to src/: spelling_by,
-- spelling_of, scheme_of, WritesWhole, small.
use Rattle.std.specs.Prelude.{ℕ, ◌≡◌, Bool, cond, List, [], ◌++◌, length, drop}
use Rattle.std.specs.Prelude.{Result, Ok}
use Rattle.ari.specs.declared.Limits.{Limits}
use Rattle.ari.specs.declared.Refusal.{Refusal}
use Rattle.ari.specs.Refusals as refusals
use Rattle.ari.specs.Reader.{end, push}
use Rattle.ari.specs.Items.{Items, encode}
use Rattle.ari.specs.Decode.{decode}
use Rattle.ari.specs.Due.{Due}
use Rattle.text.specs.Chars.{ascii}
use Rattle.text.specs.Text.{texts, an_ari_due, is_relative}
use Rattle.text.specs.Answer.{Output, refused, output, write_text}
use Rattle.buffer.specs.Put.{Put}
use Rattle.text_write.specs.declared.Spelling.{Spelling}
use Rattle.text_write.specs.declared.Written.{Written}

-- so many bytes, of so many items
abbrev pub bytes_of : ℕ → ℕ → Result Written Refusal
bytes_of n count = Ok (record { length = n; count = count })

-- the bytes written by their length, with the item count; or the refusal
abbrev pub written_of : Output → Result Written Refusal
written_of (refused r p) = refusals.refused r p
written_of (output u n) = bytes_of (length u) n

-- the bytes stand at the front, and the rest is as it was; a refusal leaves all as it was
abbrev pub room_after : List ℕ → Output → List ℕ
room_after room (refused r p) = room
room_after room (output u n) = u ++ drop (length u) room

-- whether an ARI has a text form, and then whether it is a relative reference
abbrev pub spelling_by : Bool → Output → Result Spelling Refusal
spelling_by x (refused r p) = refusals.refused r p
spelling_by x (output u n) = Ok (record { relative = x; count = n })

unfoldable pub spelling_of : Limits → List ℕ → Result Spelling Refusal
spelling_of m b = spelling_by (is_relative (decode b)) (write_text m b)

-- R99: the scheme, which only a relative reference lacks
abbrev pub scheme_of : Bool → List ℕ
scheme_of x = cond x [] (ascii "ari:")

-- Of each tree that may stand as the whole input, and opens no more than d containers, the text was put.
pub record WritesWhole (b : List ℕ) (d : ℕ) (x : Bool) (r : ℕ) (room room' : List ℕ) : Type 0 where
  pub text_of_lem : (g : Items) → Due g (push an_ari_due [] d end) → encode g ≡ b → Put room room' 0 r (scheme_of x ++ texts g an_ari_due)

-- the bytes of an ARI that is written through a small scratch
abbrev pub small : ℕ
small = 64
