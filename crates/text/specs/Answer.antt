-- Writing an ARI's text and reading one: R110 to R113, with the tests R51 and R64 to R66. Interface: Spelled, Output, spell_out, written, write_text,
-- checked, read_text, lent, cut. Private to src/ (of text_write): longest.
use Rattle.std.specs.Prelude.{ℕ, ◌+◌, ◌*◌, min, ◌≡◌, cond, List, length, take, ltb}
use Rattle.buffer.specs.Bytes.{same}
use Rattle.ari.specs.declared.Limits.{Limits}
use Rattle.ari.specs.declared.Input.TheVariants.{Single}
use Rattle.ari.specs.Reader.{Answer, refuse, accept, read}
use Rattle.ari.specs.Items.{Items, encode}
use Rattle.ari.specs.Decode.{decode}
use Rattle.ari.specs.Rules.{Is}
use Rattle.text.specs.Text.{text_of, Form, spelled, none_at, form}
use Rattle.text.specs.Parse.{candidate}

-- The bytes b are an accepted ARI of n items that has a text form, and its text is t.
pub record Spelled (m : Limits) (t b : List ℕ) (n : ℕ) : Type 0 where
  pub is : Is m Single b (decode b) n
  pub has_text : form (decode b) ≡ spelled
  pub the_text : text_of (decode b) ≡ t

-- R48: a refusal's number and its second number; R8: or the bytes of the answer and the item count
pub data Output : Type 0 where
  refused : ℕ → ℕ → Output
  output : List ℕ → ℕ → Output

-- R64: an accepted ARI without a text is 14
abbrev pub spell_out : Form → List ℕ → ℕ → Output
spell_out spelled t n = output t n
spell_out (none_at p) t n = refused 14 p

abbrev pub written : Answer → Items → Output
written (refuse r p) g = refused r p
written (accept n) g = spell_out (form g) (text_of g) n

-- from binary to text
unfoldable pub write_text : Limits → List ℕ → Output
write_text l b = written (read l Single b) (decode b)

-- R65, R110: these bytes are an ARI whose text is t, or t is none, which is 15
abbrev pub checked : List ℕ → List ℕ → Output → Output
checked t b (refused r p) = refused 15 0
checked t b (output u n) = cond (same u t) (output b n) (refused 15 0)

-- from text to binary, with the item count of the ARI that it gives (R8); R51: a text that is too long is 1
unfoldable pub read_text : Limits → List ℕ → Output
read_text l t = let b = encode (candidate l t) in cond (ltb l.text (length t)) (refused 1 0) (checked t b (write_text l b))

-- R66: an answer of more bytes than the room holds is 16, with the bytes that it needs
abbrev pub lent : ℕ → Output → Output
lent room (refused r p) = refused r p
lent room (output u n) = cond (ltb room (length u)) (refused 16 (length u)) (output u n)

-- as many bytes of an answer as the room holds
abbrev pub cut : ℕ → Output → Output
cut room (refused r p) = refused r p
cut room (output u n) = output (take room u) n

-- R112: no ARI of n bytes has a longer text, within these limits. It has no more items than bytes.
abbrev pub longest : Limits → ℕ → ℕ
longest m n = 4 + (3 * min n m.bytes + 16 * min n m.items)
