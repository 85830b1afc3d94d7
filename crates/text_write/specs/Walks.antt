-- The walk that writes a text: what it finds and what it puts, for every tree that may stand where it walks. Private to src/: Inside, ItemAt, Writes.
use Rattle.std.specs.Prelude.{ℕ, ◌+◌, ◌≤◌, ◌<◌, ◌≡◌, false, ◌&&◌, List, ◌++◌, length, drop, eqb}
use Rattle.std.specs.Prelude.{Option, Some, None}
use Rattle.cbor.specs.Head.{Lead, size, lead_bytes, is_container}
use Rattle.ari.specs.Table.{Level}
use Rattle.ari.specs.Reader.{end, push}
use Rattle.ari.specs.Items.{Items, encode}
use Rattle.ari.specs.Due.{Good, Due}
use Rattle.grammar.specs.Code.{slot_of}
use Rattle.text.specs.Text.{texts}
use Rattle.buffer.specs.Put.{Put}
use Rattle.text_write.specs.declared.Item.{Item}
use Rattle.text_write.specs.declared.Pos.{Pos}

-- what a head that was taken has shown
abbrev pub Inside : List ℕ → ℕ → ℕ → Option Item → Type 0
Inside b p d (Some x) = (p < x.from) × (x.from ≤ x.to) × (x.to ≤ length b) × ((is_container x.kind && eqb d 0) ≡ false)
Inside b p d None = Unit {0}

-- a head by its kind and argument, with its string from f to t
abbrev pub taken : ℕ → ℕ → ℕ → ℕ → Option Item
taken k a f t = Some (record { kind = k; arg = a; from = f; to = t })

-- The head at p, at a slot where d containers may still be opened: each head that may stand there is taken as it is.
pub record ItemAt (b : List ℕ) (p i d : ℕ) (x : Option Item) : Type 0 where
  pub inside : Inside b p d x
  pub takes : (l : Lead) (str z prev : List ℕ) → Good (slot_of i) prev l str → (is_container l.kind && eqb d 0) ≡ false → drop p b ≡ lead_bytes l ++ (str ++ z)
      → x ≡ taken l.kind l.arg (p + size l) (p + (size l + length str))

-- A walk over a level from p on that puts text from `at` on and ends at w: of each tree that is due there it puts the text.
pub record Writes (b : List ℕ) (v : Level) (d p at : ℕ) (w : Pos) (room room' : List ℕ) : Type 0 where
  pub on : p ≤ w.next
  pub within : w.next ≤ length b
  pub text_of_lem : (g : Items) (prev z : List ℕ) → Due g (push v prev d end) → drop p b ≡ encode g ++ z
      → (w.next ≡ p + length (encode g)) × Put room room' at w.end (texts g v)
