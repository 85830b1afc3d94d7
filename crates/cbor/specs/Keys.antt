-- Private to src/: what orders a key, as the code has it.
use Rattle.std.specs.Prelude.{ℕ, ◌^◌, ◌<◌, ◌≤◌, ◌≡◌, Bool, true, Option, Some, None, List, [], ◌++◌, length, drop}
use Rattle.cbor.specs.Head.{short_bytes, key_of}
use Rattle.cbor.specs.declared.Key.{Key}

-- a key's head, with the place of its string
pub record KeyAt (s : List ℕ) (kind arg next : ℕ) : Type 0 where
  pub counts : kind ≤ 5
  pub small : arg < 2 ^ 64
  pub inside : next ≤ length s
  pub key_is : key_of s ≡ short_bytes kind arg ++ drop next s

-- the key of a string, if it has one
abbrev pub KeyHead : List ℕ → Option Key → Type 0
KeyHead s (Some x) = KeyAt s x.kind x.arg x.next
KeyHead s None = key_of s ≡ []

-- where the answer is yes, a key's own bytes order it
pub record OwnKey (s : List ℕ) (r : Bool) : Type 0 where
  pub own : r ≡ true → key_of s ≡ s
