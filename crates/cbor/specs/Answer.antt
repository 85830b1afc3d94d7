-- What the functions answer: the definitions at a place of the input, and their parts. Interface: head_at, Passed. Private to src/: answer, judged, follows, Tail, Sequence.
use Rattle.std.specs.Prelude.{ℕ, ◌+◌, ◌<◌, ◌≤◌, Bool, ◌&&◌, cond, ◌≡◌, List, length, drop, get_or, ltb}
use Rattle.cbor.specs.declared.Head.{Head}
use Rattle.cbor.specs.declared.Head.TheVariants.{Bad, Good}
use Rattle.buffer.specs.Bytes.{within}
use Rattle.cbor.specs.Utf8.{utf8_from, utf8}
use Rattle.cbor.specs.Head.{double, kind_of, size, unused, bad_float, Got, bad, got, get_head}

-- a head that starts at `at`
abbrev pub answer : ℕ → Got → Head
answer at (bad r) = Bad r
answer at (got l) = Good l.kind l.arg (at + size l)

unfoldable pub head_at : List ℕ → ℕ → Head
head_at b at = answer at (get_head (drop at b))

-- the tests 3 and 4, of the major type m and info i with the argument a, where n is the place behind
unfoldable pub judged : ℕ → ℕ → ℕ → ℕ → Head
judged m i a n = cond (unused m i) (Bad 3) (cond (bad_float (kind_of m i) a) (Bad 4) (Good (kind_of m i) a n))

-- what a head that was read has shown
abbrev pub Passed : List ℕ → ℕ → Head → Type 0
Passed b at (Bad r) = Unit {0}
Passed b at (Good k a n) = (at < n) × (n ≤ length b) × (k ≤ double)

-- a byte from lo to hi stands at `at`
unfoldable pub follows : List ℕ → ℕ → ℕ → ℕ → Bool
follows s at lo hi = ltb at (length s) && within lo hi (get_or s at 0)

-- n continuation bytes, the first from lo to hi, are due behind the byte at i: they are there, and the text goes on at i + r; or r is 0 and
-- they are not
pub record Tail (s : List ℕ) (i n lo hi r : ℕ) : Type 0 where
  pub inside : i + r ≤ length s
  pub rest : utf8_from n lo hi (drop (i + 1) s) ≡ (ltb 0 r && utf8 (drop (i + r) s))

-- at i stands a well-formed sequence of r bytes; or r is 0 and none does
pub record Sequence (s : List ℕ) (i r : ℕ) : Type 0 where
  pub inside : i + r ≤ length s
  pub rest : utf8 (drop i s) ≡ (ltb 0 r && utf8 (drop (i + r) s))
