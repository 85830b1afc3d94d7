-- The ways through an entry's line.
use Prim.Native.Nat.{ℕ, ◌+◌, ◌-◌, ◌/◌, ◌%◌, ◌≤◌, ◌<◌}
use mathlib.Core.Path.{◌≡◌}
use mathlib.Core.List.{List, [], ◌∷◌}
use native.Mathlib.Omega.{arith}
use lib.ListN.{length, take, drop}
use borrow.Author.Tests.{le-leb, lt-leb, ne_eqb}
use Rattle.cbor.specs.declared.Head.{Head}
use Rattle.cbor.specs.declared.Head.TheVariants.{Bad, Good}
use Rattle.cbor.specs.Answer.{head_at}
use Rattle.buffer.specs.Put.{Put}
use Rattle.print.specs.Texts.{field_of}
use Rattle.buffer.proofs.Putting.{put_nothing, put_both}
use Rattle.buffer.specs.Bytes.{load_at}
use Rattle.print.specs.Integers.{integer_of}
use Rattle.print.specs.Entries.{name_of, space_of, entry_line, entry_of}

-- a name by its head
module _ {xs : List ℕ} {at : ℕ} (s : List ℕ) {h g : Head} (e : h ≡ g) where
  pub name_bad : {r : ℕ} → h ≡ Bad r → Put xs xs at at (name_of s g)
  name_bad f = rw (← e, f) (put_nothing xs at)

  module _ {k a q : ℕ} (f : h ≡ Good k a q) where
    pub name_past : length s < q → Put xs xs at at (name_of s g)
    name_past l = rw (← e, f, lt-leb (q + a) (length s) (omega arith)) (put_nothing xs at)

    pub name_cut : q ≤ length s → length s - q < a → Put xs xs at at (name_of s g)
    name_cut l m = rw (← e, f, lt-leb (q + a) (length s) (omega arith)) (put_nothing xs at)

    pub name_whole : {ys : List ℕ} {r : ℕ} → q ≤ length s → a ≤ length s - q → Put xs ys at r (take (q + a - q) (drop q s)) → Put xs ys at r (name_of s g)
    name_whole l m p = let d : q + a - q ≡ a = omega arith in rw (← e, f, le-leb (q + a) (length s) (omega arith)) (rw d at p)

-- a namespace by its kind
module _ {xs ys : List ℕ} {at r : ℕ} (s : List ℕ) (k w : ℕ) where
  pub space_name : k ≡ 1 → Put xs ys at r (name_of s (head_at s w)) → Put xs ys at r (space_of s k w)
  unfolding space_of
  space_name e p = rw e p

  pub space_relative : k ≡ 2 → Put xs ys at r (46 ∷ []) → Put xs ys at r (space_of s k w)
  unfolding space_of
  space_relative e p = rw e p

  pub space_number : (k ≡ 1 → ⊥) → (k ≡ 2 → ⊥) → Put xs ys at r (integer_of w) → Put xs ys at r (space_of s k w)
  unfolding space_of
  space_number d e p = rw (ne_eqb k 1 d, ne_eqb k 2 e) p

pub line_put : (s : List ℕ) (e k w : ℕ) {xs x₁ x₂ x₃ ys : List ℕ} {at p q r o : ℕ} → Put xs x₁ at p (field_of (e / 4294967296)) → Put x₁ x₂ p q (field_of (e % 4294967296))
    → Put x₂ x₃ q r (space_of s k w) → Put x₃ ys r o (10 ∷ []) → Put xs ys at o (entry_line s e k w)
unfolding entry_line
line_put s e k w a b c d = put_both a (put_both b (put_both c d))

-- an entry where there are 24 bytes
module _ (s b : List ℕ) (from : ℕ) {xs : List ℕ} {at : ℕ} where
  pub entry_none : length b < 24 → Put xs xs at at (entry_of s b from)
  unfolding entry_of
  entry_none h = rw (lt-leb (from + 24) (length b) (omega arith)) (put_nothing xs at)

  pub entry_past : 24 ≤ length b → length b - 24 < from → Put xs xs at at (entry_of s b from)
  unfolding entry_of
  entry_past g h = rw (lt-leb (from + 24) (length b) (omega arith)) (put_nothing xs at)

  pub entry_put : {ys : List ℕ} {r x y z : ℕ} → 24 ≤ length b → from ≤ length b - 24 → x ≡ load_at 8 b from → y ≡ load_at 8 b (from + 8) → z ≡ load_at 8 b (from + 16) → Put xs ys at r (entry_line s x y z)
      → Put xs ys at r (entry_of s b from)
  unfolding entry_of
  entry_put g h e f i p = rw (le-leb (from + 24) (length b) (omega arith), ← e, ← f, ← i) p

pub ruleset lined = (name_bad, name_past, name_cut, name_whole, space_name, space_relative, space_number, line_put, entry_none, entry_past, entry_put)

pub ruleset spaces = (space_name, space_relative, space_number)
