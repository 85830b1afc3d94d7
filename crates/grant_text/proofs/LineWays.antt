-- The ways through the functions; the premises are the facts that the code leaves.
use Prim.Native.Nat.{ℕ, ◌-◌, ◌≤◌, ◌<◌}
use mathlib.Core.Path.{◌≡◌}
use mathlib.Core.Bool.{true, false}
use mathlib.Core.List.{List}
use native.Mathlib.Omega.{arith}
use lib.ListN.{length, drop, length-drop}
use borrow.Author.Tests.{ne_eqb}
use Rattle.buffer.specs.Bytes.{part}
use Rattle.buffer.specs.Runs.{RunTo}
use Rattle.std.specs.declared.option.Option.{Option}
use Rattle.std.specs.declared.option.Option.TheVariants.{Some, None}
use Rattle.buffer.specs.Decimal.{unsigned_of, signed_of}
use Rattle.buffer.proofs.RunLaws.{beyond}
use Rattle.grant_text.specs.declared.Class.TheVariants.{Uncommented, Word}
use Rattle.grant_text.specs.declared.Class.TheVariants as class
use Rattle.grant_text.specs.declared.Line.{Line}
use Rattle.grant_text.specs.declared.Line.TheVariants as line
use Rattle.grant_text.specs.Rows.{is_of, grant_of, is_empty, fields_of, row_of}

module _ (s n : Option ℕ) where
  pub grant_both : {a b : ℕ} → s ≡ Some a → n ≡ Some b → line.Grant a b ≡ grant_of s n
  grant_both e f = rw (e, f)

  pub grant_first : s ≡ None → line.Bad ≡ grant_of s n
  grant_first e = rw e

  pub grant_second : {a : ℕ} → s ≡ Some a → n ≡ None → line.Bad ≡ grant_of s n
  grant_second e f = rw (e, f)

-- lines
empty_not : (t : List ℕ) (i : ℕ) → i < length t → is_empty (drop i t) ≡ false
empty_not t i h = rw (length-drop i t, ne_eqb (length t - i) 0 (λ q. omega arith))

empty_is : (t : List ℕ) (i : ℕ) → length t ≤ i → is_empty (drop i t) ≡ true
empty_is t i h = rw (beyond t i h)

module _ (t : List ℕ) (a : ℕ) (w : RunTo (is_of class.Blank) t 0 a) where
  pub fields_blank : length t ≤ a → line.Blank ≡ fields_of t
  unfolding fields_of
  fields_blank h = rw (w.past_is, empty_is t a h)

  module _ {b c d e : ℕ} (g : a < length t) (v : RunTo (is_of Word) t a b) (x : RunTo (is_of class.Blank) t b c) (y : RunTo (is_of Word) t c d) (z : RunTo (is_of class.Blank) t d e) where
    pub fields_more : e < length t → line.Bad ≡ fields_of t
    unfolding fields_of
    fields_more h = rw (w.past_is, empty_not t a g, v.past_is, x.past_is, y.past_is, z.past_is, empty_not t e h)

    pub fields_two : {s n : Option ℕ} {r : Line} → length t ≤ e → s ≡ unsigned_of (part t a b) → n ≡ signed_of (part t c d) → r ≡ grant_of s n → r ≡ fields_of t
    unfolding fields_of
    fields_two h k l m = rw (w.past_is, empty_not t a g, v.past_is, x.past_is, y.past_is, z.past_is, empty_is t e h, v.front_is, y.front_is, ← k, ← l) m

pub row_is : (t : List ℕ) {e : ℕ} {r : Line} → RunTo (is_of Uncommented) t 0 e → r ≡ fields_of (part t 0 e) → r ≡ row_of t
unfolding row_of
row_is t w h = rw w.front_is h

pub ruleset ways = (grant_both, grant_first, grant_second)
