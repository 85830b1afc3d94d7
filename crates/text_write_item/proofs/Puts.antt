-- The ways through the functions of one item's text; the premises are the facts that the code leaves.
use Prim.Native.Nat.{ℕ, ◌+◌, ◌-◌, ◌/◌, ◌%◌, ◌≤◌, ◌<◌}
use mathlib.Core.Path.{◌≡◌, refl, sym}
use mathlib.Core.Bool.{Bool, true, false}
use mathlib.Core.List.{List, [], ◌∷◌, ◌++◌, append_assoc, append-nil}
use native.Mathlib.Omega.{arith}
use native.Mathlib.Numerals.{add-one}
use lib.ListN.{length, take, get_or}
use lib.Seq.{take-suc, take_all}
use lib.Dec.{eqb}
use borrow.Author.Tests.{lt-ltb, le-ltb, ne_eqb}
use Rattle.buffer.specs.Decimal.{digits, decimal}
use Rattle.ari.specs.Name.{continues_name}
use Rattle.text.specs.Chars.{ascii, integer, hex, hexes, bare, escape, each, text_string, byte_string, simple_text, literal_text, name_text}
use Rattle.text.specs.Text.{names, type_name}
use Rattle.buffer.specs.Put.{Put}
use Rattle.buffer.proofs.Putting.{put_nothing, put_size, put_both}
use Rattle.text_write_item.specs.Head.{head_of}

-- a byte of a text after those before it
one_more : (s : List ℕ) (i : ℕ) → i < length s → take (i + 1) s ≡ take i s ++ (get_or s i 0 ∷ [])
one_more s i h = rw (add-one i) (take-suc s i 0 h)

-- each byte in its own spelling
each_append : (f : ℕ → List ℕ) (u v : List ℕ) → each f (u ++ v) ≡ each f u ++ each f v
each_append f [] v = refl
each_append f (x ∷ u) v = rw (each_append f u v) (sym (append_assoc (f x) (each f u) (each f v)))

module _ (f : ℕ → List ℕ) where
  pub each_begin : (room s : List ℕ) (at : ℕ) → Put room room at at (each f (take 0 s))
  each_begin room s at = put_nothing room at

  pub each_on : {a b c : List ℕ} {at q r : ℕ} (s : List ℕ) (i : ℕ) → Put a b at q (each f (take i s)) → i < length s → Put b c q r (f (get_or s i 0))
      → Put a c at r (each f (take (i + 1) s))
  each_on s i p h w = rw (one_more s i h, each_append f (take i s) (get_or s i 0 ∷ []), append-nil (f (get_or s i 0))) (put_both p w)

  pub each_end : {a b : List ℕ} {at r : ℕ} (s : List ℕ) (i : ℕ) → Put a b at r (each f (take i s)) → length s ≤ i → Put a b at r (each f s)
  each_end s i p h = rw (take_all i s h) at p

-- hex digits
pub low_hex : (ten d : ℕ) → d < 10 → 48 + d ≡ hex ten d
unfolding hex
low_hex ten d h = rw (lt-ltb d 10 h)

pub high_hex : (ten d : ℕ) → 10 ≤ d → ten + (d - 10) ≡ hex ten d
unfolding hex
high_hex ten d h = rw (le-ltb d 10 h)

pub two_hexes : {a b c : List ℕ} {at q r x y : ℕ} (ten n : ℕ) → x ≡ hex ten (n / 16) → Put a b at q (x ∷ []) → y ≡ hex ten (n % 16) → Put b c q r (y ∷ [])
    → Put a c at r (hexes ten n)
two_hexes ten n e p g w = put_both (rw e at p) (rw g at w)

-- bare bytes and escapes
pub bare_name : (x : ℕ) {c : Bool} → c ≡ continues_name x → c ≡ true → true ≡ bare x
unfolding bare
bare_name x e h = rw (← e, h)

pub bare_other : (x : ℕ) {c : Bool} → c ≡ continues_name x → c ≡ false → eqb x 126 ≡ bare x
unfolding bare
bare_other x e h = rw (← e, h)

pub stands_bare : {a b : List ℕ} {at r : ℕ} (x : ℕ) {c : Bool} → c ≡ bare x → c ≡ true → Put a b at r (x ∷ []) → Put a b at r (escape x)
unfolding escape
stands_bare x e h p = rw (← e, h) p

pub stands_escaped : {a b c : List ℕ} {at q r : ℕ} (x : ℕ) {y : Bool} → y ≡ bare x → y ≡ false → Put a b at q (37 ∷ []) → Put b c q r (hexes 65 x) → Put a c at r (escape x)
unfolding escape
stands_escaped x e h p w = rw (← e, h) (put_both p w)

-- strings between their marks
pub a_text : {a b c d : List ℕ} {at q r e : ℕ} (s : List ℕ) → Put a b at q (ascii "%22") → Put b c q r (each escape s) → Put c d r e (ascii "%22")
    → Put a d at e (text_string s)
unfolding text_string
a_text s p w z = put_both p (put_both w z)

pub some_bytes : {a b c d : List ℕ} {at q r e : ℕ} (s : List ℕ) → Put a b at q (ascii "h%27") → Put b c q r (each (hexes 97) s) → Put c d r e (ascii "%27")
    → Put a d at e (byte_string s)
unfolding byte_string
some_bytes s p w z = put_both p (put_both w z)

-- integers
pub negative_most : {a b c : List ℕ} {at q r n : ℕ} → n ≡ 18446744073709551615 → Put a b at q (45 ∷ []) → Put b c q r (ascii "18446744073709551616") → Put a c at r (integer 1 n)
unfolding integer decimal digits
negative_most e p w = rw e (put_both p w)

pub a_negative : {a b c : List ℕ} {at q r : ℕ} (n : ℕ) → Put a b at q (45 ∷ []) → Put b c q r (decimal (n + 1)) → Put a c at r (integer 1 n)
unfolding integer
a_negative n p w = rw add-one at (put_both p w)

pub below_zero : {a b : List ℕ} {at r : ℕ} (k n : ℕ) → k ≡ 1 → Put a b at r (integer 1 n) → Put a b at r (integer k n)
below_zero k n e p = rw e p

pub from_zero : {a b : List ℕ} {at r : ℕ} (k n : ℕ) → (k ≡ 1 → ⊥) → Put a b at r (decimal n) → Put a b at r (integer k n)
unfolding integer
from_zero k n e p = rw (ne_eqb k 1 e) p

-- simple values
module _ {a b : List ℕ} {at r : ℕ} (n : ℕ) where
  pub is_false : n ≡ 20 → Put a b at r (ascii "false") → Put a b at r (simple_text n)
  unfolding simple_text
  is_false e p = rw e p

  pub is_true : n ≡ 21 → Put a b at r (ascii "true") → Put a b at r (simple_text n)
  unfolding simple_text
  is_true e p = rw e p

  pub is_null : n ≡ 22 → Put a b at r (ascii "null") → Put a b at r (simple_text n)
  unfolding simple_text
  is_null e p = rw e p

  pub is_undefined : (n ≡ 20 → ⊥) → (n ≡ 21 → ⊥) → (n ≡ 22 → ⊥) → Put a b at r (ascii "undefined") → Put a b at r (simple_text n)
  unfolding simple_text
  is_undefined e f g p = rw (ne_eqb n 20 e, ne_eqb n 21 f, ne_eqb n 22 g) p

-- literals and names, by kind
module _ {a b : List ℕ} {at r : ℕ} (k n : ℕ) (s : List ℕ) where
  pub literal_unsigned : k ≡ 0 → Put a b at r (integer k n) → Put a b at r (literal_text (head_of k n) s)
  unfolding literal_text
  literal_unsigned e p = rw e (rw e at p)

  pub literal_negative : k ≡ 1 → Put a b at r (integer k n) → Put a b at r (literal_text (head_of k n) s)
  unfolding literal_text
  literal_negative e p = rw e (rw e at p)

  pub literal_bytes : k ≡ 2 → Put a b at r (byte_string s) → Put a b at r (literal_text (head_of k n) s)
  unfolding literal_text
  literal_bytes e p = rw e p

  pub literal_text_lem : k ≡ 3 → Put a b at r (text_string s) → Put a b at r (literal_text (head_of k n) s)
  unfolding literal_text
  literal_text_lem e p = rw e p

  pub literal_simple : k ≡ 6 → Put a b at r (simple_text n) → Put a b at r (literal_text (head_of k n) s)
  unfolding literal_text
  literal_simple e p = rw e p

  pub name_text_lem : k ≡ 3 → Put a b at r s → Put a b at r (name_text (head_of k n) s)
  unfolding name_text
  name_text_lem e p = rw e p

  pub name_number : (k ≡ 3 → ⊥) → Put a b at r (integer k n) → Put a b at r (name_text (head_of k n) s)
  unfolding name_text
  name_number e p = rw (ne_eqb k 3 e) p

pub no_literal : (room : List ℕ) (at k n : ℕ) (s : List ℕ) → (k ≡ 0 → ⊥) → (k ≡ 1 → ⊥) → (k ≡ 2 → ⊥) → (k ≡ 3 → ⊥) → (k ≡ 6 → ⊥)
    → Put room room at at (literal_text (head_of k n) s)
unfolding literal_text
no_literal room at k n s z o t h x =
    rw (le-ltb k 2 (omega arith), ne_eqb k 2 t, ne_eqb k 3 h, ne_eqb k 6 x) (put_nothing room at)

-- the name of a type
pub typed : {a b : List ℕ} {at r : ℕ} (t n : ℕ) {u : List ℕ} → t ≡ n → Put a b at r u → u ≡ type_name n → Put a b at r (type_name t)
typed t n e p q = rw (e, ← q) p

pub untyped : (room : List ℕ) (at t : ℕ) → (t ≡ 0 → ⊥) → (t ≡ 1 → ⊥) → (t ≡ 2 → ⊥) → (t ≡ 4 → ⊥) → (t ≡ 5 → ⊥) → (t ≡ 6 → ⊥) → (t ≡ 7 → ⊥) → (t ≡ 8 → ⊥)
    → (t ≡ 9 → ⊥) → (t ≡ 10 → ⊥) → (t ≡ 11 → ⊥) → (t ≡ 12 → ⊥) → (t ≡ 13 → ⊥) → (t ≡ 14 → ⊥) → (t ≡ 15 → ⊥) → (t ≡ 17 → ⊥) → (t ≡ 18 → ⊥)
    → (t ≡ 20 → ⊥) → (t ≡ 21 → ⊥) → Put room room at at (type_name t)
unfolding type_name names
untyped room at t a b c d e f g h i j k l m n o p q r s =
    rw (
      ne_eqb t 0 a,
      ne_eqb t 1 b,
      ne_eqb t 2 c,
      ne_eqb t 4 d,
      ne_eqb t 5 e,
      ne_eqb t 6 f,
      ne_eqb t 7 g,
      ne_eqb t 8 h,
      ne_eqb t 9 i,
      ne_eqb t 10 j,
      ne_eqb t 11 k,
      ne_eqb t 12 l,
      ne_eqb t 13 m,
      ne_eqb t 14 n,
      ne_eqb t 15 o,
      ne_eqb t 17 p,
      ne_eqb t 18 q,
      ne_eqb t 20 r,
      ne_eqb t 21 s,
    ) (put_nothing room at)

pub ruleset puts = (put_size, each_begin, each_on, each_end, low_hex, high_hex, two_hexes, bare_name, bare_other, stands_bare, stands_escaped, a_text, some_bytes, negative_most, a_negative, below_zero, from_zero, is_false, is_true, is_null, is_undefined, literal_unsigned, literal_negative, literal_bytes, literal_text_lem, literal_simple, name_text_lem, name_number, no_literal, untyped)
