-- A literal's or a name's text is one word, which is read back.
use Prim.Native.Nat.{ℕ, zero, suc, ◌+◌, ◌-◌, ◌*◌, ◌/◌, ◌%◌, ◌^◌, ◌≤◌, ◌<◌}
use Prim.Native.Char.{code}
use mathlib.Core.Path.{◌≡◌, refl, sym, ◌∙◌, ap}
use mathlib.Core.Bool.{Bool, true, false, ◌&&◌, ◌||◌, cond, true≢false}
use mathlib.Core.List.{List, [], ◌∷◌, ◌++◌}
use mathlib.Core.Logic.{◌⊎◌, inl, inr}
use native.Mathlib.Omega.{arith}
use lib.ListN.{length, length-append}
use lib.Seq.{take_at, drop_at}
use lib.Dec.{ltb, eqb}
use borrow.Author.Tests.{ltb-true, eqb-true, eqb-false, lt-leb, ne_eqb}
use Rattle.buffer.proofs.RunLaws.{run_at}
use Rattle.buffer.proofs.RunLaws as runs
use Rattle.buffer.proofs.DecimalLaws.{is_digit, all_digits, digits_some, decimal_back}
use Rattle.buffer.specs.Runs.{front, past}
use Rattle.buffer.specs.Decimal.{digits, decimal}
use Rattle.buffer.specs.Bytes.{within, all, is_byte}
use Rattle.cbor.specs.Head.{unsigned, negative, bytes, text, simple, Lead}
use Rattle.buffer.proofs.ByteLaws.{and-true, or-true, within_true, all_append}
use Rattle.ari.specs.Name.{starts_name, continues_name, identifier, namespace_name}
use Rattle.ari.specs.Table.{max64, max63}
use Rattle.text.specs.Chars.{integer, hex, hexes, bare, escape, each, text_string, byte_string, simple_text, literal_text, name_text}
use Rattle.text.specs.Parse.{ends, in_word, starts_by, starts, number, unhex, any, unescape, unhexes, inner, head_of, string_of, integer_of, literal_of, starts_number, name_of}

-- a word, and what stands behind it
unfoldable pub halts : List ℕ → Bool
halts [] = true
halts (x ∷ t) = ends x

pub word_at : (u r : List ℕ) → all in_word u ≡ true → halts r ≡ true → (front in_word (u ++ r) ≡ u) × (past in_word (u ++ r) ≡ r)
word_at u r e h = run_at in_word u r e (stop r h)
  where
    stop : (r : List ℕ) → halts r ≡ true → runs.Halts in_word r
    stop [] h = unfold runs.Halts in tt
    stop (x ∷ r) h = unfold runs.Halts halts in_word in rw h

-- a test that fails at c
pub differs : (p : ℕ → Bool) (c : ℕ) → p c ≡ false → (x : ℕ) → p x ≡ true → eqb x c ≡ false
differs p c e x h = ne_eqb x c (λ q. true≢false (sym h ∙ ap p q ∙ e))

-- what starts so starts with no c, starts so with more behind it, and starts so by a weaker test
pub begins : (p : ℕ → Bool) (c : ℕ) (u : List ℕ) → starts_by p u ≡ true → p c ≡ false → starts c u ≡ false
unfolding starts_by
begins p c [] e n = refl
begins p c (x ∷ u) e n = differs p c n x e

pub starts_more : (p : ℕ → Bool) (u r : List ℕ) → starts_by p u ≡ true → starts_by p (u ++ r) ≡ true
unfolding starts_by
starts_more p [] r e = absurd (true≢false (sym e))
starts_more p (x ∷ u) r e = e

pub starts_weaken : (p q : ℕ → Bool) → ((x : ℕ) → p x ≡ true → q x ≡ true) → (u : List ℕ) → starts_by p u ≡ true → starts_by q u ≡ true
unfolding starts_by
starts_weaken p q f [] e = e
starts_weaken p q f (x ∷ u) e = f x e

pub avoid : (p : ℕ → Bool) → p 40 ≡ false → p 41 ≡ false → p 44 ≡ false → p 47 ≡ false → p 61 ≡ false → (x : ℕ) → p x ≡ true → in_word x ≡ true
unfolding in_word ends
avoid p a b c d e x h = rw (differs p 40 a x h, differs p 41 b x h, differs p 44 c x h, differs p 47 d x h, differs p 61 e x h)

pub all_weaken : (p q : ℕ → Bool) → ((x : ℕ) → p x ≡ true → q x ≡ true) → (u : List ℕ) → all p u ≡ true → all q u ≡ true
all_weaken p q f [] e = refl
all_weaken p q f (x ∷ u) e = let (a, b) = and-true (p x) (all p u) e in rw (f x a, all_weaken p q f u b)

all_each : (p q : ℕ → Bool) (f : ℕ → List ℕ) → ((x : ℕ) → p x ≡ true → all q (f x) ≡ true) → (s : List ℕ) → all p s ≡ true → all q (each f s) ≡ true
all_each p q f h [] e = refl
all_each p q f h (x ∷ s) e = let (a, b) = and-true (p x) (all p s) e in all_append q (f x) (each f s) (h x a) (all_each p q f h s b)

-- what holds of all numbers below n
all_below : (ℕ → Bool) → ℕ → Bool
all_below p zero = true
all_below p (suc n) = p n && all_below p n

one_below : (p : ℕ → Bool) (n : ℕ) → all_below p n ≡ true → (d : ℕ) → d < n → p d ≡ true
unfolding all_below
one_below p zero e d h = absurd (omega arith)
one_below p (suc n) e d h = go (eqb d n) refl (one_below p n (and-true (p n) (all_below p n) e).1 d)
  where
    go : (t : Bool) → eqb d n ≡ t → (d < n → p d ≡ true) → p d ≡ true
    go true q ih = rw (eqb-true d n q) (and-true (p n) (all_below p n) e).0
    go false q ih = let z : d ≡ n → ⊥ = eqb-false d n q in ih (omega arith)

-- hex digits, upper or lower case
hexed : ℕ → ℕ → Bool
hexed ten d = eqb (unhex (hex ten d)) d && in_word (hex ten d)

pub data Ten : ℕ → Type 0 where
  upper : Ten (code "A")
  lower : Ten (code "a")

hex_good : {ten : ℕ} → Ten ten → (d : ℕ) → d < 16 → (unhex (hex ten d) ≡ d) × (in_word (hex ten d) ≡ true)
unfolding hexed
hex_good {ten} t d h =
    let (p, q) = and-true (eqb (unhex (hex ten d)) d) (in_word (hex ten d)) (one_below (hexed ten) 16 (table t) d h) in
    (eqb-true (unhex (hex ten d)) d p, q)
  where
    table : {ten : ℕ} → Ten ten → all_below (hexed ten) 16 ≡ true
    table upper = unfold all_below unhex hex in_word ends in refl
    table lower = unfold all_below unhex hex in_word ends in refl

module _ {ten : ℕ} (t : Ten ten) (x : ℕ) (b : is_byte x ≡ true) where
  hexes_word : all in_word (hexes ten x) ≡ true
  hexes_word = let h : x < 256 = ltb-true x 256 b in rw ((hex_good t (x / 16) (omega arith)).1, (hex_good t (x % 16) (omega arith)).1)

  hexes_back : unhex (hex ten (x / 16)) * 16 + unhex (hex ten (x % 16)) ≡ x
  hexes_back = let h : x < 256 = ltb-true x 256 b in rw ((hex_good t (x / 16) (omega arith)).0, (hex_good t (x % 16) (omega arith)).0) (omega arith)

-- byte strings
unhexes_back : (s : List ℕ) → all is_byte s ≡ true → unhexes (each (hexes (code "a")) s) ≡ s
unfolding unhexes
unhexes_back [] e = refl
unhexes_back (x ∷ s) e = let (p, q) = and-true (is_byte x) (all is_byte s) e in rw (unhexes_back s q) (ap (λ (n : ℕ). n ∷ s) (hexes_back lower x p))

-- escapes
bare_word : (x : ℕ) → bare x ≡ true → in_word x ≡ true
unfolding bare continues_name starts_name
bare_word = avoid bare refl refl refl refl refl

escape_word : (x : ℕ) → is_byte x ≡ true → all in_word (escape x) ≡ true
unfolding escape
escape_word x b = go (bare x) refl
  where
    go : (t : Bool) → bare x ≡ t → all in_word (cond t (x ∷ []) (code "%" ∷ hexes (code "A") x)) ≡ true
    go true e = rw (bare_word x e)
    go false e = rw (hexes_word upper x b) (unfold in_word ends in refl)

unescape_one : (x : ℕ) (t : List ℕ) → is_byte x ≡ true → unescape any (escape x ++ t) ≡ x ∷ unescape any t
unfolding escape unescape bare continues_name starts_name
unescape_one x t b = go (bare x) refl
  where
    go : (y : Bool) → bare x ≡ y → unescape any (cond y (x ∷ []) (code "%" ∷ hexes (code "A") x) ++ t) ≡ x ∷ unescape any t
    go true e = rw (differs bare 37 refl x e)
    go false e = ap (λ (n : ℕ). n ∷ unescape any t) (hexes_back upper x b)

unescape_back : (s : List ℕ) → all is_byte s ≡ true → unescape any (each escape s) ≡ s
unfolding unescape
unescape_back [] e = refl
unescape_back (x ∷ s) e =
    let (p, q) = and-true (is_byte x) (all is_byte s) e in
    rw (unescape_one x (each escape s) p, unescape_back s q)

inner_of : (a b : ℕ) (u m v : List ℕ) → length u ≡ a → length v ≡ b → inner a b (u ++ (m ++ v)) ≡ m
unfolding inner
inner_of a b u m v h l =
    let z : length (u ++ (m ++ v)) - (a + b) ≡ length m = simp length-append (omega arith) in
    rw (z, drop_at u (m ++ v) a h, take_at m v (length m) refl)

-- the integers that have a text
pub data Integer : ℕ → ℕ → Type 0 where
  plus : {a : ℕ} → a ≤ max64 → Integer unsigned a
  minus : {a : ℕ} → a ≤ max63 → Integer negative a

digits_word : (u : List ℕ) → all is_digit u ≡ true → all in_word u ≡ true
digits_word = all_weaken is_digit in_word (avoid is_digit refl refl refl refl refl)

twenty : (a : ℕ) → a ≤ max64 → a < 10 ^ 20
twenty a h = omega arith

decimal_word : (a : ℕ) → a ≤ max64 → all in_word (decimal a) ≡ true
unfolding decimal
decimal_word a h = digits_word (digits 19 a) (all_digits 19 a (twenty a h))

decimal_starts : (a : ℕ) → a ≤ max64 → starts_by is_digit (decimal a) ≡ true
unfolding decimal starts_by
decimal_starts a h = go (digits 19 a) (all_digits 19 a (twenty a h)) (digits_some 19 a (twenty a h))
  where
    go : (u : List ℕ) → all is_digit u ≡ true → 1 ≤ length u → starts_by is_digit u ≡ true
    go [] e l = absurd (omega arith)
    go (x ∷ u) e l = (and-true (is_digit x) (all is_digit u) e).0

number_back : (a : ℕ) → a ≤ max64 → number (decimal a) ≡ a
unfolding number
number_back a h = rw (decimal_back a h)

pub integer_word : {k a : ℕ} → Integer k a → all in_word (integer k a) ≡ true
unfolding integer in_word ends
integer_word (plus {a = a} h) = decimal_word a h
integer_word (minus {a = a} h) = decimal_word (suc a) (omega arith)

pub integer_starts : {k a : ℕ} → Integer k a → starts_by starts_number (integer k a) ≡ true
unfolding integer starts_by starts_number
integer_starts (plus {a = a} h) = starts_weaken is_digit starts_number (λ x e. rw e) (decimal a) (decimal_starts a h)
integer_starts (minus h) = refl

pub integer_back : {k a : ℕ} → Integer k a → integer_of (integer k a) ≡ head_of k a []
unfolding integer integer_of starts_by
integer_back (plus {a = a} h) = rw (begins is_digit 45 (decimal a) (decimal_starts a h) refl, number_back a h)
integer_back (minus {a = a} h) = rw (number_back (suc a) (omega arith))

-- the literals that have a text
pub data Literal : ℕ → ℕ → List ℕ → Type 0 where
  whole : {k a : ℕ} → Integer k a → Literal k a []
  octets : {a : ℕ} {s : List ℕ} → length s ≡ a → Literal bytes a s
  chars : {a : ℕ} {s : List ℕ} → length s ≡ a → Literal text a s
  no_value : Literal simple 20 []
  yes_value : Literal simple 21 []
  null_value : Literal simple 22 []
  undefined_value : Literal simple 23 []

abbrev pub headed : ℕ → ℕ → ℕ → Lead
headed i k a = record { info = i; kind = k; arg = a }

whole_text : (i : ℕ) {k a : ℕ} → Integer k a → literal_text (headed i k a) [] ≡ integer k a
unfolding literal_text
whole_text i (plus h) = refl
whole_text i (minus h) = refl

pub literal_word : (i : ℕ) {k a : ℕ} {s : List ℕ} → Literal k a s → all is_byte s ≡ true → all in_word (literal_text (headed i k a) s) ≡ true
unfolding literal_text simple_text text_string byte_string in_word ends
literal_word i (whole n) e = rw (whole_text i n) (integer_word n)
literal_word i (octets {s = s} q) e =
    all_append in_word (each (hexes 97) s) (37 ∷ 50 ∷ 55 ∷ []) (all_each is_byte in_word (hexes 97) (hexes_word lower) s e) refl
literal_word i (chars {s = s} q) e = all_append in_word (each escape s) (37 ∷ 50 ∷ 50 ∷ []) (all_each is_byte in_word escape escape_word s e) refl
literal_word i no_value e = refl
literal_word i yes_value e = refl
literal_word i null_value e = refl
literal_word i undefined_value e = refl

-- with a digit or one of - % f h n t u
unfoldable pub starts_literal : ℕ → Bool
starts_literal x = starts_number x || (eqb x 37 || (eqb x 102 || (eqb x 104 || (eqb x 110 || within 116 117 x))))

pub literal_starts : (i : ℕ) {k a : ℕ} {s : List ℕ} → Literal k a s → starts_by starts_literal (literal_text (headed i k a) s) ≡ true
unfolding literal_text simple_text text_string byte_string starts_by starts_literal
literal_starts i (whole {k = k} {a = a} n) = rw (whole_text i n) (starts_weaken starts_number starts_literal (λ x e. rw e) (integer k a) (integer_starts n))
literal_starts i (octets q) = unfold starts_number in refl
literal_starts i (chars q) = unfold starts_number in refl
literal_starts i no_value = unfold starts_number in refl
literal_starts i yes_value = unfold starts_number in refl
literal_starts i null_value = unfold starts_number in refl
literal_starts i undefined_value = unfold starts_number in refl

pub literal_back : (i : ℕ) {k a : ℕ} {s : List ℕ} → Literal k a s → all is_byte s ≡ true → literal_of (literal_text (headed i k a) s) ≡ head_of k a s
unfolding literal_text simple_text text_string byte_string literal_of starts_by starts_number
literal_back i (whole {k = k} {a = a} n) e =
    let b : (c : ℕ) → starts_number c ≡ false → starts c (integer k a) ≡ false = λ c q. begins starts_number c (integer k a) (integer_starts n) q in
    rw (whole_text i n, b 37 refl, b 104 refl, b 102 refl, b 116 refl, b 110 refl, b 117 refl) (integer_back n)
literal_back i (octets {s = s} q) e = rw (inner_of 4 3 (104 ∷ 37 ∷ 50 ∷ 55 ∷ []) (each (hexes 97) s) (37 ∷ 50 ∷ 55 ∷ []) refl refl, unhexes_back s e, q)
literal_back i (chars {s = s} q) e = rw (inner_of 3 3 (37 ∷ 50 ∷ 50 ∷ []) (each escape s) (37 ∷ 50 ∷ 50 ∷ []) refl refl, unescape_back s e, q)
literal_back i no_value e = refl
literal_back i yes_value e = refl
literal_back i null_value e = refl
literal_back i undefined_value e = refl

-- the names and numbers of references
pub data Named : ℕ → ℕ → List ℕ → Type 0 where
  numbered : {k a : ℕ} → Integer k a → Named k a []
  lettered : {a : ℕ} {s : List ℕ} → namespace_name s ≡ true → length s ≡ a → Named text a s

starts_word : ℕ → Bool
starts_word x = starts_name x || eqb x 33

name_byte : ℕ → Bool
name_byte x = continues_name x || eqb x 33

identifier_chars : (x : ℕ) (s : List ℕ) → identifier (x ∷ s) ≡ true → (starts_name x ≡ true) × (all name_byte (x ∷ s) ≡ true)
unfolding name_byte identifier continues_name
identifier_chars x s e =
    let (p, q) = and-true (starts_name x) (all continues_name s && ltb (length s) 64) e in
    let (r, z) = and-true (all continues_name s) (ltb (length s) 64) q in
    (p, rw (p, all_weaken continues_name name_byte (λ y h. rw h) s r))

-- a namespace name's first byte, and its bytes
name_chars : (s : List ℕ) → namespace_name s ≡ true → (starts_by starts_word s ≡ true) × (all name_byte s ≡ true)
unfolding namespace_name starts_by starts_word name_byte continues_name starts_name
name_chars [] e = absurd (true≢false (sym e))
name_chars (x ∷ s) e = go (or-true (identifier (x ∷ s)) (eqb x 33 && identifier s) e)
  where
    behind : (s : List ℕ) → identifier s ≡ true → all name_byte s ≡ true
    behind [] f = refl
    behind (y ∷ s) f = (identifier_chars y s f).1

    go : (identifier (x ∷ s) ≡ true) ⊎ ((eqb x 33 && identifier s) ≡ true) → (starts_by starts_word (x ∷ s) ≡ true) × (all name_byte (x ∷ s) ≡ true)
    go (inl f) = let (p, q) = identifier_chars x s f in (rw p, q)
    go (inr f) = let (p, q) = and-true (eqb x 33) (identifier s) f in (rw (eqb-true x 33 p), rw (eqb-true x 33 p, behind s q))

name_word : (s : List ℕ) → namespace_name s ≡ true → all in_word s ≡ true
unfolding name_byte continues_name starts_name
name_word s e = all_weaken name_byte in_word (avoid name_byte refl refl refl refl refl) s (name_chars s e).1

-- no number starts as a name does
number_or_name : (x : ℕ) → starts_word x ≡ true → starts_number x ≡ false
unfolding starts_number
number_or_name x h = go (starts_number x) refl
  where
    low : 45 ≤ x → x ≤ 57 → starts_word x ≡ false
    low a b =
        unfold starts_word starts_name in
        rw (lt-leb 65 x (omega arith), lt-leb 97 x (omega arith), ne_eqb x 95 (λ e. omega arith), ne_eqb x 33 (λ e. omega arith))

    range : (within 48 57 x ≡ true) ⊎ (eqb x 45 ≡ true) → (45 ≤ x) × (x ≤ 57)
    range (inl e) = let (a, b) = within_true 48 57 x e in (omega arith, b)
    range (inr e) = let z : x ≡ 45 = eqb-true x 45 e in (omega arith, omega arith)

    go : (t : Bool) → starts_number x ≡ t → t ≡ false
    go true e = let (a, b) = range (or-true (within 48 57 x) (eqb x 45) e) in sym h ∙ low a b
    go false e = refl

name_string : (s : List ℕ) → starts_by starts_word s ≡ true → name_of s ≡ string_of text s
unfolding name_of starts_by
name_string [] e = absurd (true≢false (sym e))
name_string (x ∷ s) e = rw (number_or_name x e)

numbered_text : (i : ℕ) {k a : ℕ} → Integer k a → name_text (headed i k a) [] ≡ integer k a
unfolding name_text
numbered_text i (plus h) = refl
numbered_text i (minus h) = refl

pub named_word : (i : ℕ) {k a : ℕ} {s : List ℕ} → Named k a s → all in_word (name_text (headed i k a) s) ≡ true
unfolding name_text
named_word i (numbered n) = rw (numbered_text i n) (integer_word n)
named_word i (lettered {s = s} p q) = name_word s p

-- with a byte that ends no word
pub named_starts : (i : ℕ) {k a : ℕ} {s : List ℕ} → Named k a s → starts_by in_word (name_text (headed i k a) s) ≡ true
unfolding name_text starts_word starts_name starts_number
named_starts i (numbered {k = k} {a = a} n) =
    rw (numbered_text i n) (starts_weaken starts_number in_word (avoid starts_number refl refl refl refl refl) (integer k a) (integer_starts n))
named_starts i (lettered {s = s} p q) = starts_weaken starts_word in_word (avoid starts_word refl refl refl refl refl) s (name_chars s p).0

pub named_back : (i : ℕ) {k a : ℕ} {s : List ℕ} → Named k a s → name_of (name_text (headed i k a) s) ≡ head_of k a s
unfolding name_text
named_back i (numbered {k = k} {a = a} n) = rw (numbered_text i n) (unfold name_of in rw (integer_starts n) (integer_back n))
named_back i (lettered {s = s} p q) = name_string s (name_chars s p).0 ∙ ap (λ (n : ℕ). head_of text n s) q
