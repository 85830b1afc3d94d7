-- The ways through the functions of words; the premises are the facts that the code leaves.
use Prim.Native.Nat.{ℕ, zero, suc, ◌+◌, ◌-◌, ◌*◌, ◌/◌, ◌^◌, ◌≤◌, ◌<◌}
use mathlib.Core.Path.{◌≡◌, refl, sym, ◌∙◌, ap}
use mathlib.Core.Bool.{Bool, true, false, ◌&&◌, cond, true≢false}
use mathlib.Core.List.{List, [], ◌∷◌}
use native.Mathlib.Omega.{arith}
use native.Mathlib.Nat.{pow-le-pow_right, pow-suc, add-mul, mul_assoc, mul_comm, add_assoc}
use native.Mathlib.Numerals.{add-one, sub-one}
use lib.ListN.{length, take, drop, get_or, length-drop}
use lib.Seq.{drop-drop, take-nil, take-take, length-take-le}
use lib.Dec.{ltb, leb, eqb}
use borrow.Author.Tests.{le-ltb, le-leb, lt-leb, ltb-false, leb-true, eq-eqb, ne_eqb}
use Rattle.buffer.specs.Bytes.{be, value, all, is_byte, same, part, within}
use Rattle.buffer.specs.Runs.{RunTo, past}
use Rattle.buffer.proofs.RunLaws.{here, beyond, part_none}
use Rattle.buffer.proofs.ByteLaws.{and-true, within_true, value_lt, be_value, same_is, same_self}
use Rattle.ari.specs.Decode.{Headed}
use Rattle.text.specs.Chars.{ascii}
use Rattle.text.specs.Text.{Name, name, names}
use Rattle.text.specs.Parse.{ends, in_word, starts_by, starts, number, any, unescape, unhexes, inner, head_of, string_of, integer_of, literal_of, starts_number, name_of, number_in, type_number, type_of, commas, count, Taken, take_word, take_group, parts, take_reference, take_ari}
use Rattle.text_write_item.specs.declared.Spelling.{Spelling}
use Rattle.text_write_item.specs.declared.Spelling.TheVariants.{Unspelled, Ari, TypeName, Value, Label, Namespace, ObjectNamespace, ObjectType, ObjectId, Parameters, Key}
use Rattle.text_read_item.specs.declared.Form.{Form}
use Rattle.text_read_item.specs.declared.Form.TheVariants.{Bare, Escaped, Hex}
use Rattle.text_read_item.specs.declared.Word.{Word}
use Rattle.text_read_item.specs.Words.{first_of, NextTo, Small, Found, plain_at, word_at, text_word, bytes_word, horner, key_of, key_in, take_value, take_params, is_named, is_group, is_relative, size_before, take_spelled}

abbrev pub word : ℕ → ℕ → Form → ℕ → ℕ → ℕ → Word
word k a f x y n = record { kind = k; arg = a; form = f; from = x; to = y; next = n }

abbrev pub taken_by : Headed → List ℕ → Taken
taken_by h r = record { head = h; rest = r }

pub small_count : (k a : ℕ) → k ≤ 5 → Small k a
small_count k a h = record { kinds = omega arith; values = λ e. absurd (omega arith) }

pub small_simple : (a : ℕ) → a < 24 → Small 6 a
small_simple a h = record { kinds = omega arith; values = λ e. h }

found_as : {t : List ℕ} {y z : Taken} {w : Word} → Found t y w → y ≡ z → Found t z w
found_as f e = record { is = f.is ∙ e; bounded = f.bounded; on = f.on }

pub plain_found : (t : List ℕ) (k a e : ℕ) → Small k a → e ≤ length t → Found t (plain_at t k a e) (word k a Bare e e e)
plain_found t k a e s h = record {
  is = ap (λ (u : List ℕ). taken_by (head_of k a u) (drop e t)) (part_none t e);
  bounded = record { small = s; order = omega arith; inside = h };
  on = h;
}

-- the members behind a parenthesis
module _ (t : List ℕ) (p : ℕ) where
  pub count_none : {x : Bool} → x ≡ starts 41 (drop p t) → x ≡ true → 0 ≡ count (drop p t)
  unfolding count
  count_none e h = rw (← e, h)

  pub count_some : {x : Bool} {n : ℕ} → x ≡ starts 41 (drop p t) → x ≡ false → (n ≡ commas 1 (drop p t)) × (n ≤ length t) → n + 1 ≡ count (drop p t)
  unfolding count
  count_some e h (q, l) = rw (← e, h, q, add-one)

module _ (t : List ℕ) (k at : ℕ) {p n : ℕ} {w : Word} where
  pub grouped : NextTo t at 1 p → n ≡ count (drop p t) → Found t (plain_at t k n p) w → Found t (take_group k (drop at t)) w
  grouped s e f = found_as f (rw (e, s.is))

-- what stands behind a namespace
pub params_follow : (t : List ℕ) (at : ℕ) {e p f : ℕ} {x : Bool} → RunTo in_word t at e → NextTo t e 1 p → RunTo in_word t p f → x ≡ starts 40 (drop f t)
    → x ≡ starts 40 (past in_word (drop 1 (past in_word (drop at t))))
params_follow t at v n w q = q ∙ ap (starts 40) (sym w.past_is ∙ ap (past in_word) (n.is ∙ ap (drop 1) (sym v.past_is)))

module _ (t : List ℕ) (at : ℕ) where
  pub parts_out : at ≡ length t → 1 ≡ parts (drop at t)
  unfolding parts starts_by
  parts_out e = rw (beyond t at (omega arith))

  pub parts_end : {x : Bool} → at ≤ length t → (at ≡ length t → ⊥) → x ≡ ends (get_or t at 0) → x ≡ true → 1 ≡ parts (drop at t)
  unfolding parts starts_by in_word
  parts_end l n e h = rw (here t at (omega (arith, n)), ← e, h)

  begins : {x : Bool} → at ≤ length t → (at ≡ length t → ⊥) → x ≡ ends (get_or t at 0) → x ≡ false → starts_by in_word (drop at t) ≡ true
  unfolding starts_by in_word
  begins l n e h = rw (here t at (omega (arith, n)), ← e, h)

  module _ {x y : Bool} (l : at ≤ length t) (n : at ≡ length t → ⊥) (e : x ≡ ends (get_or t at 0)) (h : x ≡ false)
      (q : y ≡ starts 40 (past in_word (drop 1 (past in_word (drop at t))))) where
    pub parts_four : y ≡ true → 4 ≡ parts (drop at t)
    unfolding parts
    parts_four g = rw (begins l n e h, ← q, g)

    pub parts_three : y ≡ false → 3 ≡ parts (drop at t)
    unfolding parts
    parts_three g = rw (begins l n e h, ← q, g)

pub referred : (t : List ℕ) (at after : ℕ) {p n : ℕ} {w : Word} → NextTo t after 1 p → n ≡ parts (drop p t) → Found t (plain_at t 4 n at) w
    → Found t (take_reference (drop at t) (drop after t)) w
referred t at after s e f = found_as f (rw (e, s.is))

-- words by their first byte
starts_first : (c : ℕ) (u : List ℕ) → eqb 0 c ≡ false → starts c u ≡ eqb (first_of u) c
unfolding starts_by
starts_first c [] h = sym h
starts_first c (x ∷ u) h = refl

module _ (t : List ℕ) (from to : ℕ) where
  abbrev cut : List ℕ
  cut = part t from to

  pub long : from ≤ to → to ≤ length t → length cut ≡ to - from
  long h g = length-take-le (to - from) (drop from t) (rw (length-drop from t) (omega arith))

  module _ {x : ℕ} (e : x ≡ first_of cut) where
    pub negative_none : {n : ℕ} {w : Word} → x ≡ 45 → n ≡ number (drop 1 cut) → n ≡ 0 → Found t (plain_at t 1 0 to) w → Found t (word_at integer_of t from to) w
    unfolding integer_of
    negative_none h q z f = found_as f (rw (starts_first 45 cut refl, ← e, h, ← q, z))

    pub negative_some : {n : ℕ} {w : Word} → x ≡ 45 → n ≡ number (drop 1 cut) → Found t (plain_at t 1 (n - 1) to) w → Found t (word_at integer_of t from to) w
    unfolding integer_of
    negative_some {n} h q f = found_as f (rw (starts_first 45 cut refl, ← e, h, ← q, ← sub-one n))

    pub from_zero : {n : ℕ} {w : Word} → (x ≡ 45 → ⊥) → n ≡ number (drop 0 cut) → Found t (plain_at t 0 n to) w → Found t (word_at integer_of t from to) w
    unfolding integer_of
    from_zero h q f = found_as f (rw (starts_first 45 cut refl, ← e, ne_eqb x 45 h, q))

-- a word without its marks
drop_take : (a n : ℕ) (l : List ℕ) → drop a (take n l) ≡ take (n - a) (drop a l)
drop_take zero n l = let e : n - 0 ≡ n = omega arith in rw e
drop_take (suc a) zero l = let e : 0 - suc a ≡ 0 = omega arith in rw e
drop_take (suc a) (suc n) [] = sym (take-nil (suc n - suc a))
drop_take (suc a) (suc n) (x ∷ l) = let e : suc n - suc a ≡ n - a = omega arith in rw e (drop_take a n l)

module _ (t : List ℕ) (from to : ℕ) (h : from ≤ to) (g : to ≤ length t) where
  pub inner_none : (a b : ℕ) → to - from < a + b → inner a b (part t from to) ≡ []
  unfolding inner
  inner_none a b l = let e : length (part t from to) - (a + b) ≡ 0 = omega (arith, long t from to h g) in rw e

  pub inner_part : (a b : ℕ) → a + b ≤ to - from → inner a b (part t from to) ≡ part t (from + a) (to - b)
  unfolding inner
  inner_part a b l =
      let e : length (part t from to) - (a + b) ≡ (to - b) - (from + a) = omega (arith, long t from to h g) in
      rw (drop_take a (to - from) (drop from t), drop-drop a from t, e)
      (take-take ((to - b) - (from + a)) ((to - from) - a) (drop (from + a) t) (omega arith))

  pub text_none : {w : Word} → to - from < 6 → Found t (plain_at t 3 0 to) w → Found t (word_at text_word t from to) w
  unfolding unescape
  text_none l f = found_as f (rw (inner_none 3 3 l))

  pub text_some : {n : ℕ} → 6 ≤ to - from → n ≡ length (unescape any (part t (from + 3) (to - 3))) → Found t (word_at text_word t from to) (word 3 n Escaped (from + 3) (to - 3) to)
  text_some {n} l e = record {
    is = rw (inner_part 3 3 l, e);
    bounded = record { small = small_count 3 n (omega arith); order = omega arith; inside = omega arith };
    on = g;
  }

  pub bytes_none : {w : Word} → to - from < 7 → Found t (plain_at t 2 0 to) w → Found t (word_at bytes_word t from to) w
  unfolding unhexes
  bytes_none l f = found_as f (rw (inner_none 4 3 l))

  unhexes_length : (v : List ℕ) → length (unhexes v) ≡ length v / 2
  unfolding unhexes
  unhexes_length [] = refl
  unhexes_length (x ∷ []) = refl
  unhexes_length (x ∷ y ∷ v) = omega (arith, unhexes_length v)

  pub bytes_some : 7 ≤ to - from → Found t (word_at bytes_word t from to) (word 2 ((to - from - 7) / 2) Hex (from + 4) (to - 3) to)
  bytes_some l =
      let q : length (part t (from + 4) (to - 3)) ≡ to - from - 7 = long t (from + 4) (to - 3) (omega arith) (omega arith) ∙ omega arith in
      let e : (to - from - 7) / 2 ≡ length (unhexes (part t (from + 4) (to - 3))) = sym (unhexes_length (part t (from + 4) (to - 3)) ∙ rw q) in
      record {
        is = rw (inner_part 4 3 l, e);
        bounded = record { small = small_count 2 ((to - from - 7) / 2) (omega arith); order = omega arith; inside = omega arith };
        on = g;
      }

-- a literal by its first byte
unfoldable pub literal_by : ℕ → List ℕ → Headed
literal_by x u =
    cond (eqb x 37) (text_word u)
    (cond (eqb x 104) (bytes_word u)
    (cond (eqb x 102) (head_of 6 20 [])
    (cond (eqb x 116) (head_of 6 21 [])
    (cond (eqb x 110) (head_of 6 22 [])
    (cond (eqb x 117) (head_of 6 23 []) (integer_of u))))))

literal_by_lem : (u : List ℕ) → literal_of u ≡ literal_by (first_of u) u
unfolding literal_of literal_by starts_by
literal_by_lem [] = refl
literal_by_lem (x ∷ u) = refl

module _ (t : List ℕ) (from to : ℕ) {x : ℕ} (e : x ≡ first_of (part t from to)) where
  by : (h : Headed) → literal_by x (part t from to) ≡ h → taken_by h (drop to t) ≡ word_at literal_of t from to
  by h q = ap (λ (y : Headed). taken_by y (drop to t)) (sym (literal_by_lem (part t from to) ∙ ap (λ (n : ℕ). literal_by n (part t from to)) (sym e) ∙ q))

  pub literal_as : {y : ℕ} {w : Word} → x ≡ y → Found t (taken_by (literal_by y (part t from to)) (drop to t)) w → Found t (word_at literal_of t from to) w
  literal_as {y} h f = found_as f (by (literal_by y (part t from to)) (rw h))

  pub literal_integer : {w : Word} → (x ≡ 37 → ⊥) → (x ≡ 104 → ⊥) → (x ≡ 102 → ⊥) → (x ≡ 116 → ⊥) → (x ≡ 110 → ⊥) → (x ≡ 117 → ⊥) → Found t (word_at integer_of t from to) w
      → Found t (word_at literal_of t from to) w
  unfolding literal_by
  literal_integer a b c d g h f =
      found_as f (by (integer_of (part t from to)) (rw (ne_eqb x 37 a, ne_eqb x 104 b, ne_eqb x 102 c, ne_eqb x 116 d, ne_eqb x 110 g, ne_eqb x 117 h)))

-- a name, or a number in its place
name_by : (u : List ℕ) → name_of u ≡ cond (starts_number (first_of u)) (integer_of u) (string_of 3 u)
unfolding name_of starts_by starts_number
name_by [] = refl
name_by (x ∷ u) = refl

module _ (t : List ℕ) (from to : ℕ) {x : ℕ} (e : x ≡ first_of (part t from to)) {y : Bool} (q : y ≡ starts_number x) where
  pub name_number : {w : Word} → y ≡ true → Found t (word_at integer_of t from to) w → Found t (word_at name_of t from to) w
  name_number h f = found_as f (ap (λ (z : Headed). taken_by z (drop to t)) (sym (name_by (part t from to) ∙ rw (← e, ← q, h))))

  pub name_bare : from ≤ to → to ≤ length t → y ≡ false → Found t (word_at name_of t from to) (word 3 (to - from) Bare from to to)
  name_bare l g h = record {
    is = ap (λ (z : Headed). taken_by z (drop to t)) (sym (name_by (part t from to) ∙ rw (← e, ← q, h, long t from to l g)));
    bounded = record { small = small_count 3 (to - from) (omega arith); order = l; inside = g };
    on = g;
  }

-- the name of a type: two words of the same key are the same
horner_value : (n : ℕ) (u : List ℕ) → horner n u ≡ n * 256 ^ length u + value u
unfolding horner
horner_value n [] = omega arith
horner_value n (x ∷ u) =
    let r = horner_value (n * 256 + x) u in
    let p : 256 ^ suc (length u) ≡ 256 ^ length u * 256 = pow-suc 256 (length u) in
    r ∙ rw p (spread n x (256 ^ length u) (value u))
  where
    spread : (n x p v : ℕ) → (n * 256 + x) * p + v ≡ n * (p * 256) + (x * p + v)
    spread n x p v = simp (add-mul, mul_assoc, add_assoc, mul_comm p 256)

module _ (u v : List ℕ) (bu : all is_byte u ≡ true) (bv : all is_byte v ≡ true) where
  below_key : (w : List ℕ) → all is_byte w ≡ true → length w ≤ 7 → horner 0 w < 72057594037927936
  below_key w b h =
      let e = horner_value 0 w in
      let g : 256 ^ length w ≤ 256 ^ 7 = pow-le-pow_right {n = 256} (omega arith) h in
      omega (arith, value_lt w b)

  same_keys : 1 ≤ length v → length v ≤ 7 → key_of u ≡ key_of v → u ≡ v
  unfolding key_of
  same_keys l h e = go (ltb 7 (length u)) refl (rw (le-ltb 7 (length v) h) at e)
    where
      go : (x : Bool) → ltb 7 (length u) ≡ x → cond x 0 (length u * 72057594037927936 + horner 0 u) ≡ length v * 72057594037927936 + horner 0 v → u ≡ v
      go true q f = absurd (omega arith)
      go false q f =
          let a = below_key u bu (ltb-false 7 (length u) q) in
          let b = below_key v bv h in
          let n : length u ≡ length v = omega arith in
          let m : value u ≡ value v = omega (arith, horner_value 0 u, horner_value 0 v) in
          sym (be_value u bu) ∙ ap (λ (k : ℕ). be k (value u)) n ∙ ap (be (length v)) m ∙ be_value v bv

  key_test : 1 ≤ length v → length v ≤ 7 → eqb (key_of u) (key_of v) ≡ same u v
  key_test l h = go (same u v) refl
    where
      go : (x : Bool) → same u v ≡ x → eqb (key_of u) (key_of v) ≡ x
      go true q = eq-eqb (key_of u) (key_of v) (ap key_of (same_is u v q))
      go false q = ne_eqb (key_of u) (key_of v) (λ e. true≢false (sym (same_self v) ∙ ap (λ (z : List ℕ). same z v) (sym (same_keys l h e)) ∙ q))

abbrev short_names : List Name → Bool
short_names [] = true
short_names (name n s ∷ es) = (all is_byte (ascii s) && (leb 1 (length (ascii s)) && leb (length (ascii s)) 7)) && short_names es

keys_name : (es : List Name) (u : List ℕ) → all is_byte u ≡ true → short_names es ≡ true → key_in es (key_of u) ≡ number_in es u
keys_name [] u b e = refl
keys_name (name n s ∷ es) u b e =
    let (p, q) = and-true (all is_byte (ascii s) && (leb 1 (length (ascii s)) && leb (length (ascii s)) 7)) (short_names es) e in
    let (p₁, p₂) = and-true (all is_byte (ascii s)) (leb 1 (length (ascii s)) && leb (length (ascii s)) 7) p in
    let (p₃, p₄) = and-true (leb 1 (length (ascii s))) (leb (length (ascii s)) 7) p₂ in
    rw (key_test u (ascii s) b p₁ (leb-true 1 (length (ascii s)) p₃) (leb-true (length (ascii s)) 7 p₄), keys_name es u b q)

pub type_named : (u : List ℕ) → all is_byte u ≡ true → {k n : ℕ} → k ≡ key_of u → n ≡ key_in names k → n ≡ type_number u
unfolding type_number names
type_named u b e q = q ∙ ap (key_in names) e ∙ keys_name names u b refl

pub type_found : (t : List ℕ) (from to : ℕ) {n : ℕ} {w : Word} → n ≡ type_number (part t from to) → Found t (plain_at t 0 n to) w → Found t (word_at type_of t from to) w
unfolding type_of
type_found t from to e f = found_as f (rw e)

pub key_by : (k i n : ℕ) → k ≡ i → n ≡ key_in names i → n ≡ key_in names k
key_by k i n e q = rw e q

pub key_none : (z : ℕ) → (z ≡ 288230377465924684 → ⊥) → (z ≡ 288230377264205644 → ⊥) → (z ≡ 288230377264862277 → ⊥) → (z ≡ 216172782118587988 → ⊥) → (z ≡ 288230377582579284 → ⊥) → (z ≡ 288230377598833492 → ⊥) → (z ≡ 360288336708981588 → ⊥) → (z ≡ 432436021629301554 → ⊥) → (z ≡ 432436021629302324 → ⊥) → (z ≡ 528123301983376466 → ⊥) → (z ≡ 523078725203612754 → ⊥) → (z ≡ 144115188075877456 → ⊥) → (z ≡ 144115188075877444 → ⊥) → (z ≡ 360288297702016332 → ⊥) → (z ≡ 288230377280130898 → ⊥) → (z ≡ 144115188075872579 → ⊥) → (z ≡ 144115188075872589 → ⊥) → (z ≡ 523921986164049236 → ⊥) → (z ≡ 432436069193172308 → ⊥)
    → 0 ≡ key_in names z
unfolding names key_of horner
key_none z a b c d e f g h i j k l m n o p q r s =
    rw (
      ne_eqb z 288230377465924684 a,
      ne_eqb z 288230377264205644 b,
      ne_eqb z 288230377264862277 c,
      ne_eqb z 216172782118587988 d,
      ne_eqb z 288230377582579284 e,
      ne_eqb z 288230377598833492 f,
      ne_eqb z 360288336708981588 g,
      ne_eqb z 432436021629301554 h,
      ne_eqb z 432436021629302324 i,
      ne_eqb z 528123301983376466 j,
      ne_eqb z 523078725203612754 k,
      ne_eqb z 144115188075877456 l,
      ne_eqb z 144115188075877444 m,
      ne_eqb z 360288297702016332 n,
      ne_eqb z 288230377280130898 o,
      ne_eqb z 144115188075872579 p,
      ne_eqb z 144115188075872589 q,
      ne_eqb z 523921986164049236 r,
      ne_eqb z 432436069193172308 s,
    )

-- a word from a place on
pub word_found : (g : List ℕ → Headed) (t : List ℕ) (at : ℕ) {e : ℕ} {w : Word} → RunTo in_word t at e → Found t (word_at g t at e) w → Found t (take_word g (drop at t)) w
word_found g t at v f = found_as f (rw (v.front_is, v.past_is))

module _ (t : List ℕ) (at : ℕ) where
  module _ {x : Bool} (e : x ≡ starts 47 (drop at t)) where
    module _ {p : ℕ} (s : NextTo t at 1 p) {y : Bool} (q : y ≡ starts 47 (drop p t)) (h : x ≡ true) where
      pub ari_reference : {r d : ℕ} {w : Word} → y ≡ true → NextTo t at 2 r → RunTo in_word t r d → Found t (take_reference (drop at t) (drop d t)) w → Found t (take_ari (drop at t)) w
      unfolding take_ari
      ari_reference g n v f = found_as f (rw (← e, h, ← s.is, ← q, g, ← n.is, v.past_is))

      pub ari_typed : {w : Word} → y ≡ false → Found t (plain_at t 4 2 p) w → Found t (take_ari (drop at t)) w
      unfolding take_ari
      ari_typed g f = found_as f (rw (← e, h, ← s.is, ← q, g))

    module _ {y : Bool} (q : y ≡ starts 46 (drop at t)) (h : x ≡ false) where
      pub ari_relative : {d : ℕ} {w : Word} → y ≡ true → RunTo in_word t at d → Found t (take_reference (drop at t) (drop d t)) w → Found t (take_ari (drop at t)) w
      unfolding take_ari
      ari_relative g v f = found_as f (rw (← e, h, ← q, g, v.past_is))

      pub ari_literal : {w : Word} → y ≡ false → Found t (take_word literal_of (drop at t)) w → Found t (take_ari (drop at t)) w
      unfolding take_ari
      ari_literal g f = found_as f (rw (← e, h, ← q, g))

  module _ (k : ℕ) {x : Bool} (e : x ≡ starts 40 (drop at t)) where
    pub value_group : (g : List ℕ → Headed) {w : Word} → x ≡ true → Found t (take_group k (drop at t)) w → Found t (take_value g k (drop at t)) w
    value_group g h f = found_as f (rw (← e, h))

    pub value_word : (g : List ℕ → Headed) {w : Word} → x ≡ false → Found t (take_word g (drop at t)) w → Found t (take_value g k (drop at t)) w
    value_word g h f = found_as f (rw (← e, h))

  module _ {p d : ℕ} (s : NextTo t at 1 p) (v : RunTo in_word t p d) {x : Bool} (e : x ≡ starts 61 (drop d t)) where
    keyed : starts 61 (past in_word (drop 1 (drop at t))) ≡ x
    keyed = ap (starts 61) (ap (past in_word) (sym s.is) ∙ v.past_is) ∙ sym e

    pub params_map : {w : Word} → x ≡ true → Found t (take_group 5 (drop at t)) w → Found t (take_params (drop at t)) w
    params_map h f = found_as f (rw (keyed, h))

    pub params_array : {w : Word} → x ≡ false → Found t (take_group 4 (drop at t)) w → Found t (take_params (drop at t)) w
    params_array h f = found_as f (rw (keyed, h))

-- by the spelling of a slot
pub spelling_by : (t : List ℕ) (w i : Spelling) (k at : ℕ) {y : Taken} {x : Word} → w ≡ i → Found t y x → y ≡ take_spelled i k (drop at t) → Found t (take_spelled w k (drop at t)) x
spelling_by t w i k at e f q = rw e (found_as f q)

-- what is spelled as names are
named_is : (w : Spelling) (k : ℕ) (t : List ℕ) → is_named w ≡ true → take_spelled w k t
    ≡ cond (is_group w t) (take_group k t) (cond (is_relative w t) (take_word (λ u. head_of 6 22 []) t) (take_word name_of (drop (size_before w) t)))
unfolding take_spelled
named_is Label k t h = refl
named_is Namespace k t h = refl
named_is ObjectNamespace k t h = refl
named_is ObjectType k t h = refl
named_is ObjectId k t h = refl
named_is Unspelled k t h = absurd (true≢false (sym h))
named_is Ari k t h = absurd (true≢false (sym h))
named_is TypeName k t h = absurd (true≢false (sym h))
named_is Value k t h = absurd (true≢false (sym h))
named_is Parameters k t h = absurd (true≢false (sym h))
named_is Key k t h = absurd (true≢false (sym h))

module _ (t : List ℕ) (w : Spelling) (k at : ℕ) (h : is_named w ≡ true) {x : Bool} (e : x ≡ is_group w (drop at t)) where
  pub named_group : {z : Word} → x ≡ true → Found t (take_group k (drop at t)) z → Found t (take_spelled w k (drop at t)) z
  named_group q f = found_as f (sym (named_is w k (drop at t) h ∙ rw (← e, q)))

  module _ (n : x ≡ false) {y : Bool} (d : y ≡ is_relative w (drop at t)) where
    pub named_relative : {p : ℕ} {z : Word} → y ≡ true → RunTo in_word t at p → Found t (plain_at t 6 22 p) z → Found t (take_spelled w k (drop at t)) z
    named_relative q v f = found_as f (sym (named_is w k (drop at t) h ∙ rw (← e, n, ← d, q, v.past_is)))

    pub named_word : {m p : ℕ} {z : Word} → y ≡ false → m ≡ size_before w → NextTo t at m p → Found t (take_word name_of (drop p t)) z → Found t (take_spelled w k (drop at t)) z
    named_word q b s f = found_as f (sym (named_is w k (drop at t) h ∙ rw (← e, n, ← d, q, ← b, ← s.is)))

pub no_spelling : (t : List ℕ) (w : Spelling) (k at : ℕ) {x : Word} → w ≡ Unspelled → Found t (plain_at t 6 22 at) x → Found t (take_spelled w k (drop at t)) x
unfolding take_spelled
no_spelling t w k at e p = found_as p (rw e)

pub ruleset found = (small_count, small_simple, plain_found, count_none, count_some, grouped, params_follow, parts_out, parts_end, parts_four, parts_three, referred, negative_none, negative_some, from_zero, text_none, text_some, bytes_none, bytes_some, name_number, name_bare, type_found)

pub ruleset literals = (small_simple, literal_as, literal_integer)

pub ruleset placed = (small_simple, small_count, word_found, ari_reference, ari_typed, ari_relative, ari_literal, value_group, value_word, params_map, params_array, no_spelling)

pub ruleset naming = (small_simple, named_group, named_relative, named_word)
