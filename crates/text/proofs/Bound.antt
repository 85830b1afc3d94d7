-- R112: a text has at most 4 bytes, and 3 for each binary byte and 16 for each item.
use Prim.Native.Nat.{ℕ, suc, ◌+◌, ◌*◌, ◌≤◌}
use mathlib.Core.Path.{◌≡◌, refl}
use mathlib.Core.Bool.{Bool, true, false, ◌&&◌, cond}
use mathlib.Core.List.{List, [], ◌∷◌}
use native.Mathlib.Omega.{arith}
use native.Mathlib.Nat.{pow-le-pow_right}
use lib.ListN.{length, length-append}
use lib.Dec.{ltb, leb, eqb}
use borrow.Author.Tests.{ltb-true, ltb-false, leb-true, leb-false}
use Rattle.buffer.proofs.DecimalLaws.{length_digits, length_fuel}
use Rattle.buffer.specs.Decimal.{digits, decimal}
use Rattle.cbor.specs.Head.{negative, bytes, text, array, simple, Lead, Sound, width, lead_bytes, is_container}
use Rattle.buffer.proofs.ByteLaws.{and-true}
use Rattle.cbor.specs.Head.{Carries, itself, after}
use Rattle.cbor.proofs.HeadLaws.{sound_carries, length_lead}
use Rattle.ari.specs.Table.{Slot, version, ari, type, value, namespace, object_namespace, object_type, object_id, params, key, entry, nonce, set_time, target, report, report_time, report_source, Level, done, due, rule, members}
use Rattle.ari.specs.Items.{Items, none, item, encode, heads}
use Rattle.ari.proofs.Well.{Well}
use Rattle.text.specs.Chars.{ascii, integer, hexes, bare, escape, each, text_string, byte_string, simple_text, literal_text, name_text}
use Rattle.text.specs.Text.{Name, name, names, name_in, type_name, comma, an_ari, absolute, spell, texts, an_ari_due, is_relative, text_of}

cond_most : (t : Bool) {n : ℕ} (u v : List ℕ) → length u ≤ n → length v ≤ n → length (cond t u v) ≤ n
cond_most true u v p q = p
cond_most false u v p q = q

each_most : (f : ℕ → List ℕ) → ((x : ℕ) → length (f x) ≤ 3) → (s : List ℕ) → length (each f s) ≤ 3 * length s
each_most f h [] = omega arith
each_most f h (x ∷ s) = simp length-append (omega (arith, h x, each_most f h s))

-- what a head with its string is worth
abbrev worth : Lead → List ℕ → ℕ
worth l s = 3 * (length (lead_bytes l) + length s)

-- ten digits for one byte, twenty for six
number_most : {l : Lead} (n : ℕ) → Sound l → n ≤ suc l.arg → length (decimal n) ≤ 3 * length (lead_bytes l) + 10
unfolding decimal
number_most {l} n h m = go (ltb l.arg 4294967296) refl
  where
    wide : Carries l.info l.arg → 4294967296 ≤ l.arg → 5 ≤ width l.info
    wide (itself i e) g = absurd (omega arith)
    wide (after i j e) g = low (leb (width l.info) 4) refl
      where
        low : (t : Bool) → leb (width l.info) 4 ≡ t → 5 ≤ width l.info
        low true x = absurd (omega (arith, pow-le-pow_right {n = 256} (omega arith) (leb-true (width l.info) 4 x)))
        low false x = leb-false (width l.info) 4 x

    go : (t : Bool) → ltb l.arg 4294967296 ≡ t → length (digits 19 n) ≤ 3 * length (lead_bytes l) + 10
    go true e = omega (arith, length_digits 9 19 n (omega (arith, ltb-true l.arg 4294967296 e)))
    go false e = omega (arith, length_fuel 19 n, length_lead l, wide (sound_carries h) (ltb-false l.arg 4294967296 e))

module _ (l : Lead) (s : List ℕ) (h : Sound l) where
  integer_most : length (integer l.kind l.arg) ≤ worth l s + 11
  unfolding integer
  integer_most =
      cond_most (eqb l.kind negative) _ _ (omega (arith, number_most (suc l.arg) h (omega arith))) (omega (arith, number_most l.arg h (omega arith)))

  literal_most : length (literal_text l s) ≤ worth l s + 11
  unfolding literal_text simple_text text_string byte_string escape
  literal_most =
      cond_most (ltb l.kind bytes) _ _ integer_most
      (cond_most (eqb l.kind bytes) _ _ (simp length-append (omega (arith, length_lead l, each_most (hexes 97) (λ x. omega arith) s)))
      (cond_most (eqb l.kind text) _ _
      (simp length-append (omega (arith, length_lead l, each_most escape (λ x. cond_most (bare x) _ _ (omega arith) (omega arith)) s)))
      (cond_most (eqb l.kind simple) _ _
      (cond_most (eqb l.arg 20) _ _ (omega arith) (cond_most (eqb l.arg 21) _ _ (omega arith) (cond_most (eqb l.arg 22) _ _ (omega arith) (omega arith))))
      (omega arith))))

  name_most : length (name_text l s) ≤ worth l s + 11
  unfolding name_text
  name_most = cond_most (eqb l.kind text) _ _ (omega arith) integer_most

-- no type's name is longer than 7
at_most : ℕ → List Name → Bool
at_most n [] = true
at_most n (name t s ∷ es) = leb (length (ascii s)) n && at_most n es

name_in_most : (es : List Name) (t n : ℕ) → at_most n es ≡ true → length (name_in es t) ≤ n
unfolding at_most
name_in_most [] t n e = omega arith
name_in_most (name m s ∷ es) t n e =
    let (p, q) = and-true (leb (length (ascii s)) n) (at_most n es) e in
    cond_most (eqb t m) (ascii s) (name_in es t) (leb-true (length (ascii s)) n p) (name_in_most es t n q)

type_most : (t : ℕ) → length (type_name t) ≤ 7
unfolding type_name names at_most
type_most t = name_in_most names t 7 refl

comma_most : (v : Level) → length (comma v) ≤ 1
comma_most done = omega arith
comma_most (due s n) = omega arith

-- what one head writes
module _ (l : Lead) (s : List ℕ) (v : Level) (h : Sound l) where
  ari_most : length (an_ari.before l s) + length (comma v) ≤ worth l s + 16
  ari_most =
      omega (
        arith,
        comma_most v,
        cond_most (eqb l.kind array) {n = worth l s + 11} (cond (eqb l.arg 2) (47 ∷ []) []) (literal_text l s)
            (cond_most (eqb l.arg 2) (47 ∷ []) [] (omega arith) (omega arith)) (literal_most l s h),
      )

  head_most : (t : Slot) → length ((spell t).before l s) + length ((spell t).after l v) ≤ worth l s + 16
  unfolding spell
  head_most version = omega arith
  head_most (ari w) = ari_most
  head_most (type w) = omega (arith, type_most l.arg)
  head_most (value t w) = go (is_container l.kind)
    where
      go : (b : Bool) → length {A = ℕ} (cond b (40 ∷ []) (cond (eqb t 14) s (literal_text l s))) + length {A = ℕ} (cond b (41 ∷ []) []) ≤ worth l s + 16
      go true = omega arith
      go false = omega (arith, cond_most (eqb t 14) {n = worth l s + 11} s (literal_text l s) (omega arith) (literal_most l s h))
  head_most namespace = omega (arith, name_most l s h)
  head_most (object_namespace p) =
      omega (arith, cond_most (eqb l.kind simple) {n = worth l s + 13} (46 ∷ []) (absolute l s) (omega arith) (omega (arith, name_most l s h)))
  head_most (object_type p) = omega (arith, name_most l s h)
  head_most (object_id p) = omega (arith, name_most l s h)
  head_most params = omega arith
  head_most (key w) = omega (arith, literal_most l s h)
  head_most (entry w) = ari_most
  head_most (nonce t) = omega arith
  head_most set_time = omega arith
  head_most target = omega arith
  head_most report = omega arith
  head_most report_time = omega arith
  head_most report_source = omega arith

texts_most : (g : Items) (v : Level) → Well g → length (texts g v) ≤ 3 * length (encode g) + 16 * heads g
texts_most none v w = omega arith
texts_most (item l s ms rs) done w = omega arith
texts_most (item l s ms rs) (due t n) w =
    let v : Level = (rule t).next l.arg n in
    simp length-append (omega (arith, head_most l s v w.0 t, texts_most ms (members t l) w.3, texts_most rs v w.4))

pub text_most : (g : Items) → Well g → length (text_of g) ≤ 4 + (3 * length (encode g) + 16 * heads g)
unfolding text_of
text_most g w =
    simp length-append (omega (arith, cond_most (is_relative g) {n = 4} [] (ascii "ari:") (omega arith) (omega arith), texts_most g an_ari_due w))
