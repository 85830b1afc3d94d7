-- Laws of Bytes: tests taken apart; a number and its bytes; equality.
use Prim.Native.Nat.{ℕ, zero, suc, ◌+◌, ◌*◌, ◌/◌, ◌%◌, ◌^◌, ◌<◌, ◌≤◌}
use mathlib.Core.Path.{◌≡◌, refl, sym, ◌∙◌, ap}
use mathlib.Core.Bool.{Bool, true, false, not, ◌&&◌, ◌||◌, cond, and-false, true≢false}
use mathlib.Core.List.{List, [], ◌∷◌, ◌++◌}
use mathlib.Core.Logic.{◌⊎◌, inl, inr}
use native.Mathlib.Omega.{arith}
use native.Mathlib.Nat.{mod-lt, mod-eq_of_lt, div-add-mod', div-div-eq-div-mul, pow-suc, one-le-pow, mul_comm, mul_assoc, add-mul, add_assoc}
use lib.ListN.{length, take, drop, get_or, length-append}
use lib.Seq.{length-take-le}
use lib.Dec.{leb, eqb}
use mir.Val.{Fits}
use mir.Syntax.{w8}
use lib.Pow.{pow-add}
use lib.Arith.{digits_div, digits_mod, digits_lt, mod-mul}
use borrow.Author.Tests.{ltb-true, leb-true, eqb-true, lt-ltb, le-leb, eq-eqb}
use Rattle.std.specs.Prelude.{nat_eq}
use Rattle.std.specs.Cmp.Lexicographic.{pointwise}
use Rattle.buffer.specs.Bytes.{be, value, within, all, is_byte, same}

pub and-true : (a b : Bool) → a && b ≡ true → (a ≡ true) × (b ≡ true)
and-true true b e = (refl, e)
and-true false b e = (e, cc)

pub or-false : (a b : Bool) → a || b ≡ false → (a ≡ false) × (b ≡ false)
or-false true b e = (e, cc)
or-false false b e = (refl, e)

pub or-true : (a b : Bool) → a || b ≡ true → (a ≡ true) ⊎ (b ≡ true)
or-true true b e = inl refl
or-true false b e = inr e

pub or_right : (a b : Bool) → b ≡ true → a || b ≡ true
or_right true b e = refl
or_right false b e = e

pub or_nil : (a : Bool) → a || false ≡ true → a ≡ true
or_nil true e = refl
or_nil false e = e

pub not-false : (a : Bool) → not a ≡ false → a ≡ true
not-false true e = refl
not-false false e = sym e

pub not-true : (a : Bool) → not a ≡ true → a ≡ false
not-true true e = sym e
not-true false e = refl

-- a test that was passed
pub past : {A : Type 0} (t : Bool) (z x : A) {y : A} → (z ≡ y → ⊥) → cond t z x ≡ y → (t ≡ false) × (x ≡ y)
past true z x n e = absurd (n e)
past false z x n e = (refl, e)

pub within_true : (lo hi x : ℕ) → within lo hi x ≡ true → (lo ≤ x) × (x ≤ hi)
within_true lo hi x e = let (p, q) = and-true (leb lo x) (leb x hi) e in (leb-true lo x p, leb-true x hi q)

pub within_is : (lo hi x : ℕ) → lo ≤ x → x ≤ hi → within lo hi x ≡ true
within_is lo hi x l h = rw (le-leb lo x l, le-leb x hi h)

pub pow_pos : (w : ℕ) → 0 < 256 ^ w
pow_pos w = one-le-pow w 256 (omega arith)

pub length_be : (w a : ℕ) → length (be w a) ≡ w
length_be zero a = refl
length_be (suc w) a = ap suc (length_be w (a % 256 ^ w))

pub value_be : (w a : ℕ) → a < 256 ^ w → value (be w a) ≡ a
value_be zero a h = omega arith
value_be (suc w) a h = rw (length_be w (a % 256 ^ w), value_be w (a % 256 ^ w) (mod-lt a (pow_pos w))) (div-add-mod' a (256 ^ w))

pub value_lt : (xs : List ℕ) → all is_byte xs ≡ true → value xs < 256 ^ length xs
value_lt [] e = omega arith
value_lt (x ∷ xs) e =
    let (p, q) = and-true (is_byte x) (all is_byte xs) e in
    rw (pow-suc, mul_comm (256 ^ length xs) 256) (digits_lt (ltb-true x 256 p) (value_lt xs q))

pub be_value : (xs : List ℕ) → all is_byte xs ≡ true → be (length xs) (value xs) ≡ xs
be_value [] e = refl
be_value (x ∷ xs) e =
    let q : all is_byte xs ≡ true = (and-true (is_byte x) (all is_byte xs) e).1 in
    let v : value xs < 256 ^ length xs = value_lt xs q in
    rw (digits_div x v, digits_mod x v, be_value xs q)

-- the higher bytes, and the lower
pub be_join : (u v x : ℕ) → x < 256 ^ (u + v) → be (u + v) x ≡ be u (x / 256 ^ v) ++ be v (x % 256 ^ v)
be_join zero v x h = let e : 0 + v ≡ v = omega arith in rw (e, mod-eq_of_lt (rw e at h))
be_join (suc u) v x h =
    let e : suc u + v ≡ suc (u + v) = omega arith in
    let p : 256 ^ (u + v) ≡ 256 ^ u * 256 ^ v = pow-add 256 u v in
    let r : x % 256 ^ v < 256 ^ v = mod-lt x (pow_pos v) in
    let d : x % 256 ^ (u + v) ≡ (x / 256 ^ v % 256 ^ u) * 256 ^ v + x % 256 ^ v = rw p (mod-mul x (pow_pos u) (pow_pos v)) in
    let q : x % 256 ^ (u + v) / 256 ^ v ≡ x / 256 ^ v % 256 ^ u = rw d (digits_div _ r) in
    let s : x % 256 ^ (u + v) % 256 ^ v ≡ x % 256 ^ v = rw d (digits_mod _ r) in
    let t : x / 256 ^ (u + v) ≡ x / 256 ^ v / 256 ^ u = rw (p, mul_comm (256 ^ u) (256 ^ v)) (sym (div-div-eq-div-mul x (256 ^ v) (256 ^ u))) in
    rw (e, be_join u v (x % 256 ^ (u + v)) (mod-lt x (pow_pos (u + v))), q, s, t)

pub all_take : (p : ℕ → Bool) (n : ℕ) (xs : List ℕ) → all p xs ≡ true → all p (take n xs) ≡ true
all_take p zero xs e = refl
all_take p (suc n) [] e = refl
all_take p (suc n) (x ∷ xs) e = let (h, t) = and-true (p x) (all p xs) e in rw (h, all_take p n xs t)

pub all_drop : (p : ℕ → Bool) (n : ℕ) (xs : List ℕ) → all p xs ≡ true → all p (drop n xs) ≡ true
all_drop p zero xs e = e
all_drop p (suc n) [] e = e
all_drop p (suc n) (x ∷ xs) e = all_drop p n xs (and-true (p x) (all p xs) e).1

-- the same of the first w bytes
module _ (w : ℕ) (bs : List ℕ) (e : all is_byte bs ≡ true) (h : w ≤ length bs) where
  pub value_part_lt : value (take w bs) < 256 ^ w
  value_part_lt = rw (length-take-le w bs h) at (value_lt (take w bs) (all_take is_byte w bs e))

  pub value_part_be : be w (value (take w bs)) ≡ take w bs
  value_part_be = ap (λ (n : ℕ). be n (value (take w bs))) (sym (length-take-le w bs h)) ∙ be_value (take w bs) (all_take is_byte w bs e)

-- of two lists one behind the other
pub value_join : (xs ys : List ℕ) → value (xs ++ ys) ≡ value xs * 256 ^ length ys + value ys
value_join [] ys = omega arith
value_join (x ∷ xs) ys =
    rw (length-append xs ys, pow-add 256 (length xs) (length ys), value_join xs ys, add-mul, mul_assoc x, add_assoc)

pub all_both : (p : ℕ → Bool) (u v : List ℕ) → all p (u ++ v) ≡ (all p u && all p v)
all_both p [] v = refl
all_both p (x ∷ u) v = go (p x) (all_both p u v)
  where
    go : (t : Bool) → all p (u ++ v) ≡ (all p u && all p v) → (t && all p (u ++ v)) ≡ ((t && all p u) && all p v)
    go true e = e
    go false e = refl

pub all_append : (p : ℕ → Bool) (u v : List ℕ) → all p u ≡ true → all p v ≡ true → all p (u ++ v) ≡ true
all_append p u v e f = all_both p u v ∙ rw (e, f)

pub all_split : (p : ℕ → Bool) (u v : List ℕ) → all p (u ++ v) ≡ true → (all p u ≡ true) × (all p v ≡ true)
all_split p u v e = and-true (all p u) (all p v) (sym (all_both p u v) ∙ e)

-- the bytes of a slice are bytes
pub all_bytes : (b : List ℕ) → ((i : ℕ) → Fits w8 (get_or b i 0)) → all is_byte b ≡ true
all_bytes [] f = refl
all_bytes (x ∷ b) f = rw (lt-ltb x 256 (f 0).fits, all_bytes b (λ i. f (suc i)))

-- bytes that are the same
pub same_is : (u v : List ℕ) → same u v ≡ true → u ≡ v
same_is [] [] e = refl
same_is [] (y ∷ v) e = absurd (true≢false (sym e))
same_is (x ∷ u) [] e = absurd (true≢false (sym e))
same_is (x ∷ u) (y ∷ v) e = let (p, q) = and-true (eqb x y) (same u v) e in rw (eqb-true x y p, same_is u v q)

-- the test that the language has for slices
pub pointwise_same : (u v : List ℕ) → pointwise nat_eq u v ≡ same u v
pointwise_same [] [] = refl
pointwise_same [] (y ∷ v) = refl
pointwise_same (x ∷ u) [] = refl
pointwise_same (x ∷ u) (y ∷ v) = rw (pointwise_same u v)

pub same_self : (u : List ℕ) → same u u ≡ true
same_self [] = refl
same_self (x ∷ u) = rw (eq-eqb x x refl, same_self u)

pub same_length : (a b : List ℕ) → (length a ≡ length b → ⊥) → same a b ≡ false
same_length [] [] n = absurd (n refl)
same_length [] (y ∷ b) n = refl
same_length (x ∷ a) [] n = refl
same_length (x ∷ a) (y ∷ b) n = rw (same_length a b (λ e. n (ap suc e))) (and-false (eqb x y))
