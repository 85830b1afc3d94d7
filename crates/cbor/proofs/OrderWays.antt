-- Byte order, way by way through the tests; the premises are the tests as the code makes them.
use Prim.Native.Nat.{ℕ, zero, suc, ◌+◌, ◌*◌, ◌/◌, ◌%◌, ◌^◌, ◌<◌, ◌≤◌}
use mathlib.Core.Path.{◌≡◌, refl, sym, ◌∙◌, ap}
use mathlib.Core.Bool.{Bool, true, false, ◌&&◌, ◌||◌, true≢false}
use mathlib.Core.List.{List, [], ◌∷◌, ◌++◌}
use mathlib.Core.Logic.{◌⊎◌, inl, inr}
use mathlib.Core.Bool.{cond}
use native.Mathlib.Omega.{arith}
use native.Mathlib.Nat.{mod-lt, div-add-mod', mul-le-mul_right, suc-mul}
use lib.ListN.{length, drop, get_or}
use lib.Seq.{drop_at}
use lib.Dec.{ltb, leb, eqb}
use borrow.Author.Tests.{lt-ltb, le-ltb, eq-eqb, ne_eqb, ltb-true, ltb-false, eqb-true, le-leb, lt-leb, leb-true}
use mir.Syntax.{w8}
use mir.Val.{Fits}
use Rattle.buffer.specs.Bytes.{be, part}
use Rattle.buffer.proofs.RunLaws.{part_all}
use Rattle.std.specs.Prelude.{Some}
use Rattle.std.proofs.Common.{Ordering}
use Rattle.std.specs.Ordering.{MatchOrdering, nat_cmp, is_lt, is_some_and}
use Rattle.std.specs.Cmp.Lexicographic.{slice_partial_cmp}
use Rattle.std.proofs.lemmas.Cmp.{same_from_slice_cmp_tested}
use Rattle.std.proofs.lemmas.Bool.Decides.{nat_tests}
use Rattle.cbor.specs.Byte.{below}
use Rattle.cbor.specs.Head.{width, shortest, major_of, lead_bytes, short_bytes, key_of, size, Lead, bad, got, get_head, Sound, counted, itself, after}
use Rattle.cbor.specs.Keys.{OwnKey, KeyAt}
use Rattle.cbor.specs.declared.Head.{Head}
use Rattle.cbor.specs.declared.Head.TheVariants.{Bad, Good}
use Rattle.cbor.specs.Answer.{head_at}
use Rattle.cbor.proofs.HeadLaws.{width_small, length_lead, get_head_back}
use Rattle.cbor.proofs.HeadWays.{Read, read, refused}

-- the order that the language has for slices
pub slices_below : (a b : List ℕ) (r : Bool) → r ≡ is_some_and is_lt (slice_partial_cmp (λ x y. Some (nat_cmp x y)) a b) → r ≡ below a b
slices_below = same_from_slice_cmp_tested nat_cmp is_lt below refl (λ y ys. refl) (λ x xs. refl) more
  where
    more : (x y : ℕ) (xs ys : List ℕ) (o : Ordering) → o ≡ nat_cmp x y
        → MatchOrdering o (below (x ∷ xs) (y ∷ ys) ≡ true) (below (x ∷ xs) (y ∷ ys) ≡ below xs ys) (below (x ∷ xs) (y ∷ ys) ≡ false)
    more x y xs ys o e = grind (arith, nat_tests)

no_and : (t : Bool) → (t && false) ≡ false
no_and true = refl
no_and false = refl

-- the second is not less than the first
pub not_both : (u v : List ℕ) → below u v ≡ true → below v u ≡ false
not_both [] [] e = refl
not_both [] (y ∷ v) e = refl
not_both (x ∷ u) [] e = absurd (true≢false (sym e))
not_both (x ∷ u) (y ∷ v) e = go (ltb x y) refl (eqb x y) refl e (not_both u v)
  where
    go : (s : Bool) → ltb x y ≡ s → (t : Bool) → eqb x y ≡ t → s || (t && below u v) ≡ true → (below u v ≡ true → below v u ≡ false)
        → ltb y x || (eqb y x && below v u) ≡ false
    go true p t q f r = let l = ltb-true x y p in rw (le-ltb y x (omega arith), ne_eqb y x (λ z. omega arith))
    go false p true q f r = let z = eqb-true x y q in rw (le-ltb y x (omega arith), r f) (no_and (eqb y x))
    go false p false q f r = absurd (true≢false (sym f))

module _ (x y : ℕ) (u v : List ℕ) where
  first_less : x < y → below (x ∷ u) (y ∷ v) ≡ true
  first_less h = rw (lt-ltb x y h)

  first_same : x ≡ y → below (x ∷ u) (y ∷ v) ≡ below u v
  first_same e = rw (le-ltb x y (omega arith), eq-eqb x y e)

-- of two numbers with the quotient of the greater not above that of the less, the quotients are the same, and the rests are ordered
no_room : (a b p rx ry x y : ℕ) → a + rx ≡ x → b + ry ≡ y → b + p ≤ a → ry < p → x < y → ⊥
no_room a b p rx ry x y e f h l k = omega arith

same_rests : (a rx ry x y : ℕ) → a + rx ≡ x → a + ry ≡ y → x < y → rx < ry
same_rests a rx ry x y e f h = omega arith

module _ (x y p : ℕ) (h : x < y) (o : 0 < p) (q : y / p ≤ x / p) where
  same_quotients : x / p ≡ y / p
  same_quotients = go (ltb (y / p) (x / p)) refl
    where
      go : (t : Bool) → ltb (y / p) (x / p) ≡ t → x / p ≡ y / p
      go true e =
          let m : suc (y / p) * p ≤ x / p * p = mul-le-mul_right p (ltb-true (y / p) (x / p) e) in
          let n : y / p * p + p ≤ x / p * p = rw (← suc-mul (y / p) p) m in
          absurd (no_room (x / p * p) (y / p * p) p (x % p) (y % p) x y (div-add-mod' x p) (div-add-mod' y p) n (mod-lt y o) h)
      go false e = let z = ltb-false (y / p) (x / p) e in omega arith

  rests_rise : x % p < y % p
  rests_rise = same_rests (x / p * p) (x % p) (y % p) x y (div-add-mod' x p) (rw same_quotients (div-add-mod' y p)) h

pow_some : (w : ℕ) → 0 < 256 ^ w
pow_some zero = omega arith
pow_some (suc w) = let h = pow_some w in omega arith

-- numbers in as many bytes are ordered as the numbers are
be_below : (w x y : ℕ) (u v : List ℕ) → x < y → y < 256 ^ w → below (be w x ++ u) (be w y ++ v) ≡ true
be_below zero x y u v h l = absurd (omega arith)
be_below (suc w) x y u v h l = go (ltb (x / 256 ^ w) (y / 256 ^ w)) refl (be_below w (x % 256 ^ w) (y % 256 ^ w) u v)
  where
    some : 0 < 256 ^ w
    some = pow_some w

    go : (t : Bool) → ltb (x / 256 ^ w) (y / 256 ^ w) ≡ t
        → (x % 256 ^ w < y % 256 ^ w → y % 256 ^ w < 256 ^ w → below (be w (x % 256 ^ w) ++ u) (be w (y % 256 ^ w) ++ v) ≡ true)
        → below (be (suc w) x ++ u) (be (suc w) y ++ v) ≡ true
    go true e r = first_less (x / 256 ^ w) (y / 256 ^ w) (be w (x % 256 ^ w) ++ u) (be w (y % 256 ^ w) ++ v) (ltb-true (x / 256 ^ w) (y / 256 ^ w) e)
    go false e r =
        let q = ltb-false (x / 256 ^ w) (y / 256 ^ w) e in
        first_same (x / 256 ^ w) (y / 256 ^ w) (be w (x % 256 ^ w) ++ u) (be w (y % 256 ^ w) ++ v) (same_quotients x y (256 ^ w) h some q)
        ∙ r (rests_rise x y (256 ^ w) h some q) (mod-lt y some)

-- the sizes of numbers
data Class (a : ℕ) : ℕ → Type 0 where
  in_head : a < 24 → Class a a
  in_1 : 24 ≤ a → a < 256 → Class a 24
  in_2 : 256 ≤ a → a < 65536 → Class a 25
  in_4 : 65536 ≤ a → a < 4294967296 → Class a 26
  in_8 : 4294967296 ≤ a → Class a 27

class_of : (a : ℕ) → Class a (shortest a)
unfolding shortest
class_of a = go (ltb a 24) refl (ltb a 256) refl (ltb a 65536) refl (ltb a 4294967296) refl
  where
    go : (s : Bool) → ltb a 24 ≡ s → (t : Bool) → ltb a 256 ≡ t → (u : Bool) → ltb a 65536 ≡ u → (v : Bool) → ltb a 4294967296 ≡ v
        → Class a (cond s a (cond t 24 (cond u 25 (cond v 26 27))))
    go true e t f u g v h = in_head (ltb-true a 24 e)
    go false e true f u g v h = in_1 (ltb-false a 24 e) (ltb-true a 256 f)
    go false e false f true g v h = in_2 (ltb-false a 256 f) (ltb-true a 65536 g)
    go false e false f false g true h = in_4 (ltb-false a 65536 g) (ltb-true a 4294967296 h)
    go false e false f false g false h = in_8 (ltb-false a 4294967296 h)

-- a greater number has a greater info, or the same and stands in the bytes behind it
abbrev Rises : ℕ → ℕ → ℕ → Type 0
Rises i j b = (i < j) ⊎ ((i ≡ j) × (b < 256 ^ width j))

rises : (a b i j : ℕ) → a < b → b < 2 ^ 64 → Class a i → Class b j → Rises i j b
unfolding width
rises a b i j h l (in_head p) (in_head q) = inl h
rises a b i j h l (in_head p) (in_1 q r) = inl (omega arith)
rises a b i j h l (in_head p) (in_2 q r) = inl (omega arith)
rises a b i j h l (in_head p) (in_4 q r) = inl (omega arith)
rises a b i j h l (in_head p) (in_8 q) = inl (omega arith)
rises a b i j h l (in_1 p s) (in_head q) = absurd (omega arith)
rises a b i j h l (in_1 p s) (in_1 q r) = inr (refl, r)
rises a b i j h l (in_1 p s) (in_2 q r) = inl (omega arith)
rises a b i j h l (in_1 p s) (in_4 q r) = inl (omega arith)
rises a b i j h l (in_1 p s) (in_8 q) = inl (omega arith)
rises a b i j h l (in_2 p s) (in_head q) = absurd (omega arith)
rises a b i j h l (in_2 p s) (in_1 q r) = absurd (omega arith)
rises a b i j h l (in_2 p s) (in_2 q r) = inr (refl, r)
rises a b i j h l (in_2 p s) (in_4 q r) = inl (omega arith)
rises a b i j h l (in_2 p s) (in_8 q) = inl (omega arith)
rises a b i j h l (in_4 p s) (in_head q) = absurd (omega arith)
rises a b i j h l (in_4 p s) (in_1 q r) = absurd (omega arith)
rises a b i j h l (in_4 p s) (in_2 q r) = absurd (omega arith)
rises a b i j h l (in_4 p s) (in_4 q r) = inr (refl, r)
rises a b i j h l (in_4 p s) (in_8 q) = inl (omega arith)
rises a b i j h l (in_8 p) (in_head q) = absurd (omega arith)
rises a b i j h l (in_8 p) (in_1 q r) = absurd (omega arith)
rises a b i j h l (in_8 p) (in_2 q r) = absurd (omega arith)
rises a b i j h l (in_8 p) (in_4 q r) = absurd (omega arith)
rises a b i j h l (in_8 p) (in_8 q) = inr (refl, l)

info_le : (a i : ℕ) → Class a i → i < 28
info_le a i (in_head p) = omega arith
info_le a i (in_1 p s) = omega arith
info_le a i (in_2 p s) = omega arith
info_le a i (in_4 p s) = omega arith
info_le a i (in_8 p) = omega arith

-- Keys are ordered by their kinds, then by their arguments, then by their strings.
module _ (k a m b : ℕ) (u v : List ℕ) (kc : k ≤ 5) (mc : m ≤ 5) where
  pub by_kind : k < m → below (short_bytes k a ++ u) (short_bytes m b ++ v) ≡ true
  unfolding short_bytes major_of
  by_kind h = rw (le-leb k 5 kc, le-leb m 5 mc) (first_less (k * 32 + shortest a) (m * 32 + shortest b) (be (width (shortest a)) a ++ u) (be (width (shortest b)) b ++ v) (omega (arith, info_le a (shortest a) (class_of a))))

  pub by_argument : k ≡ m → a < b → b < 2 ^ 64 → below (short_bytes k a ++ u) (short_bytes m b ++ v) ≡ true
  unfolding short_bytes major_of
  by_argument e h l = rw (e, le-leb m 5 mc) (go (rises a b (shortest a) (shortest b) h l (class_of a) (class_of b)))
    where
      go : Rises (shortest a) (shortest b) b
          → below ((m * 32 + shortest a) ∷ (be (width (shortest a)) a ++ u)) ((m * 32 + shortest b) ∷ (be (width (shortest b)) b ++ v)) ≡ true
      go (inl r) = first_less (m * 32 + shortest a) (m * 32 + shortest b) (be (width (shortest a)) a ++ u) (be (width (shortest b)) b ++ v) (omega arith)
      go (inr r) =
          first_same (m * 32 + shortest a) (m * 32 + shortest b) (be (width (shortest a)) a ++ u) (be (width (shortest b)) b ++ v) (omega (arith, r.0)) ∙ rw r.0 (be_below (width (shortest b)) a b u v h r.1)

  pub by_string : k ≡ m → a ≡ b → below (short_bytes k a ++ u) (short_bytes m b ++ v) ≡ below u v
  by_string e f = rw (e, f) (after_same (short_bytes m b))
    where
      after_same : (w : List ℕ) → below (w ++ u) (w ++ v) ≡ below u v
      after_same [] = refl
      after_same (x ∷ w) = first_same x x (w ++ u) (w ++ v) refl ∙ after_same w

-- a key's head, and its string behind it
pub key_got : (s : List ℕ) (l : Lead) → get_head s ≡ got l → l.kind ≤ 5 → key_of s ≡ short_bytes l.kind l.arg ++ drop (size l) s
unfolding key_of
key_got s l e h = rw (e, le-leb l.kind 5 h)

no_key_got : (s : List ℕ) (l : Lead) → get_head s ≡ got l → 5 < l.kind → key_of s ≡ []
unfolding key_of
no_key_got s l e h = rw (e, lt-leb l.kind 5 h)

no_key_bad : (s : List ℕ) (r : ℕ) → get_head s ≡ bad r → key_of s ≡ []
unfolding key_of
no_key_bad s r e = rw e

module _ (s : List ℕ) {h : Head} (e : h ≡ head_at s 0) where
  pub no_head : {r : ℕ} → h ≡ Bad r → key_of s ≡ []
  no_head {r} f = no_key_bad s r (refused s 0 e f)

  module _ {k a n : ℕ} (f : h ≡ Good k a n) where
    abbrev r : Read s 0 k a n
    r = read s 0 e f

    pub no_count : 5 < k → key_of s ≡ []
    no_count g = no_key_got s r.lead r.is_got (omega (arith, r.kind_is))

    pub key_at_lem : k ≤ 5 → a < 2 ^ 64 → n ≤ length s → KeyAt s k a n
    key_at_lem g l i =
        let z : size r.lead ≡ n = omega (arith, r.next_is) in
        let q = key_got s r.lead r.is_got (omega (arith, r.kind_is)) in
        record { counts = g; small = l; inside = i; key_is = q ∙ ap (λ (w : List ℕ). short_bytes r.lead.kind r.lead.arg ++ w) (ap (λ (j : ℕ). drop j s) z) ∙ rw (r.kind_is, r.arg_is) }

-- two keys
pub second_none : (u v : List ℕ) → v ≡ [] → false ≡ below u v
second_none u v e = rw e (sym (nothing_below u))
  where
    nothing_below : (u : List ℕ) → below u [] ≡ false
    nothing_below [] = refl
    nothing_below (z ∷ u) = refl

module _ (a b : List ℕ) {m w q : ℕ} (second : KeyAt b m w q) where
  pub first_none : key_of a ≡ [] → true ≡ below (key_of a) (key_of b)
  unfolding short_bytes
  first_none f = rw (f, second.key_is)

  module _ {k v p : ℕ} (first : KeyAt a k v p) where
    pub kinds_differ : (k ≡ m → ⊥) → ltb k m ≡ below (key_of a) (key_of b)
    kinds_differ n = rw (first.key_is, second.key_is) (go (ltb k m) refl)
      where
        go : (t : Bool) → ltb k m ≡ t
            → t ≡ below (short_bytes k v ++ drop p a) (short_bytes m w ++ drop q b)
        go true h = sym (by_kind k v m w (drop p a) (drop q b) first.counts second.counts (ltb-true k m h))
        go false h =
            let l = ltb-false k m h in
            sym (not_both (short_bytes m w ++ drop q b) (short_bytes k v ++ drop p a) (by_kind m w k v (drop q b) (drop p a) second.counts first.counts (omega arith)))

    module _ (same_kind : k ≡ m) where
      pub arguments_differ : (v ≡ w → ⊥) → ltb v w ≡ below (key_of a) (key_of b)
      arguments_differ n = rw (first.key_is, second.key_is) (go (ltb v w) refl)
        where
          go : (t : Bool) → ltb v w ≡ t
              → t ≡ below (short_bytes k v ++ drop p a) (short_bytes m w ++ drop q b)
          go true h = sym (by_argument k v m w (drop p a) (drop q b) first.counts second.counts same_kind (ltb-true v w h) second.small)
          go false h =
              let l = ltb-false v w h in
              sym (not_both (short_bytes m w ++ drop q b) (short_bytes k v ++ drop p a) (by_argument m w k v (drop q b) (drop p a) second.counts first.counts (sym same_kind) (omega arith) first.small))

      pub strings_decide : v ≡ w → {r : Bool} → r ≡ below (part a p (length a)) (part b q (length b)) → r ≡ below (key_of a) (key_of b)
      strings_decide e d = d ∙ rw (part_all a p, part_all b q, first.key_is, second.key_is) (sym (by_string k v m w _ _ first.counts second.counts same_kind e))

-- A key whose head is the shortest is ordered by its own bytes.
own_lead : (l : Lead) (xs : List ℕ) → Sound l → l.kind ≤ 5 → shortest l.arg ≡ l.info → key_of (lead_bytes l ++ xs) ≡ lead_bytes l ++ xs
unfolding short_bytes lead_bytes
own_lead l xs s k e =
    key_got (lead_bytes l ++ xs) l (get_head_back {l = l} xs s) k ∙ rw (e, drop_at (lead_bytes l) xs (size l) (length_lead l))

-- of one, two and three bytes
module _ (x : ℕ) (h : x < 192) where
  major : x / 32 ≤ 5
  major = omega (arith, div-add-mod' x 32)

  first_byte : (i : ℕ) → x % 32 ≡ i → major_of (x / 32) * 32 + i ≡ x
  unfolding major_of
  first_byte i e = rw (le-leb (x / 32) 5 major) (omega (arith, div-add-mod' x 32))

  own_one : (xs : List ℕ) → x % 32 < 24 → key_of (x ∷ xs) ≡ x ∷ xs
  unfolding lead_bytes shortest
  own_one xs q =
      let l : Lead = record { info = x % 32; kind = x / 32; arg = x % 32 } in
      let b : lead_bytes l ++ xs ≡ x ∷ xs = rw (width_small (x % 32) q, first_byte (x % 32) refl) in
      rw b at (own_lead l xs (counted major (itself q refl)) major (rw (lt-ltb (x % 32) 24 q)))

  own_two : (y : ℕ) (xs : List ℕ) → x % 32 ≡ 24 → 24 ≤ y → y < 256 → key_of (x ∷ (y ∷ xs)) ≡ x ∷ (y ∷ xs)
  unfolding lead_bytes shortest width
  own_two y xs e g k =
      let l : Lead = record { info = 24; kind = x / 32; arg = y } in
      let z : y / 1 ≡ y = omega arith in
      let b : lead_bytes l ++ xs ≡ x ∷ (y ∷ xs) = rw (first_byte 24 e, z) in
      rw b at (own_lead l xs (counted major (after (omega arith) (omega arith) k)) major (rw (le-ltb y 24 g, lt-ltb y 256 k)))

  own_three : (y z : ℕ) (xs : List ℕ) → x % 32 ≡ 25 → 0 < y → y < 256 → z < 256 → key_of (x ∷ (y ∷ (z ∷ xs))) ≡ x ∷ (y ∷ (z ∷ xs))
  unfolding lead_bytes shortest width
  own_three y z xs e g k m =
      let a : ℕ = y * 256 + z in
      let l : Lead = record { info = 25; kind = x / 32; arg = a } in
      let f : a / 256 ≡ y = omega arith in
      let r : a % 256 / 1 ≡ z = omega arith in
      let b : lead_bytes l ++ xs ≡ x ∷ (y ∷ (z ∷ xs)) = rw (first_byte 25 e, f, r) in
      rw b at (own_lead l xs (counted major (after (omega arith) (omega arith) (omega arith))) major (rw (le-ltb a 24 (omega arith), le-ltb a 256 (omega arith), lt-ltb a 65536 (omega arith))))

module _ {s : List ℕ} where
  pub own_none : OwnKey s false
  own_none = record { own = λ e. absurd (true≢false (sym e)) }

  pub own_short : (length s ≡ 0 → ⊥) → get_or s 0 0 < 192 → get_or s 0 0 % 32 < 24 → OwnKey s true
  own_short n h q = record { own = λ e. go s n h q }
    where
      go : (u : List ℕ) → (length u ≡ 0 → ⊥) → get_or u 0 0 < 192 → get_or u 0 0 % 32 < 24 → key_of u ≡ u
      go [] z h q = absurd (z refl)
      go (y ∷ ys) z h q = own_one y h ys q

  module _ (h : get_or s 0 0 < 192) (w : (j : ℕ) → Fits w8 (get_or s j 0)) where
    pub own_middle : 2 ≤ length s → get_or s 0 0 % 32 ≡ 24 → OwnKey s (leb 24 (get_or s 1 0))
    own_middle n q = record { own = λ t. go s n h q (leb-true 24 (get_or s 1 0) t) (w 1).fits }
      where
        go : (u : List ℕ) → 2 ≤ length u → get_or u 0 0 < 192 → get_or u 0 0 % 32 ≡ 24 → 24 ≤ get_or u 1 0 → get_or u 1 0 < 256 → key_of u ≡ u
        go [] n h q t f = absurd (omega arith)
        go (x ∷ []) n h q t f = absurd (omega arith)
        go (x ∷ (y ∷ ys)) n h q t f = own_two x h y ys q t f

    pub own_wide : 3 ≤ length s → get_or s 0 0 % 32 ≡ 25 → OwnKey s (ltb 0 (get_or s 1 0))
    own_wide n q = record { own = λ t. go s n h q (ltb-true 0 (get_or s 1 0) t) (w 1).fits (w 2).fits }
      where
        go : (u : List ℕ) → 3 ≤ length u → get_or u 0 0 < 192 → get_or u 0 0 % 32 ≡ 25 → 0 < get_or u 1 0 → get_or u 1 0 < 256 → get_or u 2 0 < 256 → key_of u ≡ u
        go [] n h q t f g = absurd (omega arith)
        go (x ∷ []) n h q t f g = absurd (omega arith)
        go (x ∷ (y ∷ [])) n h q t f g = absurd (omega arith)
        go (x ∷ (y ∷ (z ∷ zs))) n h q t f g = own_three x h y z zs q t f g

pub own_order : {a b : List ℕ} {r t w : Bool} → OwnKey a r → OwnKey b t → r ≡ true → t ≡ true → w ≡ below a b → w ≡ below (key_of a) (key_of b)
own_order p q e f o = rw (p.own e, q.own f) o

pub ruleset keys = (own_none, own_short, own_middle, own_wide, own_order, no_head, no_count, key_at_lem, second_none, first_none, kinds_differ, arguments_differ, strings_decide)
