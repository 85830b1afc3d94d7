-- A head written and read again; a head read is the one that was written.
use Prim.Native.Nat.{ℕ, suc, ◌-◌, ◌/◌, ◌%◌, ◌^◌, ◌<◌, ◌≤◌}
use mathlib.Core.Path.{◌≡◌, refl, sym, ap}
use mathlib.Core.Bool.{Bool, true, false, ◌&&◌, ◌||◌, cond}
use mathlib.Core.List.{List, [], ◌∷◌, ◌++◌}
use native.Mathlib.Omega.{arith}
use native.Mathlib.Nat.{div-add-mod', pow-le-pow_right}
use lib.ListN.{length, take, drop, length-append, take-append-drop}
use lib.Seq.{take_at}
use lib.Dec.{ltb, leb, eqb}
use lib.Arith.{digits_div, digits_mod}
use borrow.Author.Tests.{ltb-true, ltb-false, leb-true, leb-false, eqb-true, eqb-false, lt-ltb, le-ltb, le-leb, lt-leb, eq-eqb, ne_eqb}
use Rattle.buffer.specs.Bytes.{be, value, all, is_byte}
use Rattle.cbor.specs.Head.{simple, Lead, width, shortest, major_of, kind_of, argument, lead_bytes, size, lead_of, head_bytes, bad_float, unused, bad, got, get_from, get_head, Sound, counted, a_simple, a_float, Carries, itself, after}
use Rattle.buffer.proofs.ByteLaws.{and-true, or-false, past, length_be, value_be, value_part_lt, value_part_be}

pub carries_lt : {i a : ℕ} → Carries i a → i < 28
carries_lt (itself h e) = omega arith
carries_lt (after h g l) = omega arith

pub width_small : (i : ℕ) → i < 24 → width i ≡ 0
unfolding width
width_small i h =
    rw (ne_eqb i 24 (λ e. omega arith), ne_eqb i 25 (λ e. omega arith), ne_eqb i 26 (λ e. omega arith), ne_eqb i 27 (λ e. omega arith))

cond_le : (t : Bool) {x y n : ℕ} → x ≤ n → y ≤ n → cond t x y ≤ n
cond_le true h g = h
cond_le false h g = g

pub width_le : (i : ℕ) → width i ≤ 8
unfolding width
width_le i =
    cond_le (eqb i 24) (omega arith) (cond_le (eqb i 25) (omega arith) (cond_le (eqb i 26) (omega arith) (cond_le (eqb i 27) (omega arith) (omega arith))))

carries_64 : {i a : ℕ} → Carries i a → a < 2 ^ 64
carries_64 (itself h e) = omega arith
carries_64 {i} {a} (after h g l) = omega (arith, pow-le-pow_right {n = 256} (omega arith) (width_le i))

argument_be : {i a : ℕ} (r : List ℕ) → Carries i a → argument i (be (width i) a ++ r) ≡ a
unfolding argument
argument_be {i} {a} r (itself h e) = rw (lt-ltb i 24 h) (sym e)
argument_be {i} {a} r (after h g l) =
    rw (le-ltb i 24 h, take_at (be (width i) a) r (width i) (length_be (width i) a)) (value_be (width i) a l)

pub shortest_carries : (a : ℕ) → a < 2 ^ 64 → Carries (shortest a) a
unfolding shortest width
shortest_carries a h = go (ltb a 24) refl
  where
    go4 : (t : Bool) → ltb a 4294967296 ≡ t → Carries (cond t 26 27) a
    go4 true e = after (omega arith) (omega arith) (ltb-true a 4294967296 e)
    go4 false e = after (omega arith) (omega arith) h

    go3 : (t : Bool) → ltb a 65536 ≡ t → Carries (cond t 25 (cond (ltb a 4294967296) 26 27)) a
    go3 true e = after (omega arith) (omega arith) (ltb-true a 65536 e)
    go3 false e = go4 (ltb a 4294967296) refl

    go2 : (t : Bool) → ltb a 256 ≡ t → Carries (cond t 24 (cond (ltb a 65536) 25 (cond (ltb a 4294967296) 26 27))) a
    go2 true e = after (omega arith) (omega arith) (ltb-true a 256 e)
    go2 false e = go3 (ltb a 65536) refl

    go : (t : Bool) → ltb a 24 ≡ t → Carries (cond t a (cond (ltb a 256) 24 (cond (ltb a 65536) 25 (cond (ltb a 4294967296) 26 27)))) a
    go true e = itself (ltb-true a 24 e) refl
    go false e = go2 (ltb a 256) refl

shortest_small : (i : ℕ) → i < 24 → shortest i ≡ i
unfolding shortest
shortest_small i h = rw (lt-ltb i 24 h)

-- no info carries an argument in fewer bytes than the shortest
width_if : (t : Bool) (i j w : ℕ) → (t ≡ true → width i ≤ w) → (t ≡ false → width j ≤ w) → width (cond t i j) ≤ w
width_if true i j w f g = f refl
width_if false i j w f g = g refl

module _ (a w : ℕ) where
  within_1 : 1 ≤ w → a < 256 → width (shortest a) ≤ w
  unfolding shortest width
  within_1 h l =
      width_if (ltb a 24) a _ w (λ e. rw (width_small a (ltb-true a 24 e)) (omega arith)) (λ e. rw (lt-ltb a 256 l) h)

  within_2 : 2 ≤ w → a < 65536 → width (shortest a) ≤ w
  unfolding shortest width
  within_2 h l =
      width_if (ltb a 24) a _ w (λ e. rw (width_small a (ltb-true a 24 e)) (omega arith))
      (λ e. width_if (ltb a 256) 24 _ w (λ f. omega arith) (λ f. rw (lt-ltb a 65536 l) h))

  within_4 : 4 ≤ w → a < 4294967296 → width (shortest a) ≤ w
  unfolding shortest width
  within_4 h l =
      width_if (ltb a 24) a _ w (λ e. rw (width_small a (ltb-true a 24 e)) (omega arith))
      (λ e. width_if (ltb a 256) 24 _ w (λ f. omega arith) (λ f. width_if (ltb a 65536) 25 _ w (λ g. omega arith) (λ g. rw (lt-ltb a 4294967296 l) h)))

pub shortest_least : {i a : ℕ} → Carries i a → width (shortest a) ≤ width i
unfolding width
shortest_least {i} {a} (itself h e) = rw (e, shortest_small i h) (omega arith)
shortest_least {i} {a} (after h g l) = go (eqb i 24) refl (eqb i 25) refl (eqb i 26) refl
  where
    go : (t : Bool) → eqb i 24 ≡ t → (u : Bool) → eqb i 25 ≡ u → (v : Bool) → eqb i 26 ≡ v → width (shortest a) ≤ width i
    go true e u f v k = let q = eqb-true i 24 e in rw q (within_1 a 1 (omega arith) (rw q at l))
    go false e true f v k = let q = eqb-true i 25 f in rw q (within_2 a 2 (omega arith) (rw q at l))
    go false e false f true k = let q = eqb-true i 26 k in rw q (within_4 a 4 (omega arith) (rw q at l))
    go false e false f false k =
        let q : i ≡ 27 = omega (arith, eqb-false i 24 e, eqb-false i 25 f, eqb-false i 26 k) in rw q (width_le (shortest a))

pub length_lead : (l : Lead) → length (lead_bytes l) ≡ size l
unfolding lead_bytes
length_lead l = ap suc (length_be (width l.info) l.arg)

-- What is written is read.
pub sound_carries : {l : Lead} → Sound l → Carries l.info l.arg
sound_carries {l} (counted h c) = c
sound_carries {l} (a_simple e g h i) = itself (omega arith) (sym i)
sound_carries {l} (a_float h g i a b) = after (omega arith) (omega arith) a

pub sound_64 : {l : Lead} → Sound l → l.arg < 2 ^ 64
sound_64 s = carries_64 (sound_carries s)

kind_back : {l : Lead} → Sound l → kind_of (major_of l.kind) l.info ≡ l.kind
unfolding kind_of major_of
kind_back {l} (counted h c) = rw (le-leb l.kind 5 h) (rw (le-leb l.kind 5 h))
kind_back {l} (a_simple e g h i) = rw (lt-leb l.kind 5 (omega arith), lt-ltb l.info 24 (omega arith)) (sym e)
kind_back {l} (a_float h g i a b) = rw (lt-leb l.kind 5 (omega arith), le-ltb l.info 24 (omega arith)) (omega arith)

used_back : {l : Lead} → Sound l → unused (major_of l.kind) l.info ≡ false
unfolding unused major_of
used_back {l} s = go s (lt-leb 28 l.info (carries_lt (sound_carries s)))
  where
    go : Sound l → leb 28 l.info ≡ false → unused (major_of l.kind) l.info ≡ false
    go (counted h d) c =
        rw (le-leb l.kind 5 h, c, ne_eqb l.kind 6 (λ e. omega arith), lt-leb 8 l.kind (omega arith), ne_eqb l.kind 7 (λ e. omega arith))
    go (a_simple e g h i) c = rw (lt-leb l.kind 5 (omega arith), c, le-ltb l.info 20 (omega arith), ne_eqb l.info 24 (λ e. omega arith))
    go (a_float h g i a b) c = rw (lt-leb l.kind 5 (omega arith), c, le-ltb l.info 20 (omega arith), ne_eqb l.info 24 (λ e. omega arith))

no_float : (k a : ℕ) → k ≤ 6 → bad_float k a ≡ false
unfolding bad_float
no_float k a h = rw (ne_eqb k 7 (λ e. omega arith), ne_eqb k 8 (λ e. omega arith), ne_eqb k 9 (λ e. omega arith))

float_back : {l : Lead} → Sound l → bad_float l.kind l.arg ≡ false
float_back {l} (counted h c) = no_float l.kind l.arg (omega arith)
float_back {l} (a_simple e g h i) = no_float l.kind l.arg (omega arith)
float_back {l} (a_float h g i a b) = b

pub get_head_back : {l : Lead} (r : List ℕ) → Sound l → get_head (lead_bytes l ++ r) ≡ got l
unfolding get_head lead_bytes get_from
get_head_back {l} r s =
    let c : Carries l.info l.arg = sound_carries s in
    let i : l.info < 32 = omega (arith, carries_lt c) in
    let xs : List ℕ = be (width l.info) l.arg in
    rw (
      digits_div (major_of l.kind) i,
      digits_mod (major_of l.kind) i,
      le-ltb (length (xs ++ r)) (width l.info) (omega (arith, length-append xs r, length_be (width l.info) l.arg)),
      used_back s,
      kind_back s,
      argument_be r c,
      float_back s,
    )

-- What is read was written.
pub record Found (m i : ℕ) (bs : List ℕ) (l : Lead) : Type 0 where
  pub there : width i ≤ length bs
  pub used : unused m i ≡ false
  pub floats : bad_float (kind_of m i) (argument i bs) ≡ false
  pub info_is : l.info ≡ i
  pub kind_is : l.kind ≡ kind_of m i
  pub arg_is : l.arg ≡ argument i bs

not_got : {r : ℕ} {l : Lead} → bad r ≡ got l → ⊥
not_got e = let z : ◌≡◌ {A = ℕ} 0 1 = cc in omega arith

got_same : {l k : Lead} → got l ≡ got k → k ≡ l
got_same e = cc

pub found : (m i : ℕ) (bs : List ℕ) {l : Lead} → get_from m i bs ≡ got l → Found m i bs l
unfolding get_from
found m i bs e =
    let (t2, e2) = past (ltb (length bs) (width i)) _ _ not_got e in
    let (t3, e3) = past (unused m i) _ _ not_got e2 in
    let (t4, e4) = past (bad_float (kind_of m i) (argument i bs)) _ _ not_got e3 in
    let q = got_same e4 in
    record {
      there = ltb-false (length bs) (width i) t2;
      used = t3;
      floats = t4;
      info_is = ap (λ (l : Lead). l.info) q;
      kind_is = ap (λ (l : Lead). l.kind) q;
      arg_is = ap (λ (l : Lead). l.arg) q;
    }

pub head_fits : (b : List ℕ) {l : Lead} → get_head b ≡ got l → size l ≤ length b
unfolding get_head
head_fits [] e = absurd (not_got e)
head_fits (x ∷ b) {l} e = let f = found (x / 32) (x % 32) b e in rw f.info_is (omega (arith, f.there))

-- the majors in use
data Used (m i : ℕ) : Type 0 where
  counts : m ≤ 5 → i < 28 → Used m i
  simples : m ≡ 7 → 20 ≤ i → i ≤ 23 → Used m i
  floats : m ≡ 7 → 25 ≤ i → i ≤ 27 → Used m i

used_lt : {m i : ℕ} → Used m i → i < 28
used_lt (counts h l) = l
used_lt (simples e l h) = omega arith
used_lt (floats e l h) = omega arith

used_cases : (m i : ℕ) → unused m i ≡ false → Used m i
unfolding unused
used_cases m i e =
    let (e28, e1) = or-false (leb 28 i) _ e in
    let (e6, e2) = or-false (eqb m 6) _ e1 in
    let (e8, e3) = or-false (leb 8 m) _ e2 in
    let low : i < 28 = leb-false 28 i e28 in
    go (leb m 5) refl low (eqb-false m 6 e6) (leb-false 8 m e8) e3
  where
    last : (t : Bool) → ltb i 24 ≡ t → m ≡ 7 → i < 28 → (ltb i 20 || eqb i 24) ≡ false → Used m i
    last true f q l h = simples q (ltb-false i 20 (or-false (ltb i 20) (eqb i 24) h).0) (omega (arith, ltb-true i 24 f))
    last false f q l h =
        let n : i ≡ 24 → ⊥ = eqb-false i 24 (or-false (ltb i 20) (eqb i 24) h).1 in
        floats q (omega (arith, ltb-false i 24 f)) (omega arith)

    go : (t : Bool) → leb m 5 ≡ t → i < 28 → (m ≡ 6 → ⊥) → m < 8 → (eqb m 7 && (ltb i 20 || eqb i 24)) ≡ false → Used m i
    go true f l n h e = counts (leb-true m 5 f) l
    go false f l n h e =
        let q : m ≡ 7 = omega (arith, leb-false m 5 f) in
        last (ltb i 24) refl q l (rw (eq-eqb m 7 q) at e)

argument_carries : (i : ℕ) (bs : List ℕ) → i < 28 → all is_byte bs ≡ true → width i ≤ length bs
    → Carries i (argument i bs) × (be (width i) (argument i bs) ≡ take (width i) bs)
unfolding argument
argument_carries i bs l e h = go (ltb i 24) refl
  where
    go : (t : Bool) → ltb i 24 ≡ t → Carries i (cond t i (value (take (width i) bs))) × (be (width i) (cond t i (value (take (width i) bs))) ≡ take (width i) bs)
    go true f = (itself (ltb-true i 24 f) refl, rw (width_small i (ltb-true i 24 f)))
    go false f = (after (ltb-false i 24 f) (omega arith) (value_part_lt (width i) bs e h), value_part_be (width i) bs e h)

major_kind : {m i : ℕ} → Used m i → major_of (kind_of m i) ≡ m
unfolding major_of kind_of
major_kind {m} {i} (counts h l) = rw (le-leb m 5 h) (rw (le-leb m 5 h))
major_kind {m} {i} (simples e l h) = rw (lt-leb m 5 (omega arith), lt-ltb i 24 (omega arith)) (sym e)
major_kind {m} {i} (floats e l h) = rw (lt-leb m 5 (omega arith), le-ltb i 24 (omega arith)) (rw (lt-leb (i - 18) 5 (omega arith)) (sym e))

-- the head that an info and a major make
abbrev lead_by : ℕ → ℕ → List ℕ → Lead
lead_by m i bs = record { info = i; kind = kind_of m i; arg = argument i bs }

found_sound : {m i : ℕ} (bs : List ℕ) → Carries i (argument i bs) → Used m i → bad_float (kind_of m i) (argument i bs) ≡ false → Sound (lead_by m i bs)
unfolding kind_of argument
found_sound {m} {i} bs c (counts p q) n =
    let k : kind_of m i ≡ m = rw (le-leb m 5 p) in
    counted (rw k p) c
found_sound {m} {i} bs c (simples e p q) n =
    let k : kind_of m i ≡ 6 = rw (lt-leb m 5 (omega arith), lt-ltb i 24 (omega arith)) in
    let a : argument i bs ≡ i = rw (lt-ltb i 24 (omega arith)) in
    a_simple k (omega arith) (omega arith) (sym a)
found_sound {m} {i} bs (itself l d) (floats e p q) n = absurd (omega arith)
found_sound {m} {i} bs (after l d x) (floats e p q) n =
    let k : kind_of m i ≡ i - 18 = rw (lt-leb m 5 (omega arith), le-ltb i 24 (omega arith)) in
    a_float (omega arith) (omega arith) (omega arith) x n

pub get_head_forth : (b : List ℕ) {l : Lead} → all is_byte b ≡ true → get_head b ≡ got l → Sound l × (b ≡ lead_bytes l ++ drop (size l) b)
unfolding get_head lead_bytes
get_head_forth [] e g = absurd (not_got g)
get_head_forth (x ∷ bs) {l} e g =
    let m : ℕ = x / 32 in
    let i : ℕ = x % 32 in
    let f : Found m i bs l = found m i bs g in
    let u : Used m i = used_cases m i f.used in
    let (c, p) = argument_carries i bs (used_lt u) (and-true (is_byte x) (all is_byte bs) e).1 f.there in
    let q : l ≡ lead_by m i bs = λ j. record { info = f.info_is j; kind = f.kind_is j; arg = f.arg_is j } in
    rw q (found_sound bs c u f.floats, rw (major_kind u, p, div-add-mod' x 32, take-append-drop (width i) bs))

-- The shortest form of a head: of a number or a length the shortest head with its argument; a simple value and a float have one form each.
pub shorter : {l : Lead} → Sound l → l.kind ≤ 5 → width (shortest l.arg) ≤ width l.info
shorter {l} (counted h c) k = shortest_least c
shorter {l} (a_simple e g h i) k = absurd (omega arith)
shorter {l} (a_float h g i a b) k = absurd (omega arith)

-- A number, a length or a simple value has a head in its shortest form.
pub head_bytes_lem : {k a : ℕ} → k ≤ simple → (k ≡ simple → a < 24) → head_bytes k a ≡ lead_bytes (lead_of k a)
unfolding head_bytes
head_bytes_lem {k} {a} h v = go (leb k 5) refl
  where
    go : (t : Bool) → leb k 5 ≡ t → cond (t || (eqb k 6 && ltb a 24)) (lead_bytes (lead_of k a)) [] ≡ lead_bytes (lead_of k a)
    go true e = refl
    go false e =
        let q : k ≡ 6 = omega (arith, leb-false k 5 e) in
        rw (eq-eqb k 6 q, lt-ltb a 24 (v q))
