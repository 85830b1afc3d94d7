-- What the head at a place is, way by way through the tests; the premises are the tests as the code makes them.
use Prim.Native.Nat.{ℕ, suc, ◌+◌, ◌-◌, ◌/◌, ◌%◌, ◌<◌, ◌≤◌, zero-le}
use mathlib.Core.Path.{◌≡◌, refl, sym, ◌∙◌}
use mathlib.Core.Bool.{Bool, true, false, ◌&&◌, ◌||◌, cond}
use mathlib.Core.List.{List, [], ◌∷◌}
use native.Mathlib.Omega.{arith}
use native.Mathlib.Numerals.{add-one}
use lib.ListN.{length, take, drop, get_or, length-drop, drop_of_length-le}
use lib.Seq.{drop-cons}
use lib.Dec.{ltb, leb, eqb}
use borrow.Author.Tests.{lt-ltb, le-ltb, le-leb, lt-leb, eq-eqb, ne_eqb, ltb-true, ltb-false, leb-true, leb-false, eqb-false}
use Rattle.cbor.specs.declared.Head.{Head}
use Rattle.cbor.specs.declared.Head.TheVariants.{Bad, Good}
use Rattle.buffer.specs.Bytes.{value, load_at}
use Rattle.cbor.specs.Head.{map, double, Lead, width, kind_of, argument, size, bad_float, unused, Got, bad, got, get_from, get_head}
use Rattle.cbor.specs.Answer.{answer, head_at, judged, Passed}
use Rattle.buffer.proofs.Numbers.{one_byte, load_there}

-- An info with an argument of w bytes.
pub record Sized (i w : ℕ) : Type 0 where
  pub long : 24 ≤ i
  pub used : i < 28
  pub width_is : width i ≡ w

pub sized_1 : Sized 24 1
unfolding width
sized_1 = record { long = omega arith; used = omega arith; width_is = refl }

pub sized_2 : Sized 25 2
unfolding width
sized_2 = record { long = omega arith; used = omega arith; width_is = refl }

pub sized_4 : Sized 26 4
unfolding width
sized_4 = record { long = omega arith; used = omega arith; width_is = refl }

pub sized_8 : Sized 27 8
unfolding width
sized_8 = record { long = omega arith; used = omega arith; width_is = refl }

no_float : (k a : ℕ) → k < 7 → bad_float k a ≡ false
unfolding bad_float
no_float k a h = rw (ne_eqb k 7 (λ e. omega arith), ne_eqb k 8 (λ e. omega arith), ne_eqb k 9 (λ e. omega arith))

module _ {m : ℕ} (c : m < 6) where
  kind_counts : (i : ℕ) → kind_of m i ≡ m
  unfolding kind_of
  kind_counts i = rw (le-leb m 5 (omega arith))

  counts_used : (i : ℕ) → i < 28 → unused m i ≡ false
  unfolding unused
  counts_used i h = rw (lt-leb 28 i h, ne_eqb m 6 (λ e. omega arith), lt-leb 8 m (omega arith), ne_eqb m 7 (λ e. omega arith))

  counts_judged : (i a n : ℕ) → i < 28 → Good m a n ≡ judged m i a n
  unfolding judged
  counts_judged i a n h = rw (kind_counts i, counts_used i h, no_float m a (omega arith))

-- Major types 6 and 7 with an argument.
module _ (m i a n : ℕ) (p : 25 ≤ i) (q : i < 28) where
  pub tag : m ≡ 6 → Bad 3 ≡ judged m i a n
  unfolding judged unused
  tag e = simp (e, lt-leb _ _ q)

  module _ (o : m ≡ 6 → ⊥) (h : 6 ≤ m) (k : m < 8) {t : Bool} (f : t ≡ bad_float (i - 18) a) where
    judged_float : judged m i a n ≡ cond t (Bad 4) (Good (i - 18) a n)
    unfolding judged unused kind_of
    judged_float =
        let e : m ≡ 7 = omega arith in
        rw (e, lt-leb 28 i q, le-ltb i 20 (omega arith), ne_eqb i 24 (λ e. omega arith), le-ltb i 24 (omega arith), f)

    pub bad_float_lem : t ≡ true → Bad 4 ≡ judged m i a n
    bad_float_lem e = rw (judged_float, e)

    pub good_float : t ≡ false → Good (i - 18) a n ≡ judged m i a n
    good_float e = rw (judged_float, e)

simple_unused : {m : ℕ} → 6 ≤ m → m < 8 → unused m 24 ≡ true
unfolding unused
simple_unused {m} h k = go (eqb m 6) refl
  where
    go : (t : Bool) → eqb m 6 ≡ t → unused m 24 ≡ true
    go true e = rw e
    go false e = rw (e, lt-leb 8 m k, eq-eqb m 7 (omega (arith, eqb-false m 6 e)))

-- with an argument in bytes of its own
module _ (m i a n : ℕ) (u : i < 28) where
  pub counts : m ≤ map → Good m a n ≡ judged m i a n
  counts h = counts_judged (omega arith) i a n u

  pub one_byte_simple : map < m → m < 8 → i ≡ 24 → Bad 3 ≡ judged m i a n
  unfolding judged
  one_byte_simple h k e = rw (e, simple_unused {m = m} (omega arith) k)

-- the answer is that of the tests 3 and 4, once the argument is there
answer_judged : (at i k a : ℕ) (t u : Bool)
    → answer at (cond t (bad 3) (cond u (bad 4) (got (record { info = i; kind = k; arg = a }))))
    ≡ cond t (Bad 3) (cond u (Bad 4) (Good k a (at + suc (width i))))
answer_judged at i k a true u = refl
answer_judged at i k a false true = refl
answer_judged at i k a false false = refl

-- A head at `at` whose first byte has the major type m and the info j.
module _ (s : List ℕ) (at m j : ℕ) (b : at < length s) where
  behind : length (drop (at + 1) s) ≡ length s - (at + 1)
  behind = length-drop (at + 1) s

  module _ {i w : ℕ} (e : j ≡ i) (z : Sized i w) where
    pub cut : length s - at < suc w → Bad 2 ≡ answer at (get_from m j (drop (at + 1) s))
    unfolding get_from
    cut h = rw (e, z.width_is, lt-ltb (length (drop (at + 1) s)) w (rw behind (omega arith)))

    module _ (h : suc w ≤ length s - at) where
      long_judged : {a : ℕ} {r : Head} → a ≡ value (take w (drop (at + 1) s)) → r ≡ judged m i a (at + suc w) → r ≡ answer at (get_from m j (drop (at + 1) s))
      unfolding get_from argument judged
      long_judged {a} {r} v q =
          q ∙ rw (e, z.width_is, le-ltb (length (drop (at + 1) s)) w (rw behind (omega arith)), le-ltb i 24 z.long, ← v, answer_judged, z.width_is)

      -- of an argument that was loaded
      loaded : {a : ℕ} → a ≡ load_at w s (at + 1) → a ≡ value (take w (drop (at + 1) s))
      loaded e = e ∙ load_there w s (at + 1) (omega arith)

      pub loaded_judged : {a : ℕ} {r : Head} → a ≡ load_at w s (at + 1) → r ≡ judged m i a (at + suc w) → r ≡ answer at (get_from m j (drop (at + 1) s))
      loaded_judged v q = long_judged (loaded v) q

      pub loaded_counted : {a n : ℕ} → m ≤ map → a ≡ load_at w s (at + 1) → n ≡ at + suc w → Good m a n ≡ answer at (get_from m j (drop (at + 1) s))
      loaded_counted {a} c v e = long_judged (loaded v) (rw e (counts_judged (omega arith) i a (at + suc w) z.used))

  pub byte_judged : {a : ℕ} {r : Head} → j ≡ 24 → 2 ≤ length s - at → a ≡ get_or s (at + 1) 0 → r ≡ judged m 24 a (at + 2) → r ≡ answer at (get_from m j (drop (at + 1) s))
  byte_judged e h v q = long_judged e sized_1 h (v ∙ one_byte s (at + 1) (omega arith)) q

  pub byte_counted : {a : ℕ} → j ≡ 24 → 2 ≤ length s - at → m ≤ map → a ≡ get_or s (at + 1) 0 → Good m a (at + 2) ≡ answer at (get_from m j (drop (at + 1) s))
  byte_counted {a} e h c v =
      long_judged e sized_1 h (v ∙ one_byte s (at + 1) (omega arith)) (counts_judged (omega arith) 24 a (at + 2) (omega arith))

  pub one_byte_more : j ≡ 24 → 2 ≤ length s - at → map < m → m < 8 → Bad 3 ≡ answer at (get_from m j (drop (at + 1) s))
  unfolding judged
  one_byte_more e h g k = long_judged e sized_1 h refl (rw (simple_unused {m = m} (omega arith) k))

  pub not_in_use : (j ≡ 24 → ⊥) → (j ≡ 25 → ⊥) → (j ≡ 26 → ⊥) → (j ≡ 27 → ⊥) → 24 ≤ j → Bad 3 ≡ answer at (get_from m j (drop (at + 1) s))
  unfolding get_from width unused
  not_in_use n1 n2 n3 n4 h =
      simp (ne_eqb _ _ n1, ne_eqb _ _ n2, ne_eqb _ _ n3, ne_eqb _ _ n4, le-ltb (length (drop (at + 1) s)) 0 zero-le, le-leb 28 j (omega arith))

-- A head of one byte.
width_small : (i : ℕ) → i < 24 → width i ≡ 0
unfolding width
width_small i h =
    rw (ne_eqb i 24 (λ e. omega arith), ne_eqb i 25 (λ e. omega arith), ne_eqb i 26 (λ e. omega arith), ne_eqb i 27 (λ e. omega arith))

module _ (s : List ℕ) (at : ℕ) where
  pub at_end : length s ≤ at → Bad 2 ≡ head_at s at
  unfolding head_at get_head
  at_end h = rw (drop_of_length-le s h)

  module _ {b : ℕ} (e : b ≡ get_or s at 0) (i : at < length s) where
    pub by_long : {r : Head} → r ≡ answer at (get_from (b / 32) (b % 32) (drop (at + 1) s)) → r ≡ head_at s at
    unfolding head_at get_head
    by_long q = rw (drop-cons s at 0 i, ← e, ← add-one at) q

    pub by_unused : (b % 32 ≡ 24 → ⊥) → (b % 32 ≡ 25 → ⊥) → (b % 32 ≡ 26 → ⊥) → (b % 32 ≡ 27 → ⊥) → 24 ≤ get_or s at 0 % 32 → Bad 3 ≡ head_at s at
    by_unused n1 n2 n3 n4 h = by_long (not_in_use s at (b / 32) (b % 32) i n1 n2 n3 n4 (rw e h))

    pub by_small : {r : Head} → b % 32 < 24 → r ≡ judged (b / 32) (b % 32) (b % 32) (at + 1) → r ≡ head_at s at
    unfolding get_from argument judged
    by_small h q =
        let w = width_small (b % 32) h in
        by_long (rw (w, le-ltb (length (drop (at + 1) s)) 0 zero-le, lt-ltb (b % 32) 24 h, answer_judged, w) q)

module _ (b n : ℕ) (h : b % 32 < 24) where
  pub small_count : b < 192 → Good (b / 32) (b % 32) n ≡ judged (b / 32) (b % 32) (b % 32) n
  small_count k = let c : b / 32 < 6 = omega arith in counts_judged c (b % 32) (b % 32) n (omega arith)

  pub small_unused : 192 ≤ b → b < 244 → Bad 3 ≡ judged (b / 32) (b % 32) (b % 32) n
  unfolding judged unused
  small_unused k l = go (ltb b 224) refl
    where
      go : (t : Bool) → ltb b 224 ≡ t → Bad 3 ≡ judged (b / 32) (b % 32) (b % 32) n
      go true f = let m : b / 32 ≡ 6 = omega (arith, ltb-true b 224 f) in rw (m, lt-leb 28 (b % 32) (omega arith))
      go false f =
          let g : 224 ≤ b = ltb-false b 224 f in
          let m : b / 32 ≡ 7 = omega arith in
          rw (m, lt-leb 28 (b % 32) (omega arith), lt-ltb (b % 32) 20 (omega arith))

  pub small_simple : 244 ≤ b → b < 256 → Good 6 (b % 32) n ≡ judged (b / 32) (b % 32) (b % 32) n
  unfolding judged unused kind_of
  small_simple k l =
      let m : b / 32 ≡ 7 = omega arith in
      rw (m, lt-leb 28 (b % 32) (omega arith), le-ltb (b % 32) 20 (omega arith), ne_eqb (b % 32) 24 (λ q. omega arith), lt-ltb (b % 32) 24 h, no_float 6 (b % 32) (omega arith))

-- What a head that was read has shown.
skip : (t : Bool) (r : ℕ) (x : Got) {l : Lead} → cond t (bad r) x ≡ got l → (t ≡ false) × (x ≡ got l)
skip true r x e = (cc, cc)
skip false r x e = (refl, e)

used_info : (m i : ℕ) → unused m i ≡ false → i < 28
unfolding unused
used_info m i e = go (leb 28 i) refl e
  where
    go : (t : Bool) → leb 28 i ≡ t → (t || (eqb m 6 || (leb 8 m || (eqb m 7 && (ltb i 20 || eqb i 24))))) ≡ false → i < 28
    go true f q = absurd (let z : ◌≡◌ {A = Bool} true false = q in let y : ◌≡◌ {A = ℕ} 0 1 = cc in omega arith)
    go false f q = leb-false 28 i f

kind_le : (m i : ℕ) → i < 28 → kind_of m i ≤ 9
unfolding kind_of
kind_le m i h = go (leb m 5) (ltb i 24) refl
  where
    go : (t u : Bool) → leb m 5 ≡ t → cond t m (cond u 6 (i - 18)) ≤ 9
    go true u e = omega (arith, leb-true m 5 e)
    go false true e = omega arith
    go false false e = omega arith

found : (b : List ℕ) (l : Lead) → get_head b ≡ got l → (size l ≤ length b) × (l.kind ≤ double)
unfolding get_head get_from
found [] l e = absurd (let z : ◌≡◌ {A = ℕ} 0 1 = cc in omega arith)
found (x ∷ bs) l e =
    let (t2, e2) = skip (ltb (length bs) (width (x % 32))) _ _ e in
    let (t3, e3) = skip (unused (x / 32) (x % 32)) _ _ e2 in
    let (t4, e4) = skip (bad_float (kind_of (x / 32) (x % 32)) (argument (x % 32) bs)) _ _ e3 in
    let w : width l.info ≡ width (x % 32) = cc in
    let k : l.kind ≡ kind_of (x / 32) (x % 32) = cc in
    (omega (arith, ltb-false (length bs) (width (x % 32)) t2), rw k (kind_le (x / 32) (x % 32) (used_info (x / 32) (x % 32) t3)))

-- A head that was read, as the definitions have it: for callers
pub record Read (b : List ℕ) (at k a n : ℕ) : Type 0 where
  pub lead : Lead
  pub is_got : get_head (drop at b) ≡ got lead
  pub kind_is : lead.kind ≡ k
  pub arg_is : lead.arg ≡ a
  pub next_is : at + size lead ≡ n

module _ (b : List ℕ) (at : ℕ) {r : Head} (e : r ≡ head_at b at) where
  answered : r ≡ answer at (get_head (drop at b))
  unfolding head_at
  answered = e

  pub passed : Passed b at r
  passed = rw answered (go (get_head (drop at b)) refl)
    where
      go : (g : Got) → get_head (drop at b) ≡ g → Passed b at (answer at g)
      go (bad x) q = tt
      go (got l) q =
          let (f, k) = found (drop at b) l q in
          let h = length-drop at b in
          (omega arith, omega arith, k)

  pub refused : {x : ℕ} → r ≡ Bad x → get_head (drop at b) ≡ bad x
  refused {x} q = go (get_head (drop at b)) (sym answered ∙ q)
    where
      go : (g : Got) → answer at g ≡ Bad x → g ≡ bad x
      go (bad y) f = cc
      go (got l) f = absurd (let z : ◌≡◌ {A = ℕ} 0 1 = cc in omega arith)

  pub read : {k a n : ℕ} → r ≡ Good k a n → Read b at k a n
  read {k} {a} {n} q = go (get_head (drop at b)) refl (sym answered ∙ q)
    where
      go : (g : Got) → get_head (drop at b) ≡ g → answer at g ≡ Good k a n → Read b at k a n
      go (bad y) p f = absurd (let z : ◌≡◌ {A = ℕ} 0 1 = cc in omega arith)
      go (got l) p f = record { lead = l; is_got = p; kind_is = cc; arg_is = cc; next_is = cc }

-- The bounds that a caller has of a head that was read.
module _ (b : List ℕ) (at : ℕ) {r : Head} {k a n : ℕ} (p : Passed b at r) (e : r ≡ Good k a n) where
  passed_good : Passed b at (Good k a n)
  passed_good = rw e at p

  pub advances : at < n
  advances = passed_good.0

  pub reaches : at ≤ n
  reaches = let h = advances in omega arith

  pub stays_inside : n ≤ length b
  stays_inside = passed_good.1

  pub kind_known : k ≤ double
  kind_known = passed_good.2

pub ruleset bounds = (advances, reaches, stays_inside, kind_known)

pub ruleset heads = (sized_1, sized_2, sized_4, sized_8, tag, bad_float_lem, good_float, cut, counts, one_byte_simple, loaded_judged, loaded_counted, byte_judged, byte_counted, one_byte_more, not_in_use, at_end, by_long, by_unused, by_small, small_count, small_unused, small_simple, passed)
