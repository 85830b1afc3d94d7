-- The small functions' ways: line feeds counted, a nonce judged and put, the front of an order, the head of an object reference.
use Prim.Native.Nat.{ℕ, suc, ◌+◌, ◌<◌, ◌≤◌}
use mathlib.Core.Path.{◌≡◌, refl, sym, ◌∙◌, ap}
use mathlib.Core.Bool.{Bool, true, false, not, cond}
use mathlib.Core.List.{List, append-nil}
use native.Mathlib.Omega.{arith}
use lib.ListN.{length, get_or, drop}
use lib.Dec.{eqb, leb}
use borrow.Author.Tests.{ne_eqb, eqb-true, eqb-false, lt-leb, le-leb}
use Rattle.buffer.specs.Put.{Put}
use Rattle.buffer.proofs.Putting.{put_both}
use Rattle.buffer.proofs.RunLaws.{here, beyond}
use Rattle.cbor.specs.Head.{head_bytes, lead_bytes, lead_of}
use Rattle.cbor.specs.declared.Head.{Head}
use Rattle.cbor.specs.declared.Head.TheVariants.{Bad, Good}
use Rattle.cbor.specs.Answer.{head_at}
use Rattle.cbor.proofs.HeadLaws.{head_bytes_lem}
use Rattle.composer.specs.Compose.{Nonce, null, string, other, nonce_of, in_range}
use Rattle.composer.specs.Code.{in_text, feed_of, feeds, InRange, object_head, is_object_at, opening, nonce_bytes, front_bytes}

pub in_text_lem : (x : ℕ) → not (eqb x 10) ≡ in_text x
unfolding in_text
in_text_lem x = refl

pub a_feed : (x : ℕ) → x ≡ 10 → 1 ≡ feed_of x
a_feed x e = rw e

pub no_feed : (x : ℕ) → (x ≡ 10 → ⊥) → 0 ≡ feed_of x
no_feed x n = rw (ne_eqb x 10 n)

-- so many among the first i bytes
pub record Counting (t : List ℕ) (n i : ℕ) : Type 0 where
  pub inside : i ≤ length t
  pub few : n ≤ i
  pub counted : n + feeds (drop i t) ≡ feeds t

pub count_begins : (t : List ℕ) → Counting t 0 0
count_begins t = record { inside = omega arith; few = omega arith; counted = omega arith }

module _ {t : List ℕ} {n i : ℕ} (c : Counting t n i) where
  module _ (more : i < length t) {x : ℕ} (e : x ≡ feed_of (get_or t i 0)) (f : x ≤ 1) where
    pub count_on : Counting t (n + x) (i + 1)
    count_on = record {
      inside = omega arith;
      few = omega (arith, c.few);
      counted = omega (arith, c.counted, ap feeds (here t i more));
    }

  pub count_ends : length t ≤ i → n ≡ feeds t
  count_ends h = omega (arith, c.counted, ap feeds (beyond t i h))

pub ruleset counting = (a_feed, no_feed, count_begins, count_on, count_ends)

-- a nonce in range
pub range_number : (kind n : ℕ) → kind ≡ 1 → InRange kind n (leb n 9223372036854775807)
range_number kind n e = record { is = λ s. rw e }

pub range_other : (kind n : ℕ) → (kind ≡ 1 → ⊥) → InRange kind n (leb kind 2)
range_other kind n h = record { is = λ s. rw (ne_eqb kind 1 h) (go s (eqb kind 0) refl (eqb kind 2) refl) }
  where
    go : (s : List ℕ) (x : Bool) → eqb kind 0 ≡ x → (y : Bool) → eqb kind 2 ≡ y → leb kind 2 ≡ in_range (cond x null (cond y (string s) other))
    go s true p y q = let z = eqb-true kind 0 p in rw z
    go s false p true q = let z = eqb-true kind 2 q in rw z
    go s false p false q =
        let u = eqb-false kind 0 p in
        let v = eqb-false kind 2 q in
        lt-leb kind 2 (omega arith)

-- a nonce put
module _ {a b : List ℕ} {at r : ℕ} (kind n : ℕ) (s : List ℕ) where
  pub number_put : kind ≡ 1 → Put a b at r (head_bytes 0 n) → Put a b at r (nonce_bytes (nonce_of kind n s))
  number_put e p =
      let z : head_bytes 0 n ≡ lead_bytes (lead_of 0 n) = head_bytes_lem (omega arith) (λ q. absurd (omega arith)) in
      rw (e, append-nil (lead_bytes (lead_of 0 n)), ← z) p

  pub string_put : kind ≡ 2 → {c : List ℕ} {q : ℕ} → Put a c at q (head_bytes 2 (length s)) → Put c b q r s → Put a b at r (nonce_bytes (nonce_of kind n s))
  string_put e p i =
      let z : head_bytes 2 (length s) ≡ lead_bytes (lead_of 2 (length s)) = head_bytes_lem (omega arith) (λ q. absurd (omega arith)) in
      rw (e, ← z) (put_both p i)

  pub null_put : (kind ≡ 1 → ⊥) → (kind ≡ 2 → ⊥) → Put a b at r (head_bytes 6 22) → Put a b at r (nonce_bytes (nonce_of kind n s))
  null_put h i p =
      let z : head_bytes 6 22 ≡ lead_bytes (lead_of 6 22) = head_bytes_lem (omega arith) (λ q. omega arith) in
      rw (ne_eqb kind 1 h, ne_eqb kind 2 i) (go (eqb kind 0) (rw z at p))
    where
      go : (x : Bool) → Put a b at r (lead_bytes (lead_of 6 22)) → Put a b at r (nonce_bytes (cond x null other))
      go true p = rw (append-nil (lead_bytes (lead_of 6 22))) p
      go false p = rw (append-nil (lead_bytes (lead_of 6 22))) p

pub ruleset nonces = (range_number, range_other, number_put, string_put, null_put)

head_put : {a b : List ℕ} {at r : ℕ} (k n : ℕ) → k ≤ 5 → Put a b at r (head_bytes k n) → Put a b at r (lead_bytes (lead_of k n))
head_put k n h p =
    let z : head_bytes k n ≡ lead_bytes (lead_of k n) = head_bytes_lem (omega arith) (λ q. absurd (omega arith)) in
    rw (← z) p

-- the front of an order
pub opening_put : {o a b c : List ℕ} {p q r : ℕ} → Put o a 0 p (head_bytes 0 1) → Put a b p q (head_bytes 4 2) → Put b c q r (head_bytes 0 20) → Put o c 0 r opening
opening_put v w x = put_both (head_put 0 1 (omega arith) v) (put_both (head_put 4 2 (omega arith) w) (head_put 0 20 (omega arith) x))

pub front_put : {o a b c : List ℕ} {p q r : ℕ} (z : Nonce) (n : ℕ) → Put o a 0 p opening → Put a b p q (head_bytes 4 (1 + n)) → Put b c q r (nonce_bytes z)
    → Put o c 0 r (front_bytes z n)
front_put z n v w x =
    let i : 1 + n ≡ suc n = omega arith in
    put_both v (put_both (head_put 4 (suc n) (omega arith) (rw i at w)) x)

pub ruleset fronts = (opening_put, front_put)

-- the head of an object reference
module _ (b : List ℕ) {h : Head} (e : h ≡ head_at b 0) where
  module _ {k a n : ℕ} (g : h ≡ Good k a n) where
    by_head : is_object_at b ≡ object_head (Good k a n)
    unfolding is_object_at
    by_head = ap object_head (sym e ∙ g)

    pub object_long : k ≡ 4 → 3 ≤ a → leb a 4 ≡ is_object_at b
    object_long q l = sym (by_head ∙ rw (q, le-leb 3 a l))

    pub object_short : k ≡ 4 → a < 3 → false ≡ is_object_at b
    object_short q l = sym (by_head ∙ rw (q, lt-leb 3 a l))

    pub object_other : (k ≡ 4 → ⊥) → false ≡ is_object_at b
    object_other q = sym (by_head ∙ rw (ne_eqb k 4 q))

  pub object_bad : {r : ℕ} → h ≡ Bad r → false ≡ is_object_at b
  unfolding is_object_at
  object_bad g = sym (ap object_head (sym e ∙ g))

pub ruleset objects = (object_long, object_short, object_other, object_bad)
