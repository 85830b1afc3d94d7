-- One law for each way that a function ends; the premises are the facts that the code leaves. A word in hand means what its slot's rule says.
use Prim.Native.Nat.{ℕ, zero, suc, ◌+◌, ◌-◌, ◌*◌, ◌/◌, ◌%◌, ◌^◌, ◌<◌, ◌≤◌}
use mathlib.Core.Path.{◌≡◌, refl, sym, ◌∙◌, ap}
use mathlib.Core.Bool.{Bool, true, false, ◌&&◌, ◌||◌, cond, true≢false}
use mathlib.Core.Logic.{◌⊎◌, inl, inr}
use native.Mathlib.Omega.{arith}
use lib.Dec.{ltb, leb, eqb}
use borrow.Author.Tests.{ltb-true, leb-true, leb-false, eqb-true, eqb-false, lt-ltb, le-ltb, lt-leb, le-leb, eq-eqb, ne_eqb}
use Rattle.buffer.proofs.ByteLaws.{and-true, or-true}
use Rattle.ari.specs.Table.{inside, param, value, done, due, many, reference_level, rule, fits, members}
use Rattle.grammar.specs.declared.Next.{Next}
use Rattle.grammar.specs.declared.Next.TheVariants.{Done, Due}
use Rattle.grammar.specs.Code.{IsSlot, slot_of, slot_number, next_of, type_number, fits_code, extra_of, spelled_as, takes_reference_of, next_code, inside_code}
use Rattle.grammar.specs.Words.{field, fits_word, followed_code, next_word, in_spans, spans, range_of, bits_of, small_of, top_of, if_set, followed, follows, Follow, follow_means, follow_for, Word, word_means, word_for, WordOf, many_of, in_ari_of, in_array_of, in_map_of, Inner, inner_means, inner_for, takes_number, numbers_of, number_bits}
use Rattle.grammar.proofs.Ranges.{each_at, spans_fit, small_looks, top_looks}
use Rattle.grammar.proofs.Right.{number_slot, no_kind}

-- what a slot's word says of what follows
module _ (i w : ℕ) (e : follow_means w ≡ follow_for (rule (slot_of i))) where
  pub extra_means : field w 60 4 ≡ extra_of i
  unfolding follow_means follow_for
  extra_means = ap (λ (x : Follow). x.extra) e

  next_means : (a n : ℕ) → followed (field w 57 2) (field w 58 2) (field w 59 2) (field w 50 128) a n ≡ (rule (slot_of i)).next a n
  unfolding follow_means follow_for
  next_means a n = ap (λ (x : Follow). x.next a n) e

  names_means : follows (field w 57 2) (field w 58 2) (field w 59 2) (field w 50 128) ≡ true
  unfolding follow_means follow_for
  names_means = ap (λ (x : Follow). x.names) e

-- and in all
module _ (i w : ℕ) (e : WordOf i w) where
  follow_means_lem : follow_means w ≡ follow_for (rule (slot_of i))
  unfolding word_means word_for
  follow_means_lem = ap (λ (x : Word). x.follow) e

  pub own_means : field w 60 4 ≡ extra_of i
  own_means = extra_means i w follow_means_lem

  pub spelling_means : spelled_as (w / 2 ^ 62) ≡ (rule (slot_of i)).spelling
  unfolding word_means word_for
  spelling_means = ap (λ (x : Word). x.spelling) e

  range_means : (k : ℕ) → k ≤ 9 → range_of (field w (k * 5) 32) ≡ spans k (rule (slot_of i)).rows
  unfolding word_means word_for
  range_means k h = each_at 10 (λ j. range_of (field w (j * 5) 32)) (λ j. spans j (rule (slot_of i)).rows) (ap (λ (x : Word). x.ranges) e) k (omega arith)

-- what its inner word says
module _ (i w : ℕ) (e : inner_means w ≡ inner_for (rule (slot_of i))) where
  pub asks_means : eqb (field w 28 2) 1 ≡ takes_reference_of i
  unfolding inner_means inner_for
  asks_means = ap (λ (x : Inner). x.takes_reference) e

  both_named : (ltb (w % 256) 72 && ltb (field w 16 256) 72) ≡ true
  unfolding inner_means inner_for
  both_named = ap (λ (x : Inner). x.names) e

  pub array_slot : IsSlot (w % 256)
  array_slot = ltb-true (w % 256) 72 (and-true _ _ both_named).0

  pub map_slot : IsSlot (field w 16 256)
  map_slot = ltb-true (field w 16 256) 72 (and-true (ltb (w % 256) 72) _ both_named).1

  array_means : (a : ℕ) → in_array_of w a ≡ (rule (slot_of i)).in_array a
  unfolding inner_means inner_for
  array_means a = ap (λ (x : Inner). x.in_array a) e

  map_means : (a : ℕ) → in_map_of w a ≡ (rule (slot_of i)).in_map a
  unfolding inner_means inner_for
  map_means a = ap (λ (x : Inner). x.in_map a) e

-- the ways of `fits_by`
module _ (w k a : ℕ) where
  pub bad_kind : 9 < k → false ≡ fits_word w k a
  unfolding fits_word
  bad_kind h = rw (lt-leb k 9 h)

  module _ (h : k ≤ 9) (m : ℕ) where
    looked : {x : Bool} → x ≡ in_spans a (range_of (w / 2 ^ (k * 5) % 32)) → x ≡ fits_word w k a
    unfolding fits_word
    looked q = q ∙ rw (le-leb k 9 h)

    pub below_32 : a < 32 → bits_of m ≡ small_of (w / 2 ^ (k * 5) % 32) → eqb (m / 2 ^ a % 2) 1 ≡ fits_word w k a
    below_32 g q = looked (small_looks (w / 2 ^ (k * 5) % 32) a m g q)

    pub from_32 : 32 ≤ a → m ≡ top_of (w / 2 ^ (k * 5) % 32) → leb a m ≡ fits_word w k a
    from_32 g q = looked (top_looks (w / 2 ^ (k * 5) % 32) a m g q)

-- a slot's word answers test 7
pub fits_means : (i w : ℕ) → WordOf i w → (k a : ℕ) {r : Bool} → r ≡ fits_word w k a → r ≡ fits_code i k a
unfolding fits_word fits_code
fits_means i w e k a d = d ∙ go (leb k 9) refl
  where
    go : (x : Bool) → leb k 9 ≡ x → (x && in_spans a (range_of (field w (k * 5) 32))) ≡ fits k a (rule (slot_of i)).rows
    go true q = rw (range_means i w e k (leb-true k 9 q)) (spans_fit k a (rule (slot_of i)).rows)
    go false q = sym (no_kind i k a (leb-false k 9 q))

pub ruleset fit_ways = (bad_kind, below_32, from_32)

-- the ways of `takes_number`
module _ (i : ℕ) {x b : ℕ} (e : (x ≡ b) × (x < 256)) where
  pub no_number : 55 < x → false ≡ takes_number i b
  unfolding takes_number
  no_number h = rw (le-ltb b 56 (omega (arith, e.0)))

  pub a_number : x ≤ 55 → (m : ℕ) → number_bits m ≡ numbers_of i → eqb (m / 2 ^ x % 2) 1 ≡ takes_number i b
  a_number h m q = rw (← e.0) (each_at 56 (λ (y : ℕ). eqb (m / 2 ^ y % 2) 1) (takes_number i) q x (omega arith))

pub ruleset number_ways = (no_number, a_number)

-- so many of a slot
pub no_more : (s n : ℕ) → n ≡ 0 → Done ≡ many_of s n
no_more s n e = rw e

pub one_more : (s n : ℕ) → IsSlot s → (n ≡ 0 → ⊥) → Due s (n - 1) ≡ many_of s n
one_more s zero h e = absurd (e refl)
one_more s (suc n) h e = rw (number_slot s h) (ap (Due s) (omega arith))

pub gone : (b n : ℕ) → b ≡ 0 → 0 ≡ if_set b n
gone b n e = simp (eq-eqb b 0 e)

pub stays : (b n : ℕ) → (b ≡ 0 → ⊥) → n ≡ if_set b n
stays b n e = simp (ne_eqb b 0 e)

pub a_type : (a : ℕ) → a < 22 → a ≡ type_number a
a_type a h = simp (lt-ltb a 22 h)

pub no_type : (a : ℕ) → 22 ≤ a → 0 ≡ type_number a
no_type a h = simp (le-ltb a 22 h)

-- what follows, by the bits as the code has them and as they are meant
followed_is : (took stay add to a n : ℕ) → took < 2 → follows took stay add to ≡ true → followed_code took stay add to a n ≡ next_of (followed took stay add to a n)
unfolding slot_number
followed_is took stay add to a n l f = go (eqb add 0) (eqb took 0) refl (eqb stay 0) (and-true (ltb to 72) _ f).1
  where
    number : slot_number (slot_of to) ≡ to
    number = number_slot to (ltb-true to 72 (and-true (ltb to 72) _ f).0)

    -- a slot once, with those that are left
    kept : (m : ℕ) → Due (to + 0) (m - 0) ≡ Due (slot_number (slot_of to)) m
    kept m = let p : to + 0 ≡ to = omega arith in let q : m - 0 ≡ m = omega arith in rw (number, p, q)

    -- one of those that are left
    counted : (m : ℕ) → cond (ltb m 1) Done (Due (to + 0) (m - 1)) ≡ next_of (many (slot_of to) m)
    counted zero = refl
    counted (suc m) = let p : to + 0 ≡ to = omega arith in let q : suc m - 1 ≡ m = omega arith in rw (le-ltb (suc m) 1 (omega arith), number, p, q)

    -- a type's value
    added : (eqb to 28 ≡ true) ⊎ (eqb to 50 ≡ true) → Due (to + type_number a) 0 ≡ Due (slot_number (value a (cond (eqb to 28) inside param))) 0
    added (inl h) = rw (eqb-true to 28 h)
    added (inr h) = rw (eqb-true to 50 h)

    go : (x y : Bool) → eqb took 0 ≡ y → (z : Bool) → (x || (y && (z && (eqb to 28 || eqb to 50)))) ≡ true
        → cond (ltb (cond z 0 n) took) Done (Due (to + cond x 0 (type_number a)) (cond z 0 n - took))
        ≡ next_of (cond x (cond y (due (slot_of to) (cond z 0 n)) (cond z done (many (slot_of to) n))) (due (value a (cond (eqb to 28) inside param)) 0))
    go true true p z g = rw (eqb-true took 0 p, le-ltb (cond z 0 n) 0 (omega arith)) (kept (cond z 0 n))
    go true false p true g = let m : took ≡ 0 → ⊥ = eqb-false took 0 p in let q : took ≡ 1 = omega arith in rw q
    go true false p false g = let m : took ≡ 0 → ⊥ = eqb-false took 0 p in let q : took ≡ 1 = omega arith in rw q (counted n)
    go false true p true g = rw (eqb-true took 0 p) (added (or-true (eqb to 28) (eqb to 50) g))
    go false true p false g = absurd (true≢false (sym g))
    go false false p z g = absurd (true≢false (sym g))

-- the ways of `next_by`
module _ (a n w : ℕ) {r : ℕ} (q : (r ≡ if_set (w / 2 ^ 58 % 2) n) × (r ≤ n)) where
  pub none_left : r < w / 2 ^ 57 % 2 → Done ≡ next_word w a n
  unfolding next_word
  none_left h = rw (← q.0, lt-ltb r (w / 2 ^ 57 % 2) h)

  pub next_due : w / 2 ^ 57 % 2 ≤ r → {t x : ℕ} → (t ≡ type_number a) × (t < 22) → (x ≡ if_set (w / 2 ^ 59 % 2) t) × (x ≤ t)
      → Due (w / 2 ^ 50 % 128 + x) (r - w / 2 ^ 57 % 2) ≡ next_word w a n
  unfolding next_word
  next_due h t p = rw (← q.0, le-ltb r (w / 2 ^ 57 % 2) h, p.0, t.0)

-- a slot's word says what is due beside a head
pub due_beside : (i w : ℕ) → follow_means w ≡ follow_for (rule (slot_of i)) → (a n : ℕ) {r : Next} → r ≡ next_word w a n → r ≡ next_code i a n
unfolding next_word next_code
due_beside i w e a n d =
    d
    ∙ followed_is (field w 57 2) (field w 58 2) (field w 59 2) (field w 50 128) a n (omega arith) (names_means i w e)
    ∙ ap next_of (next_means i w e a n)

pub follows_means : (i w : ℕ) → WordOf i w → (a n : ℕ) {r : Next} → r ≡ next_word w a n → r ≡ next_code i a n
follows_means i w e a n d = due_beside i w (follow_means_lem i w e) a n d

pub ruleset word_means_lem = (own_means, spelling_means, fits_means, follows_means)

-- the ways of `in_reference` and `in_ari`
module _ (a : ℕ) where
  pub space_only : a ≡ 1 → Due 9 0 ≡ next_of (reference_level a)
  unfolding slot_number
  space_only e = rw e

  pub with_params : a ≡ 4 → Due 11 0 ≡ next_of (reference_level a)
  unfolding slot_number
  with_params e = rw e

  pub without : (a ≡ 1 → ⊥) → (a ≡ 4 → ⊥) → Due 10 0 ≡ next_of (reference_level a)
  unfolding slot_number
  without n m = rw (ne_eqb a 1 n, ne_eqb a 4 m)

  module _ (t : ℕ) where
    pub type_first : IsSlot t → a ≡ 2 → Due t 0 ≡ next_of (in_ari_of t a)
    type_first h e = rw (e, number_slot t h)

    pub reference : (a ≡ 2 → ⊥) → {r : Next} → r ≡ next_of (reference_level a) → r ≡ next_of (in_ari_of t a)
    reference n q = q ∙ rw (ne_eqb a 2 n)

pub ruleset reference_ways = (space_only, with_params, without, type_first, reference)

-- the ways of `in_array` and `in_map`
module _ (w a : ℕ) where
  module _ (h : w / 2 ^ 8 % 16 < 3) where
    pub single_ari : w / 2 ^ 8 % 16 ≡ 1 → {r : Next} → r ≡ next_of (in_ari_of (w % 256) a) → r ≡ next_of (in_array_of w a)
    single_ari k q = q ∙ rw k

    pub holds_none : w / 2 ^ 8 % 16 ≡ 0 → Done ≡ next_of (in_array_of w a)
    holds_none k = rw k

    pub a_reference : (w / 2 ^ 8 % 16 ≡ 1 → ⊥) → (w / 2 ^ 8 % 16 ≡ 0 → ⊥) → {r : Next} → r ≡ next_of (reference_level a) → r ≡ next_of (in_array_of w a)
    a_reference m n q = q ∙ rw (lt-ltb (w / 2 ^ 8 % 16) 3 h, ne_eqb (w / 2 ^ 8 % 16) 1 m, ne_eqb (w / 2 ^ 8 % 16) 0 n)

  pub a_list : w / 2 ^ 8 % 16 ≡ 3 → {r : Next} → r ≡ many_of (w % 256) a → r ≡ next_of (in_array_of w a)
  a_list k q = q ∙ rw k

  pub led : IsSlot (w % 256) → 3 ≤ w / 2 ^ 8 % 16 → (w / 2 ^ 8 % 16 ≡ 3 → ⊥) → {x : ℕ} → x ≡ a - (w / 2 ^ 8 % 16 - 3) → Due (w % 256) x ≡ next_of (in_array_of w a)
  led s h m q = rw (q, le-ltb (w / 2 ^ 8 % 16) 3 h, ne_eqb (w / 2 ^ 8 % 16) 3 m, number_slot (w % 256) s)

  pub pairs : w / 2 ^ 24 % 16 ≡ 3 → {r : Next} → r ≡ many_of (w / 2 ^ 16 % 256) a → r ≡ next_of (in_map_of w a)
  pairs k q = q ∙ rw k

  pub no_pairs : (w / 2 ^ 24 % 16 ≡ 3 → ⊥) → Done ≡ next_of (in_map_of w a)
  no_pairs k = rw (ne_eqb (w / 2 ^ 24 % 16) 3 k)

pub ruleset array_ways = (single_ari, holds_none, a_reference, a_list, led)

-- the ways of `inside`
module _ (i k a : ℕ) where
  module _ (w : ℕ) (e : inner_means w ≡ inner_for (rule (slot_of i))) {r : Next} where
    pub array_inside : k ≡ 4 → r ≡ next_of (in_array_of w a) → r ≡ inside_code i k a
    unfolding inside_code members
    array_inside h q = q ∙ rw (h, array_means i w e a)

    pub map_inside : 4 ≤ k → k ≤ 5 → (k ≡ 4 → ⊥) → r ≡ next_of (in_map_of w a) → r ≡ inside_code i k a
    unfolding inside_code members
    map_inside h g n q = let z : k ≡ 5 = omega arith in q ∙ rw (z, map_means i w e a)

  pub below_containers : k < 4 → Done ≡ inside_code i k a
  unfolding inside_code members
  below_containers h = rw (ne_eqb k 4 (λ e. omega arith), ne_eqb k 5 (λ e. omega arith))

  pub above_containers : 5 < k → Done ≡ inside_code i k a
  unfolding inside_code members
  above_containers h = rw (ne_eqb k 4 (λ e. omega arith), ne_eqb k 5 (λ e. omega arith))

pub ruleset inside_ways = (array_slot, map_slot, array_inside, map_inside, below_containers, above_containers)
