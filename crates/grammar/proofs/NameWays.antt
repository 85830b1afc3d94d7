-- Identifiers and namespace names, way by way through the tests; the premises are the tests as the code makes them.
use Prim.Native.Nat.{ℕ, ◌+◌, ◌-◌, ◌/◌, ◌%◌, ◌^◌, ◌<◌, ◌≤◌}
use mathlib.Core.Path.{◌≡◌, refl}
use mathlib.Core.Bool.{Bool, true, false, cond, or-false, and-false}
use mathlib.Core.List.{List, [], ◌∷◌}
use native.Mathlib.Omega.{arith}
use native.Mathlib.Numerals.{add-one}
use lib.ListN.{length, drop, get_or, length-drop, drop_of_length-le}
use lib.Seq.{drop-cons}
use lib.Dec.{ltb, eqb}
use borrow.Author.Tests.{lt-ltb, le-ltb, le-leb, lt-leb, ne_eqb}
use Rattle.buffer.specs.Bytes.{all}
use Rattle.cbor.proofs.Computed.{same, same_true, all_from, all_at}
use Rattle.grammar.specs.Words.{name_bits}
use Rattle.ari.specs.Name.{starts_name, continues_name, identifier, namespace_name}

-- a look-up by the highest two bits
pub name_word : (n : ℕ) → n < 4 → (x : ℕ) → x / 64 ≡ n → get_or (0x03ff600000000000 ∷ 0x07fffffe87fffffe ∷ []) n 0 ≡ name_bits x
name_word n h x e = rw e

abbrev bit : ℕ → ℕ → Bool
bit m x = eqb (m / 2 ^ (x % 64) % 2) 1

starts : all_from 64 64 (λ x. same (bit 0x07fffffe87fffffe x) (starts_name x)) ≡ true
unfolding starts_name
starts = refl

continues : all_from 256 0 (λ x. same (bit (name_bits x) x) (continues_name x)) ≡ true
unfolding starts_name continues_name
continues = refl

module _ (b : ℕ) {x : ℕ} (e : (x ≡ b) × (x < 256)) where
  pub below_letters : x < 64 → false ≡ starts_name b
  unfolding starts_name
  below_letters h = rw (lt-leb 65 b (omega (arith, e.0)), lt-leb 97 b (omega (arith, e.0)), ne_eqb b 95 (λ q. omega (arith, e.0)))

  pub past_ascii : 127 < x → false ≡ starts_name b
  unfolding starts_name
  past_ascii h =
      rw (le-leb 65 b (omega (arith, e.0)), lt-leb b 90 (omega (arith, e.0)), le-leb 97 b (omega (arith, e.0)), lt-leb b 122 (omega (arith, e.0)), ne_eqb b 95 (λ q. omega (arith, e.0)))

  pub a_letter : 64 ≤ x → x ≤ 127 → bit 0x07fffffe87fffffe x ≡ starts_name b
  a_letter h g = rw (← e.0) (same_true _ _ (all_at 64 64 (λ x. same (bit 0x07fffffe87fffffe x) (starts_name x)) starts x h (omega arith)))

  pub a_name_byte : {m : ℕ} → m ≡ name_bits x → bit m x ≡ continues_name b
  a_name_byte q = rw (← e.0, q) (same_true _ _ (all_at 256 0 (λ x. same (bit (name_bits x) x) (continues_name x)) continues x (omega arith) (omega arith)))

-- From `at` on.
module _ (s : List ℕ) (at : ℕ) where
  pub empty : length s ≤ at → false ≡ identifier (drop at s)
  unfolding identifier
  empty h = rw (drop_of_length-le s h)

  module _ (h : at < length s) where
    taken_apart : identifier (drop at s) ≡ identifier (get_or s at 0 ∷ drop (at + 1) s)
    taken_apart = rw (drop-cons s at 0 h, add-one at)

    pub too_long : 64 < length s - at → false ≡ identifier (drop at s)
    unfolding identifier
    too_long k =
        rw (taken_apart, le-ltb (length (drop (at + 1) s)) 64 (omega (arith, length-drop (at + 1) s)), and-false (all continues_name (drop (at + 1) s)), and-false)

    module _ {t : Bool} (f : t ≡ starts_name (get_or s at 0)) where
      pub no_start : t ≡ false → false ≡ identifier (drop at s)
      unfolding identifier
      no_start e = rw (taken_apart, ← f, e)

      module _ (i : ℕ) (q : all continues_name (drop (at + 1) s) ≡ all continues_name (drop i s)) where
        pub name_ends : t ≡ true → length s - at ≤ 64 → length s ≤ i → true ≡ identifier (drop at s)
        unfolding identifier
        name_ends e l k =
            rw (taken_apart, ← f, e, q, drop_of_length-le s k, lt-ltb (length (drop (at + 1) s)) 64 (omega (arith, length-drop (at + 1) s)))

        pub no_name : {u : Bool} → i < length s → u ≡ continues_name (get_or s i 0) → u ≡ false → false ≡ identifier (drop at s)
        unfolding identifier
        no_name k g d = rw (taken_apart, q, drop-cons s i 0 k, ← g, d, and-false)

  pub goes_on : {u : Bool} (i : ℕ) → all continues_name (drop (at + 1) s) ≡ all continues_name (drop i s) → i < length s
      → u ≡ continues_name (get_or s i 0) → u ≡ true → all continues_name (drop (at + 1) s) ≡ all continues_name (drop (i + 1) s)
  goes_on i q k g d = rw (q, drop-cons s i 0 k, ← g, d, add-one i)

-- Namespace names.
pub no_bytes : (s : List ℕ) → length s ≡ 0 → false ≡ namespace_name s
unfolding namespace_name
no_bytes [] e = refl
no_bytes (b ∷ bs) e = absurd (omega arith)

module _ {r : Bool} where
  pub marked : (s : List ℕ) → (length s ≡ 0 → ⊥) → get_or s 0 0 ≡ 33 → r ≡ identifier (drop 1 s) → r ≡ namespace_name s
  unfolding namespace_name identifier starts_name
  marked [] n e q = absurd (n refl)
  marked (b ∷ bs) n e q = rw e q

  pub plain : (s : List ℕ) → (length s ≡ 0 → ⊥) → (get_or s 0 0 ≡ 33 → ⊥) → r ≡ identifier (drop 0 s) → r ≡ namespace_name s
  unfolding namespace_name
  plain [] n e q = absurd (n refl)
  plain (b ∷ bs) n e q = rw (ne_eqb b 33 e, or-false) q

pub ruleset names = (below_letters, past_ascii, a_letter, a_name_byte, empty, too_long, no_start, name_ends, no_name, goes_on, no_bytes, marked, plain)
