-- A number or a string at a slot with no test of its own: nothing is inside it, and the key before stays.
use Prim.Native.Nat.{ℕ, suc, pred, ◌+◌, ◌-◌, ◌≤◌, ◌<◌}
use mathlib.Core.Path.{◌≡◌, refl, sym, ◌∙◌}
use mathlib.Core.Bool.{Bool, true, false, ◌&&◌}
use mathlib.Core.List.{List, []}
use native.Mathlib.Omega.{arith}
use lib.ListN.{length, set}
use lib.Dec.{ltb, eqb}
use borrow.Author.Tests.{lt-ltb, le-ltb, ltb-true, eqb-true}
use Rattle.buffer.specs.Bytes.{all, is_byte, part}
use Rattle.buffer.proofs.ByteLaws.{and-true}
use Rattle.cbor.specs.Head.{key_of}
use Rattle.ari.specs.Table.{Slot, due, none, rule}
use Rattle.grammar.specs.declared.Next.{Next}
use Rattle.grammar.specs.declared.Next.TheVariants.{Done, Due}
use Rattle.grammar.specs.Code.{slot_of, IsSlot, extra_of, next_code}
use Rattle.grammar.proofs.Right.{extra_right}
use Rattle.grammar.proofs.TableWays.{below_containers}
use Rattle.item_table.specs.Entries.{packed, head_by, reference_by}
use Rattle.item_table.specs.References.{place_for, reserved_for, ended}
use Rattle.item_table.proofs.Entries.{leaf_head, not_array}
use Rattle.reader.specs.Steps.{step_at, Bounded, key_span}
use Rattle.reader.specs.Walks.{inside_level, Tables, both, Walked}
use Rattle.reader.proofs.Bounds.{nothing_inside, taken_in, taken_more, taken_kind, taken_fits}
use Rattle.reader.proofs.Loop.{Leads, ends, again, next_slotted}
use Rattle.std.specs.declared.result.Result.{Result}
use Rattle.ari.specs.declared.Refusal.{Refusal}
use Rattle.reader.specs.declared.Taken.{Taken}
use Rattle.reader.specs.Steps.{taken}
use Rattle.reader.specs.Walks.{read_to}

module _ (i k : ℕ) where
  pub plain_below : k < 4 → {x : ℕ} → x ≡ extra_of i → eqb x 0 ≡ (ltb k 4 && eqb (extra_of i) 0)
  plain_below h e = rw (lt-ltb k 4 h, e)

  pub plain_above : 4 ≤ k → false ≡ (ltb k 4 && eqb (extra_of i) 0)
  plain_above h = rw (le-ltb k 4 h)

  -- what it has shown
  module _ {r : Bool} (e : r ≡ (ltb k 4 && eqb (extra_of i) 0)) (u : r ≡ true) where
    plain : (k < 4) × (extra_of i ≡ 0)
    plain =
        let (x, y) = and-true (ltb k 4) (eqb (extra_of i) 0) (sym e ∙ u) in
        (ltb-true k 4 x, eqb-true (extra_of i) 0 y)

    plain_test : (rule (slot_of i)).extra ≡ none
    plain_test = extra_right i ∙ rw plain.1

    pub plain_inside : (a : ℕ) (b : List ℕ) (items d around at c : ℕ) {t : Tables} → IsSlot i → at ≤ length b → c ≤ items
        → Walked b items (inside_level (slot_of i) k a) [] (pred d) (suc around) at c (read_to at c) t t
    plain_inside a b items d around at c v h g = nothing_inside i k a (below_containers i k a plain.0) b items d around at c v refl h g

    pub plain_span : (f p : ℕ) → f ≡ key_span (rule (slot_of i)).extra f p
    plain_span f p = rw plain_test

pub ruleset plain_ways = (plain_below, plain_above)

-- The turn that such a head ends: its level, or what is due next.
module _ (b : List ℕ) (bs : all is_byte b ≡ true) (items : ℕ) (s₀ : Slot) (n₀ : ℕ) (prev₀ : List ℕ) (d₀ around₀ p₀ c₀ : ℕ) (t₀ : Tables)
    (i n f t d around p c : ℕ) (tab refs : List ℕ) (pend : ℕ) (v : IsSlot i)
    (lead : Leads b items s₀ n₀ prev₀ d₀ around₀ p₀ c₀ t₀ (slot_of i) n (key_of (part b f t)) d around p c (both tab refs) pend)
    {x : Result Taken Refusal} (e : x ≡ step_at b p (slot_of i) (key_of (part b f t)) (items - c) d) (h : Bounded b p c items d i x) {k a q₀ : ℕ} (q : x ≡ taken k a q₀)
    {r : Bool} (y : r ≡ (ltb k 4 && eqb (extra_of i) 0)) (u : r ≡ true) {tab₂ : List ℕ} (put : tab₂ ≡ set tab c (packed p q₀ around i 0))
    {nx : Next} (nn : nx ≡ next_code i a n) where
  nothing : Walked b items (inside_level (slot_of i) k a) [] (pred d) (suc around) q₀ (c + 1) (read_to q₀ (c + 1)) (both tab refs) (both tab refs)
  nothing = plain_inside i k y u a b items d around q₀ (c + 1) v (taken_in b p c items d i h q) (taken_more b p c items d i h q)

  kept : tab₂ ≡ set tab c (packed p q₀ around i (head_by i k a (q₀ - p)))
  kept = put ∙ rw (leaf_head i k a (q₀ - p) (plain i k y u).0)

  -- it is no reference
  no_reference : false ≡ reference_by i k a
  no_reference = not_array i k a (λ z. let l = (plain i k y u).0 in omega arith)

  as_it_was : refs ≡ reserved_for i k a refs
  as_it_was = rw (← no_reference)

  no_place : 0 ≡ place_for i k a refs
  no_place = rw (← no_reference)

  pub plain_ends : nx ≡ Done → {refs₂ : List ℕ} → refs₂ ≡ ended refs pend q₀ → Walked b items (due s₀ n₀) prev₀ d₀ around₀ p₀ c₀ (read_to q₀ (c + 1)) t₀ (both tab₂ refs₂)
  plain_ends z all =
      ends b bs items s₀ n₀ prev₀ d₀ around₀ p₀ c₀ t₀ i n f t d around p c (both tab refs) pend v lead e q nothing refl {tab₂ = both tab₂ refs} as_it_was no_place kept refl (taken_kind b p c items d i h q) (taken_fits b p c items d i h q) nn z (taken_in b p c items d i h q) (taken_more b p c items d i h q) all

  pub plain_slotted : {j m : ℕ} → nx ≡ Due j m → IsSlot j
  plain_slotted z =
      next_slotted b bs items s₀ n₀ prev₀ d₀ around₀ p₀ c₀ t₀ i n f t d around p c (both tab refs) pend v lead e q nothing refl {tab₂ = both tab₂ refs} as_it_was no_place kept refl (taken_kind b p c items d i h q) (taken_fits b p c items d i h q) nn z

  pub plain_again : {j m : ℕ} → nx ≡ Due j m → Leads b items s₀ n₀ prev₀ d₀ around₀ p₀ c₀ t₀ (slot_of j) m (key_of (part b f t)) d around q₀ (c + 1) (both tab₂ refs) pend
  plain_again z =
      again b bs items s₀ n₀ prev₀ d₀ around₀ p₀ c₀ t₀ i n f t d around p c (both tab refs) pend v lead e q nothing refl {tab₂ = both tab₂ refs} as_it_was no_place kept refl (taken_kind b p c items d i h q) (taken_fits b p c items d i h q) nn z (plain_span i k y u f p) (plain_span i k y u t q₀)
