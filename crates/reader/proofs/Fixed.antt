-- A message's version and the head of a set have one spelling each: where that byte stands, the head is taken.
use Prim.Native.Nat.{ℕ, suc, pred, ◌+◌, ◌-◌, ◌≤◌, ◌<◌, zero-le}
use mathlib.Core.Path.{◌≡◌, refl, sym, ◌∙◌, ap}
use mathlib.Core.Bool.{Bool, true, false, not, ◌&&◌}
use mathlib.Core.List.{List, [], ◌∷◌}
use native.Mathlib.Omega.{arith}
use native.Mathlib.Numerals.{sub-one}
use lib.ListN.{length, get_or, drop, set}
use lib.Seq.{drop-cons}
use lib.Dec.{eqb, ltb}
use mir.Syntax.{w64}
use mir.Val.{Fits}
use borrow.Author.Tests.{lt-ltb, le-ltb, ne_eqb, ltb-true, eqb-true, eqb-false}
use Rattle.buffer.specs.Bytes.{all, is_byte}
use Rattle.cbor.specs.Head.{Lead, lead_bytes, shortest, major_of, width, got, get_head, key_of, counted, itself, string_size, is_container}
use Rattle.cbor.proofs.HeadLaws.{get_head_back}
use Rattle.buffer.proofs.ByteLaws.{and-true, not-false, not-true}
use Rattle.ari.specs.Table.{message, version, ari, due, rule, members}
use Rattle.ari.specs.Reader.{judge, judge_content, judge_got}
use Rattle.ari.specs.Reader as reader
use Rattle.grammar.specs.Code.{slot_of, fits_code, next_code}
use Rattle.item_table.specs.Entries.{packed}
use Rattle.reader.specs.Steps.{stands_at, step_answer, step_at}
use Rattle.reader.specs.Walks.{Tables, both, Walked}
use Rattle.reader.proofs.Walking.{ended}
use Rattle.reader.proofs.Loop.{begins, breaks, ends}
use Rattle.std.specs.declared.result.Result.{Result}
use Rattle.std.specs.declared.result.Result.TheVariants.{Err}
use Rattle.ari.specs.declared.Refusal.{Refusal}
use Rattle.reader.specs.declared.Read.{Read}
use Rattle.reader.specs.Steps.{taken}
use Rattle.reader.specs.Walks.{read_to}

module _ (b : List ℕ) (p x c items : ℕ) where
  pub stands_out : length b ≤ p → false ≡ stands_at b p x (items - c)
  stands_out h = rw (le-ltb p (length b) h)

  pub stands_full : p < length b → items ≤ c → false ≡ stands_at b p x (items - c)
  stands_full h g = let e : items - c ≡ 0 = omega arith in rw (lt-ltb p (length b) h, e)

  pub stands_as : p < length b → c < items → eqb (get_or b p 0) x ≡ stands_at b p x (items - c)
  stands_as h g =
      let e : items - c ≡ 0 → ⊥ = λ z. omega (arith, g, z) in
      rw (lt-ltb p (length b) h, ne_eqb (items - c) 0 e)

pub ruleset standing = (stands_out, stands_full, stands_as)

-- what a byte that stands there has shown
pub record Stood (b : List ℕ) (p x c items : ℕ) : Type 0 where
  pub within : p < length b
  pub spare : c < items
  pub more : eqb (items - c) 0 ≡ false
  pub bytes : drop p b ≡ x ∷ drop (suc p) b

pub stood : (b : List ℕ) (p x c items : ℕ) {r : Bool} → r ≡ stands_at b p x (items - c) → not r ≡ false → Stood b p x c items
stood b p x c items {r} e u =
    let (h, g) = and-true (ltb p (length b)) (not (eqb (items - c) 0) && eqb (get_or b p 0) x) (sym e ∙ not-false r u) in
    let (s, y) = and-true (not (eqb (items - c) 0)) (eqb (get_or b p 0) x) g in
    let m : eqb (items - c) 0 ≡ false = not-true (eqb (items - c) 0) s in
    let l : p < length b = ltb-true p (length b) h in
    let z : items - c ≡ 0 → ⊥ = eqb-false (items - c) 0 m in
    record { within = l; spare = omega (arith, z); more = m; bytes = rw (drop-cons b p 0 l, eqb-true (get_or b p 0) x y) }

module _ (b : List ℕ) (p x c items : ℕ) {r : Bool} (e : r ≡ stands_at b p x (items - c)) (u : not r ≡ false) where
  pub stood_in : p + 1 ≤ length b
  stood_in = let h = (stood b p x c items e u).within in omega arith

  pub stood_few : c + 1 ≤ items
  stood_few = let h = (stood b p x c items e u).spare in omega arith

  pub stood_fits : Fits w64 items → Fits w64 (c + 1)
  stood_fits g = let h = (stood b p x c items e u).spare in omega arith

-- the heads 01 and 82
abbrev one : Lead
one = record { info = 1; kind = 0; arg = 1 }

abbrev pair : Lead
pair = record { info = 2; kind = 4; arg = 2 }

head_one : (r : List ℕ) → get_head (1 ∷ r) ≡ got one
unfolding lead_bytes shortest major_of width
head_one r = get_head_back {l = one} r (counted (omega arith) (itself (omega arith) refl))

head_pair : (r : List ℕ) → get_head (130 ∷ r) ≡ got pair
unfolding lead_bytes shortest major_of width
head_pair r = get_head_back {l = pair} r (counted (omega arith) (itself (omega arith) refl))

version_judged : (left d : ℕ) (r : List ℕ) → eqb left 0 ≡ false → judge_got left d version [] (get_head (1 ∷ r)) (1 ∷ r) ≡ reader.yes one []
unfolding judge_got judge judge_content string_size is_container rule width
version_judged left d r e = rw (head_one r, e, le-ltb (length r) 0 zero-le)

version_step : (b : List ℕ) (items d : ℕ) → Stood b 0 1 0 items → taken 0 1 1 ≡ step_at b 0 version [] (items - 0) d
unfolding step_at width
version_step b items d h =
    rw h.bytes (ap (step_answer 0) (sym (version_judged (items - 0) d (drop 1 b) h.more)))

set_judged : (left d : ℕ) (r : List ℕ) → eqb left 0 ≡ false → eqb d 0 ≡ false
    → judge_got left d (ari message) [] (get_head (130 ∷ r)) (130 ∷ r) ≡ reader.yes pair []
unfolding judge_got judge judge_content string_size is_container rule width
set_judged left d r e g = rw (head_pair r, e, g, le-ltb (length r) 0 zero-le)

set_step : (b : List ℕ) (p c items d : ℕ) → Stood b p 130 c items → (d ≡ 0 → ⊥) → taken 4 2 (p + 1) ≡ step_at b p (ari message) [] (items - c) d
unfolding step_at width
set_step b p c items d h g =
    rw h.bytes (ap (step_answer p) (sym (set_judged (items - c) d (drop (suc p) b) h.more (ne_eqb d 0 g))))

pub version_read : (b : List ℕ) → all is_byte b ≡ true → (items d : ℕ) {r : Bool} → r ≡ stands_at b 0 1 (items - 0) → not r ≡ false
    → (t u : List ℕ) {z : List ℕ} → z ≡ set t 0 (packed 0 1 0 0 0) → Walked b items (due (slot_of 0) 0) [] d 0 0 0 (read_to 1 1) (both t u) (both z u)
unfolding members rule fits_code next_code key_of get_head
version_read b bs items d e u t refs {z} put =
    let h = stood b 0 1 0 items e u in
    let inside = ended b items [] (pred d) 1 1 1 (both t refs) h.within h.spare in
    ends b bs items version 0 [] d 0 0 0 (both t refs) 0 0 0 0 d 0 0 0 (both t refs) 0 (omega arith) (begins b items version 0 d 0 0 0 (both t refs)) (version_step b items d h) refl inside refl {tab₂ = both z refs} refl refl put refl (omega arith) refl refl refl h.within h.spare refl

module _ (b : List ℕ) (bs : all is_byte b ≡ true) (items d p c : ℕ) {r : Bool} (e : r ≡ stands_at b p 130 (items - c)) (u : not r ≡ false)
    (g : d ≡ 0 → ⊥) (t u₀ : List ℕ) {w : Result Read Refusal} {t₁ u₁ : List ℕ} (m : Walked b items (due (slot_of 6) 0) [] (d - 1) 1 (p + 1) (c + 1) w (both t u₀) (both t₁ u₁)) where
  abbrev there : Stood b p 130 c items
  there = stood b p 130 c items e u

  abbrev inside : Walked b items (due (slot_of 6) 0) [] (pred d) 1 (p + 1) (c + 1) w (both t u₀) (both t₁ u₁)
  inside = rw (← sub-one d) m

  pub set_stopped : {f : Refusal} → w ≡ Err f → {z : Tables} → Walked b items (due (slot_of 2) 0) [] d 0 p c (Err f) (both t u₀) z
  unfolding members rule key_of get_head
  set_stopped v =
      breaks b bs items (ari message) 0 [] d 0 p c (both t u₀) 2 0 0 0 d 0 p c (both t u₀) 0 (omega arith) (begins b items (ari message) 0 d 0 p c (both t u₀)) (set_step b p c items d there g) refl inside v

  pub set_read : {q f : ℕ} → w ≡ read_to q f → {z : List ℕ} → z ≡ set t₁ c (packed p q 0 2 0) → Walked b items (due (slot_of 2) 0) [] d 0 p c (read_to q f) (both t u₀) (both z u₁)
  unfolding members rule fits_code next_code key_of get_head
  set_read v {z} put =
      let within = (rw v at inside).held in
      ends b bs items (ari message) 0 [] d 0 p c (both t u₀) 2 0 0 0 d 0 p c (both t u₀) 0 (omega arith) (begins b items (ari message) 0 d 0 p c (both t u₀)) (set_step b p c items d there g) refl inside v {tab₂ = both z u₁} refl refl put refl (omega arith) refl refl refl within.1 within.2 refl

pub ruleset fixed_heads = (stood_in, stood_few, stood_fits, version_read, set_stopped, set_read)
