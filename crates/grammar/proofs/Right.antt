-- The definitions by number in the rules' terms: a slot's number is its own, and what is due by number stands for what the rule makes due.
use Prim.Native.Nat.{ℕ, zero, suc, ◌+◌, ◌-◌, ◌*◌, ◌<◌, ◌≤◌}
use mathlib.Core.Path.{◌≡◌, refl, sym, ◌∙◌, ap}
use mathlib.Core.Bool.{Bool, true, false, cond, true≢false}
use mathlib.Core.List.{List, [], ◌∷◌}
use native.Mathlib.Omega.{arith}
use lib.ListN.{get_or, get_or-eq_default}
use lib.Dec.{ltb, leb, eqb}
use borrow.Author.Tests.{ltb-true, ltb-false, leb-true, eqb-true, lt-ltb}
use Rattle.buffer.specs.Bytes.{within}
use Rattle.cbor.specs.Head.{Lead, is_container}
use Rattle.buffer.proofs.ByteLaws.{within_true}
use Rattle.cbor.proofs.Computed.{all_at}
use Rattle.ari.specs.Table.{Place, alone, message, inside, param, inner, Slot, version, ari, type, value, namespace, object_namespace, object_type, object_id, params, key, entry, nonce, set_time, target, report, report_time, report_source, Row, row, types, type_rows, ExtraTest, none, one, rising, filled, Level, done, due, many, reference_level, ari_level, rule, fits, members}
use Rattle.ari.proofs.Rows.{every, fits_by}
use Rattle.grammar.specs.declared.Next.{Next}
use Rattle.grammar.specs.declared.Next.TheVariants.{Done, Due}
unfoldable pub use Rattle.grammar.specs.Code.{IsSlot}
use Rattle.grammar.proofs.Ranges.{each_at}
use Rattle.grammar.specs.Code.{slots, slot_of, in_param, type_number, slot_number, level_of, next_of, fits_code, extra_number, extra_of, takes_reference_of, next_code, inside_code}

pub no_slot : (i : ℕ) → 72 ≤ i → version ≡ slot_of i
no_slot i h = sym (get_or-eq_default slots version h)

-- A slot's number is its own, in one test over all slots.
pub number_slot : (i : ℕ) → IsSlot i → slot_number (slot_of i) ≡ i
unfolding slot_number
number_slot i h = eqb-true (slot_number (slot_of i)) i (all_at 72 0 (λ j. eqb (slot_number (slot_of j)) j) refl i (omega arith) (omega arith))

-- A slot that its number gives back, and a level that holds such a slot.
abbrev Numbered : Slot → Type 0
Numbered s = slot_of (slot_number s) ≡ s

abbrev Given : Level → Type 0
Given done = Unit {0}
Given (due s n) = Numbered s

numbered : (i : ℕ) → IsSlot i → Numbered (slot_of i)
numbered i h = ap slot_of (number_slot i h)

numbered_is_slot : (s : Slot) → Numbered s → IsSlot (slot_number s)
unfolding slot_number
numbered_is_slot s h = go (ltb (slot_number s) 72) refl
  where
    go : (x : Bool) → ltb (slot_number s) 72 ≡ x → slot_number s < 72
    go true e = ltb-true (slot_number s) 72 e
    go false e = rw (← (no_slot (slot_number s) (ltb-false (slot_number s) 72 e) ∙ h)) (omega arith)

given_many : (s : Slot) → Numbered s → (n : ℕ) → Given (many s n)
given_many s h zero = tt
given_many s h (suc n) = h

given_either : (x : Bool) (u v : Level) → Given u → Given v → Given (cond x u v)
given_either true u v p q = p
given_either false u v p q = q

by_place : (P : Place → Type 0) → P alone → P message → P inside → P param → (w : Place) → P w
by_place P a m i p alone = a
by_place P a m i p message = m
by_place P a m i p inside = i
by_place P a m i p param = p

type_low : (t : ℕ) → type_number t ≤ 21
type_low t = go (ltb t 22) refl
  where
    go : (x : Bool) → ltb t 22 ≡ x → cond x t 0 ≤ 21
    go true e = let h : t < 22 = ltb-true t 22 e in omega arith
    go false e = omega arith

-- the values of the types, in one test over them
value_slot : (a : ℕ) → a ≤ 21 → (slot_of (28 + a) ≡ value a inside) × (slot_of (50 + a) ≡ value a param)
value_slot a h = (
  each_at 22 (λ t. slot_of (28 + t)) (λ t. value t inside) refl a (omega arith),
  each_at 22 (λ t. slot_of (50 + t)) (λ t. value t param) refl a (omega arith),
)

value_numbered : (a : ℕ) (w : Place) → a ≤ 21 → Numbered (value a (inner w))
unfolding slot_number
value_numbered a w h =
    let (i, p) = value_slot a h in
    rw (lt-ltb a 22 (omega arith)) (by_place (λ u. slot_of (28 + in_param (inner u) * 22 + a) ≡ value a (inner u)) i i i p w)

-- a map's keys and values stand inside or in parameters
key_entry : (w : Place) → Numbered (key w) → Numbered (entry w)
unfolding slot_number
key_entry = by_place (λ w. Numbered (key w) → Numbered (entry w)) (λ h. cc) (λ h. cc) (λ h. refl) (λ h. refl)

entry_key : (w : Place) → Numbered (entry w) → Numbered (key w)
unfolding slot_number
entry_key = by_place (λ w. Numbered (entry w) → Numbered (key w)) (λ h. cc) (λ h. cc) (λ h. refl) (λ h. refl)

-- What the rule makes due beside a slot; beside a type's it is the value's, if the argument is a type's number.
next_given : (s : Slot) → Numbered s → (a n : ℕ) → ((w : Place) → s ≡ type w → a ≤ 21) → Given ((rule s).next a n)
unfolding rule slot_number
next_given version h a n t = tt
next_given (ari w) h a n t = given_many (ari w) h n
next_given (type w) h a n t = value_numbered a w (t w refl)
next_given (value u w) h a n t = tt
next_given namespace h a n t = tt
next_given (object_namespace false) h a n t = refl
next_given (object_namespace true) h a n t = refl
next_given (object_type false) h a n t = refl
next_given (object_type true) h a n t = refl
next_given (object_id false) h a n t = tt
next_given (object_id true) h a n t = refl
next_given params h a n t = tt
next_given (key w) h a n t = key_entry w h
next_given (entry w) h a n t = given_many (key w) (entry_key w h) n
next_given (nonce u) h a n t = given_either (eqb u 21) (due set_time n) (many target n) refl (given_many target refl n)
next_given set_time h a n t = given_many report refl n
next_given target h a n t = given_many target refl n
next_given report h a n t = given_many report refl n
next_given report_time h a n t = refl
next_given report_source h a n t = given_many (ari inside) refl n

-- what passed test 7 where a type is due is a type's number
abbrev type_row : Row → Bool
type_row (row k lo hi) = leb hi 21

type_fits : (k a : ℕ) (w : Place) → fits k a (rule (type w)).rows ≡ true → a ≤ 21
unfolding rule types
type_fits k a w e =
    let f = fits_by type_row k a (type_rows w types) (by_place (λ u. every type_row (type_rows u types) ≡ true) refl refl refl refl w) e in
    let h : f.hi ≤ 21 = leb-true f.hi 21 f.holds in
    omega (arith, f.high)

-- what it makes due inside
ari_numbered : (w : Place) → Numbered (ari w)
unfolding slot_number
ari_numbered = by_place (λ w. Numbered (ari w)) refl refl refl refl

type_numbered : (w : Place) → Numbered (type w)
unfolding slot_number
type_numbered = by_place (λ w. Numbered (type w)) refl refl refl refl

value_key : (t : ℕ) (w : Place) → Numbered (value t w) → Numbered (key w)
unfolding slot_number
value_key t =
    let q = (value_slot (type_number t) (type_low t)).0 in
    by_place (λ w. Numbered (value t w) → Numbered (key w)) (λ h. cc) (λ h. cc) (λ h. refl) (λ h. refl)

reference_given : (a : ℕ) → Given (reference_level a)
unfolding slot_number
reference_given a = go (eqb a 1) (eqb a 4)
  where
    go : (x y : Bool) → Given (cond x (due namespace 0) (due (object_namespace y) 0))
    go true y = refl
    go false false = refl
    go false true = refl

ari_given : (w : Place) (a : ℕ) → Given (ari_level w a)
ari_given w a = given_either (eqb a 2) (due (type w) 0) (reference_level a) (type_numbered w) (reference_given a)

abbrev Holds : Slot → Type 0
Holds s = ((a : ℕ) → Given ((rule s).in_array a)) × ((a : ℕ) → Given ((rule s).in_map a))

inside_given : (s : Slot) → Numbered s → Holds s
unfolding rule slot_number
inside_given version h = (λ a. tt, λ a. tt)
inside_given (ari w) h = (ari_given w, λ a. tt)
inside_given (type w) h = (λ a. tt, λ a. tt)
inside_given (value t w) h = (
  λ a.
      given_either (eqb t 20) (due (nonce 20) (a - 1)) (cond (eqb t 21) (due (nonce 21) (a - 2)) (many (ari w) a)) refl
      (given_either (eqb t 21) (due (nonce 21) (a - 2)) (many (ari w) a) refl (given_many (ari w) (ari_numbered w) a)),
  given_many (key w) (value_key t w h),
)
inside_given namespace h = (λ a. tt, λ a. tt)
inside_given (object_namespace p) h = (λ a. tt, λ a. tt)
inside_given (object_type p) h = (λ a. tt, λ a. tt)
inside_given (object_id p) h = (λ a. tt, λ a. tt)
inside_given params h = (given_many (ari param) refl, given_many (key param) refl)
inside_given (key w) h = (λ a. tt, λ a. tt)
inside_given (entry w) h = (ari_given w, λ a. tt)
inside_given (nonce t) h = (λ a. tt, λ a. tt)
inside_given set_time h = (λ a. tt, λ a. tt)
inside_given target h = (reference_given, λ a. tt)
inside_given report h = (λ a. refl, λ a. tt)
inside_given report_time h = (λ a. tt, λ a. tt)
inside_given report_source h = (reference_given, λ a. tt)

-- what is due is a slot
abbrev pub Slotted : Next → Type 0
Slotted Done = Unit {0}
Slotted (Due s n) = IsSlot s

-- a code's answer stands for a level, and names a slot
pub record Stands (r : Next) (v : Level) : Type 0 where
  pub level : level_of r ≡ v
  pub slotted : Slotted r

stands : (v : Level) → Given v → Stands (next_of v) v
stands done h = record { level = refl; slotted = tt }
stands (due s n) h = record { level = ap (λ (x : Slot). due x n) h; slotted = numbered_is_slot s h }

pub fits_right : (i k a : ℕ) → fits_code i k a ≡ fits k a (rule (slot_of i)).rows
unfolding fits_code
fits_right i k a = refl

pub extra_right : (i : ℕ) → (rule (slot_of i)).extra ≡ get_or (none ∷ one ∷ rising ∷ filled ∷ []) (extra_of i) none
extra_right i = go (rule (slot_of i)).extra
  where
    go : (o : ExtraTest) → o ≡ get_or (none ∷ one ∷ rising ∷ filled ∷ []) (extra_number o) none
    go none = refl
    go one = refl
    go rising = refl
    go filled = refl

pub takes_reference_right : (i : ℕ) → (rule (slot_of i)).takes_reference ≡ takes_reference_of i
takes_reference_right i = refl

-- The types' slots are 5 to 8.
type_place : (w : Place) → within 5 8 (slot_number (type w)) ≡ true
unfolding slot_number
type_place = by_place (λ w. within 5 8 (slot_number (type w)) ≡ true) refl refl refl refl

pub next_stands : (i a n : ℕ) → IsSlot i → (within 5 8 i ≡ true → a ≤ 21) → Stands (next_code i a n) ((rule (slot_of i)).next a n)
unfolding next_code
next_stands i a n v t =
    stands ((rule (slot_of i)).next a n)
    (next_given (slot_of i) (numbered i v) a n (λ w e. let q : i ≡ slot_number (type w) = sym (number_slot i v) ∙ ap slot_number e in t (rw q (type_place w))))

-- A slot follows, whatever the argument.
after_type : (j a n : ℕ) → j < 4 → Slotted (next_code (5 + j) a n)
unfolding next_code slot_number rule
after_type zero a n h = omega (arith, type_low a)
after_type (suc zero) a n h = omega (arith, type_low a)
after_type (suc (suc zero)) a n h = omega (arith, type_low a)
after_type (suc (suc (suc zero))) a n h = omega (arith, type_low a)
after_type (suc (suc (suc (suc j)))) a n h = absurd (omega arith)

pub next_slotted : (i a n : ℕ) → IsSlot i → Slotted (next_code i a n)
next_slotted i a n v = go (within 5 8 i) refl
  where
    go : (x : Bool) → within 5 8 i ≡ x → Slotted (next_code i a n)
    go true e =
        let (l, h) = within_true 5 8 i e in
        let q : i ≡ 5 + (i - 5) = omega arith in
        rw q (after_type (i - 5) a n (omega arith))
    go false e = (next_stands i a n v (λ q. absurd (true≢false (sym q ∙ e)))).slotted

pub next_right : (i k a n : ℕ) → IsSlot i → k ≤ 9 → fits_code i k a ≡ true → Stands (next_code i a n) ((rule (slot_of i)).next a n)
unfolding next_code fits_code
next_right i k a n v h f = stands ((rule (slot_of i)).next a n) (next_given (slot_of i) (numbered i v) a n (λ w e. type_fits k a w (rw e at f)))

pub inside_right : (i : ℕ) (l : Lead) → IsSlot i → Stands (inside_code i l.kind l.arg) (members (slot_of i) l)
unfolding inside_code members
inside_right i l v =
    let (p, q) = inside_given (slot_of i) (numbered i v) in
    stands (members (slot_of i) l) (given_either (eqb l.kind 4) ((rule (slot_of i)).in_array l.arg) (cond (eqb l.kind 5) ((rule (slot_of i)).in_map l.arg) done) (p l.arg) (given_either (eqb l.kind 5) ((rule (slot_of i)).in_map l.arg) done (q l.arg) tt))

-- Only arrays and maps hold something.
pub inside_container : (i k a : ℕ) {j m : ℕ} → Due j m ≡ inside_code i k a → is_container k ≡ true
unfolding inside_code members is_container
inside_container i k a {j} {m} e = go (eqb k 4) refl (eqb k 5) refl e
  where
    go : (x : Bool) → eqb k 4 ≡ x → (y : Bool) → eqb k 5 ≡ y
        → Due j m ≡ next_of (cond x ((rule (slot_of i)).in_array a) (cond y ((rule (slot_of i)).in_map a) done)) → within 4 5 k ≡ true
    go true p y q d = rw (eqb-true k 4 p)
    go false p true q d = rw (eqb-true k 5 q)
    go false p false q d = absurd (let z : ◌≡◌ {A = ℕ} 0 1 = cc in omega arith)

-- No row has a kind above 9, in one test over the slots.
abbrev kind_row : Row → Bool
kind_row (row k lo hi) = leb k 9

pub no_kind : (i k a : ℕ) → 9 < k → fits_code i k a ≡ false
unfolding fits_code rule types
no_kind i k a h = go (fits k a (rule (slot_of i)).rows) refl (ltb i 72) refl
  where
    no : (rs : List Row) → every kind_row rs ≡ true → fits k a rs ≡ true → ⊥
    no rs e f = let g : k ≤ 9 = leb-true k 9 (fits_by kind_row k a rs e f).holds in omega arith

    go : (x : Bool) → fits k a (rule (slot_of i)).rows ≡ x → (y : Bool) → ltb i 72 ≡ y → x ≡ false
    go true e true l =
        absurd (no (rule (slot_of i)).rows (all_at 72 0 (λ j. every kind_row (rule (slot_of j)).rows) refl i (omega arith) (let m : i < 72 = ltb-true i 72 l in omega arith)) e)
    go true e false l = absurd (no (rule version).rows refl (rw (← no_slot i (ltb-false i 72 l)) at e))
    go false e y l = refl
