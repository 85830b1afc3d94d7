-- The key before, and the slots' own tests, as the code has them.
use Prim.Native.Nat.{ℕ, zero, suc, ◌+◌, ◌-◌, ◌≤◌}
use mathlib.Core.Path.{◌≡◌, refl, sym, ◌∙◌, ap}
use mathlib.Core.Bool.{Bool, true, false, not, ◌&&◌, ◌||◌, true≢false}
use mathlib.Core.List.{List, [], ◌∷◌, ◌++◌, append_assoc}
use mathlib.Core.Logic.{◌⊎◌, inl, inr}
use native.Mathlib.Omega.{arith}
use lib.ListN.{length, get_or, take, drop, length-append, take-append-drop}
use lib.Seq.{take_at, drop_at, length-take-le}
use lib.Dec.{eqb}
use borrow.Author.Tests.{eqb-true}
use Rattle.buffer.specs.Bytes.{all, is_byte, within}
use Rattle.cbor.specs.Byte.{below}
use Rattle.cbor.specs.Utf8.{utf8}
use Rattle.ari.specs.Name.{identifier, namespace_name}
use Rattle.cbor.specs.Head.{Lead, size, lead_bytes, short_bytes, got, get_head, string_size, key_of}
use Rattle.buffer.proofs.ByteLaws.{and-true, or-true, or_nil, all_drop}
use Rattle.cbor.proofs.HeadLaws.{length_lead, get_head_back, get_head_forth}
use Rattle.cbor.proofs.OrderWays.{key_got}
use Rattle.ari.specs.Table.{Place, Slot, version, ari, type, value, namespace, object_namespace, object_type, object_id, params, key, entry, nonce, set_time, target, report, report_time, report_source, ExtraTest, none, one, rising, filled, rule, fits, max64, max63}
use Rattle.cbor.specs.Head.{key_bytes}
use Rattle.ari.specs.Reader.{wrong_version, not_greater, is_empty}
use Rattle.grammar.specs.Code.{slot_of, extra_of, spelled_as}
use Rattle.grammar.proofs.Right.{extra_right}
use Rattle.grammar.proofs.Hits.{Rest, miss}
use Rattle.buffer.specs.Bytes.{part}
use Rattle.reader.specs.Steps.{key_span}

-- the slot's own test, by its number
module _ (i : ℕ) {x : ℕ} (e : x ≡ extra_of i) where
  own_is : (rule (slot_of i)).extra ≡ get_or (none ∷ one ∷ rising ∷ filled ∷ []) x none
  own_is = rw e (extra_right i)

  pub is_one : x ≡ 1 → (rule (slot_of i)).extra ≡ one
  is_one q = own_is ∙ rw q

  pub is_rising : x ≡ 2 → (rule (slot_of i)).extra ≡ rising
  is_rising q = own_is ∙ rw q

  pub is_filled : x ≡ 3 → (rule (slot_of i)).extra ≡ filled
  is_filled q = own_is ∙ rw q

-- what the slots have in common whose own test is not number n
module _ {A : Type 0} (f : ExtraTest → A) (a : A) (n : ℕ) (none_is : f none ≡ a) (one-is : (1 ≡ n → ⊥) → f one ≡ a) (rising-is : (2 ≡ n → ⊥) → f rising ≡ a)
    (Filled-is : (3 ≡ n → ⊥) → f filled ≡ a) where
  others_at : (x : ℕ) → (x ≡ n → ⊥) → f (get_or (none ∷ one ∷ rising ∷ filled ∷ []) x none) ≡ a
  others_at zero m = none_is
  others_at (suc zero) m = one-is m
  others_at (suc (suc zero)) m = rising-is m
  others_at (suc (suc (suc zero))) m = Filled-is m
  others_at (suc (suc (suc (suc x)))) m = none_is

  others : (i : ℕ) {x : ℕ} → x ≡ extra_of i → (x ≡ n → ⊥) → f (rule (slot_of i)).extra ≡ a
  others i {x} e m = rw (own_is i e) (others_at x m)

module _ (i : ℕ) {x : ℕ} (e : x ≡ extra_of i) where
  pub not_one : (x ≡ 1 → ⊥) → (a : ℕ) → wrong_version (rule (slot_of i)).extra a ≡ false
  not_one m a = others (λ o. wrong_version o a) false 1 refl (λ n. absurd (n refl)) (λ n. refl) (λ n. refl) i e m

  pub not_rising : (x ≡ 2 → ⊥) → (p k : List ℕ) → not_greater (rule (slot_of i)).extra p k ≡ false
  not_rising m p k = others (λ o. not_greater o p k) false 2 refl (λ n. refl) (λ n. absurd (n refl)) (λ n. refl) i e m

  pub not_filled : (x ≡ 3 → ⊥) → (a : ℕ) → is_empty (rule (slot_of i)).extra a ≡ false
  not_filled m a = others (λ o. is_empty o a) false 3 refl (λ n. refl) (λ n. refl) (λ n. absurd (n refl)) i e m

  pub old_span : (x ≡ 2 → ⊥) → (a b : ℕ) → a ≡ key_span (rule (slot_of i)).extra a b
  old_span m a b = sym (others (λ o. key_span o a b) a 2 refl (λ n. refl) (λ n. absurd (n refl)) (λ n. refl) i e m)

  pub new_span : x ≡ 2 → (a b : ℕ) → b ≡ key_span (rule (slot_of i)).extra a b
  new_span q a b = rw (is_rising i e q)

-- only keys are ordered, and a key is a number or a text string
key_kind : (k a : ℕ) (w : Place) → fits k a (rule (key w)).rows ≡ true → k ≤ 5
unfolding rule
key_kind k a w e = go (or-true (eqb k 0 && within 0 max64 a) _ e)
  where
    third : (eqb k 3 && within 0 max64 a) || false ≡ true → k ≤ 5
    third e = last (or-true (eqb k 3 && within 0 max64 a) false e)
      where
        last : ((eqb k 3 && within 0 max64 a) ≡ true) ⊎ (false ≡ true) → k ≤ 5
        last (inl q) = let z : k ≡ 3 = eqb-true k 3 (and-true (eqb k 3) (within 0 max64 a) q).0 in omega arith
        last (inr q) = absurd (true≢false (sym q))

    second : ((eqb k 1 && within 0 max63 a) ≡ true) ⊎ (((eqb k 3 && within 0 max64 a) || false) ≡ true) → k ≤ 5
    second (inl q) = let z : k ≡ 1 = eqb-true k 1 (and-true (eqb k 1) (within 0 max63 a) q).0 in omega arith
    second (inr q) = third q

    go : ((eqb k 0 && within 0 max64 a) ≡ true) ⊎ (((eqb k 1 && within 0 max63 a) || ((eqb k 3 && within 0 max64 a) || false)) ≡ true) → k ≤ 5
    go (inl q) = let z : k ≡ 0 = eqb-true k 0 (and-true (eqb k 0) (within 0 max64 a) q).0 in omega arith
    go (inr q) = second (or-true (eqb k 1 && within 0 max63 a) _ q)

unordered : {o : ExtraTest} → o ≡ rising → o ≡ none → ⊥
unordered p q = let z : ◌≡◌ {A = ℕ} 0 1 = cc in omega arith

pub ordered_kind : (s : Slot) (k a : ℕ) → (rule s).extra ≡ rising → fits k a (rule s).rows ≡ true → k ≤ 5
unfolding rule
ordered_kind version k a o e = absurd (let z : ◌≡◌ {A = ℕ} 0 1 = cc in omega arith)
ordered_kind (ari w) k a o e = absurd (unordered o refl)
ordered_kind (type w) k a o e = absurd (unordered o refl)
ordered_kind (value t w) k a o e = absurd (unordered o refl)
ordered_kind namespace k a o e = absurd (unordered o refl)
ordered_kind (object_namespace p) k a o e = absurd (unordered o refl)
ordered_kind (object_type p) k a o e = absurd (unordered o refl)
ordered_kind (object_id p) k a o e = absurd (unordered o refl)
ordered_kind params k a o e = absurd (let z : ◌≡◌ {A = ℕ} 0 1 = cc in omega arith)
ordered_kind (key w) k a o e = key_kind k a w e
ordered_kind (entry w) k a o e = absurd (unordered o refl)
ordered_kind (nonce t) k a o e = absurd (unordered o refl)
ordered_kind set_time k a o e = absurd (unordered o refl)
ordered_kind target k a o e = absurd (unordered o refl)
ordered_kind report k a o e = absurd (unordered o refl)
ordered_kind report_time k a o e = absurd (unordered o refl)
ordered_kind report_source k a o e = absurd (unordered o refl)

-- only the version asks for 1, and it is no string
pub string_version : (s : Slot) (k a : ℕ) → fits k a (rule s).rows ≡ true → 2 ≤ k → wrong_version (rule s).extra a ≡ false
unfolding rule
string_version version k a e h = absurd (let z : k ≡ 0 = eqb-true k 0 (and-true (eqb k 0) (within 0 max64 a) (or_nil (eqb k 0 && within 0 max64 a) e)).0 in omega arith)
string_version (ari w) k a e h = refl
string_version (type w) k a e h = refl
string_version (value t w) k a e h = refl
string_version namespace k a e h = refl
string_version (object_namespace p) k a e h = refl
string_version (object_type p) k a e h = refl
string_version (object_id p) k a e h = refl
string_version params k a e h = refl
string_version (key w) k a e h = refl
string_version (entry w) k a e h = refl
string_version (nonce t) k a e h = refl
string_version set_time k a e h = refl
string_version target k a e h = refl
string_version report k a e h = refl
string_version report_time k a e h = refl
string_version report_source k a e h = refl

-- a key is ordered by its head and its string, as they stand in the input
pub key_bytes_lem : (b : List ℕ) (p : ℕ) (l : Lead) → all is_byte b ≡ true → get_head (drop p b) ≡ got l → l.kind ≤ 5
    → string_size l ≤ length (drop (size l) (drop p b)) → (q : ℕ) → p + (size l + string_size l) ≡ q
    → key_bytes l (take (string_size l) (drop (size l) (drop p b))) ≡ key_of (part b p q)
key_bytes_lem b p l bs g k h q e =
    let f = get_head_forth (drop p b) (all_drop is_byte p b bs) g in
    let str = take (string_size l) (drop (size l) (drop p b)) in
    let z : length str ≡ string_size l = length-take-le (string_size l) (drop (size l) (drop p b)) h in
    let m : length (lead_bytes l ++ str) ≡ q - p = length-append (lead_bytes l) str ∙ omega (arith, length_lead l) in
    let r = drop (string_size l) (drop (size l) (drop p b)) in
    let w : drop p b ≡ (lead_bytes l ++ str) ++ r
    = f.1 ∙ ap (λ (x : List ℕ). lead_bytes l ++ x) (sym (take-append-drop (string_size l) (drop (size l) (drop p b)))) ∙ sym (append_assoc (lead_bytes l) str r) in
    let s : part b p q ≡ lead_bytes l ++ str = ap (take (q - p)) w ∙ take_at (lead_bytes l ++ str) r (q - p) m in
    let o : key_of (lead_bytes l ++ str) ≡ short_bytes l.kind l.arg ++ drop (size l) (lead_bytes l ++ str) = key_got (lead_bytes l ++ str) l (get_head_back str f.0) k in
    sym (ap key_of s ∙ o ∙ ap (λ (x : List ℕ). short_bytes l.kind l.arg ++ x) (drop_at (lead_bytes l) str (size l) (length_lead l)))

-- only a key's bytes matter
pub same_order : (o : ExtraTest) (prev k k' : List ℕ) → (o ≡ rising → k ≡ k') → not_greater o prev k ≡ not_greater o prev k'
same_order none prev k k' e = refl
same_order one prev k k' e = refl
same_order rising prev k k' e = rw (e refl)
same_order filled prev k k' e = refl

-- what the functions answer, way by way
module _ (i : ℕ) {x : ℕ} (e : x ≡ extra_of i) where
  pub version_one : x ≡ 1 → (a : ℕ) → not (eqb a 1) ≡ wrong_version (rule (slot_of i)).extra a
  version_one q a = rw (is_one i e q)

  pub version_other : (x ≡ 1 → ⊥) → (a : ℕ) → false ≡ wrong_version (rule (slot_of i)).extra a
  version_other q a = sym (not_one i e q a)

  pub rising_key : x ≡ 2 → (p k : List ℕ) {y : Bool} → y ≡ below p k → not y ≡ not_greater (rule (slot_of i)).extra p k
  rising_key q p k g = rw (is_rising i e q, g)

  pub no_key : (x ≡ 2 → ⊥) → (p k : List ℕ) → false ≡ not_greater (rule (slot_of i)).extra p k
  no_key q p k = sym (not_rising i e q p k)

  pub filled_one : x ≡ 3 → (a : ℕ) → eqb a 0 ≡ is_empty (rule (slot_of i)).extra a
  filled_one q a = rw (is_filled i e q)

  pub filled_other : (x ≡ 3 → ⊥) → (a : ℕ) → false ≡ is_empty (rule (slot_of i)).extra a
  filled_other q a = sym (not_filled i e q a)

pub ruleset owns = (version_one, version_other, rising_key, no_key, filled_one, filled_other)

-- how a text string is spelled
module _ (i x : ℕ) (e : spelled_as x ≡ (rule (slot_of i)).spelling) (s : List ℕ) where
  pub spelled_by : (n : ℕ) → x ≡ n → {r : Bool} → r ≡ spelled_as n s → r ≡ (rule (slot_of i)).spelling s
  spelled_by n q g = g ∙ rw (← e, q)

  pub spelled_else : Rest 3 x → {r : Bool} → r ≡ utf8 s → r ≡ (rule (slot_of i)).spelling s
  spelled_else q g = g ∙ ap (λ (f : List ℕ → Bool). f s) (miss (utf8 ∷ identifier ∷ namespace_name ∷ []) utf8 3 x refl q ∙ e)
