-- One head: a law for each way that the tests end; the premises are the facts that the code leaves.
use Prim.Native.Nat.{ℕ, ◌+◌, ◌-◌, ◌≤◌, ◌<◌}
use mathlib.Core.Path.{◌≡◌, refl, sym, ◌∙◌, ap}
use mathlib.Core.Bool.{Bool, true, false, not, ◌&&◌, cond}
use mathlib.Core.List.{List, []}
use native.Mathlib.Omega.{arith}
use lib.ListN.{length, take, drop, length-drop}
use lib.Seq.{drop-drop, length-take-le}
use lib.Dec.{ltb, leb, eqb}
use borrow.Author.Tests.{lt-ltb, le-ltb, le-leb, lt-leb, eq-eqb, ne_eqb, ltb-true, ltb-false, eqb-true, not-true, not-false}
use Rattle.buffer.specs.Bytes.{all, is_byte, within}
use Rattle.buffer.proofs.ByteLaws.{and-true, within_true}
use Rattle.cbor.specs.Head.{Lead, size, Got, bad, got, get_head, string_size, is_container, key_of}
use Rattle.cbor.specs.declared.Head.{Head}
use Rattle.cbor.specs.declared.Head.TheVariants.{Bad, Good}
use Rattle.cbor.specs.Answer.{answer, head_at}
use Rattle.cbor.proofs.HeadWays.{Read, read}
use Rattle.ari.specs.Table.{Slot, ExtraTest, rule, fits}
use Rattle.cbor.specs.Head.{key_bytes}
use Rattle.ari.specs.Reader.{wrong_version, not_greater, is_empty, judge_content, judge, judge_got}
use Rattle.ari.specs.Reader as reader
use Rattle.grammar.specs.Code.{slot_of, extra_of, fits_code}
use Rattle.grammar.proofs.Right.{fits_right}
use Rattle.buffer.specs.Bytes.{part}
use Rattle.reader.specs.Steps.{string_end, key_at, step_answer, step_at, content_got, content_at, ContentShown, Bounded, no_head}
use Rattle.reader.proofs.Keys.{ordered_kind, string_version, key_bytes_lem, same_order, version_other, no_key, filled_other}
use Rattle.std.specs.declared.result.Result.{Result}
use Rattle.std.specs.declared.result.Result.TheVariants.{Ok, Err}
use Rattle.std.specs.declared.option.Option.{Option}
use Rattle.std.specs.declared.option.Option.TheVariants.{Some, None}
use Rattle.ari.specs.declared.Refusal.{Refusal}
use Rattle.ari.specs.Refusals.{refused}
use Rattle.reader.specs.declared.Taken.{Taken}
use Rattle.reader.specs.Steps.{taken}

-- a string's end
module _ (b : List ℕ) (a q : ℕ) where
  pub too_short : {x : ℕ} → x ≡ length b - q → x < a → None ≡ string_end b 2 a q
  unfolding string_end
  too_short e h = rw (← e, lt-ltb _ a h)

  pub long_enough : {x : ℕ} → x ≡ length b - q → a ≤ x → Some (q + a) ≡ string_end b 2 a q
  unfolding string_end
  long_enough e h = rw (← e, le-ltb _ a h)

  pub of_bytes : (k : ℕ) → k ≡ 2 → {r : Option ℕ} → r ≡ string_end b 2 a q → r ≡ string_end b k a q
  of_bytes k e g = rw e g

  pub of_text : (k : ℕ) → k ≡ 3 → {r : Option ℕ} → r ≡ string_end b 2 a q → r ≡ string_end b k a q
  unfolding string_end
  of_text k e g = rw e g

  pub of_none : (k : ℕ) → (k ≡ 2 → ⊥) → (k ≡ 3 → ⊥) → Some q ≡ string_end b k a q
  unfolding string_end
  of_none k n m = go (leb 2 k) refl (leb k 3) refl
    where
      go : (x : Bool) → leb 2 k ≡ x → (y : Bool) → leb k 3 ≡ y → Some q ≡ cond (x && y) (cond (ltb (length b - q) a) None (Some (q + a))) (Some q)
      go true e true f = absurd (let h : 2 ≤ k = borrow.Author.Tests.leb-true 2 k e in let g : k ≤ 3 = borrow.Author.Tests.leb-true k 3 f in omega arith)
      go true e false f = refl
      go false e y f = refl

-- the end is behind the head and within the input
module _ (b : List ℕ) (k a q : ℕ) {y : Option ℕ} (g : y ≡ string_end b k a q) {x : ℕ} (f : y ≡ Some x) where
  at_cases : (w u : Bool) → ltb (length b - q) a ≡ u → Some x ≡ cond w (cond u None (Some (q + a))) (Some q) → (q ≤ x) × (q ≤ length b → x ≤ length b)
  at_cases true true e z = absurd (let y : ◌≡◌ {A = ℕ} 0 1 = cc in omega arith)
  at_cases true false e z =
      let h : a ≤ length b - q = ltb-false (length b - q) a e in
      let w : x ≡ q + a = cc in
      (omega arith, λ n. omega arith)
  at_cases false u e z = let w : x ≡ q = cc in (omega arith, λ n. omega arith)

  pub end_on : q ≤ x
  unfolding string_end
  end_on = (at_cases (within 2 3 k) (ltb (length b - q) a) refl (sym f ∙ g)).0

  pub end_past : (p : ℕ) → p < q → p ≤ x
  end_past p h = let z = end_on in omega arith

  pub end_in : q ≤ length b → x ≤ length b
  unfolding string_end
  end_in = (at_cases (within 2 3 k) (ltb (length b - q) a) refl (sym f ∙ g)).1

-- test 7, in the rules' terms
pub fits_slot : (i k a : ℕ) → fits_code i k a ≡ true → fits k a (rule (slot_of i)).rows ≡ true
fits_slot i k a e = sym (fits_right i k a) ∙ e

-- test 10
pub text_spelt : (k : ℕ) → k ≡ 3 → {r x : Bool} → r ≡ x → not r ≡ (eqb k 3 && not x)
text_spelt k e g = rw (eq-eqb k 3 e, g)

pub no_text : (k : ℕ) (x : Bool) → (k ≡ 3 → ⊥) → false ≡ (eqb k 3 && not x)
no_text k x e = rw (ne_eqb k 3 e)

pub ruleset string_ways = (too_short, long_enough, of_bytes, of_text, of_none)

-- a container that may not be opened
module _ (k d : ℕ) where
  pub below_array : k < 4 → false ≡ (is_container k && eqb d 0)
  unfolding is_container
  below_array h = rw (lt-leb 4 k h)

  pub above_map : 5 < k → 4 ≤ k → false ≡ (is_container k && eqb d 0)
  unfolding is_container
  above_map h g = rw (le-leb 4 k g, lt-leb k 5 h)

  pub container : 4 ≤ k → k ≤ 5 → eqb d 0 ≡ (is_container k && eqb d 0)
  unfolding is_container
  container h g = rw (le-leb 4 k h, le-leb k 5 g)

pub ruleset deep_ways = (below_array, above_map, container)

pub headless : {h : Head} {r p : ℕ} → h ≡ Bad r → refused r p ≡ no_head h p
headless e = rw e

-- the head that stands at p
stands : (b : List ℕ) (p k a q : ℕ) → head_at b p ≡ Good k a q → Read b p k a q
stands b p k a q e = read b p refl e

-- the tests 8 to 12
module _ (b : List ℕ) (p : ℕ) (s : Slot) (prev : List ℕ) {k a q : ℕ} (e : head_at b p ≡ Good k a q) where
  abbrev l : Lead
  l = (stands b p k a q e).lead

  abbrev str : List ℕ
  str = take (string_size l) (drop (size l) (drop p b))

  content_is : step_answer p (cond (wrong_version (rule s).extra l.arg) (reader.no 8) (judge_content s prev l (drop (size l) (drop p b)))) ≡ content_at b p s prev
  unfolding content_at content_got
  content_is = rw (stands b p k a q e).is_got

  own_version : wrong_version (rule s).extra l.arg ≡ wrong_version (rule s).extra a
  own_version = rw (stands b p k a q e).arg_is

  pub is_versioned : {z : Bool} → z ≡ wrong_version (rule s).extra a → z ≡ true → refused 8 p ≡ content_at b p s prev
  is_versioned g t = rw (own_version ∙ sym g ∙ t) (refl) ∙ content_is

  version_right : wrong_version (rule s).extra a ≡ false → step_answer p (judge_content s prev l (drop (size l) (drop p b))) ≡ content_at b p s prev
  version_right n = rw (own_version ∙ n) at content_is

  -- what is left behind the head
  rest_is : drop (size l) (drop p b) ≡ drop q b
  rest_is = drop-drop (size l) p b ∙ ap (λ (n : ℕ). drop n b) (stands b p k a q e).next_is

  size_is : string_size l ≡ cond (within 2 3 k) a 0
  unfolding string_size
  size_is = rw ((stands b p k a q e).kind_is, (stands b p k a q e).arg_is)

  pub is_short : fits k a (rule s).rows ≡ true → {x : Option ℕ} → x ≡ string_end b k a q → x ≡ None → refused 9 p ≡ content_at b p s prev
  unfolding judge_content string_end
  is_short fit {x} g f = go (within 2 3 k) refl (ltb (length b - q) a) refl (sym f ∙ g)
    where
      go : (w : Bool) → within 2 3 k ≡ w → (u : Bool) → ltb (length b - q) a ≡ u → None ≡ cond w (cond u None (Some (q + a))) (Some q)
          → refused 9 p ≡ content_at b p s prev
      go true ew true eu z =
          let n : length b - q < a = ltb-true (length b - q) a eu in
          let m : length (drop (size l) (drop p b)) ≡ length b - q = ap length rest_is ∙ length-drop q b in
          rw (lt-ltb (length (drop (size l) (drop p b))) (string_size l) (rw (size_is, ew, m) n)) (refl) ∙ version_right (string_version s k a fit (within_true 2 3 k ew).0)
      go true ew false eu z = absurd (let y : ◌≡◌ {A = ℕ} 0 1 = cc in omega arith)
      go false ew u eu z = absurd (let y : ◌≡◌ {A = ℕ} 0 1 = cc in omega arith)

  record Ends (x : ℕ) : Type 0 where
    there : string_size l ≤ length (drop (size l) (drop p b))
    end_is : x ≡ q + string_size l

  ends : {y : Option ℕ} (x : ℕ) → q ≤ length b → y ≡ string_end b k a q → y ≡ Some x → Ends x
  unfolding string_end
  ends {y} x n g f = go (within 2 3 k) refl (ltb (length b - q) a) refl (sym f ∙ g)
    where
      go : (w : Bool) → within 2 3 k ≡ w → (u : Bool) → ltb (length b - q) a ≡ u → Some x ≡ cond w (cond u None (Some (q + a))) (Some q) → Ends x
      go true ew true eu z = absurd (let y : ◌≡◌ {A = ℕ} 0 1 = cc in omega arith)
      go true ew false eu z =
          let h : a ≤ length b - q = ltb-false (length b - q) a eu in
          let m : length (drop (size l) (drop p b)) ≡ length b - q = ap length rest_is ∙ length-drop q b in
          let v : string_size l ≡ a = size_is ∙ rw ew in
          let w : x ≡ q + a = cc in
          record { there = omega arith; end_is = omega arith }
      go false ew u eu z =
          let v : string_size l ≡ 0 = size_is ∙ rw ew in
          let w : x ≡ q = cc in
          record { there = omega arith; end_is = omega arith }

  module _ (n : q ≤ length b) {y : Option ℕ} (g : y ≡ string_end b k a q) {x : ℕ} (f : y ≡ Some x) where
    abbrev en : Ends x
    en = ends x n g f

    not_short : ltb (length (drop (size l) (drop p b))) (string_size l) ≡ false
    not_short = le-ltb (length (drop (size l) (drop p b))) (string_size l) en.there

    string_is : part b q x ≡ str
    string_is = let z : x - q ≡ string_size l = omega (arith, en.end_is) in rw (rest_is, z)

    spelling_is : (eqb k 3 && not ((rule s).spelling (part b q x))) ≡ (eqb l.kind 3 && not ((rule s).spelling str))
    spelling_is = rw (string_is, (stands b p k a q e).kind_is)

    pub is_misspelt : fits k a (rule s).rows ≡ true → {m : Bool} → m ≡ (eqb k 3 && not ((rule s).spelling (part b q x))) → m ≡ true → refused 10 p ≡ content_at b p s prev
    unfolding judge_content
    is_misspelt fit c t =
        let three : k ≡ 3 = eqb-true k 3 (and-true (eqb k 3) _ (sym c ∙ t)).0 in
        rw (not_short, sym spelling_is ∙ sym c ∙ t) (refl) ∙ version_right (string_version s k a fit (omega arith))

    module _ {m : Bool} (c : m ≡ (eqb k 3 && not ((rule s).spelling (part b q x)))) (t : m ≡ false) (bs : all is_byte b ≡ true)
        (fit : fits k a (rule s).rows ≡ true) {o : Bool} (eo : o ≡ wrong_version (rule s).extra a) (no : o ≡ false) where
      well_spelt : (eqb l.kind 3 && not ((rule s).spelling str)) ≡ false
      well_spelt = sym spelling_is ∙ sym c ∙ t

      order_is : not_greater (rule s).extra prev (key_of (part b p x)) ≡ not_greater (rule s).extra prev (key_bytes l str)
      order_is =
          let st = stands b p k a q e in
          let i : p + (size l + string_size l) ≡ x = omega (arith, st.next_is, en.end_is) in
          same_order (rule s).extra prev (key_of (part b p x)) (key_bytes l str)
          (λ o. sym (key_bytes_lem b p l bs st.is_got (ordered_kind s l.kind l.arg o (rw (st.kind_is, st.arg_is) fit)) en.there x i))

      pub is_unordered : {u : Bool} → u ≡ not_greater (rule s).extra prev (key_of (part b p x)) → u ≡ true → refused 11 p ≡ content_at b p s prev
      unfolding judge_content
      is_unordered d v = rw (not_short, well_spelt, sym order_is ∙ sym d ∙ v) (refl) ∙ version_right (sym eo ∙ no)

      module _ {u : Bool} (d : u ≡ not_greater (rule s).extra prev (key_of (part b p x))) (v : u ≡ false) where
        empty_is : is_empty (rule s).extra a ≡ is_empty (rule s).extra l.arg
        empty_is = rw (stands b p k a q e).arg_is

        pub is_blank : {z : Bool} → z ≡ is_empty (rule s).extra a → z ≡ true → refused 12 p ≡ content_at b p s prev
        unfolding judge_content
        is_blank w j = rw (not_short, well_spelt, sym order_is ∙ sym d ∙ v, sym empty_is ∙ sym w ∙ j) (refl) ∙ version_right (sym eo ∙ no)

        pub is_taken : {z : Bool} → z ≡ is_empty (rule s).extra a → z ≡ false → taken k a x ≡ content_at b p s prev
        unfolding judge_content
        is_taken w j =
            let st = stands b p k a q e in
            let z : p + (size l + length str) ≡ x
            = omega (arith, st.next_is, en.end_is, length-take-le (string_size l) (drop (size l) (drop p b)) en.there) in
            rw (not_short, well_spelt, sym order_is ∙ sym d ∙ v, sym empty_is ∙ sym w ∙ j, z, st.kind_is, st.arg_is) (refl) ∙ version_right (sym eo ∙ no)

-- a slot with no test of its own
pub is_plain : (b : List ℕ) (p i : ℕ) (prev : List ℕ) {k a q : ℕ} → head_at b p ≡ Good k a q → q ≤ length b → {y : Option ℕ} → y ≡ string_end b k a q
    → {x : ℕ} → y ≡ Some x → {m : Bool} → m ≡ (eqb k 3 && not ((rule (slot_of i)).spelling (part b q x))) → m ≡ false → all is_byte b ≡ true
    → fits k a (rule (slot_of i)).rows ≡ true → {o : ℕ} → o ≡ extra_of i → o ≡ 0 → taken k a x ≡ content_at b p (slot_of i) prev
is_plain b p i prev {k} {a} {q} e n g {x} f c t bs fit {o} eo z =
    is_taken b p (slot_of i) prev e n g f c t bs fit (version_other i eo (λ u. omega arith) a) refl (no_key i eo (λ u. omega arith) prev (key_of (part b p x))) refl (filled_other i eo (λ u. omega arith) a) refl

-- the tests 2 to 8
module _ (b : List ℕ) (p i : ℕ) (prev : List ℕ) (c items d : ℕ) where
  abbrev here : Result Taken Refusal
  here = step_at b p (slot_of i) prev (items - c) d

  pub stop_head : {h : Head} → h ≡ head_at b p → {r : ℕ} → h ≡ Bad r → {w : Result Taken Refusal} → w ≡ no_head h p → w ≡ here
  unfolding step_at head_at judge_got
  stop_head {h} e {r} q {w} g = rw (g, q) (go (get_head (drop p b)) (sym q ∙ e))
    where
      go : (x : Got) → Bad r ≡ answer p x → refused r p ≡ step_answer p (judge_got (items - c) d (slot_of i) prev x (drop p b))
      go (bad r') z = let y : r ≡ r' = cc in rw y
      go (got m) z = absurd (let y : ◌≡◌ {A = ℕ} 0 1 = cc in omega arith)

  module _ {h : Head} (e : h ≡ head_at b p) {k a q : ℕ} (g : h ≡ Good k a q) where
    abbrev st : Read b p k a q
    st = stands b p k a q (sym e ∙ g)

    here_is : step_answer p (judge (items - c) d (slot_of i) prev st.lead (drop (size st.lead) (drop p b))) ≡ here
    unfolding step_at judge_got
    here_is = rw st.is_got

    pub stop_items : items ≤ c → refused 5 p ≡ here
    unfolding judge
    stop_items n = let z : items - c ≡ 0 = omega arith in rw (eq-eqb (items - c) 0 z) (refl) ∙ here_is

    module _ (n : c < items) {x : Bool} (ex : x ≡ (is_container k && eqb d 0)) where
      spare : eqb (items - c) 0 ≡ false
      spare = ne_eqb (items - c) 0 (λ z. omega arith)

      deep_is : is_container st.lead.kind && eqb d 0 ≡ x
      deep_is = rw st.kind_is (sym ex)

      pub stop_deep : x ≡ true → refused 6 p ≡ here
      unfolding judge
      stop_deep t = rw (spare, deep_is ∙ t) (refl) ∙ here_is

      module _ (t : x ≡ false) {y : Bool} (ey : y ≡ fits_code i k a) where
        fits_is : fits st.lead.kind st.lead.arg (rule (slot_of i)).rows ≡ y
        fits_is = rw (st.kind_is, st.arg_is) (sym (fits_right i k a) ∙ sym ey)

        pub stop_fits : not y ≡ true → refused 7 p ≡ here
        unfolding judge
        stop_fits u = rw (spare, deep_is ∙ t, fits_is ∙ not-true y u) (refl) ∙ here_is

        module _ (u : not y ≡ false) where
          judge_content_lem : judge (items - c) d (slot_of i) prev st.lead (drop (size st.lead) (drop p b))
              ≡ cond (wrong_version (rule (slot_of i)).extra st.lead.arg) (reader.no 8) (judge_content (slot_of i) prev st.lead (drop (size st.lead) (drop p b)))
          unfolding judge
          judge_content_lem = rw (spare, deep_is ∙ t, fits_is ∙ not-false y u)

          pub goes_on : {r : Result Taken Refusal} → r ≡ content_at b p (slot_of i) prev → r ≡ here
          goes_on {r} f = f ∙ sym (content_is b p (slot_of i) prev (sym e ∙ g)) ∙ ap (step_answer p) (sym judge_content_lem) ∙ here_is

-- the key before, by its ends
pub key_at_lem : (b : List ℕ) (f t : ℕ) → f ≤ t → t ≤ length b → key_at b f t ≡ part b f t
unfolding key_at
key_at_lem b f t h g = rw (le-leb f t h, le-leb t (length b) g)

module _ (b : List ℕ) (f t : ℕ) where
  pub backwards : t < f → key_at b f t ≡ []
  unfolding key_at
  backwards h = rw (lt-leb f t h)

  pub outside : length b < t → key_at b f t ≡ []
  unfolding key_at
  outside h = go (leb f t)
    where
      go : (x : Bool) → cond (x && leb t (length b)) (part b f t) [] ≡ []
      go true = rw (lt-leb t (length b) h)
      go false = refl

  pub none_backwards : t < f → part b 0 0 ≡ key_at b f t
  none_backwards h = sym (backwards h)

  pub none_outside : length b < t → part b 0 0 ≡ key_at b f t
  none_outside h = sym (outside h)

  pub own_part : f ≤ t → t ≤ length b → part b f t ≡ key_at b f t
  own_part h g = sym (key_at_lem b f t h g)

  pub falls_as : (o : ExtraTest) (key : List ℕ) (u v : ℕ) → part b u v ≡ key_at b f t → {x : Bool} → x ≡ not_greater o (key_of (part b u v)) key → x ≡ not_greater o (key_of (key_at b f t)) key
  falls_as o key u v e g = rw e at g

pub ruleset any_key = (none_backwards, none_outside, own_part, falls_as)

-- what a head that was read has shown
module _ (b : List ℕ) (p : ℕ) {h : Head} {k a q : ℕ} (g : h ≡ Good k a q) where
  pub good_head : h ≡ head_at b p → head_at b p ≡ Good k a q
  good_head e = sym e ∙ g

pub fit_shown : (i k a : ℕ) {y : Bool} → y ≡ fits_code i k a → not y ≡ false → fits_code i k a ≡ true
fit_shown i k a {y} e u = sym e ∙ not-false y u

unread_of : (b : List ℕ) (p c items d i : ℕ) (h : Head) → Bounded b p c items d i (no_head h p)
unread_of b p c items d i (Bad r) = tt
unread_of b p c items d i (Good k a q) = tt

pub unread : (b : List ℕ) (p c items d i : ℕ) {h : Head} {r : ℕ} → h ≡ Bad r → {w : Result Taken Refusal} → w ≡ no_head h p → Bounded b p c items d i w
unread b p c items d i {h} q e = rw e (unread_of b p c items d i h)

pub content_bounded : (b : List ℕ) (p c items d i k a q : ℕ) → p < q → c < items → (is_container k && eqb d 0) ≡ false → k ≤ 9 → fits_code i k a ≡ true
    → (r : Result Taken Refusal) → ContentShown b k a q r → Bounded b p c items d i r
content_bounded b p c items d i k a q h n t kk u (Ok x) f = rw (f.0, f.1) (omega (arith, f.2), f.3, n, t, kk, u)
content_bounded b p c items d i k a q h n t kk u (Err e) f = tt

pub ruleset head_shown = (good_head, fit_shown, unread)

pub ruleset head_ways = (stop_head, stop_items, stop_deep, stop_fits, goes_on)

pub ruleset content_ways = (is_short, is_misspelt, is_versioned, is_unordered, is_blank, is_taken, is_plain, end_in, end_on, end_past, fits_slot)
