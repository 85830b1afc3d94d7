-- R64 from the heads alone: what the outermost ARI is, and the first float.
use Prim.Native.Nat.{ℕ, suc, ◌+◌, ◌-◌, ◌*◌, ◌/◌, ◌%◌, ◌^◌, ◌≤◌, ◌<◌}
use mathlib.Core.Path.{◌≡◌, refl, sym, ◌∙◌, ap}
use mathlib.Core.Bool.{Bool, true, false, not, cond}
use mathlib.Core.List.{List, [], ◌∷◌, ◌++◌, append_assoc, append-nil}
use native.Mathlib.Omega.{arith}
use lib.ListN.{length, drop, get_or, length-append, length-drop}
use mir.Syntax.{w8}
use mir.Val.{Fits}
use lib.Dec.{ltb, eqb}
use borrow.Author.Tests.{le-leb, lt-leb, ne_eqb, ltb-true, eqb-true}
use Rattle.buffer.specs.Bytes.{all, is_byte, within}
use Rattle.buffer.proofs.ByteLaws.{and-true, not-true}
use Rattle.buffer.proofs.RunLaws.{here}
use Rattle.cbor.specs.Head.{Lead, Carries, itself, after, major_of, Sound, counted, a_simple, size, lead_bytes, string_size, is_container}
use Rattle.cbor.specs.Head.{a_float as float-head}
use Rattle.cbor.specs.Answer.{head_at, Passed}
use Rattle.cbor.specs.declared.Head.{Head}
use Rattle.cbor.specs.declared.Head.TheVariants.{Bad, Good}
use Rattle.cbor.proofs.HeadLaws.{width_small, length_lead}
use Rattle.cbor.proofs.Computed.{same, same_true, all_from, all_at}
use Rattle.ari.specs.Table.{alone, ari, Level, done, due, rule, members, ari_level, reference_level}
use Rattle.ari.specs.declared.Limits.{Limits}
use Rattle.ari.specs.declared.Input.TheVariants.{Single}
use Rattle.ari.specs.Reader.{read, refuse, accept, end, push}
use Rattle.ari.specs.Items.{Items, none, item, encode, Spot, spots, inside_at}
use Rattle.ari.proofs.Well.{Well}
use Rattle.ari.specs.Decode.{decode}
use Rattle.ari.specs.Rules.{Is}
use Rattle.ari.proofs.Due.{Fit, prev_after, container_string}
use Rattle.ari.proofs.Weight.{well_fit}
use Rattle.ari.proofs.Demand.{stands_fit, demand_two}
use Rattle.std.specs.Prelude.{Option, Some, None, Result, Ok, Err}
use Rattle.ari.specs.declared.Refusal.{Refusal}
use Rattle.ari.specs.Refusals.{refused}
use Rattle.reader.specs.Results.{result_of}
use Rattle.reader.proofs.Results as results
use Rattle.reader.specs.Steps.{string_end}
use Rattle.text.specs.Text.{Form, spelled, none_at, is_float, float_in, is_set, is_relative, form, an_ari_due}
use Rattle.text.specs.Chars.{ascii}
use Rattle.text.specs.Answer.{written, write_text}
use Rattle.text.proofs.Leads.{no_string}
use Rattle.buffer.specs.Put.{Put}
use Rattle.buffer.proofs.Putting.{put_nothing, put_both}
use Rattle.text_write.specs.declared.Outer.{Outer}
use Rattle.text_write.specs.declared.Outer.TheVariants.{Set, Relative, Other}
use Rattle.text_write.specs.declared.Spelling.{Spelling}
use Rattle.text_write.specs.declared.Pos.{Pos}
use Rattle.text_write.specs.Walks.{Writes}
use Rattle.text_write.specs.Forms.{set_by, outer_as, member_by, outer_of, is_whole, Laid, float_of, FloatAt}
use Rattle.text_write.specs.Written.{spelling_by, spelling_of, scheme_of, WritesWhole}
use Rattle.text_write.proofs.Taking.{found, end_is, end_in}
use Rattle.text_write.proofs.Writing.{behind}

module _ (n a : ℕ) where
  pub set_20 : n ≡ 2 → a ≡ 20 → true ≡ set_by n a
  unfolding set_by
  set_20 e f = rw (e, f)

  pub set_21 : n ≡ 2 → (a ≡ 20 → ⊥) → eqb a 21 ≡ set_by n a
  unfolding set_by
  set_21 e f = rw (e, ne_eqb a 20 f)

  pub no_set_lem : (n ≡ 2 → ⊥) → false ≡ set_by n a
  unfolding set_by
  no_set_lem e = rw (ne_eqb n 2 e)

module _ (n : ℕ) {h : Head} where
  pub member_set : {k a q : ℕ} {x : Bool} → h ≡ Good k a q → x ≡ set_by n a → x ≡ true → Set ≡ member_by n h
  member_set e f g = rw (e, ← f, g)

  pub member_relative : {k a q : ℕ} {x : Bool} → h ≡ Good k a q → x ≡ set_by n a → x ≡ false → k ≡ 6 → Relative ≡ member_by n h
  member_relative e f g i = rw (e, ← f, g, i)

  pub member_other : {k a q : ℕ} {x : Bool} → h ≡ Good k a q → x ≡ set_by n a → x ≡ false → (k ≡ 6 → ⊥) → Other ≡ member_by n h
  member_other {k} e f g i = rw (e, ← f, g, ne_eqb k 6 i)

  pub member_bad : {r : ℕ} → h ≡ Bad r → Other ≡ member_by n h
  member_bad e = rw e

module _ (b : List ℕ) {h : Head} (e : h ≡ head_at b 0) where
  pub outer_bad : {r : ℕ} → h ≡ Bad r → Other ≡ outer_of b
  unfolding outer_of
  outer_bad q = rw (← e, q)

  module _ {k a q : ℕ} (g : h ≡ Good k a q) where
    pub outer_leaf : (k ≡ 4 → ⊥) → Other ≡ outer_of b
    unfolding outer_of
    outer_leaf n = rw (← e, g, ne_eqb k 4 n)

    pub outer_array : k ≡ 4 → {y : Head} {o : Outer} → y ≡ head_at b q → o ≡ member_by a y → o ≡ outer_of b
    unfolding outer_of
    outer_array n m u = rw (← e, g, n, ← m) u

-- what the heads show is what the tree is
always_due : (a : ℕ) → Fit none false (ari_level alone a) [] → ⊥
always_due a f = go (eqb a 2) (eqb a 1) f
  where
    go : (t u : Bool) → Fit none false (cond t (due (Rattle.ari.specs.Table.type alone) 0) (cond u (due Rattle.ari.specs.Table.namespace 0) (due (Rattle.ari.specs.Table.object_namespace (eqb a 4)) 0))) [] → ⊥
    go true u f = f
    go false true f = f
    go false false f = f

array_level : (l : Lead) → eqb l.kind 4 ≡ true → members (ari alone) l ≡ ari_level alone l.arg
unfolding members rule
array_level l e = rw e

array_container : (k : ℕ) → k ≡ 4 → is_container k ≡ true
unfolding is_container
array_container k e = rw e

outer_of_lem : (b : List ℕ) (g : Items) → Fit g false (due (ari alone) 0) [] → encode g ≡ b → outer_of b ≡ outer_as (is_set g) (is_relative g)
unfolding outer_of is_set is_relative set_by
outer_of_lem b none f e = absurd f
outer_of_lem b (item l s ms rs) f e = rw (found b 0 l (s ++ (encode ms ++ encode rs)) f.0.head (sym e)) (go ms refl (eqb l.kind 4) refl)
  where
    w : Well (item l s ms rs)
    w = well_fit (item l s ms rs) false (due (ari alone) 0) [] f

    go : (m : Items) → ms ≡ m → (t : Bool) → eqb l.kind 4 ≡ t
        → cond t (member_by l.arg (head_at b (0 + size l))) Other ≡ outer_as (is_set (item l s m rs)) (is_relative (item l s m rs))
    go none q t h = leaf t h
      where
        leaf : (t : Bool) → eqb l.kind 4 ≡ t → cond t (member_by l.arg (head_at b (0 + size l))) Other ≡ Other
        leaf true h = absurd (always_due l.arg (rw (q, array_level l h) at f.1))
        leaf false h = refl
    go (item l₁ s₁ m₁ r₁) q true h =
        let k : l.kind ≡ 4 = eqb-true l.kind 4 h in
        let z : length s ≡ 0 = f.0.sized ∙ container_string l (array_container l.kind k) in
        let z₁ : s ≡ [] = no_string s z in
        let w₁ : Well (item l₁ s₁ m₁ r₁) = rw q at w.3 in
        let c : drop 0 b ≡ lead_bytes l ++ (lead_bytes l₁ ++ ((s₁ ++ (encode m₁ ++ encode r₁)) ++ encode rs)) = sym e ∙ rw (q, z₁) (simp append_assoc) in
        let ll : length (lead_bytes l) ≡ size l = length_lead l in
        let d : drop (0 + size l) b ≡ lead_bytes l₁ ++ ((s₁ ++ (encode m₁ ++ encode r₁)) ++ encode rs) = rw (← ll) (behind b 0 (lead_bytes l) _ c) in
        rw (found b (0 + size l) l₁ ((s₁ ++ (encode m₁ ++ encode r₁)) ++ encode rs) w₁.0 d, h)
    go (item l₁ s₁ m₁ r₁) q false h = rw h

-- The first float.
pub record Onto (b : List ℕ) (p : ℕ) : Type 0 where
  pub then : {r : Option ℕ} → FloatAt b p r → FloatAt b 0 r

pub starts : (b : List ℕ) → Onto b 0
starts b = record { then = λ x. x }

long_enough : (b : List ℕ) (p : ℕ) (l : Lead) (y : List ℕ) → drop p b ≡ lead_bytes l ++ y → p < length b
long_enough b p l y e = omega (arith, simp (length-drop, length-append) at (ap length e), length_lead l)

pub over : (b : List ℕ) (p : ℕ) → Onto b p → length b ≤ p → FloatAt b 0 None
over b p o h = o.then (record { first_of = go })
  where
    go : (xs : List Spot) → Laid b p xs → None ≡ float_of (float_in xs)
    go [] l = refl
    go (x ∷ xs) l = absurd (omega (arith, long_enough b p x.lead _ l.3))

module _ (b : List ℕ) (p : ℕ) (o : Onto b p) (i : p < length b) {h : Head} (e : h ≡ head_at b p) where
  pub float_no_head : {r : ℕ} → h ≡ Bad r → FloatAt b 0 None
  float_no_head {r} q = o.then (record { first_of = go })
    where
      go : (xs : List Spot) → Laid b p xs → None ≡ float_of (float_in xs)
      go [] l = absurd (omega arith)
      go (x ∷ xs) l =
          absurd (let y = sym q ∙ e ∙ found b p x.lead _ l.1 l.3 in let z : ◌≡◌ {A = ℕ} 0 1 = cc in omega arith)

  module _ {k a n : ℕ} (q : h ≡ Good k a n) where
    kind_of : (l : Lead) (y : List ℕ) → Sound l → drop p b ≡ lead_bytes l ++ y → k ≡ l.kind
    kind_of l y s d = let z = sym q ∙ e ∙ found b p l y s d in cc

    arg_of : (l : Lead) (y : List ℕ) → Sound l → drop p b ≡ lead_bytes l ++ y → a ≡ l.arg
    arg_of l y s d = let z = sym q ∙ e ∙ found b p l y s d in cc

    next_of : (l : Lead) (y : List ℕ) → Sound l → drop p b ≡ lead_bytes l ++ y → n ≡ p + size l
    next_of l y s d = let z = sym q ∙ e ∙ found b p l y s d in cc

    pub a_float : 7 ≤ k → FloatAt b 0 (Some p)
    unfolding is_float
    a_float f = o.then (record { first_of = go })
      where
        go : (xs : List Spot) → Laid b p xs → Some p ≡ float_of (float_in xs)
        go [] l = absurd (omega arith)
        go (x ∷ xs) l =
            let g : 7 ≤ x.lead.kind = rw (← kind_of x.lead _ l.1 l.3) f in
            rw (le-leb 7 x.lead.kind g, l.0)

    ends_of : {u : Option ℕ} → u ≡ string_end b k a n → (x : Spot) (xs : List Spot) → Laid b p (x ∷ xs) → u ≡ Some (inside_at p x.lead x.str)
    ends_of m x xs l =
        m ∙ rw (kind_of x.lead _ l.1 l.3, arg_of x.lead _ l.1 l.3, next_of x.lead _ l.1 l.3) (end_is b p x.lead x.str _ l.2 l.3 (omega arith))

    pub float_short : {u : Option ℕ} → u ≡ string_end b k a n → u ≡ None → FloatAt b 0 None
    float_short {u} m s = o.then (record { first_of = go })
      where
        go : (xs : List Spot) → Laid b p xs → None ≡ float_of (float_in xs)
        go [] l = absurd (omega arith)
        go (x ∷ xs) l = absurd (let y = sym s ∙ ends_of m x xs l in let z : ◌≡◌ {A = ℕ} 0 1 = cc in omega arith)

    pub float_on : k < 7 → {u : Option ℕ} → u ≡ string_end b k a n → {j : ℕ} → u ≡ Some j → Onto b j
    unfolding is_float
    float_on f {u} m {j} s = record { then = λ r. o.then (record { first_of = go r.first_of }) }
      where
        go : {r : Option ℕ} → ((ys : List Spot) → Laid b j ys → r ≡ float_of (float_in ys)) → (xs : List Spot) → Laid b p xs → r ≡ float_of (float_in xs)
        go t [] l = absurd (omega arith)
        go t (x ∷ xs) l =
            let g : x.lead.kind < 7 = rw (← kind_of x.lead _ l.1 l.3) f in
            let y = sym s ∙ ends_of m x xs l in
            let z : j ≡ inside_at p x.lead x.str = cc in
            rw (lt-leb 7 x.lead.kind g) (t xs (rw z l.4))

    module _ (c : Passed b p h) where
      passed : (p < n) × (n ≤ length b) × (k ≤ 9)
      passed = rw q at c

      pub next_in : n ≤ length b
      next_in = passed.1

      module _ {u : Option ℕ} (m : u ≡ string_end b k a n) {j : ℕ} (s : u ≡ Some j) where
        pub string_in : j ≤ length b
        string_in = (end_in b k a n passed.1 (sym m ∙ s)).1

        pub string_on : length b - j < length b - p
        string_on = omega (arith, passed.0, (end_in b k a n passed.1 (sym m ∙ s)).0, (end_in b k a n passed.1 (sym m ∙ s)).1)

-- a byte that is a whole item: the bits are computed
abbrev bit_of : ℕ → Bool
bit_of x = eqb (0x77770077 / 2 ^ (x / 8) % 2) 1

wholes : all_from 256 0 (λ x. same (bit_of x) (is_whole x)) ≡ true
unfolding is_whole
wholes = refl

pub whole_bit : (x : ℕ) → Fits w8 x → bit_of x ≡ is_whole x
whole_bit x h = same_true _ _ (all_at 256 0 (λ x. same (bit_of x) (is_whole x)) wholes x (omega arith) (omega arith))

-- the first byte of a head
lead_first : (b : List ℕ) (p : ℕ) (l : Lead) (y : List ℕ) → drop p b ≡ lead_bytes l ++ y → get_or b p 0 ≡ major_of l.kind * 32 + l.info
unfolding lead_bytes
lead_first b p l y e = let h = long_enough b p l y e in let z = sym (here b p h) ∙ e in cc

whole_kind : (l : Lead) → Sound l → (x : ℕ) → x ≡ major_of l.kind * 32 + l.info → is_whole x ≡ true → (l.kind < 7) × (size l ≡ 1) × (string_size l ≡ 0)
unfolding is_whole major_of string_size
whole_kind l s x e w = let (u, v) = and-true (ltb (x % 32) 24) (not (within 2 3 (x / 32))) w in go s (ltb-true (x % 32) 24 u) (not-true (within 2 3 (x / 32)) v)
  where
    go : Sound l → x % 32 < 24 → within 2 3 (x / 32) ≡ false → (l.kind < 7) × (size l ≡ 1) × (string_size l ≡ 0)
    go (counted k c) u v =
        let f : x ≡ l.kind * 32 + l.info = rw (le-leb l.kind 5 k) at e in
        let i : l.info < 32 = info_small c in
        let m : x % 32 ≡ l.info = omega arith in
        let d : x / 32 ≡ l.kind = omega arith in
        (omega arith, ap suc (width_small l.info (omega arith)), rw (← d, v))
      where
        info_small : Carries l.info l.arg → l.info < 32
        info_small (itself h q) = omega arith
        info_small (after h q r) = omega arith
    go (a_simple k g h q) u v = (omega arith, ap suc (width_small l.info (omega arith)), rw k)
    go (float-head g h q r t) u v =
        let f : x ≡ 7 * 32 + l.info = rw (lt-leb l.kind 5 (omega arith)) at e in
        absurd (omega arith)

module _ (b : List ℕ) (p : ℕ) (o : Onto b p) (i : p < length b) {r : Bool} (e : r ≡ is_whole (get_or b p 0)) (w : r ≡ true) where
  pub float_past : Onto b (p + 1)
  unfolding is_float
  float_past = record { then = λ r. o.then (record { first_of = go r.first_of }) }
    where
      go : {r : Option ℕ} → ((ys : List Spot) → Laid b (p + 1) ys → r ≡ float_of (float_in ys)) → (xs : List Spot) → Laid b p xs → r ≡ float_of (float_in xs)
      go t [] l = absurd (omega arith)
      go t (x ∷ xs) l =
          let (k, z, n) = whole_kind x.lead l.1 (get_or b p 0) (lead_first b p x.lead _ l.3) (sym e ∙ w) in
          let j : inside_at p x.lead x.str ≡ p + 1 = omega (arith, z, n, l.2) in
          rw (lt-leb 7 x.lead.kind k) (t xs (rw j at l.4))

-- the items of a tree are laid so
laid : (b : List ℕ) (g : Items) (v : Level) (prev : List ℕ) (p d : ℕ) (ys : List Spot) (z : List ℕ) → Fit g false v prev → drop p b ≡ encode g ++ z
    → Laid b (p + length (encode g)) ys → Laid b p (spots g false v p d ++ ys)
laid b none done prev p d ys z f e l = let q : p + 0 ≡ p = omega arith in rw q at l
laid b none (due s n) prev p d ys z f e l = absurd f
laid b (item h str ms rs) done prev p d ys z f e l = absurd f
laid b (item h str ms rs) (due s n) prev p d ys z f e l =
    let q₀ : ℕ = inside_at p h str in
    let q₁ : ℕ = q₀ + length (encode ms) in
    let xs = spots ms false (members s h) q₀ (suc d) in
    let zs = spots rs false ((rule s).next h.arg n) q₁ d in
    let c₁ : drop p b ≡ (lead_bytes h ++ str) ++ (encode ms ++ (encode rs ++ z)) = e ∙ simp append_assoc in
    let lh : length (lead_bytes h ++ str) ≡ size h + length str = omega (arith, length-append (lead_bytes h) str, length_lead h) in
    let d₀ : drop q₀ b ≡ encode ms ++ (encode rs ++ z) = rw (← lh) (behind b p (lead_bytes h ++ str) _ c₁) in
    let d₁ : drop q₁ b ≡ encode rs ++ z = behind b q₀ (encode ms) _ d₀ in
    let t : p + length (encode (item h str ms rs)) ≡ q₁ + length (encode rs) = simp length-append (omega (arith, length_lead h)) in
    let r = laid b rs ((rule s).next h.arg n) (prev_after s prev h str) q₁ d ys z f.2 d₁ (rw t at l) in
    let m = laid b ms (members s h) [] q₀ (suc d) (zs ++ ys) (encode rs ++ z) f.1 d₀ r in
    (refl, f.0.head, f.0.sized, c₁ ∙ rw d₀ (simp append_assoc), rw (append_assoc xs zs ys) m)

float_form : (x : Form) {p : ℕ} → float_of x ≡ Some p → x ≡ none_at p
float_form spelled e = absurd (let z : ◌≡◌ {A = ℕ} 0 1 = cc in omega arith)
float_form (none_at p) e = cc

no_float_form : (x : Form) → float_of x ≡ None → x ≡ spelled
no_float_form spelled e = refl
no_float_form (none_at p) e = absurd (let z : ◌≡◌ {A = ℕ} 0 1 = cc in omega arith)

-- test 14 of an accepted ARI
module _ (m : Limits) (b : List ℕ) (n : ℕ) (i : Is m Single b (decode b) n) where
  abbrev tree : Items
  tree = decode b

  grammar : Fit tree false (due (ari alone) 0) []
  grammar = stands_fit i.stands

  outer_right : outer_of b ≡ outer_as (is_set tree) (is_relative tree)
  outer_right = outer_of_lem b tree grammar i.bytes

  all_laid : Laid b 0 (spots tree false (due (ari alone) 0) 0 0)
  all_laid =
      let l : length (encode tree) ≡ length b = ap length i.bytes in
      let e : drop 0 b ≡ encode tree ++ [] = sym i.bytes ∙ sym (append-nil (encode tree)) in
      rw append-nil at (laid b tree (due (ari alone) 0) [] 0 0 [] [] grammar e (omega arith))

  module _ (bs : all is_byte b ≡ true) {o : Outer} (e : o ≡ outer_of b) where
    outer_is : o ≡ outer_as (is_set tree) (is_relative tree)
    outer_is = e ∙ outer_right

    set_is : (x y : Bool) → outer_as x y ≡ Set → x ≡ true
    set_is true y q = refl
    set_is false true q = absurd (let z : ◌≡◌ {A = ℕ} 0 1 = cc in omega arith)
    set_is false false q = absurd (let z : ◌≡◌ {A = ℕ} 0 1 = cc in omega arith)

    pub a_set : o ≡ Set → refused 14 0 ≡ spelling_of m b
    unfolding spelling_of write_text form
    a_set s = rw ((demand_two m Single b n bs).1 i, set_is (is_set tree) (is_relative tree) (sym outer_is ∙ s))

    shown : (x y z : Bool) → outer_as x y ≡ outer_as false z → (x ≡ false) × (y ≡ z)
    shown true y true q = absurd (let z : ◌≡◌ {A = ℕ} 0 1 = cc in omega arith)
    shown true y false q = absurd (let z : ◌≡◌ {A = ℕ} 0 1 = cc in omega arith)
    shown false true true q = (refl, refl)
    shown false true false q = absurd (let z : ◌≡◌ {A = ℕ} 0 1 = cc in omega arith)
    shown false false true q = absurd (let z : ◌≡◌ {A = ℕ} 0 1 = cc in omega arith)
    shown false false false q = (refl, refl)

    -- no set
    module _ (x : Bool) (s : o ≡ outer_as false x) {f : Option ℕ} (c : FloatAt b 0 f) where
      plain : (is_set tree ≡ false) × (is_relative tree ≡ x)
      plain = shown (is_set tree) (is_relative tree) x (sym outer_is ∙ s)

      pub has_float : {p : ℕ} → f ≡ Some p → refused 14 p ≡ spelling_of m b
      unfolding spelling_of write_text form
      has_float q =
          let t = float_form (float_in (spots tree false (due (ari alone) 0) 0 0)) (sym (c.first_of (spots tree false (due (ari alone) 0) 0 0) all_laid) ∙ q) in
          rw ((demand_two m Single b n bs).1 i, plain.0, t)

      pub has_form : f ≡ None → Ok (record { relative = x; count = n }) ≡ spelling_of m b
      unfolding spelling_of write_text form
      has_form q =
          let t = no_float_form (float_in (spots tree false (due (ari alone) 0) 0 0)) (sym (c.first_of (spots tree false (due (ari alone) 0) 0 0) all_laid) ∙ q) in
          rw ((demand_two m Single b n bs).1 i, plain.0, t, plain.1)

-- the reading's answer
module _ (m : Limits) (b : List ℕ) {a : Result ℕ Refusal} (e : a ≡ result_of (read m Single b)) where
  pub is_accepted : {n : ℕ} → all is_byte b ≡ true → a ≡ Ok n → Is m Single b (decode b) n
  is_accepted {n} bs q = (demand_two m Single b n bs).0 (results.is_accepted m Single b e q)

  pub is_refused : {f : Refusal} → a ≡ Err f → Err f ≡ spelling_of m b
  unfolding spelling_of write_text
  is_refused q = results.is_refused m Single b e q (λ x. spelling_by (is_relative (decode b)) (written x (decode b))) (λ r p. refl)

-- the whole text
pub scheme_none : (room : List ℕ) (x : Bool) → x ≡ true → Put room room 0 0 (scheme_of x)
scheme_none room x e = rw e (put_nothing room 0)

pub scheme_put : {a b : List ℕ} {r : ℕ} (x : Bool) → x ≡ false → Put a b 0 r (ascii "ari:") → Put a b 0 r (scheme_of x)
scheme_put x e p = rw e p

pub whole : (b : List ℕ) (d : ℕ) (x : Bool) {r : ℕ} {room room₁ room₂ : List ℕ} {w : Pos} → Put room room₁ 0 r (scheme_of x) → Writes b an_ari_due d 0 r w room₁ room₂
    → WritesWhole b d x w.end room room₂
whole b d x p s = record { text_of_lem = λ g f e. put_both p (s.text_of_lem g [] [] f (sym e ∙ sym (append-nil (encode g)))).1 }

pub ruleset forming = (set_20, set_21, no_set_lem, member_set, member_relative, member_other, member_bad, outer_bad, outer_leaf, outer_array, starts, over, whole_bit, float_past, float_no_head, a_float, float_short, float_on, next_in, string_in, string_on, a_set, has_float, has_form, is_accepted, is_refused, scheme_none, scheme_put, whole)
