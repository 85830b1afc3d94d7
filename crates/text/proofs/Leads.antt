-- The heads of an accepted ARI, by the rules that they stand by: literals, names, types.
use Prim.Native.Nat.{ℕ, ◌≤◌}
use mathlib.Core.Path.{◌≡◌, refl, sym, ◌∙◌, ap}
use mathlib.Core.Bool.{Bool, true, false, not, ◌&&◌, ◌||◌, cond, true≢false}
use mathlib.Core.List.{List, [], ◌∷◌}
use native.Mathlib.Omega.{arith}
use lib.ListN.{length}
use lib.Dec.{leb, eqb}
use borrow.Author.Tests.{leb-true, leb-false, eqb-true, eqb-false, le-leb, lt-leb}
use Rattle.buffer.specs.Bytes.{within, all, is_byte}
use Rattle.cbor.specs.Head.{unsigned, negative, bytes, text, map, simple, Lead, shortest, Sound, counted, a_simple, a_float, string_size, is_container, lead_of}
use mathlib.Core.Logic.{◌⊎◌, inl, inr}
use Rattle.buffer.proofs.ByteLaws.{and-true, or-true, not-true, not-false}
use Rattle.cbor.proofs.HeadLaws.{sound_64}
use Rattle.ari.specs.Name.{identifier, namespace_name}
use Rattle.ari.specs.Table.{Place, alone, message, inside, param, max63, outermost, Row, row, uint_to, nint_to, any_text, is_null, Entry, entry_of, types, type_rows, value_rows, value_spelling, fits}
use Rattle.ari.specs.Shortened.{short_lead}
use Rattle.ari.specs.Items.{Items}
use Rattle.ari.specs.Decode.{Headed}
use Rattle.ari.specs.Rules.{Plain, Namespace, NamespaceOrNull, ObjectType, ObjectId}
use Rattle.ari.proofs.Rows.{every, FitsBy, fits_by, one_kind, every_entry}
use Rattle.text.specs.Text.{names, type_name, is_float}
use Rattle.text.specs.Chars.{literal_text, name_text}
use Rattle.text.specs.Parse.{ends, in_word, starts_by, head_of, literal_of, starts_number, name_of, value_of, type_number}
use Rattle.text.proofs.Words.{avoid, starts_weaken, Integer, plus, minus, Literal, whole, octets, chars, no_value, yes_value, null_value, undefined_value, literal_word, starts_literal, literal_starts, literal_back, Named, numbered, lettered, named_word, named_starts, named_back}

-- a head is read back in its shortest form
pub lead_is : {l : Lead} → Sound l → is_float l ≡ false → lead_of l.kind l.arg ≡ short_lead l
unfolding lead_of is_float
lead_is {l} (counted h c) f = rw (le-leb l.kind map h)
lead_is {l} (a_simple z g h e) f =
    let i : cond (leb l.kind map) (shortest l.arg) l.arg ≡ l.info = rw (lt-leb l.kind map (omega arith)) (sym e) in
    let q : record { info = cond (leb l.kind map) (shortest l.arg) l.arg; kind = l.kind; arg = l.arg } ≡ l = λ j. record { info = i j; kind = l.kind; arg = l.arg } in
    q ∙ rw (lt-leb l.kind map (omega arith))
lead_is {l} (a_float h g e b n) f = absurd (omega (arith, leb-false 7 l.kind f))

pub head_is : {l : Lead} (s : List ℕ) → Sound l → is_float l ≡ false → head_of l.kind l.arg s ≡ record { lead = short_lead l; str = s }
head_is s h f = ap (λ (l : Lead). record { lead = l; str = s }) (lead_is h f)

pub no_string : (s : List ℕ) → length s ≡ 0 → s ≡ []
no_string [] e = refl
no_string (x ∷ s) e = absurd (omega arith)

-- rows whose negative numbers end at -2^63
abbrev nint_row : Row → Bool
nint_row (row k lo hi) = cond (eqb k negative) (leb hi max63) true

nint_most : (k a : ℕ) (rs : List Row) → every nint_row rs ≡ true → fits k a rs ≡ true → k ≡ negative → a ≤ max63
nint_most k a rs n e z =
    let f = fits_by nint_row negative a rs n (rw z at e) in
    omega (arith, leb-true f.hi max63 f.holds, f.high)

simple_case : (a : ℕ) → 20 ≤ a → a ≤ 23 → Literal simple a []
simple_case a l h = go (eqb a 20) refl (eqb a 21) refl (eqb a 22) refl
  where
    go : (t : Bool) → eqb a 20 ≡ t → (u : Bool) → eqb a 21 ≡ u → (v : Bool) → eqb a 22 ≡ v → Literal simple a []
    go true e u f v g = rw (eqb-true a 20 e) no_value
    go false e true f v g = rw (eqb-true a 21 f) yes_value
    go false e false f true g = rw (eqb-true a 22 g) null_value
    go false e false f false g =
        let p : a ≡ 20 → ⊥ = eqb-false a 20 e in
        let q : a ≡ 21 → ⊥ = eqb-false a 21 f in
        let r : a ≡ 22 → ⊥ = eqb-false a 22 g in
        let z : a ≡ 23 = omega arith in
        rw z undefined_value

-- an item without members: its string's length, by its kind
pub sized_as : {rs : List Row} {spelled : List ℕ → Bool} {l : Lead} {s : List ℕ} {ms : Items} → Plain rs spelled l s ms
    → (k : ℕ) → l.kind ≡ k → length s ≡ cond (within bytes text k) l.arg 0
unfolding string_size
sized_as p k z = p.sized ∙ rw z

module _ {rs : List Row} {spelled : List ℕ → Bool} {l : Lead} {s : List ℕ} {ms : Items} (p : Plain rs spelled l s ms) (n : every nint_row rs ≡ true) where
  number_case : l.kind ≤ negative → Integer l.kind l.arg × (s ≡ [])
  number_case b = go (eqb l.kind 0) refl
    where
      go : (t : Bool) → eqb l.kind 0 ≡ t → Integer l.kind l.arg × (s ≡ [])
      go true e = let z : l.kind ≡ 0 = eqb-true l.kind 0 e in (rw z (plus {a = l.arg} (omega (arith, sound_64 p.head))), no_string s (sized_as p 0 z))
      go false e =
          let o : l.kind ≡ 0 → ⊥ = eqb-false l.kind 0 e in
          let z : l.kind ≡ 1 = omega arith in
          (rw z (minus (nint_most l.kind l.arg rs n p.fitting z)), no_string s (sized_as p 1 z))

  -- a literal
  counted_case : is_container l.kind ≡ false → l.kind ≤ map → Literal l.kind l.arg s
  unfolding is_container
  counted_case c h = go (leb l.kind 1) refl (eqb l.kind 2) refl
    where
      go : (t : Bool) → leb l.kind 1 ≡ t → (u : Bool) → eqb l.kind 2 ≡ u → Literal l.kind l.arg s
      go true e u f = let (i, z) = number_case (leb-true l.kind 1 e) in rw z (whole i)
      go false e true f = let z : l.kind ≡ 2 = eqb-true l.kind 2 f in rw z (octets (sized_as p 2 z))
      go false e false f =
          let o : l.kind ≡ 2 → ⊥ = eqb-false l.kind 2 f in
          let a : l.kind ≡ 4 → ⊥ = λ z. true≢false (rw z at c) in
          let b : l.kind ≡ 5 → ⊥ = λ z. true≢false (rw z at c) in
          let z : l.kind ≡ 3 = omega (arith, leb-false l.kind 1 e) in
          rw z (chars (sized_as p 3 z))

  pub literal_case : is_container l.kind ≡ false → is_float l ≡ false → Literal l.kind l.arg s
  unfolding is_float
  literal_case c f = go p.head
    where
      go : Sound l → Literal l.kind l.arg s
      go (counted h d) = counted_case c h
      go (a_simple z g h e) = rw (z, no_string s (sized_as p simple z)) (simple_case l.arg g h)
      go (a_float h g e b x) = absurd (omega (arith, leb-false 7 l.kind f))

  -- a name or a number
  name_case : (is_text : l.kind ≡ text → namespace_name s ≡ true) → (leb l.kind 1 || eqb l.kind 3) ≡ true → Named l.kind l.arg s
  name_case f e = go (or-true (leb l.kind 1) (eqb l.kind 3) e)
    where
      go : (leb l.kind 1 ≡ true) ⊎ (eqb l.kind 3 ≡ true) → Named l.kind l.arg s
      go (inl h) = let (i, z) = number_case (leb-true l.kind 1 h) in rw z (numbered i)
      go (inr h) = let z : l.kind ≡ 3 = eqb-true l.kind 3 h in rw z (lettered (f z) (sized_as p 3 z))

-- a text string is spelled so
as_spelled : (k : ℕ) (t : Bool) → (eqb k text && not t) ≡ false → k ≡ text → t ≡ true
as_spelled k t e z = not-false t (rw z at e)

identifier_name : (s : List ℕ) → identifier s ≡ true → namespace_name s ≡ true
unfolding namespace_name identifier
identifier_name [] e = e
identifier_name (x ∷ s) e = rw e

abbrev name_row : Row → Bool
name_row (row k lo hi) = leb k 1 || eqb k 3

module _ {l : Lead} {s : List ℕ} {ms : Items} where
  pub namespace_named : Namespace l s ms → Named l.kind l.arg s
  namespace_named p =
      name_case p refl (as_spelled l.kind (namespace_name s) p.spelling)
      (fits_by name_row l.kind l.arg (uint_to max63 ∷ nint_to max63 ∷ any_text ∷ []) refl p.fitting).holds

  pub type_named : ObjectType l s ms → Named l.kind l.arg s
  type_named p =
      name_case p refl (λ z. identifier_name s (as_spelled l.kind (identifier s) p.spelling z))
      (fits_by name_row l.kind l.arg (nint_to 255 ∷ any_text ∷ []) refl p.fitting).holds

  pub id_named : ObjectId l s ms → Named l.kind l.arg s
  id_named p =
      name_case p refl (λ z. identifier_name s (as_spelled l.kind (identifier s) p.spelling z))
      (fits_by name_row l.kind l.arg (uint_to max63 ∷ any_text ∷ []) refl p.fitting).holds

-- the namespace of an object reference
pub data Space (l : Lead) (s : List ℕ) : Type 0 where
  relative : l.kind ≡ simple → l.arg ≡ 22 → s ≡ [] → Space l s
  absolute : eqb l.kind simple ≡ false → Named l.kind l.arg s → Space l s

abbrev space_row : Row → Bool
space_row (row k lo hi) = cond (eqb k simple) (eqb lo 22 && eqb hi 22) (leb k 1 || eqb k 3)

pub space_case : {l : Lead} {s : List ℕ} {ms : Items} → NamespaceOrNull l s ms → Space l s
space_case {l} {s} p = go (eqb l.kind simple) refl f.holds
  where
    rows : List Row
    rows = uint_to max63 ∷ nint_to max63 ∷ any_text ∷ is_null ∷ []

    f : FitsBy space_row l.kind l.arg
    f = fits_by space_row l.kind l.arg rows refl p.fitting

    go : (t : Bool) → eqb l.kind simple ≡ t → cond t (eqb f.lo 22 && eqb f.hi 22) (leb l.kind 1 || eqb l.kind 3) ≡ true → Space l s
    go true e h =
        let z : l.kind ≡ simple = eqb-true l.kind simple e in
        let (x, y) = and-true (eqb f.lo 22) (eqb f.hi 22) h in
        let a : l.arg ≡ 22 = omega (arith, eqb-true f.lo 22 x, eqb-true f.hi 22 y, f.low, f.high) in
        relative z a (no_string s (sized_as p simple z))
    go false e h = absolute e (name_case p refl (as_spelled l.kind (namespace_name s) p.spelling) h)

-- A word that is read back as a head with its string.
pub record Word (f : List ℕ → Headed) (u : List ℕ) (l : Lead) (s : List ℕ) : Type 0 where
  pub letters : all in_word u ≡ true
  pub begins : starts_by in_word u ≡ true
  pub back : f u ≡ record { lead = short_lead l; str = s }

pub literal_in_word : (x : ℕ) → starts_literal x ≡ true → in_word x ≡ true
unfolding starts_literal starts_number
literal_in_word = avoid starts_literal refl refl refl refl refl

pub literal_spelled : {l : Lead} {s : List ℕ} → Literal l.kind l.arg s → Sound l → is_float l ≡ false → all is_byte s ≡ true → Word literal_of (literal_text l s) l s
literal_spelled {l} {s} n h f b = record {
  letters = literal_word l.info n b;
  begins = starts_weaken starts_literal in_word literal_in_word (literal_text l s) (literal_starts l.info n);
  back = literal_back l.info n b ∙ head_is s h f;
}

pub name_spelled : {l : Lead} {s : List ℕ} → Named l.kind l.arg s → Sound l → is_float l ≡ false → Word name_of (name_text l s) l s
name_spelled {l} {s} n h f = record { letters = named_word l.info n; begins = named_starts l.info n; back = named_back l.info n ∙ head_is s h f }

-- the types that may stand at a place, by number and name
pub record TypeWord (t : ℕ) : Type 0 where
  pub letters : all in_word (type_name t) ≡ true
  pub begins : starts_by in_word (type_name t) ≡ true
  pub known : type_number (type_name t) ≡ t

type_good : ℕ → Bool
type_good t = all in_word (type_name t) && (starts_by in_word (type_name t) && eqb (type_number (type_name t)) t)

abbrev type_row : Row → Bool
type_row (row k lo hi) = eqb k unsigned && (eqb lo hi && type_good lo)

type_rows_lem : (w : Place) → every type_row (type_rows w types) ≡ true
unfolding type_good types names type_name type_number in_word ends starts_by
type_rows_lem alone = refl
type_rows_lem message = refl
type_rows_lem inside = refl
type_rows_lem param = refl

pub type_word : (w : Place) (k t : ℕ) → fits k t (type_rows w types) ≡ true → (k ≡ unsigned) × TypeWord t
unfolding type_good
type_word w k t e =
    let f = fits_by type_row k t (type_rows w types) (type_rows_lem w) e in
    let (x, y) = and-true (eqb k unsigned) (eqb f.lo f.hi && type_good f.lo) f.holds in
    let (p, q) = and-true (eqb f.lo f.hi) (type_good f.lo) y in
    let z : f.lo ≡ t = omega (arith, eqb-true f.lo f.hi p, f.low, f.high) in
    let g : type_good t ≡ true = rw z at q in
    let (a, r) = and-true (all in_word (type_name t)) (starts_by in_word (type_name t) && eqb (type_number (type_name t)) t) g in
    let (b, c) = and-true (starts_by in_word (type_name t)) (eqb (type_number (type_name t)) t) r in
    (eqb-true k unsigned x, record { letters = a; begins = b; known = eqb-true (type_number (type_name t)) t c })

-- below the outermost, no type is that of a set
abbrev pub is_set_type : ℕ → Bool
is_set_type t = eqb t 20 || eqb t 21

unset_row : Row → Bool
unset_row (row k lo hi) = eqb lo hi && not (is_set_type lo)

pub type_unset : (w : Place) (k t : ℕ) → outermost w ≡ false → fits k t (type_rows w types) ≡ true → is_set_type t ≡ false
unfolding unset_row
type_unset w k t o e =
    let f = fits_by unset_row k t (type_rows w types) (table w o) e in
    let (p, q) = and-true (eqb f.lo f.hi) (not (is_set_type f.lo)) f.holds in
    let z : f.lo ≡ t = omega (arith, eqb-true f.lo f.hi p, f.low, f.high) in
    not-true (is_set_type t) (rw z at q)
  where
    table : (w : Place) → outermost w ≡ false → every unset_row (type_rows w types) ≡ true
    table alone o = absurd (true≢false o)
    table message o = absurd (true≢false o)
    table inside o = unfold types unset_row in refl
    table param o = unfold types unset_row in refl

-- the value of a type, where it is no group
every_value : (q : Row → Bool) (t : ℕ) (es : List Entry) → every_entry (λ n. q) es ≡ true → every q (value_rows t es) ≡ true
every_value q t [] e = refl
every_value q t (entry_of m p rs ∷ es) e =
    let (x, y) = and-true (every q rs) (every_entry (λ n. q) es) e in
    go (eqb t m) x (every_value q t es y)
  where
    go : (b : Bool) → every q rs ≡ true → every q (value_rows t es) ≡ true → every q (cond b rs (value_rows t es)) ≡ true
    go true x y = x
    go false x y = y

text_name : (l : Lead) (s : List ℕ) → l.kind ≡ text → name_text l s ≡ s
unfolding name_text
text_name l s z = rw z

abbrev pub value_text : ℕ → Lead → List ℕ → List ℕ
value_text t l s = cond (eqb t 14) s (literal_text l s)

pub value_spelled : (t : ℕ) {l : Lead} {s : List ℕ} {ms : Items} → Plain (value_rows t types) (value_spelling t) l s ms
    → is_container l.kind ≡ false → is_float l ≡ false → all is_byte s ≡ true → Word (value_of t) (value_text t l s) l s
value_spelled t {l} {s} {ms} p c f b = go (eqb t 14) refl
  where
    label : Plain (value_rows 14 types) (value_spelling 14) l s ms → Word name_of s l s
    label q =
        let z : l.kind ≡ text = unfold types in one_kind text l.kind l.arg (value_rows 14 types) refl q.fitting in
        let n : namespace_name s ≡ true = identifier_name s (as_spelled l.kind (identifier s) q.spelling z) in
        rw (text_name l s z) at (name_spelled (name_case q (unfold types in refl) (λ x. n) (rw z)) q.head f)

    go : (x : Bool) → eqb t 14 ≡ x → Word (λ u. cond x (name_of u) (literal_of u)) (cond x s (literal_text l s)) l s
    go true e = let z : t ≡ 14 = eqb-true t 14 e in label (rw z at p)
    go false e = literal_spelled (literal_case p (unfold types in every_value nint_row t types refl) c f) p.head f b
