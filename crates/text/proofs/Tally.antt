-- Members are counted ahead: the commas of a level's text, and of what stands in parentheses none.
use Prim.Native.Nat.{ℕ, zero, suc, ◌+◌}
use mathlib.Core.Path.{◌≡◌, refl, ◌∙◌, ap}
use mathlib.Core.Bool.{Bool, true, false, not, ◌&&◌, ◌||◌, cond}
use mathlib.Core.List.{List, [], ◌∷◌, ◌++◌, append_assoc}
use native.Mathlib.Omega.{arith}
use lib.Dec.{eqb}
use borrow.Author.Tests.{ne_eqb}
use Rattle.buffer.specs.Bytes.{all, is_byte}
use Rattle.cbor.specs.Head.{array, map, simple, Lead, is_container}
use Rattle.buffer.proofs.ByteLaws.{and-true}
use Rattle.ari.specs.Table.{ExtraTest, one, rising, filled, Place, Slot, ari, type, value, namespace, object_namespace, object_type, object_id, key, Level, done, due, many, ari_level, rule, members}
use Rattle.ari.specs.Items.{Items, none, item}
use Rattle.ari.specs.Rules.{Ari}
use Rattle.ari.proofs.Due.{Fit, prev_after, members_leaf}
use Rattle.ari.proofs.RulesFit.{Here}
use Rattle.ari.proofs.FitRules.{here}
use Rattle.text.specs.Chars.{literal_text, name_text}
use Rattle.text.specs.Text.{comma, an_ari, absolute, spell, texts, type_name, is_float}
use Rattle.text.specs.Parse.{ends, in_word, opened, commas}
use Rattle.text.proofs.Words.{differs, all_weaken, literal_word, named_word}
use Rattle.text.proofs.Leads.{Space, relative, absolute as from, value_text}
use Rattle.text.proofs.Slots.{literal_here, ari_here, entry_here, space_here, type_here, namespace_here, object_type_here, object_id_here, key_here, value_here}
use Rattle.text.proofs.Below.{Spells, Below, single_ari, a_type, a_value, a_namespace, an_object_namespace, an_object_type, an_object_id, some_params, a_key, an_entry, BelowLevel, next_below, members_below}

-- neither a comma nor a parenthesis
unfoldable pub calm : ℕ → Bool
calm x = not (eqb x 40) && (not (eqb x 41) && not (eqb x 44))

pub word_calm : (u : List ℕ) → all in_word u ≡ true → all calm u ≡ true
unfolding in_word ends calm
word_calm = all_weaken in_word calm (λ x h. rw (differs in_word 40 refl x h, differs in_word 41 refl x h, differs in_word 44 refl x h))

quiet : (u : List ℕ) → all calm u ≡ true → (e : ℕ) (r : List ℕ) → commas (suc e) (u ++ r) ≡ commas (suc e) r
unfolding commas opened calm
quiet [] h e r = refl
quiet (x ∷ u) h e r =
    let (p, q) = and-true (calm x) (all calm u) h in
    rw (differs calm 40 refl x p, differs calm 41 refl x p, differs calm 44 refl x p) (omega (arith, quiet u q e r))

-- behind the parentheses nothing is counted
behind : (t : List ℕ) → commas 0 t ≡ 0
unfolding commas opened
behind [] = refl
behind (x ∷ t) = go (eqb x 44) (behind t)
  where
    go : (b : Bool) → commas 0 t ≡ 0 → cond (b && eqb 0 1) 1 0 + commas 0 t ≡ 0
    go true ih = omega arith
    go false ih = omega arith

pub commas_end : (r : List ℕ) → commas 1 (41 ∷ r) ≡ 0
unfolding commas opened
commas_end r = omega (arith, behind r)

-- the commas of a level: between ARIs, and between pairs
abbrev is_rising : ExtraTest → Bool
is_rising ExtraTest.none = false
is_rising one = false
is_rising rising = true
is_rising filled = false

abbrev pub commas_due : Level → ℕ
commas_due done = 0
commas_due (due s n) = cond ((rule s).takes_reference || is_rising (rule s).extra) n 0

-- counted where no other parenthesis is open
abbrev pub at_first : ℕ → ℕ → ℕ
at_first e n = cond (eqb e 0) n 0

-- A head whose text has no parentheses, and what comes of it.
record Calm (t : Slot) (n : ℕ) (l : Lead) (s : List ℕ) : Type 0 where
  start : all calm ((spell t).before l s) ≡ true
  inner : commas_due (members t l) ≡ 0
  finish : (e : ℕ) (x : List ℕ)
      → commas (suc e) ((spell t).after l ((rule t).next l.arg n) ++ x) + at_first e (commas_due ((rule t).next l.arg n))
      ≡ at_first e (commas_due (due t n)) + commas (suc e) x

-- A group.
record Group (t : Slot) (n : ℕ) (l : Lead) (s : List ℕ) : Type 0 where
  start : (spell t).before l s ≡ 40 ∷ []
  finish : (spell t).after l ((rule t).next l.arg n) ≡ 41 ∷ []
  last : (rule t).next l.arg n ≡ done
  own : commas_due (due t n) ≡ 0

data Sign (t : Slot) (n : ℕ) (l : Lead) (s : List ℕ) : Type 0 where
  a_calm : Calm t n l s → Sign t n l s
  a_group : Group t n l s → Sign t n l s

-- a comma, where more is due
comma_counts : (s : Slot) → ((m : ℕ) → commas_due (due s m) ≡ m) → (n e : ℕ) (x : List ℕ)
    → commas (suc e) (comma (many s n) ++ x) + at_first e (commas_due (many s n)) ≡ at_first e n + commas (suc e) x
unfolding commas opened
comma_counts s f zero e x = go (eqb e 0)
  where
    go : (b : Bool) → commas (suc e) x + cond b 0 0 ≡ cond b 0 0 + commas (suc e) x
    go true = omega arith
    go false = omega arith
comma_counts s f (suc n) zero x = omega (arith, f n)
comma_counts s f (suc n) (suc e) x = rw (ne_eqb (suc (suc e)) 1 (λ q. omega arith), ne_eqb (suc e) 0 (λ q. omega arith)) (omega arith)

calm_finish : (u : List ℕ) → all calm u ≡ true → (n e : ℕ) (x : List ℕ) → commas (suc e) (u ++ x) + at_first e n ≡ at_first e n + commas (suc e) x
calm_finish u h n e x = rw (quiet u h e x) (omega arith)

flat_ari : (w : Place) (t u : Bool) (a : ℕ) → commas_due (cond t (ari_level w a) (cond u done done)) ≡ 0
unfolding rule
flat_ari w true u a = go (eqb a 2) (eqb a 1)
  where
    go : (x y : Bool) → commas_due (cond x (due (type w) 0) (cond y (due namespace 0) (due (object_namespace (eqb a 4)) 0))) ≡ 0
    go true y = refl
    go false true = refl
    go false false = refl
flat_ari w false true a = refl
flat_ari w false false a = refl

ari_calm : {w : Place} {l : Lead} {s : List ℕ} {ms : Items} → Ari w l s ms → is_float l ≡ false → all is_byte s ≡ true → all calm (an_ari.before l s) ≡ true
ari_calm {l = l} {s = s} a f b = go (eqb l.kind array) refl
  where
    slash : (t : Bool) → all calm (cond t (47 ∷ []) []) ≡ true
    slash true = unfold calm in refl
    slash false = refl

    go : (t : Bool) → eqb l.kind array ≡ t → all calm (cond t (cond (eqb l.arg 2) (47 ∷ []) []) (literal_text l s)) ≡ true
    go true e = slash (eqb l.arg 2)
    go false e = word_calm (literal_text l s) (literal_word l.info (literal_here a e f b).0 b)

-- "//" before a name
absolute_calm : (l : Lead) (s : List ℕ) → all in_word (name_text l s) ≡ true → all calm (absolute l s) ≡ true
absolute_calm l s h = rw (word_calm (name_text l s) h) (unfold calm in refl)

space_calm : {l : Lead} {s : List ℕ} → Space l s → all calm (cond (eqb l.kind simple) (46 ∷ []) (absolute l s)) ≡ true
space_calm (relative k a e) = rw k (unfold calm in refl)
space_calm {l} {s} (from n m) = rw n (absolute_calm l s (named_word l.info m))

-- a word: no members, and no comma behind it
a_word : (t : Slot) (n : ℕ) (l : Lead) (s : List ℕ) → all calm ((spell t).before l s) ≡ true → commas_due (members t l) ≡ 0
    → all calm ((spell t).after l ((rule t).next l.arg n)) ≡ true → commas_due ((rule t).next l.arg n) ≡ commas_due (due t n) → Sign t n l s
a_word t n l s x y u e =
    a_calm (record { start = x; inner = y; finish = λ i z. rw e (calm_finish ((spell t).after l ((rule t).next l.arg n)) u (commas_due (due t n)) i z) })

no_members : (l : Lead) → commas_due (cond (eqb l.kind array) done (cond (eqb l.kind map) done done)) ≡ 0
no_members l = go (eqb l.kind array) (eqb l.kind map)
  where
    go : (t u : Bool) → commas_due (cond t done (cond u done done)) ≡ 0
    go true u = refl
    go false true = refl
    go false false = refl

module _ (n : ℕ) {prev : List ℕ} {l : Lead} {s : List ℕ} {ms : Items} (f : is_float l ≡ false) (b : all is_byte s ≡ true) where
  sign : {t : Slot} → Here t prev l s ms → Below t → Sign t n l s
  unfolding rule spell members calm
  sign h (single_ari {w = w} o) =
      a_calm
      (record { start = ari_calm (ari_here h) f b; inner = flat_ari w (eqb l.kind array) (eqb l.kind map) l.arg; finish = comma_counts (ari w) (λ m. refl) n })
  sign h (a_type {w = w} o) = a_word (type w) n l s (word_calm (type_name l.arg) (type_here f h).0.letters) (no_members l) refl refl
  sign h (a_value {t = t} {w = w} u o) = go (is_container l.kind) refl
    where
      go : (c : Bool) → is_container l.kind ≡ c → Sign (value t w) n l s
      go true c = a_group (record { start = rw c; finish = rw c; last = refl; own = refl })
      go false c = a_word (value t w) n l s (rw c (word_calm (value_text t l s) (value_here f c b h).0.letters)) (rw (members_leaf (value t w) l c)) (rw c) refl
  sign h a_namespace = a_word namespace n l s (absolute_calm l s (namespace_here f h).0.letters) (no_members l) refl refl
  sign h (an_object_namespace {p = p}) = a_word (object_namespace p) n l s (space_calm (space_here h).0) (no_members l) refl refl
  sign h (an_object_type {p = p}) = a_word (object_type p) n l s (word_calm (name_text l s) (object_type_here f h).0.letters) (no_members l) refl refl
  sign h (an_object_id {p = true}) = a_word (object_id true) n l s (word_calm (name_text l s) (object_id_here f h).0.letters) (no_members l) refl refl
  sign h (an_object_id {p = false}) = a_word (object_id false) n l s (word_calm (name_text l s) (object_id_here f h).0.letters) (no_members l) refl refl
  sign h some_params = a_group (record { start = refl; finish = refl; last = refl; own = refl })
  sign h (a_key {w = w} o) = a_word (key w) n l s (word_calm (literal_text l s) (key_here f b h).0.letters) (no_members l) refl refl
  sign h (an_entry {w = w} o) =
      a_calm
      (record { start = ari_calm (entry_here h) f b; inner = flat_ari w (eqb l.kind array) (eqb l.kind map) l.arg; finish = comma_counts (key w) (λ m. refl) n })

none_first : (e : ℕ) → at_first e 0 ≡ 0
none_first e = go (eqb e 0)
  where
    go : (t : Bool) → ◌≡◌ {A = ℕ} (cond t 0 0) 0
    go true = refl
    go false = refl

later : (e n : ℕ) → at_first (suc e) n ≡ 0
later e n = rw (ne_eqb (suc e) 0 (λ q. omega arith))

group_start : (e : ℕ) (x : List ℕ) → commas (suc e) (40 ∷ x) ≡ commas (suc (suc e)) x
unfolding commas opened
group_start e x = omega arith

group_end : (e : ℕ) (x : List ℕ) → commas (suc (suc e)) (41 ∷ x) ≡ commas (suc e) x
unfolding commas opened
group_end e x = omega arith

-- an item's text, from the left, with what stands behind it
module _ (l : Lead) (s : List ℕ) (ms rs : Items) (t : Slot) (n : ℕ) (r : List ℕ) where
  pub layout : texts (item l s ms rs) (due t n) ++ r
      ≡ (spell t).before l s ++ (texts ms (members t l) ++ ((spell t).after l ((rule t).next l.arg n) ++ (texts rs ((rule t).next l.arg n) ++ r)))
  layout = simp append_assoc

pub tallied : (g : Items) (v : Level) (prev : List ℕ) → Fit g false v prev → Spells g → BelowLevel v → (e : ℕ) (r : List ℕ)
    → commas (suc e) (texts g v ++ r) ≡ at_first e (commas_due v) + commas (suc e) r
tallied none done prev f q h e r = omega (arith, none_first e)
tallied none (due t n) prev f q h e r = absurd f
tallied (item l s ms rs) done prev f q h e r = absurd f
tallied (item l s ms rs) (due t n) prev f q h e r =
    ap (commas (suc e)) (layout l s ms rs t n r)
    ∙ go (sign n q.0 q.1 (here {ms = ms} f.0 f.1) h) (tallied ms (members t l) [] f.1 q.2 (members_below l h))
    (tallied rs v (prev_after t prev l s) f.2 q.3 (next_below l.kind l.arg n f.0.fitting h) e r)
  where
    v : Level
    v = (rule t).next l.arg n

    a : List ℕ
    a = texts ms (members t l)

    y : List ℕ
    y = texts rs v ++ r

    go : Sign t n l s → ((e : ℕ) (x : List ℕ) → commas (suc e) (a ++ x) ≡ at_first e (commas_due (members t l)) + commas (suc e) x)
        → commas (suc e) y ≡ at_first e (commas_due v) + commas (suc e) r
        → commas (suc e) ((spell t).before l s ++ (a ++ ((spell t).after l v ++ y))) ≡ at_first e (commas_due (due t n)) + commas (suc e) r
    go (a_calm c) i j =
        quiet ((spell t).before l s) c.start e (a ++ ((spell t).after l v ++ y))
        ∙ i e ((spell t).after l v ++ y)
        ∙ rw c.inner (omega (arith, none_first e, c.finish e y))
    go (a_group c) i j =
        let z : at_first e (commas_due v) ≡ 0 = ap (λ (u : Level). at_first e (commas_due u)) c.last ∙ none_first e in
        rw (c.start, c.finish, c.own, none_first e)
        (group_start e (a ++ (41 ∷ y)) ∙ i (suc e) (41 ∷ y) ∙ omega (arith, later e (commas_due (members t l)), group_end e y))
