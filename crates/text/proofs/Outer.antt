-- The outermost ARI: what has a text form may stand anywhere, and its text is read back as its candidate.
use Prim.Native.Nat.{ℕ, suc, ◌+◌, ◌≤◌}
use mathlib.Core.Path.{◌≡◌, refl, sym, ◌∙◌, ap}
use mathlib.Core.Bool.{Bool, true, false, ◌&&◌, ◌||◌, cond, true≢false}
use mathlib.Core.List.{List, [], ◌∷◌, ◌++◌, append-nil}
use native.Mathlib.Omega.{arith}
use lib.ListN.{length, drop}
use lib.Dec.{eqb}
use borrow.Author.Tests.{eqb-true}
use Rattle.buffer.specs.Bytes.{all, is_byte}
use Rattle.cbor.specs.Head.{array, simple, Lead, lead_bytes}
use Rattle.buffer.proofs.ByteLaws.{and-true, all_split}
use Rattle.ari.specs.Table.{Place, alone, inside, ari, Row, row, Level, done, due, types, type_rows, rule, fits, members}
use Rattle.ari.specs.declared.Limits.{Limits}
use Rattle.ari.specs.declared.Input.TheVariants.{Single}
use Rattle.ari.specs.Shortened.{shortened}
use Rattle.ari.specs.Items.{Items, none, item, encode, heads, depth, Spot, inside_at, spots}
use Rattle.ari.specs.Rules.{Ari, literal, namespace_ref, typed, object_ref, plain, with_params, Stands, single_ari}
use Rattle.ari.proofs.Due.{Fit, prev_after}
use Rattle.ari.proofs.Rows.{fits_by}
use Rattle.ari.proofs.RulesFit.{here_ari}
use Rattle.ari.proofs.Demand.{stands_fit}
use Rattle.text.specs.Text.{an_ari, spell, texts, an_ari_due, is_relative, text_of, Form, spelled, none_at, is_float, float_in, is_set, form}
use Rattle.text.specs.Parse.{starts_by, starts, Run, level, parse, candidate}
use Rattle.text.proofs.Words.{plus, minus, Named, numbered, lettered}
use Rattle.text.proofs.Leads.{is_set_type, namespace_named, type_word}
use Rattle.text.proofs.Below.{Spells, single_ari}
use Rattle.text.proofs.Ahead.{stops, held_text}
use Rattle.text.proofs.Back.{reads}
use Rattle.text.proofs.Short.{float_split, no_float}

-- no float among the spots, and bytes alone: no float among the items
spells : (g : Items) (v : Level) (prev : List ℕ) (p d : ℕ) → Fit g false v prev → float_in (spots g false v p d) ≡ spelled → all is_byte (encode g) ≡ true → Spells g
spells none v prev p d f e b = tt
spells (item l s ms rs) done prev p d f e b = absurd f
spells (item l s ms rs) (due t n) prev p d f e b =
    let q : ℕ = inside_at p l s in
    let xs = spots ms false (members t l) q (suc d) in
    let ys = spots rs false ((rule t).next l.arg n) (q + length (encode ms)) d in
    let (x, y) = no_float (is_float l) p (float_in (xs ++ ys)) e in
    let (u, w) = float_split xs ys y in
    let (b₀, b₁) = all_split is_byte (lead_bytes l) (s ++ (encode ms ++ encode rs)) b in
    let (b₂, b₃) = all_split is_byte s (encode ms ++ encode rs) b₁ in
    let (b₄, b₅) = all_split is_byte (encode ms) (encode rs) b₃ in
    (x, b₂, spells ms (members t l) [] q (suc d) f.1 u b₄, spells rs ((rule t).next l.arg n) (prev_after t prev l s) (q + length (encode ms)) d f.2 w b₅)

-- an outermost ARI that is no set may stand anywhere
inside_row : Row → Bool
inside_row (row k lo hi) = eqb lo hi && (fits k lo (type_rows inside types) || is_set_type lo)

inward_type : (k t : ℕ) → fits k t (type_rows alone types) ≡ true → is_set_type t ≡ false → fits k t (type_rows inside types) ≡ true
unfolding inside_row
inward_type k t e n =
    let f = fits_by inside_row k t (type_rows alone types) (unfold types in refl) e in
    let (p, q) = and-true (eqb f.lo f.hi) (fits k f.lo (type_rows inside types) || is_set_type f.lo) f.holds in
    let z : f.lo ≡ t = omega (arith, eqb-true f.lo f.hi p, f.low, f.high) in
    let y : fits k t (type_rows inside types) || is_set_type t ≡ true = rw z at q in
    or_left (fits k t (type_rows inside types)) (is_set_type t) n y
  where
    or_left : (a b : Bool) → b ≡ false → a || b ≡ true → a ≡ true
    or_left true b e f = refl
    or_left false b e f = absurd (true≢false (sym f ∙ e))

pub inward : {l : Lead} {s : List ℕ} {ms : Items} → Ari alone l s ms → is_set (item l s ms none) ≡ false → Ari inside l s ms
unfolding is_set
inward (literal f p) n = literal refl p
inward (namespace_ref f h p) n = namespace_ref refl h p
inward (typed {l₁ = l₁} h p v) n =
    let e : is_set_type l₁.arg ≡ false = rw (h.kind_is, h.arg_is) at n in
    typed h (record { head = p.head; fitting = inward_type l₁.kind l₁.arg p.fitting e; sized = p.sized; spelling = p.spelling; bare = p.bare }) v
inward (object_ref f o) n = object_ref refl o

-- a relative reference starts with a full stop, and no other
named_not_null : {k a : ℕ} {s : List ℕ} → Named k a s → eqb k simple ≡ false
named_not_null (numbered (plus h)) = refl
named_not_null (numbered (minus h)) = refl
named_not_null (lettered p q) = refl

relative_first : {w : Place} {l : Lead} {s : List ℕ} {ms : Items} (x : List ℕ) → Ari w l s ms → is_relative (item l s ms none) ≡ true
    → starts 46 (an_ari.before l s ++ (texts ms (members (ari w) l) ++ x)) ≡ true
unfolding is_relative spell starts_by
relative_first x (literal f p) e = absurd (true≢false (sym (rw p.bare at e)))
relative_first x (namespace_ref {l = l} {l₁ = l₁} f h p) e =
    let (y, z) = and-true (eqb l.kind array) (eqb l₁.kind simple) e in
    absurd (true≢false (sym z ∙ named_not_null (namespace_named p)))
relative_first x (typed {w = w} {l = l} {l₁ = l₁} h p v) e =
    let (y, z) = and-true (eqb l.kind array) (eqb l₁.kind simple) e in
    absurd (true≢false (sym z ∙ rw (type_word w l₁.kind l₁.arg p.fitting).0))
relative_first x (object_ref {w = w} f (plain {l = l} {l₁ = l₁} h p₁ p₂ p₃)) e =
    let (y, z) = and-true (eqb l.kind array) (eqb l₁.kind simple) e in
    let (a, b) = held_text w h in
    rw (a, b, z)
relative_first x (object_ref {w = w} f (with_params {l = l} {l₁ = l₁} h p₁ p₂ p₃ u)) e =
    let (y, z) = and-true (eqb l.kind array) (eqb l₁.kind simple) e in
    let (a, b) = held_text w h in
    rw (a, b, z)

-- R99: the scheme is taken off again
abbrev unscheme : List ℕ → List ℕ
unscheme t = cond (starts 46 t) t (drop 4 t)

unschemed : {l : Lead} {s : List ℕ} {ms : Items} → Ari inside l s ms → unscheme (text_of (item l s ms none)) ≡ texts (item l s ms none) an_ari_due
unfolding text_of starts_by spell
unschemed {l} {s} {ms} a = go (is_relative (item l s ms none)) refl
  where
    go : (t : Bool) → is_relative (item l s ms none) ≡ t
        → unscheme (cond t [] (97 ∷ 114 ∷ 105 ∷ 58 ∷ []) ++ texts (item l s ms none) an_ari_due) ≡ texts (item l s ms none) an_ari_due
    go true e = rw (relative_first _ a e)
    go false e = refl

-- An accepted ARI that has a text form, and its text.
pub texted : (g : Items) → form g ≡ spelled → (is_set g ≡ false) × (float_in (spots g false (due (ari alone) 0) 0 0) ≡ spelled)
unfolding form
texted g e = no_float (is_set g) 0 (float_in (spots g false (due (ari alone) 0) 0 0)) e

pub candidate_back : (m : Limits) {g : Items} → Stands Single g → form g ≡ spelled → all is_byte (encode g) ≡ true → depth g ≤ m.containers → heads g ≤ m.items
    → candidate m (text_of g) ≡ shortened g
unfolding candidate parse rule
candidate_back m (single_ari {l = l} {s = s} {ms = ms} a) e b d k =
    let g : Items = item l s ms none in
    let (n, x) = texted g e in
    let i = inward a n in
    let q = spells g (due (ari alone) 0) [] 0 0 (stands_fit (single_ari a)) x b in
    let h = here_ari [] i in
    let z = reads m.items g an_ari_due [] (h.good, h.holds, tt) q (single_ari refl) m.containers m.items d k k [] (unfold stops in refl) in
    ap (λ (t : List ℕ). (level (parse m.items m.containers) m.items an_ari_due t).items) (unschemed i ∙ sym (append-nil (texts g an_ari_due)))
    ∙ ap (λ (r : Run). r.items) z
