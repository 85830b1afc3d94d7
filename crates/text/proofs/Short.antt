-- The shortened form of an ARI has the same text.
use Prim.Native.Nat.{ℕ, suc, ◌+◌}
use mathlib.Core.Path.{◌≡◌, refl, sym, ◌∙◌, ap}
use mathlib.Core.Bool.{Bool, true, false, ◌&&◌, ◌||◌, cond}
use mathlib.Core.List.{List, [], ◌∷◌, ◌++◌}
use lib.ListN.{length}
use lib.Dec.{leb, eqb}
use native.Mathlib.Omega.{arith}
use Rattle.cbor.specs.Head.{half, Lead, is_container}
use Rattle.ari.specs.Table.{Place, alone, Slot, version, ari, type, value, namespace, object_namespace, object_type, object_id, params, key, entry, nonce, set_time, target, report, report_time, report_source, Level, done, due, rule, members}
use Rattle.ari.specs.Items.{Items, none, item, encode, Spot, inside_at, spots}
use Rattle.ari.specs.Shortened.{short_lead, shortened}
use Rattle.ari.proofs.Shortened.{short_kind, short_arg, short_members}
use Rattle.text.specs.Chars.{literal_text, name_text}
use Rattle.text.specs.Text.{spell, texts, is_relative, an_ari_due, text_of, Form, spelled, none_at, is_float, float_in, is_set, form}

short_literal : (l : Lead) (s : List ℕ) → literal_text (short_lead l) s ≡ literal_text l s
unfolding literal_text
short_literal l s = rw (short_kind l, short_arg l)

short_name : (l : Lead) (s : List ℕ) → name_text (short_lead l) s ≡ name_text l s
unfolding name_text
short_name l s = rw (short_kind l, short_arg l)

short_before : (t : Slot) (l : Lead) (s : List ℕ) → (spell t).before (short_lead l) s ≡ (spell t).before l s
unfolding spell
short_before version l s = refl
short_before (ari w) l s = rw (short_literal l s, short_kind l, short_arg l)
short_before (type w) l s = rw (short_arg l)
short_before (value t w) l s = rw (short_literal l s, short_kind l)
short_before namespace l s = rw (short_name l s)
short_before (object_namespace p) l s = rw (short_name l s, short_kind l)
short_before (object_type p) l s = short_name l s
short_before (object_id p) l s = short_name l s
short_before params l s = refl
short_before (key w) l s = short_literal l s
short_before (entry w) l s = rw (short_literal l s, short_kind l, short_arg l)
short_before (nonce t) l s = refl
short_before set_time l s = refl
short_before target l s = refl
short_before report l s = refl
short_before report_time l s = refl
short_before report_source l s = refl

pub short_after : (t : Slot) (l : Lead) (v : Level) → (spell t).after (short_lead l) v ≡ (spell t).after l v
unfolding spell
short_after version l v = refl
short_after (ari w) l v = refl
short_after (type w) l v = refl
short_after (value t w) l v = rw (short_kind l)
short_after namespace l v = refl
short_after (object_namespace p) l v = refl
short_after (object_type p) l v = refl
short_after (object_id p) l v = refl
short_after params l v = refl
short_after (key w) l v = refl
short_after (entry w) l v = refl
short_after (nonce t) l v = refl
short_after set_time l v = refl
short_after target l v = refl
short_after report l v = refl
short_after report_time l v = refl
short_after report_source l v = refl

short_texts : (g : Items) (v : Level) → texts (shortened g) v ≡ texts g v
short_texts none v = refl
short_texts (item l s ms rs) done = refl
short_texts (item l s ms rs) (due t n) =
    rw (short_before t l s, short_members t l, short_arg l, short_after t l ((rule t).next l.arg n), short_texts ms (members t l), short_texts rs ((rule t).next l.arg n))

short_relative : (g : Items) → is_relative (shortened g) ≡ is_relative g
unfolding is_relative
short_relative none = refl
short_relative (item l s none rs) = refl
short_relative (item l s (item l₁ s₁ m₁ r₁) rs) = rw (short_kind l, short_kind l₁)

short_set : (g : Items) → is_set (shortened g) ≡ is_set g
unfolding is_set
short_set none = refl
short_set (item l s none rs) = refl
short_set (item l s (item l₁ s₁ m₁ r₁) rs) = rw (short_kind l, short_arg l, short_arg l₁)

pub short_text : (g : Items) → text_of (shortened g) ≡ text_of g
unfolding text_of
short_text g = rw (short_relative g, short_texts g an_ari_due)

-- it has a text, if the ARI has one: no head becomes a float
short_float : (l : Lead) → is_float (short_lead l) ≡ is_float l
unfolding is_float
short_float l = rw (short_kind l)

pub float_split : (xs ys : List Spot) → float_in (xs ++ ys) ≡ spelled → (float_in xs ≡ spelled) × (float_in ys ≡ spelled)
float_split [] ys e = (refl, e)
float_split (x ∷ xs) ys e = go (is_float x.lead) e (float_split xs ys)
  where
    go : (t : Bool) → cond t (none_at x.first) (float_in (xs ++ ys)) ≡ spelled → (float_in (xs ++ ys) ≡ spelled → (float_in xs ≡ spelled) × (float_in ys ≡ spelled))
        → (cond t (none_at x.first) (float_in xs) ≡ spelled) × (float_in ys ≡ spelled)
    go true f ih = (f, cc)
    go false f ih = ih f

pub no_float : (t : Bool) (p : ℕ) (r : Form) → cond t (none_at p) r ≡ spelled → (t ≡ false) × (r ≡ spelled)
no_float true p r e = (cc, cc)
no_float false p r e = (refl, e)

float_join : (xs ys : List Spot) → float_in xs ≡ spelled → float_in ys ≡ spelled → float_in (xs ++ ys) ≡ spelled
float_join [] ys e f = f
float_join (x ∷ xs) ys e f = go (is_float x.lead) e (λ q. float_join xs ys q f)
  where
    go : (t : Bool) → cond t (none_at x.first) (float_in xs) ≡ spelled → (float_in xs ≡ spelled → float_in (xs ++ ys) ≡ spelled)
        → cond t (none_at x.first) (float_in (xs ++ ys)) ≡ spelled
    go true q r = absurd (let z : ◌≡◌ {A = ℕ} 0 1 = cc in omega arith)
    go false q r = r q

short_floats : (g : Items) (v : Level) (p q d : ℕ) → float_in (spots g false v p d) ≡ spelled → float_in (spots (shortened g) false v q d) ≡ spelled
short_floats none v p q d e = refl
short_floats (item l s ms rs) done p q d e = refl
short_floats (item l s ms rs) (due t n) p q d e =
    let v : Level = (rule t).next l.arg n in
    let ip : ℕ = inside_at p l s in
    let iq : ℕ = inside_at q (short_lead l) s in
    let jq : ℕ = iq + length (encode (shortened ms)) in
    let (c, x) = no_float (is_float l) p (float_in (spots ms false (members t l) ip (suc d) ++ spots rs false v (ip + length (encode ms)) d)) e in
    let (y, z) = float_split (spots ms false (members t l) ip (suc d)) (spots rs false v (ip + length (encode ms)) d) x in
    let fm : float_in (spots (shortened ms) false (members t l) iq (suc d)) ≡ spelled = short_floats ms (members t l) ip iq (suc d) y in
    let fr : float_in (spots (shortened rs) false v jq d) ≡ spelled = short_floats rs v (ip + length (encode ms)) jq d z in
    rw (short_float l, c, short_members t l, short_arg l) (float_join (spots (shortened ms) false (members t l) iq (suc d)) (spots (shortened rs) false v jq d) fm fr)

pub short_form_lem : (g : Items) → form g ≡ spelled → form (shortened g) ≡ spelled
unfolding form
short_form_lem g e = rw (short_set g) (go (is_set g) e)
  where
    go : (t : Bool) → cond t (none_at 0) (float_in (spots g false (due (ari alone) 0) 0 0)) ≡ spelled → cond t (none_at 0) (float_in (spots (shortened g) false (due (ari alone) 0) 0 0)) ≡ spelled
    go true q = q
    go false q = short_floats g (due (ari alone) 0) 0 0 0 q
