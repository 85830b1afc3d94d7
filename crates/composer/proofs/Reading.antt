-- A text that is taken for a target: what it is read as is an accepted single ARI whose text it is, and an object reference by the rules.
use Prim.Native.Nat.{ℕ, ◌<◌, ◌≤◌}
use mathlib.Core.Path.{◌≡◌, refl, sym, ◌∙◌, ap}
use mathlib.Core.Bool.{Bool, true, false, cond, true≢false}
use mathlib.Core.List.{List}
use native.Mathlib.Omega.{arith}
use lib.ListN.{length}
use lib.Dec.{eqb}
use borrow.Author.Tests.{eqb-true}
use Rattle.buffer.specs.Bytes.{all, is_byte, within}
use Rattle.buffer.proofs.ByteLaws.{and-true}
use Rattle.cbor.specs.Head.{array, Lead, Sound}
use Rattle.ari.specs.Table.{max64, Place, literals, fits}
use Rattle.ari.specs.declared.Limits.{Limits}
use Rattle.ari.specs.declared.Input.TheVariants.{Single}
use Rattle.ari.specs.Items.{Items, none, item, encode, heads}
use Rattle.ari.specs.Decode.{decode}
use Rattle.ari.specs.Rules.{Ari, literal, namespace_ref, typed, object_ref, Object, plain, with_params, Stands, single_ari}
use Rattle.ari.specs.Shortened.{short_form}
use Rattle.text.specs.Answer.{Output, refused, output, read_text, Spelled}
use Rattle.text.proofs.Round.{read_exactly}
use Rattle.composer.specs.Compose.{nothing, reference, is_object, reference_in, reference_by, reference_of}

-- A text is that of an object reference, which is an accepted single ARI.
pub record ReadAs (m : Limits) (t : List ℕ) (l : Lead) (s : List ℕ) (ms : Items) : Type 0 where
  pub ari : List ℕ
  pub count : ℕ
  pub short : length t ≤ m.text
  pub octets : all is_byte ari ≡ true
  pub spelled : Spelled m t ari count
  pub shortest : ari ≡ short_form ari
  pub decoded : decode ari ≡ item l s ms none
  pub object : Object l s ms

sound_ari : {w : Place} {l : Lead} {s : List ℕ} {ms : Items} → Ari w l s ms → Sound l
sound_ari (literal f x) = x.head
sound_ari (namespace_ref f h n) = h.head
sound_ari (typed h t v) = h.head
sound_ari (object_ref f (plain h n t i)) = h.head
sound_ari (object_ref f (with_params h n t i p)) = h.head

pub sound_single : {l : Lead} {s : List ℕ} {ms : Items} → Stands Single (item l s ms none) → Sound l
sound_single (single_ari a) = sound_ari a

other_length : (l : Lead) {n : ℕ} → l.arg ≡ n → within 3 4 n ≡ false → is_object l ≡ true → ⊥
other_length l {n} a f e =
    let (k, r) = and-true (eqb l.kind array) (within 3 4 l.arg) e in
    true≢false (sym r ∙ ap (within 3 4) a ∙ f)

no_literal : (l : Lead) → fits l.kind l.arg literals ≡ true → is_object l ≡ true → ⊥
no_literal l f e =
    let k : l.kind ≡ array = eqb-true l.kind array (and-true (eqb l.kind array) (within 3 4 l.arg) e).0 in
    true≢false (sym (rw k at f))

object_by : {w : Place} {l : Lead} {s : List ℕ} {ms : Items} → Ari w l s ms → is_object l ≡ true → Object l s ms
object_by {l = l} (literal f x) e = absurd (no_literal l x.fitting e)
object_by {l = l} (namespace_ref f h n) e = absurd (other_length l h.arg_is refl e)
object_by {l = l} (typed h t v) e = absurd (other_length l h.arg_is refl e)
object_by (object_ref f o) e = o

pub object_single : {l : Lead} {s : List ℕ} {ms : Items} → Stands Single (item l s ms none) → is_object l ≡ true → Object l s ms
object_single (single_ari a) e = object_by a e

pub is_object_lem : {l : Lead} {s : List ℕ} {ms : Items} → Object l s ms → is_object l ≡ true
is_object_lem (plain h n t i) = rw (h.kind_is, h.arg_is)
is_object_lem (with_params h n t i p) = rw (h.kind_is, h.arg_is)

-- the tree of a reference
pub tree_of : (g : Items) {l : Lead} {s : List ℕ} {ms : Items} → reference_in g ≡ reference l s ms → (g ≡ item l s ms none) × (is_object l ≡ true)
tree_of none e = absurd (let z : ◌≡◌ {A = ℕ} 0 1 = cc in omega arith)
tree_of (item k t ns (item k₁ t₁ n₁ rs)) e = absurd (let z : ◌≡◌ {A = ℕ} 0 1 = cc in omega arith)
tree_of (item k t ns none) {l} {s} {ms} e = go (is_object k) refl e
  where
    go : (x : Bool) → is_object k ≡ x → cond x (reference k t ns) nothing ≡ reference l s ms → (item k t ns none ≡ item l s ms none) × (is_object l ≡ true)
    go true q f = let a : k ≡ l = cc in let b : item k t ns none ≡ item l s ms none = cc in (b, rw a at q)
    go false q f = absurd (let z : ◌≡◌ {A = ℕ} 0 1 = cc in omega arith)

module _ (m : Limits) {t : List ℕ} (o : all is_byte t ≡ true) (f : length t < max64) where
  pub read_as : {l : Lead} {s : List ℕ} {ms : Items} → reference_of m t ≡ reference l s ms → ReadAs m t l s ms
  unfolding reference_of
  read_as {l} {s} {ms} e = go (read_text m t) refl e
    where
      go : (x : Output) → read_text m t ≡ x → reference_by x ≡ reference l s ms → ReadAs m t l s ms
      go (refused r p) q e = absurd (let z : ◌≡◌ {A = ℕ} 0 1 = cc in omega arith)
      go (output b n) q e =
          let (h, c, y, d) = (read_exactly m o f b n).0 q in
          let (g, i) = tree_of (decode b) e in
          record {
            ari = b;
            count = n;
            short = h;
            octets = c;
            spelled = y;
            shortest = d;
            decoded = g;
            object = object_single (rw g at y.is.stands) i;
          }

  pub as_read : {l : Lead} {s : List ℕ} {ms : Items} → ReadAs m t l s ms → reference_of m t ≡ reference l s ms
  unfolding reference_of
  as_read r = rw ((read_exactly m o f r.ari r.count).1 (r.short, r.octets, r.spelled, r.shortest), r.decoded, is_object_lem r.object)

module _ {m : Limits} {t : List ℕ} {l : Lead} {s : List ℕ} {ms : Items} (r : ReadAs m t l s ms) where
  pub its_bytes : encode (item l s ms none) ≡ r.ari
  its_bytes = ap encode (sym r.decoded) ∙ r.spelled.is.bytes

  pub its_count : heads (item l s ms none) ≡ r.count
  its_count = ap heads (sym r.decoded) ∙ r.spelled.is.count
