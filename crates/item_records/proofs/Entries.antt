-- From the item table and the bytes to a record: what each function answers, way by way, and item k.
use Prim.Native.Nat.{ℕ, suc, ◌*◌, ◌^◌, ◌≤◌, ◌<◌, min}
use mathlib.Core.Path.{◌≡◌, refl, ◌∙◌, ap}
use mathlib.Core.Bool.{Bool, true, false, cond}
use mathlib.Core.List.{List, [], ◌∷◌}
use native.Mathlib.Omega.{arith}
use lib.ListN.{length, get_or}
use lib.Dec.{ltb}
use borrow.Author.Tests.{lt-ltb, le-ltb, eq-eqb, ne_eqb, ltb-true}
use Rattle.cbor.specs.declared.Head.{Head}
use Rattle.cbor.specs.declared.Head.TheVariants.{Bad, Good}
use Rattle.cbor.specs.Answer.{head_at}
use Rattle.ari.specs.declared.Limits.{Limits}
use Rattle.ari.specs.declared.Input.{Input}
use Rattle.ari.specs.Reader.{read}
use Rattle.ari.specs.Items.{spots_of}
use Rattle.ari.specs.Decode.{decode}
use Rattle.ari.specs.declared.Target.{Target}
use Rattle.item_table.specs.declared.Item.{Item}
use Rattle.item_table.specs.Entries as items
use Rattle.item_table.specs.Entries.{reference_by, spot_number, Tabled}
use Rattle.item_table.proofs.Entries.{item_at, head_at_lem, reference_at}
use Rattle.std.specs.declared.result.Result.{Result}
use Rattle.std.specs.declared.result.Result.TheVariants.{Ok, Err}
use Rattle.ari.specs.declared.Refusal.{Refusal}
use Rattle.ari.specs.Refusals.{refused}
use Rattle.reader.specs.Results.{result_of}
use Rattle.reader.proofs.Results.{is_accepted, is_refused}
use Rattle.item_records.specs.declared.Literal.{Literal}
use Rattle.item_records.specs.declared.Literal.TheVariants.{Unsigned, Negative, Bytes, Text, Simple, Half, Single, Double}
use Rattle.item_records.specs.declared.Container.TheVariants.{Array, Map}
use Rattle.item_records.specs.declared.Kind.{Kind}
use Rattle.item_records.specs.declared.Kind.TheVariants.{Reference}
use Rattle.item_records.specs.declared.Kind.TheVariants as kinds
use Rattle.item_records.specs.declared.Record.{Record}
use Rattle.item_records.specs.declared.Targets.{Targets}
use Rattle.item_records.specs.Numbered.{targets_to, target_by}
use Rattle.item_records.proofs.Counting.{target_at}
use Rattle.item_records.specs.Records.{literal_of, kind_of, kind_at, record_of, record_from, found_of, item_of}

module _ (k a : ℕ) where
  pub a_reference : (x : Bool) → x ≡ true → Reference a ≡ kind_of x k a
  unfolding kind_of
  a_reference x e = rw e

  module _ (x : Bool) (e : x ≡ false) where
    pub array_kind : k ≡ 4 → kinds.Container (Array a) ≡ kind_of x k a
    unfolding kind_of
    array_kind q = rw (e, eq-eqb k 4 q)

    pub map_kind : (k ≡ 4 → ⊥) → k ≡ 5 → kinds.Container (Map a) ≡ kind_of x k a
    unfolding kind_of
    map_kind n q = rw (e, ne_eqb k 4 n, eq-eqb k 5 q)

    pub literal_kind : (k ≡ 4 → ⊥) → (k ≡ 5 → ⊥) → {l : Literal} → l ≡ literal_of k a → kinds.Literal l ≡ kind_of x k a
    unfolding kind_of
    literal_kind n m q = rw (e, ne_eqb k 4 n, ne_eqb k 5 m, q)

pub ruleset kind_ways = (a_reference, array_kind, map_kind, literal_kind)

pub good_kind : (i : ℕ) {h : Head} {k a q : ℕ} → h ≡ Good k a q → {x : Bool} → x ≡ reference_by i k a → {r : Kind} → r ≡ kind_of x k a → r ≡ kind_at i h
good_kind i e g f = f ∙ rw (e, g)

pub bad_kind : (i : ℕ) {h : Head} {r : ℕ} → h ≡ Bad r → kinds.Literal (Simple 0) ≡ kind_at i h
bad_kind i e = rw e

pub the_record : (b : List ℕ) (t : Targets) (e : ℕ) {x : Item} → x ≡ items.item_of e → {z : Target} → z ≡ target_by t x.first → {h : Head} → h ≡ head_at b x.first
    → {y : Kind} → y ≡ kind_at x.slot h
    → ◌≡◌ {A = Record} (record { first = x.first; after = x.after; around = x.around; target = z; kind = y }) (record_from b t e)
unfolding record_from
the_record b t e q n g f = rw (← q, n, f, g)

-- the word of item k gives back its record
pub record_at : {m : Limits} {i : Input} {b : List ℕ} {n : ℕ} {t : List ℕ} → Tabled m i b n t → (k : ℕ) → k < n
    → record_from b (targets_to t (suc k)) (get_or t k 0) ≡ record_of (spots_of i (decode b)) (spot_number i b k)
unfolding record_from
record_at c k h = rw (item_at c k h, head_at_lem c k h, reference_at c k h, target_at c k h)

-- Item k, from the input's answer and table.
module _ (m : Limits) (i : Input) (b : List ℕ) (k : ℕ) {a : Result ℕ Refusal} (e : a ≡ result_of (read m i b)) where
  pub item_refused : {y : Refusal} → a ≡ Err y → Err y ≡ item_of m i b k
  unfolding item_of
  item_refused f = is_refused m i b e f (found_of i b k) (λ r p. refl)

  module _ {n : ℕ} (f : a ≡ Ok n) where
    pub no_item : n ≤ k → refused 17 n ≡ item_of m i b k
    unfolding item_of
    no_item h = rw (is_accepted m i b e f, le-ltb k n h)

    pub item_is : k < n → {t : List ℕ} → Tabled m i b n t → {y : Targets} → y ≡ targets_to t (suc k) → {x : Record} → x ≡ record_from b y (get_or t k 0)
        → Ok (record { item = x; count = n }) ≡ item_of m i b k
    unfolding item_of
    item_is h c g q = rw (is_accepted m i b e f, lt-ltb k n h, q, g, record_at c k h)
