-- Two single ARIs are the same exactly if their items are, one by one: at the same slots heads of one kind and argument, and the same strings, names in
-- any case. The idea: a folded form is its items' shortened heads and folded strings one behind the other, and can be taken apart again.
use Prim.Native.Nat.{ℕ, suc, ◌+◌}
use mathlib.Core.Path.{◌≡◌, refl, sym, ◌∙◌, ap}
use mathlib.Core.Bool.{Bool, true, false, cond}
use mathlib.Core.List.{List, [], ◌∷◌, ◌++◌, append_assoc, map, map-append}
use native.Mathlib.Omega.{arith}
use lib.ListN.{length, get_or, take, drop, length-map}
use lib.Seq.{take-append_seam, drop-append_seam}
use lib.Dec.{leb}
use borrow.Author.Tests.{leb-false}
use Rattle.buffer.proofs.ByteLaws.{same_is, same_self}
use Rattle.cbor.specs.Head.{map as aMap, Lead, got, get_head, lead_of, lead_bytes, Sound, counted, a_simple, a_float, string_size}
use Rattle.cbor.proofs.HeadLaws.{get_head_back}
use Rattle.ari.specs.Name.{lower, folded_name}
use Rattle.ari.specs.Table.{alone, Slot, ari, Level, done, due, rule, members}
use Rattle.ari.specs.declared.Limits.{Limits}
use Rattle.ari.specs.declared.Input.TheVariants.{Single}
use Rattle.ari.specs.Items.{Items, none, item, encode, Spot, inside_at, spot_at, spots, spots_of}
use Rattle.ari.specs.Decode.{decode}
use Rattle.ari.specs.Rules.{Is}
use Rattle.ari.specs.Shortened.{short_lead}
use Rattle.ari.specs.Same.{takes_name, folded_at, folded, folded_form, is_same, Seen, seen}
use Rattle.ari.proofs.Due.{Fit}
use Rattle.ari.proofs.Demand.{stands_fit}
use Rattle.ari.proofs.Spots.{All, no_spot_lem, spot_too, all_append}
use Rattle.ari.proofs.Case.{Recased, recased, recased_same}
use Rattle.ari.proofs.Shortened.{short_kind, short_arg, short_sound}

-- the bytes of what is compared
abbrev seen_bytes : List Seen → List ℕ
seen_bytes [] = []
seen_bytes (x ∷ xs) = lead_bytes x.lead ++ (x.str ++ seen_bytes xs)

seen_append : (xs ys : List Seen) → seen_bytes (xs ++ ys) ≡ seen_bytes xs ++ seen_bytes ys
seen_append [] ys = refl
seen_append (x ∷ xs) ys =
    rw (seen_append xs ys, append_assoc (lead_bytes x.lead) (x.str ++ seen_bytes xs) (seen_bytes ys), append_assoc x.str (seen_bytes xs) (seen_bytes ys))

-- the folded form is what is compared, wherever it stands
folded_bytes : (g : Items) (v : Level) (p d : ℕ) → encode (folded g v) ≡ seen_bytes (map seen (spots g false v p d))
folded_bytes none v p d = refl
folded_bytes (item l str ms rs) done p d = refl
folded_bytes (item l str ms rs) (due s n) p d =
    let xs = spots ms false (members s l) (inside_at p l str) (suc d) in
    let ys = spots rs false ((rule s).next l.arg n) (inside_at p l str + length (encode ms)) d in
    rw (
      map-append seen xs ys,
      seen_append (map seen xs) (map seen ys),
      folded_bytes ms (members s l) (inside_at p l str) (suc d),
      folded_bytes rs ((rule s).next l.arg n) (inside_at p l str + length (encode ms)) d,
    )

-- two runs with parts of one length in front
front_same : (xs ys r t : List ℕ) → length xs ≡ length ys → xs ++ r ≡ ys ++ t → (xs ≡ ys) × (r ≡ t)
front_same xs ys r t e h = (
  sym (take-append_seam xs r) ∙ (ap (take (length xs)) h ∙ rw e (take-append_seam ys t)),
  sym (drop-append_seam xs r) ∙ (ap (drop (length xs)) h ∙ rw e (drop-append_seam ys t)),
)

got_same : (k l : Lead) → got k ≡ got l → k ≡ l
got_same k l e = cc

head_same : {k l : Lead} (r t : List ℕ) → Sound k → Sound l → lead_bytes k ++ r ≡ lead_bytes l ++ t → (k ≡ l) × (r ≡ t)
head_same {k} {l} r t a b h =
    let e : k ≡ l = got_same k l (sym (get_head_back r a) ∙ (ap get_head h ∙ get_head_back t b)) in
    let (f, g) = front_same (lead_bytes k) (lead_bytes l) r t (ap (λ (z : Lead). length (lead_bytes z)) e) h in
    (e, g)

folded_length : (s : Slot) (str : List ℕ) → length (folded_at s str) ≡ length str
folded_length s str = go (takes_name s)
  where
    go : (c : Bool) → length (cond c (folded_name str) str) ≡ length str
    go true = length-map str lower
    go false = refl

-- heads that are the same when shortened
module _ (k l : Lead) (e : short_lead k ≡ short_lead l) where
  same_kind : k.kind ≡ l.kind
  same_kind = sym (short_kind k) ∙ (ap (λ (z : Lead). z.kind) e ∙ short_kind l)

  same_arg : k.arg ≡ l.arg
  same_arg = sym (short_arg k) ∙ (ap (λ (z : Lead). z.arg) e ∙ short_arg l)

  same_members : (s : Slot) → members s k ≡ members s l
  unfolding members
  same_members s = rw (same_kind, same_arg)

  same_size : string_size k ≡ string_size l
  unfolding string_size
  same_size = rw (same_kind, same_arg)

abbrev seen_as : Slot → Lead → List ℕ → Seen
seen_as s l str = record { slot = s; lead = l; str = str }

seen_both : (s : Slot) {k l : Lead} {u v : List ℕ} → k ≡ l → u ≡ v → seen_as s k u ≡ seen_as s l v
seen_both s {k} {l} {u} {v} e f = ap (λ (z : Lead). seen_as s z u) e ∙ ap (seen_as s l) f

-- what follows on a level is read off what was compared
seen_level : (xs ys us vs : List Spot) (x y : Spot) → seen x ≡ seen y → map seen xs ≡ map seen us → map seen ys ≡ map seen vs
    → map seen (x ∷ (xs ++ ys)) ≡ map seen (y ∷ (us ++ vs))
seen_level xs ys us vs x y e f g =
    let h : map seen (xs ++ ys) ≡ map seen (us ++ vs)
    = map-append seen xs ys ∙ (ap (λ (z : List Seen). z ++ map seen ys) f ∙ (ap (λ (z : List Seen). map seen us ++ z) g ∙ sym (map-append seen us vs))) in
    ap (λ (z : Seen). z ∷ map seen (xs ++ ys)) e ∙ ap (λ (z : List Seen). seen y ∷ z) h

four : (a b c d r : List ℕ) → (a ++ (b ++ (c ++ d))) ++ r ≡ a ++ (b ++ (c ++ (d ++ r)))
four a b c d r = rw (append_assoc a (b ++ (c ++ d)) r, append_assoc b (c ++ d) r, append_assoc c d r)

taken_apart : (g h : Items) (v : Level) (pg ph : List ℕ) (p q d e : ℕ) (r t : List ℕ) → Fit g false v pg → Fit h false v ph
    → encode (folded g v) ++ r ≡ encode (folded h v) ++ t
    → (map seen (spots g false v p d) ≡ map seen (spots h false v q e)) × (r ≡ t)
taken_apart none none v pg ph p q d e r t f g h = (refl, h)
taken_apart none (item k u os ts) done pg ph p q d e r t f g h = absurd g
taken_apart none (item k u os ts) (due w n) pg ph p q d e r t f g h = absurd f
taken_apart (item l s ms rs) none done pg ph p q d e r t f g h = absurd f
taken_apart (item l s ms rs) none (due w n) pg ph p q d e r t f g h = absurd g
taken_apart (item l s ms rs) (item k u os ts) done pg ph p q d e r t f g h = absurd f
taken_apart (item l s ms rs) (item k u os ts) (due w n) pg ph p q d e r t f g h =
    let iM : List ℕ = encode (folded ms (members w l)) in
    let iR : List ℕ = encode (folded rs ((rule w).next l.arg n)) in
    let iO : List ℕ = encode (folded os (members w k)) in
    let iT : List ℕ = encode (folded ts ((rule w).next k.arg n)) in
    let a : lead_bytes (short_lead l) ++ (folded_at w s ++ (iM ++ (iR ++ r))) ≡ lead_bytes (short_lead k) ++ (folded_at w u ++ (iO ++ (iT ++ t)))
    = sym (four (lead_bytes (short_lead l)) (folded_at w s) iM iR r) ∙ (h ∙ four (lead_bytes (short_lead k)) (folded_at w u) iO iT t) in
    let (b, c) = head_same (folded_at w s ++ (iM ++ (iR ++ r))) (folded_at w u ++ (iO ++ (iT ++ t))) (short_sound l f.0.head) (short_sound k g.0.head) a in
    let z : length (folded_at w s) ≡ length (folded_at w u)
    = folded_length w s ∙ (f.0.sized ∙ (same_size l k b ∙ (sym g.0.sized ∙ sym (folded_length w u)))) in
    let (i, j) = front_same (folded_at w s) (folded_at w u) (iM ++ (iR ++ r)) (iO ++ (iT ++ t)) z c in
    let (x, y) = taken_apart ms os (members w l) [] [] (inside_at p l s) (inside_at q k u) (suc d) (suc e) (iR ++ r) (iT ++ t) f.1
    (rw (← same_members l k b w) at g.1) (rw (← same_members l k b w) at j) in
    let (x', y') = taken_apart rs ts ((rule w).next l.arg n) _ _ (inside_at p l s + length (encode ms)) (inside_at q k u + length (encode os)) d e r t f.2
    (rw (← same_arg l k b) at g.2) (rw (← same_arg l k b) at y) in
    let inside = x ∙ ap (λ (z : Level). map seen (spots os false z (inside_at q k u) (suc e))) (same_members l k b w) in
    let behind = x' ∙ ap (λ (z : ℕ). map seen (spots ts false ((rule w).next z n) (inside_at q k u + length (encode os)) e)) (same_arg l k b) in
    (seen_level (spots ms false (members w l) (inside_at p l s) (suc d)) (spots rs false ((rule w).next l.arg n) (inside_at p l s + length (encode ms)) d) (spots os false (members w k) (inside_at q k u) (suc e)) (spots ts false ((rule w).next k.arg n) (inside_at q k u + length (encode os)) e) (spot_at w p d l s ms) (spot_at w q e k u os) (seen_both w b i) inside behind, y')

-- Exactly if: item by item, what is compared is the same.
module _ {m m' : Limits} {a b : List ℕ} {n n' : ℕ} (c : Is m Single a (decode a) n) (d : Is m' Single b (decode b) n') where
  pub same_items : is_same a b ≡ true → map seen (spots_of Single (decode a)) ≡ map seen (spots_of Single (decode b))
  unfolding is_same
  same_items e =
      let f : folded_form a ++ [] ≡ folded_form b ++ [] = ap (λ (z : List ℕ). z ++ []) (same_is (folded_form a) (folded_form b) e) in
      (taken_apart (decode a) (decode b) (due (ari alone) 0) [] [] 0 0 0 0 [] [] (stands_fit c.stands) (stands_fit d.stands) f).0

pub items_same : (a b : List ℕ) → map seen (spots_of Single (decode a)) ≡ map seen (spots_of Single (decode b)) → is_same a b ≡ true
unfolding is_same
items_same a b e =
    let f : folded_form a ≡ folded_form b
    = folded_bytes (decode a) (due (ari alone) 0) 0 0 ∙ (ap seen_bytes e ∙ sym (folded_bytes (decode b) (due (ari alone) 0) 0 0)) in
    rw f (same_self (folded_form b))

-- heads of one kind and argument are the same when shortened
abbrev lead_by : ℕ → ℕ → ℕ → Lead
lead_by i k a = record { info = i; kind = k; arg = a }

short_info : (k l : Lead) → Sound k → Sound l → k.kind ≡ l.kind → k.arg ≡ l.arg → leb k.kind aMap ≡ false → k.info ≡ l.info
short_info k l (counted h c) t e a f = absurd (omega (arith, leb-false k.kind aMap f))
short_info k l (a_simple h p q i) (counted g c) e a f = absurd (omega arith)
short_info k l (a_simple h p q i) (a_simple g p' q' j) e a f = omega arith
short_info k l (a_simple h p q i) (a_float g g' j p' q') e a f = absurd (omega arith)
short_info k l (a_float h h' i p q) (counted g c) e a f = absurd (omega arith)
short_info k l (a_float h h' i p q) (a_simple g p' q' j) e a f = absurd (omega arith)
short_info k l (a_float h h' i p q) (a_float g g' j p' q') e a f = omega arith

short_same : (k l : Lead) → Sound k → Sound l → k.kind ≡ l.kind → k.arg ≡ l.arg → short_lead k ≡ short_lead l
short_same k l s t e a = rw (← e, ← a) (go (leb k.kind aMap) refl)
  where
    go : (c : Bool) → leb k.kind aMap ≡ c → cond c (lead_of k.kind k.arg) k ≡ cond c (lead_of k.kind k.arg) (lead_by l.info k.kind k.arg)
    go true f = refl
    go false f = ap (λ (z : ℕ). lead_by z k.kind k.arg) (short_info k l s t e a f)

-- R186: two items are alike if they stand at the same slot, have the same kind and argument, and the same string, a name in any case.
pub record Alike (x y : Spot) : Type 0 where
  pub slot_same : x.slot ≡ y.slot
  pub kind_same : x.lead.kind ≡ y.lead.kind
  pub arg_same : x.lead.arg ≡ y.lead.arg
  pub string_same : takes_name x.slot ≡ false → x.str ≡ y.str
  pub name_same : takes_name x.slot ≡ true → Recased x.str y.str

-- items of two inputs, pair by pair
pub data AllAlike : List Spot → List Spot → Type 0 where
  no_pair : AllAlike [] []
  pair_too : {x y : Spot} {xs ys : List Spot} → Alike x y → AllAlike xs ys → AllAlike (x ∷ xs) (y ∷ ys)

-- what follows of two items from what is compared of them
module _ (x y : Spot) (e : seen x ≡ seen y) where
  pub seen_slot : x.slot ≡ y.slot
  seen_slot = ap (λ (z : Seen). z.slot) e

  seen_lead : short_lead x.lead ≡ short_lead y.lead
  seen_lead = ap (λ (z : Seen). z.lead) e

  pub seen_kind : x.lead.kind ≡ y.lead.kind
  seen_kind = same_kind x.lead y.lead seen_lead

  pub seen_arg : x.lead.arg ≡ y.lead.arg
  seen_arg = same_arg x.lead y.lead seen_lead

  pub seen_string : folded_at x.slot x.str ≡ folded_at x.slot y.str
  seen_string = ap (λ (z : Seen). z.str) e ∙ ap (λ (z : Slot). folded_at z y.str) (sym seen_slot)

  pub seen_alike : Alike x y
  seen_alike = record {
    slot_same = seen_slot;
    kind_same = seen_kind;
    arg_same = seen_arg;
    string_same = λ t. rw t at seen_string;
    name_same = λ t. recased x.str y.str (rw t at seen_string);
  }

pub seen_from : (x y : Spot) → Sound x.lead → Sound y.lead → x.slot ≡ y.slot → x.lead.kind ≡ y.lead.kind → x.lead.arg ≡ y.lead.arg
    → folded_at x.slot x.str ≡ folded_at x.slot y.str → seen x ≡ seen y
seen_from x y s t e k a f =
    let l : short_lead x.lead ≡ short_lead y.lead = short_same x.lead y.lead s t k a in
    seen_both x.slot l f ∙ ap (λ (z : Slot). seen_as z (short_lead y.lead) (folded_at z y.str)) e

alike_seen : (x y : Spot) → Sound x.lead → Sound y.lead → Alike x y → seen x ≡ seen y
alike_seen x y s t a =
    let f : folded_at x.slot x.str ≡ folded_at x.slot y.str = go (takes_name x.slot) a.string_same (λ e. recased_same (a.name_same e)) in
    seen_from x y s t a.slot_same a.kind_same a.arg_same f
  where
    go : (c : Bool) → (c ≡ false → x.str ≡ y.str) → (c ≡ true → folded_name x.str ≡ folded_name y.str)
        → cond c (folded_name x.str) x.str ≡ cond c (folded_name y.str) y.str
    go true f g = g refl
    go false f g = f refl

sound_all : (g : Items) (v : Level) (prev : List ℕ) (p d : ℕ) → Fit g false v prev → All (λ x. Sound x.lead) (spots g false v p d)
sound_all none v prev p d f = no_spot_lem
sound_all (item l str ms rs) done prev p d f = absurd f
sound_all (item l str ms rs) (due s n) prev p d f =
    spot_too {x = spot_at s p d l str ms} f.0.head
    (all_append (sound_all ms (members s l) [] (inside_at p l str) (suc d) f.1) (sound_all rs ((rule s).next l.arg n) _ (inside_at p l str + length (encode ms)) d f.2))

seen_pairs : (xs ys : List Spot) → map seen xs ≡ map seen ys → AllAlike xs ys
seen_pairs [] [] e = no_pair
seen_pairs [] (y ∷ ys) e = absurd (let z : 0 ≡ suc (length (map seen ys)) = ap length e in omega arith)
seen_pairs (x ∷ xs) [] e = absurd (let z : suc (length (map seen xs)) ≡ 0 = ap length e in omega arith)
seen_pairs (x ∷ xs) (y ∷ ys) e = pair_too (seen_alike x y (ap (λ (z : List Seen). get_or z 0 (seen x)) e)) (seen_pairs xs ys (ap (drop 1) e))

pairs_seen : {xs ys : List Spot} → All (λ x. Sound x.lead) xs → All (λ x. Sound x.lead) ys → AllAlike xs ys → map seen xs ≡ map seen ys
pairs_seen p q no_pair = refl
pairs_seen (spot_too s p) (spot_too t q) (pair_too {x = x} {y = y} {xs = xs} {ys = ys} a r) =
    ap (λ (z : Seen). z ∷ map seen xs) (alike_seen x y s t a) ∙ ap (λ (z : List Seen). seen y ∷ z) (pairs_seen p q r)

-- Two accepted ARIs are the same exactly if their items are alike, pair by pair.
module _ {m m' : Limits} {a b : List ℕ} {n n' : ℕ} (c : Is m Single a (decode a) n) (d : Is m' Single b (decode b) n') where
  pub same_alike : is_same a b ≡ true → AllAlike (spots_of Single (decode a)) (spots_of Single (decode b))
  same_alike e = seen_pairs (spots_of Single (decode a)) (spots_of Single (decode b)) (same_items c d e)

  pub alike_same : AllAlike (spots_of Single (decode a)) (spots_of Single (decode b)) → is_same a b ≡ true
  alike_same p =
      items_same a b
      (pairs_seen (sound_all (decode a) (due (ari alone) 0) [] 0 0 (stands_fit c.stands)) (sound_all (decode b) (due (ari alone) 0) [] 0 0 (stands_fit d.stands)) p)

-- An equivalence.
pub same_reflexive : (a : List ℕ) → is_same a a ≡ true
unfolding is_same
same_reflexive a = same_self (folded_form a)

pub same_symmetric : (a b : List ℕ) → is_same a b ≡ true → is_same b a ≡ true
unfolding is_same
same_symmetric a b e = rw (same_is (folded_form a) (folded_form b) e) (same_self (folded_form b))

pub same_transitive : (a b c : List ℕ) → is_same a b ≡ true → is_same b c ≡ true → is_same a c ≡ true
unfolding is_same
same_transitive a b c e f = rw (same_is (folded_form a) (folded_form b) e) f
