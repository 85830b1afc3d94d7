-- The entries of an accepted input: each gives back its item. An entry's fields hold their numbers because places are below the limit of bytes,
-- containers below theirs, and every slot that is due has a number.
use Prim.Native.Nat.{ℕ, zero, suc, pred, ◌+◌, ◌-◌, ◌*◌, ◌/◌, ◌%◌, ◌≤◌, ◌<◌, min}
use mathlib.Core.Path.{◌≡◌, refl, sym, ◌∙◌, ap}
use mathlib.Core.Bool.{Bool, true, false, not, ◌&&◌, cond, and-false}
use mathlib.Core.Bool as bool
use mathlib.Core.List.{List, [], ◌∷◌, ◌++◌, map}
use native.Mathlib.Omega.{arith}
use lib.ListN.{length, get_or, drop, length-map, get_or-append}
use lib.Seq.{sets as stored, sets-eq}
use lib.Dec.{eqb}
use borrow.Author.Tests.{eqb-true, not-true, not-false, ne_eqb, eq-eqb}
use Rattle.cbor.specs.Head.{array, Lead, Sound, counted, a_simple, a_float, size, string_size, lead_bytes, is_container}
use Rattle.cbor.specs.declared.Head.TheVariants.{Good}
use Rattle.cbor.specs.Answer.{head_at}
use Rattle.buffer.proofs.ByteLaws.{and-true}
use Rattle.cbor.proofs.HeadLaws.{width_le, get_head_back}
use Rattle.ari.specs.Table.{message, Slot, ari, Level, done, due, rule, members, is_reference}
use Rattle.ari.specs.declared.Limits.{Limits}
use Rattle.ari.specs.declared.Input.{Input}
use Rattle.ari.specs.declared.Input.TheVariants.{Single, Message}
use Rattle.ari.specs.Reader.{first_slot}
use Rattle.ari.specs.Items.{Items, none, item, encode, depth, Spot, spots, spot_at, inside_at, open_ended, spots_of}
use Rattle.ari.specs.Decode.{decode}
use Rattle.ari.specs.Rules.{Is}
use Rattle.ari.proofs.Decoded.{heads_encode}
use Rattle.ari.proofs.Due.{Fit, prev_after, members_leaf}
use Rattle.ari.proofs.Demand.{stands_fit}
use Rattle.ari.proofs.Spots.{All, no_spot_lem, spot_too, all_append, Between, Covers, spot_between, spot_covers, spot_count}
use Rattle.grammar.specs.declared.Next.{Next}
use Rattle.grammar.specs.declared.Next.TheVariants.{Done, Due}
use Rattle.grammar.specs.Code.{slot_of, level_of, fits_code, takes_reference_of, next_code, inside_code}
use Rattle.grammar.specs.Code.{IsSlot}
use Rattle.grammar.proofs.Right.{number_slot, Slotted, Stands, fits_right, next_right, inside_right, takes_reference_right}
use Rattle.item_table.specs.declared.Item.{Item}
use Rattle.grammar.specs.Code.{slot_number}
use Rattle.item_table.specs.Entries.{packed, item_of, head_of, reference_head, entry_of, reference_by, head_by, no_spot, spot_number, Tabled}

sound_kind : {l : Lead} → Sound l → l.kind ≤ 9
sound_kind (counted k c) = omega arith
sound_kind (a_simple k a b i) = omega arith
sound_kind (a_float k a b c d) = a

-- a spot whose head may be written, with few containers around it, at a numbered slot
pub record Fine (most : ℕ) (x : Spot) : Type 0 where
  pub sound : Sound x.lead
  pub sized : length x.str ≡ string_size x.lead
  pub shallow : x.around ≤ most
  pub number : ℕ
  pub is_slot : IsSlot number
  pub slot_is : slot_of number ≡ x.slot

-- the number of a level's slot
record HasNumber (s : Slot) : Type 0 where
  number : ℕ
  is_slot : IsSlot number
  slot_is : slot_of number ≡ s

numbered_of : (r : Next) (s : Slot) (n : ℕ) → level_of r ≡ due s n → Slotted r → HasNumber s
numbered_of Done s n e h = absurd (let z : ◌≡◌ {A = ℕ} 0 1 = cc in omega arith)
numbered_of (Due j m) s n e h = record { number = j; is_slot = h; slot_is = cc }

abbrev Known : Level → Type 0
Known done = Unit {0}
Known (due s n) = HasNumber s

known_of : (v : Level) (r : Next) → Stands r v → Known v
known_of done r h = tt
known_of (due s n) r h = numbered_of r s n h.level h.slotted

module _ (s : Slot) (k : HasNumber s) (l : Lead) where
  inside_known : Known (members s l)
  inside_known = rw k.slot_is at (known_of (members (slot_of k.number) l) (inside_code k.number l.kind l.arg) (inside_right k.number l k.is_slot))

  next_known : (n : ℕ) → Sound l → Rattle.ari.specs.Table.fits l.kind l.arg (rule s).rows ≡ true → Known ((rule s).next l.arg n)
  next_known n h f =
      let i = k.number in
      let g : fits_code i l.kind l.arg ≡ true = fits_right i l.kind l.arg ∙ rw k.slot_is f in
      rw k.slot_is at (known_of ((rule (slot_of i)).next l.arg n) (next_code i l.arg n) (next_right i l.kind l.arg n k.is_slot (sound_kind h) g))

-- what a container holds is one deeper; what is none holds nothing
deeper : (g : Items) (s : Slot) (l : Lead) (d k : ℕ) → (t : Bool) → is_container l.kind ≡ t → Fit g false (members s l) [] → cond t (suc (depth g)) 0 ≤ k
    → (P : Spot → Type 0) (p : ℕ) → (((k' : ℕ) → depth g ≤ k' → suc d + k' ≡ d + k → All P (spots g false (members s l) p (suc d)))) → All P (spots g false (members s l) p (suc d))
deeper g s l d k true e f h P p r = r (k - 1) (omega arith) (omega arith)
deeper none s l d k false e f h P p r = no_spot_lem
deeper (item l' s' ms rs) s l d k false e f h P p r = absurd (rw (members_leaf s l e) at f)

fine : (g : Items) (more : Bool) (v : Level) (prev : List ℕ) (p d k most : ℕ) → d + k ≡ most → Fit g more v prev → depth g ≤ k → Known v
    → All (Fine most) (spots g more v p d)
fine none more done prev p d k most m f h n = no_spot_lem
fine none more (due s i) prev p d k most m f h n = absurd f
fine (item l str ms rs) false done prev p d k most m f h n = absurd f
fine (item l str ms rs) true done prev p d k most m f h n =
    let w : HasNumber (ari message) = record { number = 2; is_slot = omega arith; slot_is = refl } in
    let y : Fine most (spot_at (ari message) p d l str ms)
    = record { sound = f.0.head; sized = f.0.sized; shallow = omega arith; number = 2; is_slot = omega arith; slot_is = refl } in
    spot_too y
    (all_append
    (deeper ms (ari message) l d k (is_container l.kind) refl f.1 (omega arith) (Fine most) (inside_at p l str)
    (λ k' x y. fine ms false (members (ari message) l) [] (inside_at p l str) (suc d) k' most (y ∙ m) f.1 x (inside_known (ari message) w l)))
    (fine rs true ((rule (ari message)).next l.arg 0) (prev_after (ari message) [] l str) (inside_at p l str + length (encode ms)) d k most m f.2 (omega arith)
    (next_known (ari message) w l 0 f.0.head f.0.fitting)))
fine (item l str ms rs) more (due s i) prev p d k most m f h n =
    let y : Fine most (spot_at s p d l str ms)
    = record { sound = f.0.head; sized = f.0.sized; shallow = omega arith; number = n.number; is_slot = n.is_slot; slot_is = n.slot_is } in
    spot_too y
    (all_append
    (deeper ms s l d k (is_container l.kind) refl f.1 (omega arith) (Fine most) (inside_at p l str)
    (λ k' x y. fine ms false (members s l) [] (inside_at p l str) (suc d) k' most (y ∙ m) f.1 x (inside_known s n l)))
    (fine rs more ((rule s).next l.arg i) (prev_after s prev l str) (inside_at p l str + length (encode ms)) d k most m f.2 (omega arith)
    (next_known s n l i f.0.head f.0.fitting)))

first_known : (i : Input) → HasNumber (first_slot i)
first_known Single = record { number = 1; is_slot = omega arith; slot_is = refl }
first_known Message = record { number = 0; is_slot = omega arith; slot_is = refl }

pub all_fine : {m : Limits} {i : Input} {b : List ℕ} {g : Items} {n : ℕ} → Is m i b g n → All (Fine m.containers) (spots_of i g)
all_fine {m} {i} {b} {g} c =
    fine g (open_ended i) (due (first_slot i) 0) [] 0 0 m.containers m.containers (omega arith) (stands_fit c.stands) c.shallow (first_known i)

-- item k is one of them
pub at_all : {P : Spot → Type 0} (xs : List Spot) (k : ℕ) (d : Spot) → All P xs → k < length xs → P (get_or xs k d)
at_all [] k d a h = absurd (omega arith)
at_all (x ∷ xs) zero d (spot_too p a) h = p
at_all (x ∷ xs) (suc k) d (spot_too p a) h = at_all xs k d a (omega arith)

pub get_d_entries : (xs : List Spot) (k : ℕ) (d : Spot) → k < length xs → get_or (map entry_of xs) k 0 ≡ entry_of (get_or xs k d)
get_d_entries [] k d h = absurd (omega arith)
get_d_entries (x ∷ xs) zero d h = refl
get_d_entries (x ∷ xs) (suc k) d h = get_d_entries xs k d (omega arith)

-- the fields of an entry
module _ (f a r s z : ℕ) (hf : f < 65536) (ha : a < 65536) (hr : r < 256) (hs : s < 256) (hz : z < 65536) where
  pub first_field : packed f a r s z % 65536 ≡ f
  first_field = omega arith

  pub after_field : packed f a r s z / 65536 % 65536 ≡ a
  after_field = omega arith

  pub around_field : packed f a r s z / 4294967296 % 256 ≡ r
  around_field = omega arith

  pub slot_field : packed f a r s z / 1099511627776 % 256 ≡ s
  slot_field = omega arith

  pub head_field : packed f a r s z / 281474976710656 ≡ z
  head_field = omega arith

-- whether an item is a reference, way by way
module _ (i k a : ℕ) where
  pub not_array : (k ≡ 4 → ⊥) → false ≡ reference_by i k a
  not_array n = rw (ne_eqb k 4 n) (sym (and-false (takes_reference_of i)))

  pub a_literal : a ≡ 2 → false ≡ reference_by i k a
  a_literal n = rw (eq-eqb a 2 n, and-false (eqb k 4)) (sym (and-false (takes_reference_of i)))

  pub an_array : k ≡ 4 → (a ≡ 2 → ⊥) → {x : Bool} → x ≡ takes_reference_of i → x ≡ reference_by i k a
  an_array n m e = rw (eq-eqb k 4 n, ne_eqb a 2 m) (e ∙ sym (bool.and-true (takes_reference_of i)))

pub ruleset reference_ways = (not_array, a_literal, an_array)

-- the bytes of its head, if it is one
module _ (i k a n : ℕ) {x : Bool} (e : x ≡ reference_by i k a) where
  pub a_reference : x ≡ true → n ≡ head_by i k a n
  a_reference q = rw (← e, q)

  pub no_reference : x ≡ false → 0 ≡ head_by i k a n
  no_reference q = rw (← e, q)

pub ruleset head_ways = (a_reference, no_reference)

-- a number or a string is none
pub leaf_head : (i k a n : ℕ) → k < 4 → head_by i k a n ≡ 0
leaf_head i k a n h = rw (← not_array i k a (λ e. omega arith))

-- a reference has no string
pub no_string : (s : Slot) (l : Lead) → is_reference s l ≡ true → string_size l ≡ 0
unfolding is_reference string_size
no_string s l e =
    let q = (and-true (eqb l.kind array) (not (eqb l.arg 2)) (and-true (rule s).takes_reference (eqb l.kind array && not (eqb l.arg 2)) e).1).0 in
    rw (eqb-true l.kind array q)

-- the bytes up to where its members begin are its head's
pub reference_head_lem : (i k a n : ℕ) (l : Lead) → l.kind ≡ k → l.arg ≡ a → (string_size l ≡ 0 → n ≡ size l) → head_by i k a n ≡ reference_head (slot_of i) l
unfolding is_reference
reference_head_lem i k a n l ek ea f = rw (← ek, ← ea) (go (is_reference (slot_of i) l) refl)
  where
    go : (t : Bool) → is_reference (slot_of i) l ≡ t → cond t n 0 ≡ cond t (size l) 0
    go true e = f (no_string (slot_of i) l e)
    go false e = refl

pub head_is : (b : List ℕ) (p : ℕ) (l : Lead) (r : List ℕ) → drop p b ≡ lead_bytes l ++ r → Sound l → head_at b p ≡ Good l.kind l.arg (p + size l)
unfolding head_at
head_is b p l r e h = rw (e, get_head_back r h)

reference_is : (s : Slot) (l : Lead) (j : ℕ) → IsSlot j → slot_of j ≡ s → slot_number s ≡ j → is_reference s l ≡ reference_by (slot_number s) l.kind l.arg
unfolding is_reference
reference_is s l j v e q = rw (q, ← e, takes_reference_right j)

-- a head has few bytes
small_head : (s : Slot) (l : Lead) → reference_head s l < 65536
small_head s l = go (is_reference s l)
  where
    go : (t : Bool) → cond t (size l) 0 < 65536
    go true = omega (arith, width_le l.info)
    go false = omega arith

-- What the table says of item k, with the head that the bytes have there.
module _ {m : Limits} {i : Input} {b : List ℕ} {n : ℕ} {t : List ℕ} (c : Tabled m i b n t) (k : ℕ) (h : k < n) where
  abbrev x : Spot
  x = spot_number i b k

  abbrev l : Lead
  l = x.lead

  abbrev number : ℕ
  number = slot_number x.slot

  pub there : k < length (spots_of i (decode b))
  there = let z = spot_count c.is in omega arith

  pub fine_at : Fine m.containers x
  fine_at = at_all (spots_of i (decode b)) k no_spot (all_fine c.is) there

  places : Between 0 (length b) x
  places = at_all (spots_of i (decode b)) k no_spot (spot_between c.is) there

  pub covers_at : Covers b x
  covers_at = at_all (spots_of i (decode b)) k no_spot (spot_covers c.is) there

  number_is : number ≡ fine_at.number
  number_is = ap slot_number (sym fine_at.slot_is) ∙ number_slot fine_at.number fine_at.is_slot

  pub short_at : (x.first < 65536) × (x.after < 65536)
  short_at = (omega (arith, places.0, places.1, places.2, c.is.short, c.small), omega (arith, places.2, c.is.short, c.small))

  pub item_at : item_of (get_or t k 0) ≡ record { first = x.first; after = x.after; around = x.around; slot = number }
  unfolding item_of entry_of
  item_at =
      let hf : x.first < 65536 = short_at.0 in
      let ha : x.after < 65536 = short_at.1 in
      let hr : x.around < 256 = omega (arith, fine_at.shallow, c.shallow) in
      let hs : number < 256 = omega (arith, fine_at.is_slot, number_is) in
      let z : ℕ = reference_head x.slot l in
      let hz : z < 65536 = small_head x.slot l in
      rw (c.kept k h, first_field x.first x.after x.around number z hf ha hr hs hz, after_field x.first x.after x.around number z hf ha hr hs hz, around_field x.first x.after x.around number z hf ha hr hs hz, slot_field x.first x.after x.around number z hf ha hr hs hz)

  pub head_of_at : head_of (get_or t k 0) ≡ reference_head x.slot l
  unfolding head_of entry_of
  head_of_at =
      let hf : x.first < 65536 = short_at.0 in
      let ha : x.after < 65536 = short_at.1 in
      let hr : x.around < 256 = omega (arith, fine_at.shallow, c.shallow) in
      let hs : number < 256 = omega (arith, fine_at.is_slot, number_is) in
      rw (c.kept k h) (head_field x.first x.after x.around number (reference_head x.slot l) hf ha hr hs (small_head x.slot l))

  pub head_at_lem : head_at b x.first ≡ Good l.kind l.arg (x.first + size l)
  head_at_lem = head_is b x.first l _ covers_at fine_at.sound

  pub reference_at : is_reference x.slot l ≡ reference_by number l.kind l.arg
  reference_at = reference_is x.slot l fine_at.number fine_at.is_slot fine_at.slot_is number_is

-- an input has no more items than bytes
pub fewer_than_bytes : {m : Limits} {i : Input} {b : List ℕ} {n : ℕ} → Is m i b (decode b) n → n ≤ length b
fewer_than_bytes {b = b} c = omega (arith, c.count, heads_encode (decode b), ap length c.bytes)

-- The entries that were stored from the front are the table, if there was room for each.
pub stored_table : {m : Limits} {i : Input} {b : List ℕ} {n : ℕ} (t : List ℕ) {t' : List ℕ} → Is m i b (decode b) n → m.bytes < 65536 → m.containers < 256
    → min m.items (length b) ≤ length t → length t' ≡ length t → t' ≡ stored t 0 (map entry_of (spots_of i (decode b))) → Tabled m i b n t'
stored_table {m} {i} {b} {n} t {t'} c s d room l e =
    let few : n ≤ length t = omega (arith, c.few, fewer_than_bytes c) in
    let xs = spots_of i (decode b) in
    let ws = map entry_of xs in
    let size : length ws ≡ n = length-map xs entry_of ∙ spot_count c in
    record {
      is = c;
      small = s;
      shallow = d;
      room = omega arith;
      kept = λ k h.
          let f : 0 + length ws ≤ length t = omega arith in
          let g : k < length xs = omega (arith, spot_count c) in
          rw (e, sets-eq ws t 0 f, get_or-append ws (drop (0 + length ws) t) 0 k (omega arith)) (get_d_entries xs k no_spot g);
    }
