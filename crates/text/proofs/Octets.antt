-- A candidate's bytes are bytes, whatever text it was read from.
use Prim.Native.Nat.{ℕ, zero, suc, pred, ◌+◌, ◌-◌, ◌*◌, ◌/◌, ◌%◌, ◌^◌, ◌≤◌, ◌<◌}
use mathlib.Core.Path.{◌≡◌, refl}
use mathlib.Core.Bool.{Bool, true, false, ◌&&◌, cond}
use mathlib.Core.List.{List, [], ◌∷◌}
use native.Mathlib.Omega.{arith}
use native.Mathlib.Nat.{mod-lt, div-lt_iff_lt-mul, pow-suc, mul_comm}
use lib.ListN.{length, take, drop, length-append, length-take, length-drop}
use lib.Dec.{leb, eqb}
use borrow.Author.Tests.{leb-true, lt-ltb, le-leb}
use Rattle.buffer.specs.Runs.{front, past}
use Rattle.buffer.specs.Bytes.{be, within, all, is_byte, same}
use Rattle.cbor.specs.Head.{unsigned, negative, bytes, text, array, map, simple, Lead, width, major_of, lead_bytes, lead_of}
use Rattle.std.specs.declared.option.Option.{Option}
use Rattle.std.specs.declared.option.Option.TheVariants.{Some, None}
use Rattle.buffer.specs.Decimal.{unsigned_of}
use Rattle.buffer.proofs.RunLaws.{front_past}
use Rattle.buffer.proofs.DecimalLaws.{Most, unsigned_most}
use Rattle.buffer.proofs.ByteLaws.{and-true, within_true, pow_pos, all_take, all_drop, all_append, all_split}
use Rattle.cbor.specs.Head.{Carries, itself, after}
use Rattle.cbor.proofs.HeadLaws.{carries_lt, width_small, shortest_carries}
use Rattle.ari.specs.Table.{max64, Slot, version, ari, type, value, namespace, object_namespace, object_type, object_id, params, key, entry, nonce, set_time, target, report, report_time, report_source, Level, done, due, rule, members}
use Rattle.ari.specs.declared.Limits.{Limits}
use Rattle.ari.specs.Items.{none, encode}
use Rattle.ari.specs.Decode.{Headed}
use Rattle.text.specs.Chars.{ascii}
use Rattle.text.specs.Text.{Name, name, names, spell, an_ari_due}
use Rattle.text.specs.Parse.{in_word, starts_by, starts, number, unhex, Await, any, first, second, unescape, unhexes, inner, head_of, string_of, integer_of, literal_of, starts_number, name_of, value_of, number_in, type_number, type_of, opened, commas, count, parts, or_zero, Taken, take_word, take_group, take_reference, take_ari, take_nothing, take_at, Run, level, parse, candidate}

-- a number's bytes; a head's bytes
be_bytes : (w a : ℕ) → a < 256 ^ w → all is_byte (be w a) ≡ true
be_bytes zero a h = refl
be_bytes (suc w) a h =
    let q : a / 256 ^ w < 256 = (div-lt_iff_lt-mul (pow_pos w)).1 (rw (pow-suc, mul_comm (256 ^ w) 256) at h) in
    rw (lt-ltb (a / 256 ^ w) 256 q, be_bytes w (a % 256 ^ w) (mod-lt a (pow_pos w)))

pub record Octets (h : Headed) : Type 0 where
  pub lead_octets : all is_byte (lead_bytes h.lead) ≡ true
  pub str_octets : all is_byte h.str ≡ true

carried : (l : Lead) → Carries l.info l.arg → all is_byte (lead_bytes l) ≡ true
unfolding lead_bytes major_of
carried l c = rw (lt-ltb (major_of l.kind * 32 + l.info) 256 (first_byte (leb l.kind map) refl)) (rest c)
  where
    first_byte : (t : Bool) → leb l.kind map ≡ t → cond t l.kind 7 * 32 + l.info < 256
    first_byte true e = omega (arith, leb-true l.kind map e, carries_lt c)
    first_byte false e = omega (arith, carries_lt c)

    rest : Carries l.info l.arg → all is_byte (be (width l.info) l.arg) ≡ true
    rest (itself h e) = rw (width_small l.info h)
    rest (after h g e) = be_bytes (width l.info) l.arg e

head_octets : (k a : ℕ) (s : List ℕ) → k ≤ map → a ≤ max64 → all is_byte s ≡ true → Octets (head_of k a s)
unfolding lead_of
head_octets k a s h g b = record { lead_octets = carried (lead_of k a) (rw (le-leb k map h) (shortest_carries a (omega arith))); str_octets = b }

simple_octets : (a : ℕ) → a ≤ 23 → Octets (head_of simple a [])
unfolding lead_of
simple_octets a h = record { lead_octets = carried (lead_of simple a) (itself (omega arith) refl); str_octets = refl }

cond_octets : (t : Bool) {x y : Headed} → Octets x → Octets y → Octets (cond t x y)
cond_octets true p q = p
cond_octets false p q = q

-- a text that is read: bytes, and not too many to count
pub record Given (t : List ℕ) : Type 0 where
  pub octets : all is_byte t ≡ true
  pub short : length t < max64

given_drop : (n : ℕ) {t : List ℕ} → Given t → Given (drop n t)
given_drop n {t} g = record { octets = all_drop is_byte n t g.octets; short = rw (length-drop n t) (omega (arith, g.short)) }

given_take : (n : ℕ) {t : List ℕ} → Given t → Given (take n t)
given_take n {t} g = record { octets = all_take is_byte n t g.octets; short = rw (length-take n t) (omega (arith, g.short)) }

given_inner : (a b : ℕ) {t : List ℕ} → Given t → Given (inner a b t)
unfolding inner
given_inner a b {t} g = given_take (length t - (a + b)) (given_drop a g)

given_word : {t : List ℕ} → Given t → Given (front in_word t) × Given (past in_word t)
given_word {t} g =
    let (a, b) = all_split is_byte (front in_word t) (past in_word t) (rw (front_past in_word t) g.octets) in
    let n : length (front in_word t) + length (past in_word t) ≡ length t = rw (← length-append (front in_word t) (past in_word t), front_past in_word t) in
    (record { octets = a; short = omega (arith, g.short) }, record { octets = b; short = omega (arith, g.short) })

-- numbers, and strings of hex digits and escapes
number_most : (u : List ℕ) → number u ≤ max64
unfolding number
number_most u = go (unsigned_of u) (unsigned_most u)
  where
    go : (n : Option ℕ) → Most n → or_zero n ≤ max64
    go (Some n) h = h
    go None h = omega arith

unhex_most : (c : ℕ) → unhex c < 16
unfolding unhex
unhex_most c =
    cond_lt (within 48 57 c) (λ e. omega (arith, within_true 48 57 c e))
    (cond_lt (within 65 70 c) (λ e. omega (arith, within_true 65 70 c e))
    (cond_lt (within 97 102 c) (λ e. omega (arith, within_true 97 102 c e)) (omega arith)))
  where
    cond_lt : (t : Bool) {x y : ℕ} → (t ≡ true → x < 16) → y < 16 → cond t x y < 16
    cond_lt true p q = p refl
    cond_lt false p q = q

pair_byte : (h c : ℕ) → h < 16 → is_byte (h * 16 + unhex c) ≡ true
pair_byte h c l = lt-ltb (h * 16 + unhex c) 256 (omega (arith, unhex_most c))

record Shrinks (s t : List ℕ) : Type 0 where
  octets : all is_byte s ≡ true
  few : length s ≤ length t

unhexes_given : (t : List ℕ) → Shrinks (unhexes t) t
unfolding unhexes
unhexes_given [] = record { octets = refl; few = omega arith }
unhexes_given (x ∷ []) = record { octets = refl; few = omega arith }
unhexes_given (x ∷ y ∷ t) =
    let i = unhexes_given t in
    record { octets = rw (pair_byte (unhex x) y (unhex_most x), i.octets); few = omega (arith, i.few) }

abbrev Fair : Await → Type 0
Fair any = Unit {0}
Fair first = Unit {0}
Fair (second h) = h < 16

unescape_given : (w : Await) (t : List ℕ) → Fair w → all is_byte t ≡ true → Shrinks (unescape w t) t
unfolding unescape
unescape_given w [] f e = record { octets = refl; few = omega arith }
unescape_given any (x ∷ t) f e =
    let (p, q) = and-true (is_byte x) (all is_byte t) e in
    go (eqb x 37) p (unescape_given first t tt q) (unescape_given any t tt q)
  where
    go : (b : Bool) → is_byte x ≡ true → Shrinks (unescape first t) t → Shrinks (unescape any t) t → Shrinks (cond b (unescape first t) (x ∷ unescape any t)) (x ∷ t)
    go true p i j = record { octets = i.octets; few = omega (arith, i.few) }
    go false p i j = record { octets = rw (p, j.octets); few = omega (arith, j.few) }
unescape_given first (x ∷ t) f e =
    let i = unescape_given (second (unhex x)) t (unhex_most x) (and-true (is_byte x) (all is_byte t) e).1 in
    record { octets = i.octets; few = omega (arith, i.few) }
unescape_given (second h) (x ∷ t) f e =
    let i = unescape_given any t tt (and-true (is_byte x) (all is_byte t) e).1 in
    record { octets = rw (pair_byte h x f, i.octets); few = omega (arith, i.few) }

-- words
module _ {u : List ℕ} (g : Given u) where
  integer_octets : Octets (integer_of u)
  unfolding integer_of
  integer_octets =
      cond_octets (starts 45 u) (head_octets negative (pred (number (drop 1 u))) [] (omega arith) (omega (arith, number_most (drop 1 u))) refl)
      (head_octets unsigned (number u) [] (omega arith) (number_most u) refl)

  string_octets : (k a b : ℕ) (f : List ℕ → List ℕ) → k ≤ map → Shrinks (f (inner a b u)) (inner a b u) → Octets (string_of k (f (inner a b u)))
  string_octets k a b f h i = head_octets k (length (f (inner a b u))) (f (inner a b u)) h (omega (arith, i.few, (given_inner a b g).short)) i.octets

  literal_octets : Octets (literal_of u)
  unfolding literal_of
  literal_octets =
      cond_octets (starts 37 u) (string_octets text 3 3 (unescape any) (omega arith) (unescape_given any (inner 3 3 u) tt (given_inner 3 3 g).octets))
      (cond_octets (starts 104 u) (string_octets bytes 4 3 unhexes (omega arith) (unhexes_given (inner 4 3 u)))
      (cond_octets (starts 102 u) (simple_octets 20 (omega arith))
      (cond_octets (starts 116 u) (simple_octets 21 (omega arith))
      (cond_octets (starts 110 u) (simple_octets 22 (omega arith)) (cond_octets (starts 117 u) (simple_octets 23 (omega arith)) integer_octets)))))

  name_octets : Octets (name_of u)
  unfolding name_of
  name_octets = cond_octets (starts_by starts_number u) integer_octets (head_octets text (length u) u (omega arith) (omega (arith, g.short)) g.octets)

numbers_below : List Name → Bool
numbers_below [] = true
numbers_below (name n s ∷ es) = leb n max64 && numbers_below es

number_in_most : (es : List Name) (u : List ℕ) → numbers_below es ≡ true → number_in es u ≤ max64
unfolding numbers_below
number_in_most [] u e = omega arith
number_in_most (name n s ∷ es) u e =
    let (p, q) = and-true (leb n max64) (numbers_below es) e in
    go (same u (ascii s)) (leb-true n max64 p) (number_in_most es u q)
  where
    go : (t : Bool) → n ≤ max64 → number_in es u ≤ max64 → cond t n (number_in es u) ≤ max64
    go true p q = p
    go false p q = q

type_octets : (u : List ℕ) → Octets (type_of u)
unfolding type_of type_number names numbers_below
type_octets u = head_octets unsigned (number_in names u) [] (omega arith) (number_in_most names u refl) refl

-- heads
commas_most : (e : ℕ) (t : List ℕ) → commas e t ≤ length t
unfolding commas
commas_most e [] = omega arith
commas_most e (x ∷ t) = go (eqb x 44 && eqb e 1) (commas_most (opened e x) t)
  where
    go : (b : Bool) → commas (opened e x) t ≤ length t → cond b 1 0 + commas (opened e x) t ≤ suc (length t)
    go true h = omega arith
    go false h = omega arith

count_most : (t : List ℕ) → count t ≤ suc (length t)
unfolding count
count_most t = go (starts 41 t) (commas_most 1 t)
  where
    go : (b : Bool) → commas 1 t ≤ length t → cond b 0 (suc (commas 1 t)) ≤ suc (length t)
    go true h = omega arith
    go false h = omega arith

pub record Took (x : Taken) : Type 0 where
  pub taken_octets : Octets x.head
  pub rest_given : Given x.rest

cond_took : (t : Bool) {x y : Taken} → Took x → Took y → Took (cond t x y)
cond_took true p q = p
cond_took false p q = q

word_took : (f : List ℕ → Headed) → ((u : List ℕ) → Given u → Octets (f u)) → (t : List ℕ) → Given t → Took (take_word f t)
word_took f h t g = let (a, b) = given_word g in record { taken_octets = h (front in_word t) a; rest_given = b }

group_took : (k : ℕ) (t : List ℕ) → k ≤ map → Given t → Took (take_group k t)
group_took k t h g =
    let r = given_drop 1 g in
    record { taken_octets = head_octets k (count (drop 1 t)) [] h (omega (arith, count_most (drop 1 t), r.short)) refl; rest_given = r }

reference_took : (t r : List ℕ) → Given t → Took (take_reference t r)
unfolding parts
reference_took t r g =
    let u : List ℕ = drop 1 r in
    record { taken_octets = head_octets array (parts u) [] (omega arith) (few (starts_by in_word u) (starts 40 (past in_word (drop 1 (past in_word u))))) refl; rest_given = g }
  where
    few : (a b : Bool) → cond a (cond b 4 3) 1 ≤ max64
    few true true = omega arith
    few true false = omega arith
    few false b = omega arith

ari_took : (t : List ℕ) → Given t → Took (take_ari t)
unfolding take_ari
ari_took t g =
    cond_took (starts 47 t)
    (cond_took (starts 47 (drop 1 t)) (reference_took t (past in_word (drop 2 t)) g)
    (record { taken_octets = head_octets array 2 [] (omega arith) (omega arith) refl; rest_given = given_drop 1 g }))
    (cond_took (starts 46 t) (reference_took t (past in_word t) g) (word_took literal_of (λ u h. literal_octets h) t g))

nothing_took : (t : List ℕ) → Given t → Took (take_nothing t)
nothing_took t g = record { taken_octets = simple_octets 22 (omega arith); rest_given = g }

group_kind : (t : Bool) → cond t array map ≤ map
group_kind true = omega arith
group_kind false = omega arith

took : (s : Slot) (t : List ℕ) → Given t → Took (take_at s t)
unfolding take_at
took version t g = nothing_took t g
took (ari w) t g = ari_took t g
took (type w) t g = word_took type_of (λ u h. type_octets u) t g
took (value y w) t g =
    cond_took (starts 40 t) (group_took (cond (eqb y 17) array map) t (group_kind (eqb y 17)) g)
    (word_took (value_of y) (λ u h. cond_octets (eqb y 14) (name_octets h) (literal_octets h)) t g)
took namespace t g = word_took name_of (λ u h. name_octets h) (drop 2 t) (given_drop 2 g)
took (object_namespace p) t g =
    cond_took (starts 46 t) (word_took (λ u. head_of simple 22 []) (λ u h. simple_octets 22 (omega arith)) t g)
    (word_took name_of (λ u h. name_octets h) (drop 2 t) (given_drop 2 g))
took (object_type p) t g = word_took name_of (λ u h. name_octets h) t g
took (object_id p) t g = word_took name_of (λ u h. name_octets h) t g
took params t g = group_took (cond (starts 61 (past in_word (drop 1 t))) map array) t (kind (starts 61 (past in_word (drop 1 t)))) g
  where
    kind : (t : Bool) → cond t map array ≤ map
    kind true = omega arith
    kind false = omega arith
took (key w) t g = word_took literal_of (λ u h. literal_octets h) t g
took (entry w) t g = ari_took t g
took (nonce y) t g = nothing_took t g
took set_time t g = nothing_took t g
took target t g = nothing_took t g
took report t g = nothing_took t g
took report_time t g = nothing_took t g
took report_source t g = nothing_took t g

-- items
record Ran (r : Run) : Type 0 where
  item_octets : all is_byte (encode r.items) ≡ true
  left : Given r.rest

no_items : (t : List ℕ) → Given t → Ran (record { items = none; rest = t })
no_items t g = record { item_octets = refl; left = g }

level_ran : (go : Level → List ℕ → Run) → ((v : Level) (t : List ℕ) → Given t → Ran (go v t)) → (k : ℕ) (v : Level) (t : List ℕ) → Given t → Ran (level go k v t)
unfolding level
level_ran go f zero v t g = no_items t g
level_ran go f (suc k) done t g = no_items t g
level_ran go f (suc k) (due s n) t g =
    let x = take_at s t in
    let l = x.head.lead in
    let v = (rule s).next l.arg n in
    let h = took s t g in
    let m = f (members s l) x.rest h.rest_given in
    let r = level_ran go f k v _ (given_drop (length ((spell s).after l v)) m.left) in
    record {
      item_octets = all_append is_byte (lead_bytes l) _ h.taken_octets.lead_octets
          (all_append is_byte x.head.str _ h.taken_octets.str_octets (all_append is_byte (encode (go (members s l) x.rest).items) _ m.item_octets r.item_octets));
      left = r.left;
    }

parse_ran : (k d : ℕ) (v : Level) (t : List ℕ) → Given t → Ran (parse k d v t)
unfolding parse
parse_ran k zero v t g = no_items t g
parse_ran k (suc d) v t g = level_ran (parse k d) (parse_ran k d) k v t g

pub candidate_bytes : (m : Limits) (t : List ℕ) → Given t → all is_byte (encode (candidate m t)) ≡ true
unfolding candidate
candidate_bytes m t g = (parse_ran m.items (suc m.containers) an_ari_due (cond (starts 46 t) t (drop 4 t)) (go (starts 46 t))).item_octets
  where
    go : (b : Bool) → Given (cond b t (drop 4 t))
    go true = g
    go false = given_drop 4 g
