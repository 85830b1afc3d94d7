-- A map's value stands just behind its key: the item before it, in the order of first bytes, is the key, and ends where the value begins.
use Prim.Native.Nat.{ℕ, zero, suc, ◌+◌, ◌-◌}
use mathlib.Core.Path.{◌≡◌, refl, sym, ◌∙◌}
use mathlib.Core.Bool.{Bool, true, false, cond, true≢false}
use mathlib.Core.List.{List, [], ◌∷◌, ◌++◌}
use lib.ListN.{length}
use lib.Dec.{eqb}
use Rattle.cbor.specs.Head.{array, Lead}
use Rattle.cbor.specs.Head as head
use Rattle.ari.specs.Table.{Place, message, inside, param, Slot, version, ari, type, value, namespace, object_namespace, object_type, object_id, params, key, entry, nonce, set_time, target, report, report_time, report_source, Level, done, due, many, reference_level, ari_level, rule, members}
use Rattle.ari.specs.Items.{Items, none, item, encode, Spot, inside_at, spot_at, spots, spots_of}
use Rattle.ari.specs.declared.Limits.{Limits}
use Rattle.ari.specs.declared.Input.TheVariants.{Message}
use Rattle.ari.specs.Rules.{Is}
use Rattle.ari.proofs.Demand.{stands_fit}
use Rattle.ari.proofs.Due.{Fit}

abbrev pub is_key : Slot → Bool
is_key version = false
is_key (ari w) = false
is_key (type w) = false
is_key (value t w) = false
is_key namespace = false
is_key (object_namespace p) = false
is_key (object_type p) = false
is_key (object_id p) = false
is_key params = false
is_key (key w) = true
is_key (entry w) = false
is_key (nonce t) = false
is_key set_time = false
is_key target = false
is_key report = false
is_key report_time = false
is_key report_source = false

abbrev pub is_value : Slot → Bool
is_value version = false
is_value (ari w) = false
is_value (type w) = false
is_value (value t w) = false
is_value namespace = false
is_value (object_namespace p) = false
is_value (object_type p) = false
is_value (object_id p) = false
is_value params = false
is_value (key w) = false
is_value (entry w) = true
is_value (nonce t) = false
is_value set_time = false
is_value target = false
is_value report = false
is_value report_time = false
is_value report_source = false

abbrev value_level_begins : Level → Bool
value_level_begins done = false
value_level_begins (due s n) = is_value s

-- no level inside anything begins with a map's value
record NoValue (v : Level) : Type 0 where
  is : value_level_begins v ≡ false

no_value : {v : Level} → value_level_begins v ≡ false → NoValue v
no_value e = record { is = e }

no_many : (s : Slot) (n : ℕ) → is_value s ≡ false → NoValue (many s n)
no_many s zero e = no_value refl
no_many s (suc n) e = no_value e

no_either : (t : Bool) {u v : Level} → NoValue u → NoValue v → NoValue (cond t u v)
no_either true a b = a
no_either false a b = b

no_reference : (a : ℕ) → NoValue (reference_level a)
no_reference a = no_either (eqb a 1) (no_value refl) (no_value refl)

no_ari : (w : Place) (a : ℕ) → NoValue (ari_level w a)
no_ari w a = no_either (eqb a 2) (no_value refl) (no_reference a)

no_in_array : (s : Slot) (a : ℕ) → NoValue ((rule s).in_array a)
unfolding rule
no_in_array version a = no_value refl
no_in_array (ari w) a = no_ari w a
no_in_array (type w) a = no_value refl
no_in_array (value t w) a = no_either (eqb t 20) (no_value refl) (no_either (eqb t 21) (no_value refl) (no_many (ari w) a refl))
no_in_array namespace a = no_value refl
no_in_array (object_namespace p) a = no_value refl
no_in_array (object_type p) a = no_value refl
no_in_array (object_id p) a = no_value refl
no_in_array params a = no_many (ari param) a refl
no_in_array (key w) a = no_value refl
no_in_array (entry w) a = no_ari w a
no_in_array (nonce t) a = no_value refl
no_in_array set_time a = no_value refl
no_in_array target a = no_reference a
no_in_array report a = no_value refl
no_in_array report_time a = no_value refl
no_in_array report_source a = no_reference a

no_in_map : (s : Slot) (a : ℕ) → NoValue ((rule s).in_map a)
unfolding rule
no_in_map version a = no_value refl
no_in_map (ari w) a = no_value refl
no_in_map (type w) a = no_value refl
no_in_map (value t w) a = no_many (key w) a refl
no_in_map namespace a = no_value refl
no_in_map (object_namespace p) a = no_value refl
no_in_map (object_type p) a = no_value refl
no_in_map (object_id p) a = no_value refl
no_in_map params a = no_many (key param) a refl
no_in_map (key w) a = no_value refl
no_in_map (entry w) a = no_value refl
no_in_map (nonce t) a = no_value refl
no_in_map set_time a = no_value refl
no_in_map target a = no_value refl
no_in_map report a = no_value refl
no_in_map report_time a = no_value refl
no_in_map report_source a = no_value refl

no_inside : (s : Slot) (l : Lead) → NoValue (members s l)
unfolding members
no_inside s l = no_either (eqb l.kind array) (no_in_array s l.arg) (no_either (eqb l.kind head.map) (no_in_map s l.arg) (no_value refl))

-- and behind anything but a key none does
data Behind (s : Slot) (v : Level) : Type 0 where
  a_key : is_key s ≡ true → ((l : Lead) → members s l ≡ done) → Behind s v
  another : value_level_begins v ≡ false → Behind s v

behind : (s : Slot) (a n : ℕ) → Behind s ((rule s).next a n)
unfolding rule members
behind version a n = another refl
behind (ari w) a n = another (no_many (ari w) n refl).is
behind (type w) a n = another refl
behind (value t w) a n = another refl
behind namespace a n = another refl
behind (object_namespace p) a n = another refl
behind (object_type p) a n = another refl
behind (object_id true) a n = another refl
behind (object_id false) a n = another refl
behind params a n = another refl
behind (key w) a n = a_key refl (λ l. leaf (eqb l.kind array) (eqb l.kind head.map))
  where
    leaf : (t u : Bool) → cond t done (cond u done done) ≡ done
    leaf true u = refl
    leaf false true = refl
    leaf false false = refl
behind (entry w) a n = another (no_many (key w) n refl).is
behind (nonce t) a n = another (no_either (eqb t 21) (no_value refl) (no_many target n refl)).is
behind set_time a n = another (no_many report n refl).is
behind target a n = another (no_many target n refl).is
behind report a n = another (no_many report n refl).is
behind report_time a n = another refl
behind report_source a n = another (no_many (ari inside) n refl).is

-- a value behind its key
abbrev pub Keyed : Spot → Spot → Type 0
Keyed z y = is_value y.slot ≡ true → (is_key z.slot ≡ true) × (z.after ≡ y.first)

abbrev pub InTurn : Spot → List Spot → Type 0
InTurn z [] = Unit {0}
InTurn z (y ∷ ys) = Keyed z y × InTurn y ys

abbrev last_of : Spot → List Spot → Spot
last_of z [] = z
last_of z (y ∷ ys) = last_of y ys

turn_append : (z : Spot) (ys zs : List Spot) → InTurn z ys → InTurn (last_of z ys) zs → InTurn z (ys ++ zs)
turn_append z [] zs a b = b
turn_append z (y ∷ ys) zs a b = (a.0, turn_append y ys zs a.1 b)

-- what is due next is no map's value, or the item before is its key
abbrev Ready : Spot → Level → ℕ → Type 0
Ready z v p = value_level_begins v ≡ true → (is_key z.slot ≡ true) × (z.after ≡ p)

unready : (z : Spot) (v : Level) (p : ℕ) → NoValue v → Ready z v p
unready z v p n e = absurd (true≢false (sym e ∙ n.is))

held_none : (g : Items) (v : Level) (p d : ℕ) → v ≡ done → Fit g false v [] → spots g false v p d ≡ []
held_none none v p d e f = refl
held_none (item l s ms rs) v p d e f = absurd (rw e at f)

-- what follows an item, and what it holds
next_ready : (s : Slot) (p d : ℕ) (l : Lead) (str : List ℕ) (ms : Items) (v : Level) → Behind s v → Fit ms false (members s l) []
    → Ready (last_of (spot_at s p d l str ms) (spots ms false (members s l) (inside_at p l str) (suc d))) v (inside_at p l str + length (encode ms))
next_ready s p d l str ms v (a_key k m) f e =
    rw (held_none ms (members s l) (inside_at p l str) (suc d) (m l) f) (k, refl)
next_ready s p d l str ms v (another n) f e = absurd (true≢false (sym e ∙ n))

in_turn : (g : Items) (more : Bool) (v : Level) (prev : List ℕ) (p d : ℕ) → Fit g more v prev → (z : Spot) → Ready z v p → InTurn z (spots g more v p d)
in_turn none more v prev p d f z r = tt
in_turn (item l str ms rs) false done prev p d f z r = tt
in_turn (item l str ms rs) true done prev p d f z r =
    let s : Slot = ari message in
    let q : ℕ = inside_at p l str in
    let y : Spot = spot_at s p d l str ms in (
      λ e. absurd (true≢false (sym e)),
      turn_append y (spots ms false (members s l) q (suc d)) _ (in_turn ms false (members s l) [] q (suc d) f.1 y (unready y (members s l) q (no_inside s l)))
          (in_turn rs true ((rule s).next l.arg 0) _ (q + length (encode ms)) d f.2 _ (next_ready s p d l str ms ((rule s).next l.arg 0) (behind s l.arg 0) f.1)),
    )
in_turn (item l str ms rs) more (due s n) prev p d f z r =
    let q : ℕ = inside_at p l str in
    let y : Spot = spot_at s p d l str ms in (
      r,
      turn_append y (spots ms false (members s l) q (suc d)) _ (in_turn ms false (members s l) [] q (suc d) f.1 y (unready y (members s l) q (no_inside s l)))
          (in_turn rs more ((rule s).next l.arg n) _ (q + length (encode ms)) d f.2 _ (next_ready s p d l str ms ((rule s).next l.arg n) (behind s l.arg n) f.1)),
    )

-- of an accepted message, whatever stands before its version
pub spot_turns : {m : Limits} {b : List ℕ} {g : Items} {n : ℕ} → Is m Message b g n → (z : Spot) → InTurn z (spots_of Message g)
spot_turns {g = g} c z = in_turn g true (due version 0) [] 0 0 (stands_fit c.stands) z (λ e. absurd (true≢false (sym e)))
