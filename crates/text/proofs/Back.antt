-- The text of items below the outermost is read back as these items.
use Prim.Native.Nat.{ℕ, zero, suc, pred, ◌≤◌}
use mathlib.Core.Path.{◌≡◌, refl, sym, ◌∙◌, ap}
use mathlib.Core.Bool.{Bool, true, false, cond, true≢false}
use mathlib.Core.Logic.{◌⊎◌, inl, inr}
use mathlib.Core.List.{List, [], ◌∷◌, ◌++◌}
use native.Mathlib.Omega.{arith}
use lib.ListN.{length}
use lib.Seq.{drop_at}
use lib.Dec.{eqb}
use borrow.Author.Tests.{eqb-true, eqb-false, eq-eqb}
use Rattle.buffer.specs.Runs.{past}
use Rattle.cbor.specs.Head.{array, map, simple, Lead, Sound, is_container}
use Rattle.buffer.proofs.ByteLaws.{within_true}
use Rattle.ari.specs.Table.{Place, param, outermost, Row, row, Slot, ari, type, value, namespace, object_namespace, object_type, object_id, params, key, entry, Level, done, due, many, rule, members}
use Rattle.ari.specs.Shortened.{short_lead, shortened}
use Rattle.ari.proofs.Shortened.{short_arg, short_members}
use Rattle.text.proofs.Short.{short_after}
use Rattle.ari.specs.Items.{Items, none, item, heads, depth}
use Rattle.ari.specs.Decode.{Headed}
use Rattle.ari.specs.Due.{Good}
use Rattle.ari.proofs.Due.{Fit, prev_after, members_leaf, container_string}
use Rattle.ari.proofs.Rows.{fits_by, ArrayType, collection, orders, answers, array_type, map_type}
use Rattle.ari.proofs.RulesFit.{Here}
use Rattle.ari.proofs.FitRules.{here}
use Rattle.text.specs.Chars.{literal_text}
use Rattle.text.specs.Text.{comma, spell, texts, is_float}
use Rattle.text.specs.Parse.{ends, in_word, starts_by, starts, head_of, count, take_word, take_group, take_at, Run, level, parse}
use Rattle.text.proofs.Words.{halts, word_at, begins, starts_more}
use Rattle.text.proofs.Leads.{is_set_type, head_is, no_string, Space, relative, absolute as from, Word, name_spelled, value_text}
use Rattle.text.proofs.Below.{Spells, Below, single_ari, a_type, a_value, a_namespace, an_object_namespace, an_object_type, an_object_id, some_params, a_key, an_entry, BelowLevel, next_below, members_below, value_level_lem}
use Rattle.text.proofs.Slots.{ari_here, entry_here, space_here, type_here, namespace_here, object_type_here, object_id_here, key_here, value_here}
use Rattle.text.proofs.Tally.{commas_end, commas_due, layout, tallied}
use Rattle.text.proofs.Ahead.{stops, stop_halt, take_word_lem, ari_seen}

-- behind an ARI stands what may
comma_stops : (s : Slot) (n : ℕ) (g : Items) (prev r : List ℕ) → Fit g false (many s n) prev → stops r ≡ true
    → stops (comma (many s n) ++ (texts g (many s n) ++ r)) ≡ true
unfolding stops
comma_stops s zero none prev r f h = h
comma_stops s zero (item l str ms rs) prev r f h = absurd f
comma_stops s (suc n) g prev r f h = refl

-- how the members of a group begin
module _ (w : Place) (m : ℕ) (prev : List ℕ) (r : List ℕ) (h : stops r ≡ true) where
  ari_first : (g : Items) → Fit g false (due (ari w) m) prev → Spells g
      → (starts 41 (texts g (due (ari w) m) ++ r) ≡ false) × (starts 61 (past in_word (texts g (due (ari w) m) ++ r)) ≡ false)
  unfolding spell rule
  ari_first none f q = absurd f
  ari_first (item l s ms rs) f q =
      let z : stops (comma (many (ari w) m) ++ (texts rs (many (ari w) m) ++ r)) ≡ true = comma_stops (ari w) m rs (prev_after (ari w) prev l s) r f.2 h in
      let x = ari_seen (ari_here (here {prev = prev} {ms = ms} f.0 f.1)) q.0 q.1 (comma (many (ari w) m) ++ (texts rs (many (ari w) m) ++ r)) z in
      rw (layout l s ms rs (ari w) m r) (x.end_not, x.key_not)

  key_first : (g : Items) → Fit g false (due (key w) m) prev → Spells g
      → (starts 41 (texts g (due (key w) m) ++ r) ≡ false) × (starts 61 (past in_word (texts g (due (key w) m) ++ r)) ≡ true)
  unfolding spell rule
  key_first none f q = absurd f
  key_first (item l s ms rs) f q =
      let (x, b) = key_here q.0 q.1 (here {prev = prev} {ms = ms} f.0 f.1) in
      let t : List ℕ = 61 ∷ (texts rs (due (entry w) m) ++ r) in
      rw (layout l s ms rs (key w) m r, b) (
        begins in_word 41 (literal_text l s ++ t) (starts_more in_word (literal_text l s) t x.begins) (unfold in_word ends in refl),
        rw (word_at (literal_text l s) t x.letters (unfold halts ends in refl)).1 (unfold starts_by in refl),
      )

-- a group's members, counted
counted : (s : Slot) → ((m : ℕ) → commas_due (due s m) ≡ m) → Below s → (n : ℕ) (g : Items) (r : List ℕ) → Fit g false (many s n) [] → Spells g
    → ((m : ℕ) → Fit g false (due s m) [] → starts 41 (texts g (due s m) ++ (41 ∷ r)) ≡ false) → count (texts g (many s n) ++ (41 ∷ r)) ≡ n
unfolding count starts_by
counted s c d zero none r f q o = refl
counted s c d zero (item l str ms rs) r f q o = absurd f
counted s c d (suc n) g r f q o = rw (o n f, tallied g (due s n) [] f q d 0 (41 ∷ r), commas_end r) (omega (arith, c n))

-- a word without members; a group
word_back : {f : List ℕ → Headed} {u : List ℕ} {l : Lead} {s : List ℕ} (ms : Items) (v : Level) (r : List ℕ) → Word f u l s × (ms ≡ none) → halts r ≡ true
    → take_word f (u ++ (texts ms v ++ r)) ≡ record { head = record { lead = short_lead l; str = s }; rest = texts ms v ++ r }
word_back ms v r (w, b) h = rw b (take_word_lem w r h)

group_back : {l : Lead} {s : List ℕ} (k : ℕ) (t : List ℕ) → Sound l → is_float l ≡ false → s ≡ [] → l.kind ≡ k → count t ≡ l.arg
    → take_group k (40 ∷ t) ≡ record { head = record { lead = short_lead l; str = s }; rest = t }
group_back {l} {s} k t h f e z c =
    ap (λ (x : Headed). record { head = x; rest = t })
    (ap (λ (n : ℕ). head_of k n []) c ∙ ap (λ (n : ℕ). head_of n l.arg []) (sym z) ∙ ap (head_of l.kind l.arg) (sym e) ∙ head_is s h f)

members_array : (t : Slot) (l : Lead) → l.kind ≡ array → members t l ≡ (rule t).in_array l.arg
unfolding members
members_array t l z = rw z

members_map : (t : Slot) (l : Lead) → l.kind ≡ map → members t l ≡ (rule t).in_map l.arg
unfolding members
members_map t l z = rw z

module _ (w : Place) (o : outermost w ≡ false) (n : ℕ) (g : Items) (r : List ℕ) where
  unfolded_commas : (m : ℕ) → (commas_due (due (ari w) m) ≡ m) × (commas_due (due (key w) m) ≡ m)
  unfolding rule
  unfolded_commas m = (refl, refl)

  count_aris : Fit g false (many (ari w) n) [] → Spells g → count (texts g (many (ari w) n) ++ (41 ∷ r)) ≡ n
  count_aris f q = counted (ari w) (λ m. (unfolded_commas m).0) (single_ari o) n g r f q (λ m e. (ari_first w m [] (41 ∷ r) (unfold stops in refl) g e q).0)

  count_keys : Fit g false (many (key w) n) [] → Spells g → count (texts g (many (key w) n) ++ (41 ∷ r)) ≡ n
  count_keys f q = counted (key w) (λ m. (unfolded_commas m).1) (a_key o) n g r f q (λ m e. (key_first w m [] (41 ∷ r) (unfold stops in refl) g e q).0)

-- arrays and maps
container_kind : (k : ℕ) → is_container k ≡ true → eqb k array ≡ false → k ≡ map
unfolding is_container
container_kind k c e = let (p, q) = within_true 4 5 k c in let n : k ≡ 4 → ⊥ = eqb-false k 4 e in omega arith

container_bare : {t : Slot} {prev : List ℕ} {l : Lead} {s : List ℕ} → Good t prev l s → is_container l.kind ≡ true → s ≡ []
container_bare {l = l} {s = s} g c = no_string s (g.sized ∙ container_string l c)

-- what a group holds, at a place
data Held (w : Place) (t : Slot) (l : Lead) : Type 0 where
  a_list : l.kind ≡ array → members t l ≡ many (ari w) l.arg → Held w t l
  a_table : l.kind ≡ map → members t l ≡ many (key w) l.arg → Held w t l

held_count : {w : Place} {t : Slot} {l : Lead} (ms : Items) → Held w t l → outermost w ≡ false → Fit ms false (members t l) [] → Spells ms → (r : List ℕ)
    → count (texts ms (members t l) ++ (41 ∷ r)) ≡ l.arg
held_count {w} {l = l} ms (a_list z y) d f q r = rw y (count_aris w d l.arg ms r (rw y at f) q)
held_count {w} {l = l} ms (a_table z y) d f q r = rw y (count_keys w d l.arg ms r (rw y at f) q)

-- the group of AC or AM
value_held : (t : ℕ) (w : Place) {prev : List ℕ} {l : Lead} {s : List ℕ} → Good (value t w) prev l s → is_set_type t ≡ false → is_container l.kind ≡ true
    → Held w (value t w) l × (l.kind ≡ cond (eqb t 17) array map)
unfolding rule
value_held t w {prev} {l} {s} g d c = go (eqb l.kind array) refl
  where
    seventeen : ArrayType t l.arg → t ≡ 17
    seventeen (collection e) = e
    seventeen (orders e n) = absurd (true≢false (rw e at d))
    seventeen (answers e n) = absurd (true≢false (rw e at d))

    go : (b : Bool) → eqb l.kind array ≡ b → Held w (value t w) l × (l.kind ≡ cond (eqb t 17) array map)
    go true e =
        let z : l.kind ≡ array = eqb-true l.kind array e in
        (a_list z (members_array (value t w) l z ∙ value_level_lem t w l.arg d), z ∙ rw (seventeen (array_type t l.arg (rw z at g.fitting))))
    go false e =
        let z : l.kind ≡ map = container_kind l.kind c e in
        (a_table z (members_map (value t w) l z), z ∙ rw (map_type t l.arg (rw z at g.fitting)))

-- the group of parameters, which are not empty
group_row : Row → Bool
group_row (row k lo hi) = is_container k

params_held : {prev : List ℕ} {l : Lead} {s : List ℕ} (ms : Items) → Good params prev l s → Fit ms false (members params l) [] → Spells ms → (r : List ℕ)
    → Held param params l × (is_container l.kind ≡ true) × (l.kind ≡ cond (starts 61 (past in_word (texts ms (members params l) ++ (41 ∷ r)))) map array)
unfolding rule group_row is_container
params_held {l = l} ms g f q r = go (eqb l.kind array) refl
  where
    c : is_container l.kind ≡ true
    c = (fits_by group_row l.kind l.arg (rule params).rows refl g.fitting).holds

    some : (n : ℕ) → l.arg ≡ n → l.arg ≡ suc (pred n)
    some zero e = absurd (eqb-false l.arg 0 g.filled e)
    some (suc n) e = e

    m : l.arg ≡ suc (pred l.arg)
    m = some l.arg refl

    go : (b : Bool) → eqb l.kind array ≡ b
        → Held param params l × (is_container l.kind ≡ true) × (l.kind ≡ cond (starts 61 (past in_word (texts ms (members params l) ++ (41 ∷ r)))) map array)
    go true e =
        let z : l.kind ≡ array = eqb-true l.kind array e in
        let y : members params l ≡ many (ari param) l.arg = members_array params l z in
        let x : members params l ≡ due (ari param) (pred l.arg) = y ∙ ap (many (ari param)) m in
        (a_list z y, c, z ∙ rw x (rw (ari_first param (pred l.arg) [] (41 ∷ r) (unfold stops in refl) ms (rw x at f) q).1))
    go false e =
        let z : l.kind ≡ map = container_kind l.kind c e in
        let y : members params l ≡ many (key param) l.arg = members_map params l z in
        let x : members params l ≡ due (key param) (pred l.arg) = y ∙ ap (many (key param)) m in
        (a_table z y, c, z ∙ rw x (rw (key_first param (pred l.arg) [] (41 ∷ r) (unfold stops in refl) ms (rw x at f) q).1))

-- behind a level's last item
done_halts : (rs : Items) (prev r : List ℕ) → Fit rs false done prev → stops r ≡ true → halts (texts rs done ++ r) ≡ true
done_halts none prev r f h = stop_halt r h
done_halts (item l s ms rs) prev r f h = absurd f

id_halts : (p : Bool) (rs : Items) (prev r : List ℕ) → Fit rs false (cond p (due params 0) done) prev → stops r ≡ true
    → halts (texts rs (cond p (due params 0) done) ++ r) ≡ true
unfolding halts ends spell
id_halts true none prev r f h = absurd f
id_halts true (item l s ms rs) prev r f h = refl
id_halts false rs prev r f h = done_halts rs prev r f h

null_spelled : {l : Lead} {s : List ℕ} → Sound l → is_float l ≡ false → l.kind ≡ simple → l.arg ≡ 22 → s ≡ []
    → Word (λ u. head_of simple 22 []) (46 ∷ []) l s
unfolding in_word ends starts_by
null_spelled {l} {s} h f k a e = record {
  letters = refl;
  begins = refl;
  back = ap (λ (n : ℕ). head_of n 22 []) (sym k) ∙ ap (λ (n : ℕ). head_of l.kind n []) (sym a) ∙ ap (head_of l.kind l.arg) (sym e) ∙ head_is s h f;
}

-- A head is read back with what stands behind what it writes before its members; behind them, if there are any, stands what may stand behind an ARI.
abbrev tail : Slot → ℕ → Lead → Items → List ℕ → List ℕ
tail t n l rs r = (spell t).after l ((rule t).next l.arg n) ++ (texts rs ((rule t).next l.arg n) ++ r)

record Back (t : Slot) (n : ℕ) (l : Lead) (s : List ℕ) (ms rs : Items) (r : List ℕ) : Type 0 where
  taken : take_at t ((spell t).before l s ++ (texts ms (members t l) ++ tail t n l rs r))
      ≡ record { head = record { lead = short_lead l; str = s }; rest = texts ms (members t l) ++ tail t n l rs r }
  stopped : (ms ≡ none) ⊎ (stops (tail t n l rs r) ≡ true)

module _ (n : ℕ) (prev : List ℕ) (l : Lead) (s : List ℕ) (ms rs : Items) (q : Spells (item l s ms rs)) (r : List ℕ) (z : stops r ≡ true) where
  stood : (t : Slot) → Fit (item l s ms rs) false (due t n) prev → Here t prev l s ms
  stood t f = here {prev = prev} {ms = ms} f.0 f.1

  head_back : (t : Slot) → Fit (item l s ms rs) false (due t n) prev → Below t → Back t n l s ms rs r
  unfolding take_at spell rule members starts_by halts ends
  head_back _ f (single_ari {w = w} o) =
      let c = comma_stops (ari w) n rs (prev_after (ari w) prev l s) r f.2 z in
      record { taken = (ari_seen (ari_here (stood (ari w) f)) q.0 q.1 _ c).taken; stopped = inr c }
  head_back _ f (a_type {w = w} o) = let x = type_here q.0 (stood (type w) f) in record { taken = word_back ms _ _ x refl; stopped = inl x.1 }
  head_back _ f (a_value {t = t} {w = w} u o) = go (is_container l.kind) refl
    where
      go : (c : Bool) → is_container l.kind ≡ c → Back (value t w) n l s ms rs r
      go true c =
          let (g, k) = value_held t w f.0 u c in
          let y : List ℕ = texts rs done ++ r in
          record {
            taken = rw c
                (group_back (cond (eqb t 17) array map) (texts ms (members (value t w) l) ++ (41 ∷ y)) f.0.head q.0 (container_bare f.0 c) k
                (held_count ms g o f.1 q.2 y));
            stopped = inr (rw c (unfold stops in refl));
          }
      go false c =
          let x = value_here q.0 c q.1 (stood (value t w) f) in
          let y : List ℕ = texts ms (members (value t w) l) ++ (texts rs done ++ r) in
          record {
            taken = rw (c, begins in_word 40 (value_text t l s ++ y) (starts_more in_word (value_text t l s) y x.0.begins) (unfold in_word in refl))
                (word_back ms _ _ x (done_halts rs (prev_after (value t w) prev l s) r f.2 z));
            stopped = inl x.1;
          }
  head_back _ f a_namespace = let x = namespace_here q.0 (stood namespace f) in record { taken = word_back ms _ _ x refl; stopped = inl x.1 }
  head_back _ f (an_object_namespace {p = p}) = let (x, b) = space_here (stood (object_namespace p) f) in go x b
    where
      go : Space l s → ms ≡ none → Back (object_namespace p) n l s ms rs r
      go (relative k a e) b = record { taken = rw (eq-eqb l.kind simple k) (word_back ms _ _ (null_spelled f.0.head q.0 k a e, b) refl); stopped = inl b }
      go (from k m) b = record { taken = rw k (word_back ms _ _ (name_spelled m f.0.head q.0, b) refl); stopped = inl b }
  head_back _ f (an_object_type {p = p}) =
      let x = object_type_here q.0 (stood (object_type p) f) in
      record { taken = word_back ms _ _ x refl; stopped = inl x.1 }
  head_back _ f (an_object_id {p = p}) =
      let x = object_id_here q.0 (stood (object_id p) f) in
      record { taken = word_back ms _ _ x (id_halts p rs (prev_after (object_id p) prev l s) r f.2 z); stopped = inl x.1 }
  head_back _ f some_params =
      let y : List ℕ = texts rs done ++ r in
      let (g, c, k) = params_held ms f.0 f.1 q.2 y in
      record {
        taken = group_back _ (texts ms (members params l) ++ (41 ∷ y)) f.0.head q.0 (container_bare f.0 c) k (held_count ms g refl f.1 q.2 y);
        stopped = inr (unfold stops in refl);
      }
  head_back _ f (a_key {w = w} o) =
      let x = key_here q.0 q.1 (stood (key w) f) in
      record { taken = word_back ms _ _ x refl; stopped = inl x.1 }
  head_back _ f (an_entry {w = w} o) =
      let c = comma_stops (key w) n rs (prev_after (entry w) prev l s) r f.2 z in
      record { taken = (ari_seen (entry_here (stood (entry w) f)) q.0 q.1 _ c).taken; stopped = inr c }

-- One step of the reading; a level with nothing on it.
abbrev ran : Items → List ℕ → Run
ran g r = record { items = g; rest = r }

level_step : (go : Level → List ℕ → Run) (k : ℕ) (t : Slot) (n : ℕ) (l : Lead) (s : List ℕ) (ms rs : Items) (x u w r : List ℕ)
    → take_at t x ≡ record { head = record { lead = l; str = s }; rest = u }
    → go (members t l) u ≡ ran ms ((spell t).after l ((rule t).next l.arg n) ++ w) → level go k ((rule t).next l.arg n) w ≡ ran rs r
    → level go (suc k) (due t n) x ≡ ran (item l s ms rs) r
unfolding level
level_step go k t n l s ms rs x u w r a b c =
    rw (a, b, drop_at ((spell t).after l ((rule t).next l.arg n)) w (length ((spell t).after l ((rule t).next l.arg n))) refl, c)

level_done : (go : Level → List ℕ → Run) (k : ℕ) (r : List ℕ) → level go k done r ≡ ran none r
unfolding level
level_done go zero r = refl
level_done go (suc k) r = refl

parse_done : (k d : ℕ) (r : List ℕ) → parse k d done r ≡ ran none r
unfolding parse
parse_done k zero r = refl
parse_done k (suc d) r = level_done (parse k d) k r

-- the members of a head
module _ (b : ℕ) (t : Slot) (l : Lead) (r : List ℕ) where
  none_inside : (d : ℕ) → Fit none false (members t l) [] → parse b d (members t l) r ≡ ran none r
  none_inside d f = go (members t l) f
    where
      go : (v : Level) → Fit none false v [] → parse b d v r ≡ ran none r
      go done f = parse_done b d r
      go (due s n) f = absurd f

  inside : (ms : Items) (d : ℕ) (c : Bool) → is_container l.kind ≡ c → cond c (suc (depth ms)) 0 ≤ d → Fit ms false (members t l) []
      → ((e : ℕ) → depth ms ≤ e → level (parse b e) b (members t l) (texts ms (members t l) ++ r) ≡ ran (shortened ms) r)
      → parse b d (members t l) (texts ms (members t l) ++ r) ≡ ran (shortened ms) r
  unfolding parse
  inside ms zero true c m f ih = absurd (omega arith)
  inside ms (suc d) true c m f ih = ih d (omega arith)
  inside none d false c m f ih = none_inside d f
  inside (item k s ms rs) d false c m f ih = absurd (rw (members_leaf t l c) at f)

pub reads : (b : ℕ) (g : Items) (v : Level) (prev : List ℕ) → Fit g false v prev → Spells g → BelowLevel v → (d k : ℕ)
    → depth g ≤ d → heads g ≤ k → heads g ≤ b → (r : List ℕ) → stops r ≡ true → level (parse b d) k v (texts g v ++ r) ≡ ran (shortened g) r
reads b none done prev f q o d k x y z r h = level_done (parse b d) k r
reads b none (due t n) prev f q o d k x y z r h = absurd f
reads b (item l s ms rs) done prev f q o d k x y z r h = absurd f
reads b (item l s ms rs) (due t n) prev f q o d zero x y z r h = absurd (omega arith)
reads b (item l s ms rs) (due t n) prev f q o d (suc k) x y z r h =
    level_step (parse b d) k t n (short_lead l) s (shortened ms) (shortened rs) (texts (item l s ms rs) (due t n) ++ r)
    (texts ms (members t l) ++ tail t n l rs r) (texts rs ((rule t).next l.arg n) ++ r) r
    (ap (take_at t) (layout l s ms rs t n r) ∙ back.taken)
    (rw (short_members t l, short_arg l, short_after t l ((rule t).next l.arg n))
    (mem back.stopped (λ w e c. reads b ms (members t l) [] f.1 q.2 (members_below l o) e b c (omega arith) (omega arith) (tail t n l rs r) w)))
    (rw (short_arg l) (reads b rs ((rule t).next l.arg n) (prev_after t prev l s) f.2 q.3 (next_below l.kind l.arg n f.0.fitting o) d k
    (omega arith) (omega arith) (omega arith) r h))
  where
    back : Back t n l s ms rs r
    back = head_back n prev l s ms rs q r h t f o

    mem : (ms ≡ none) ⊎ (stops (tail t n l rs r) ≡ true)
        → (stops (tail t n l rs r) ≡ true → (e : ℕ) → depth ms ≤ e
        → level (parse b e) b (members t l) (texts ms (members t l) ++ tail t n l rs r) ≡ ran (shortened ms) (tail t n l rs r))
        → parse b d (members t l) (texts ms (members t l) ++ tail t n l rs r) ≡ ran (shortened ms) (tail t n l rs r)
    mem (inl e) ih = rw e (none_inside b t l (tail t n l rs r) d (rw e at f.1))
    mem (inr w) ih = inside b t l (tail t n l rs r) ms d (is_container l.kind) refl (omega arith) f.1 (ih w)
