-- A run, byte by byte: whatever run ends where the loop stands now ends the whole.
use Prim.Native.Nat.{ℕ, suc, ◌+◌, ◌-◌, ◌≤◌, ◌<◌}
use mathlib.Core.Path.{◌≡◌, refl, sym, ◌∙◌, ap}
use mathlib.Core.Bool.{Bool, true, false, cond}
use mathlib.Core.List.{List, [], ◌∷◌, ◌++◌}
use native.Mathlib.Omega.{arith}
use native.Mathlib.Numerals.{add-one}
use lib.ListN.{length, take, drop, get_or, drop_of_length-le, length-drop}
use lib.Seq.{drop-cons, take_all, take-add, drop-drop}
use Rattle.buffer.specs.Bytes.{part, all}
use Rattle.buffer.specs.Runs.{front, past, RunTo}
use Rattle.buffer.proofs.ByteLaws.{and-true}

-- a byte and those behind it
pub here : (t : List ℕ) (i : ℕ) → i < length t → drop i t ≡ get_or t i 0 ∷ drop (i + 1) t
here t i h = rw (add-one i) (drop-cons t i 0 h)

pub beyond : (t : List ℕ) (i : ℕ) → length t ≤ i → drop i t ≡ []
beyond t i h = drop_of_length-le t h

pub part_none : (t : List ℕ) (p : ℕ) → part t p p ≡ []
part_none t p = let e : p - p ≡ 0 = omega arith in rw e

pub part_cons : (t : List ℕ) (i e : ℕ) → i < e → e ≤ length t → part t i e ≡ get_or t i 0 ∷ part t (i + 1) e
part_cons t i e h g =
    let q : e - i ≡ suc (e - (i + 1)) = omega arith in
    rw (here t i (omega arith), q)

-- parts side by side
pub part_join : (t : List ℕ) (x y z : ℕ) → x ≤ y → y ≤ z → part t x y ++ part t y z ≡ part t x z
part_join t x y z h k =
    let e : z - x ≡ (y - x) + (z - y) = omega arith in
    let d : x + (y - x) ≡ y = omega arith in
    sym (rw e (take-add (y - x) (z - y) (drop x t) ∙ ap (λ (l : List ℕ). take (y - x) (drop x t) ++ take (z - y) l) (drop-drop (y - x) x t ∙ rw d)))

pub part_all : (t : List ℕ) (from : ℕ) → part t from (length t) ≡ drop from t
part_all t from = take_all (length t - from) (drop from t) (rw (length-drop from t) (omega arith))

module _ (p : ℕ → Bool) where
  module _ (x : ℕ) (u : List ℕ) where
    pub front_ends : p x ≡ false → front p (x ∷ u) ≡ []
    unfolding front
    front_ends e = rw e

    pub past_ends : p x ≡ false → past p (x ∷ u) ≡ x ∷ u
    unfolding past
    past_ends e = rw e

    pub front_on : p x ≡ true → front p (x ∷ u) ≡ x ∷ front p u
    unfolding front
    front_on e = rw e

    pub past_on : p x ≡ true → past p (x ∷ u) ≡ past p u
    unfolding past
    past_on e = rw e

  -- both together are the whole
  pub front_past : (t : List ℕ) → front p t ++ past p t ≡ t
  unfolding front past
  front_past [] = refl
  front_past (x ∷ t) = go (p x) (front_past t)
    where
      go : (b : Bool) → front p t ++ past p t ≡ t → cond b (x ∷ front p t) [] ++ cond b (past p t) (x ∷ t) ≡ x ∷ t
      go true ih = ap (◌∷◌ x) ih
      go false ih = refl

  -- a list starts with no byte that has the property
  unfoldable pub Halts : List ℕ → Type 0
  Halts [] = Unit {0}
  Halts (x ∷ t) = p x ≡ false

  -- a run, and what stands behind it
  pub run_at : (u r : List ℕ) → all p u ≡ true → Halts r → (front p (u ++ r) ≡ u) × (past p (u ++ r) ≡ r)
  unfolding front past Halts
  run_at [] [] e h = (refl, refl)
  run_at [] (x ∷ r) e h = (rw h, rw h)
  run_at (x ∷ u) r e h =
      let (a, b) = and-true (p x) (all p u) e in
      let i = run_at u r b h in
      (rw (a, i.0), rw (a, i.1))

  pub record Ahead (t : List ℕ) (a i : ℕ) : Type 0 where
    pub on : a ≤ i
    pub inside : i ≤ length t
    pub then : {e : ℕ} → RunTo p t i e → RunTo p t a e

  pub run_begins : (t : List ℕ) (a : ℕ) → a ≤ length t → Ahead t a a
  run_begins t a h = record { on = omega arith; inside = h; then = λ w. w }

  ended_here : (t : List ℕ) (i : ℕ) → i < length t → p (get_or t i 0) ≡ false → RunTo p t i i
  ended_here t i h e = record {
    front_is = ap (front p) (here t i h) ∙ front_ends (get_or t i 0) (drop (i + 1) t) e ∙ sym (part_none t i);
    past_is = ap (past p) (here t i h) ∙ past_ends (get_or t i 0) (drop (i + 1) t) e ∙ sym (here t i h);
    on = omega arith;
    inside = omega arith;
  }

  ended_out : (t : List ℕ) (i : ℕ) → i ≤ length t → length t ≤ i → RunTo p t i i
  unfolding front past
  ended_out t i g h = record { front_is = ap (front p) (beyond t i h) ∙ sym (part_none t i); past_is = ap (past p) (beyond t i h) ∙ sym (beyond t i h); on = omega arith; inside = g }

  grown : (t : List ℕ) (i : ℕ) → i < length t → p (get_or t i 0) ≡ true → {e : ℕ} → RunTo p t (i + 1) e → RunTo p t i e
  grown t i h n {e} w = record {
    front_is =
        ap (front p) (here t i h) ∙ front_on (get_or t i 0) (drop (i + 1) t) n ∙ ap (λ (u : List ℕ). get_or t i 0 ∷ u) w.front_is
        ∙ sym (part_cons t i e (omega (arith, w.on)) w.inside);
    past_is = ap (past p) (here t i h) ∙ past_on (get_or t i 0) (drop (i + 1) t) n ∙ w.past_is;
    on = omega (arith, w.on);
    inside = w.inside;
  }

  module _ (t : List ℕ) (a i : ℕ) (s : Ahead t a i) where
    pub run_ends : {x : Bool} → i < length t → x ≡ p (get_or t i 0) → x ≡ false → RunTo p t a i
    run_ends h e q = s.then (ended_here t i h (sym e ∙ q))

    pub run_out : length t ≤ i → RunTo p t a i
    run_out h = s.then (ended_out t i s.inside h)

    pub run_on : {x : Bool} → i < length t → x ≡ p (get_or t i 0) → x ≡ true → Ahead t a (i + 1)
    run_on h e q = record { on = omega (arith, s.on); inside = omega arith; then = λ w. s.then (grown t i h (sym e ∙ q) w) }

-- where a run ends before the text does, the byte there has not the property
stops : (p : ℕ → Bool) (u : List ℕ) {x : ℕ} {v : List ℕ} → past p u ≡ x ∷ v → p x ≡ false
unfolding past
stops p [] e = absurd (let z : 0 ≡ suc _ = ap length e in omega arith)
stops p (y ∷ u) {x} {v} e = go (λ h. stops p u h) (p y) refl e
  where
    go : (past p u ≡ x ∷ v → p x ≡ false) → (b : Bool) → p y ≡ b → cond b (past p u) (y ∷ u) ≡ x ∷ v → p x ≡ false
    go ih true q h = ih h
    go ih false q h = let z : y ≡ x = cc in rw z at q

pub run_stops : (p : ℕ → Bool) (t : List ℕ) {a e : ℕ} → RunTo p t a e → e < length t → p (get_or t e 0) ≡ false
run_stops p t {a} {e} w h = stops p (drop a t) (w.past_is ∙ here t e h)

pub ruleset runs = (run_begins, run_ends, run_out, run_on)
