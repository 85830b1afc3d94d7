-- A set's inner array: what stands before its targets or reports, and these as a run of one slot; one of them may be left out. The idea: EXECSET and RPTSET
-- differ in what stands before, and in the slot; all else is said once of both.
use Prim.Native.Nat.{ℕ, zero, suc, ◌+◌, ◌-◌, ◌≤◌, ◌<◌}
use mathlib.Core.Logic.{◌⊎◌, inl, inr}
use mathlib.Core.Path.{◌≡◌, refl, sym, ◌∙◌, ap}
use mathlib.Core.Bool.{true, false, ◌&&◌, ◌||◌, true≢false}
use mathlib.Core.List.{List, [], ◌∷◌, ◌++◌, append-nil}
use native.Mathlib.Omega.{arith}
use lib.ListN.{length}
use lib.Dec.{eqb}
use borrow.Author.Tests.{eqb-true}
use Rattle.buffer.specs.Bytes.{within}
use Rattle.buffer.proofs.ByteLaws.{and-true, or-true, or_nil, within_true}
use Rattle.cbor.specs.Head.{array, Lead, Sound, counted, Carries, itself, after, width, shortest, size, lead_of, is_container}
use Rattle.cbor.proofs.HeadLaws.{shortest_carries, shortest_least, sound_carries, sound_64, width_small}
use Rattle.ari.specs.Table.{Place, message, inside, Slot, ari, type, value, nonce, set_time, target, report, rule, fits, members, types, type_rows, value_rows, is_reference}
use Rattle.ari.specs.Items.{Items, none, item, encode, Spot, inside_at, spot_at, spots}
use Rattle.ari.specs.Rules.{Holds, Nonce, Vast, Ari, literal, namespace_ref, typed, object_ref, Value, simple_value, ac, am, execset, rptset, Targets, no_targets, targets, Reports, no_reports, reports}
use Rattle.ari.specs.Targets.{is_target}
use Rattle.ari.proofs.Join.{join}
use Rattle.ari.proofs.Well.{trees}
use Rattle.ari.proofs.Spots.{All, no_spot_lem, spot_too}
use Rattle.strike.specs.Strike.{without, framing, shorter}
use Rattle.strike.proofs.Runs.{run, Again, run_many, behind}

-- the new head
module _ {l : Lead} (s : Sound l) where
  pub shorter_sound : Sound (shorter l)
  unfolding lead_of
  shorter_sound = counted (omega arith) (shortest_carries (l.arg - 1) (let h = sound_64 s in omega arith))

  pub shorter_size : size (shorter l) ≤ size l
  unfolding lead_of
  shorter_size = go (sound_carries s)
    where
      go : Carries l.info l.arg → suc (width (shortest (l.arg - 1))) ≤ suc (width l.info)
      go (itself h e) =
          let c : Carries (l.arg - 1) (l.arg - 1) = itself (omega arith) refl in
          omega (arith, shortest_least c, width_small (l.arg - 1) (omega arith))
      go (after lo hi h) = let c : Carries l.info (l.arg - 1) = after lo hi (omega arith) in omega (arith, shortest_least c)

shorter_holds : {n : ℕ} {l : Lead} {s : List ℕ} → Holds array (suc n) l s → Holds array n (shorter l) s
unfolding lead_of
shorter_holds h = record { head = shorter_sound h.head; kind_is = refl; arg_is = (let e = h.arg_is in omega arith); bare = h.bare }

-- targets and reports, one left out
pub targets_trees : {n : ℕ} {g : Items} → Targets n g → trees g ≡ n
targets_trees no_targets = refl
targets_trees (targets o r) = ap suc (targets_trees r)

targets_less : {n : ℕ} {g : Items} (k : ℕ) → Targets (suc n) g → k ≤ n → Targets n (without k g)
targets_less zero (targets o r) h = r
targets_less {n = zero} (suc k) (targets o r) h = absurd (omega arith)
targets_less {n = suc n} (suc k) (targets o r) h = targets o (targets_less k r (omega arith))

pub reports_trees : {n : ℕ} {g : Items} → Reports n g → trees g ≡ n
reports_trees no_reports = refl
reports_trees (reports h t o a r) = ap suc (reports_trees r)

reports_less : {n : ℕ} {g : Items} (k : ℕ) → Reports (suc n) g → k ≤ n → Reports n (without k g)
reports_less zero (reports h t o a r) g = r
reports_less {n = zero} (suc k) (reports h t o a r) g = absurd (omega arith)
reports_less {n = suc n} (suc k) (reports h t o a r) g = reports h t o a (reports_less k r (omega arith))

-- what stands before them: no target, no report and no reference, with so many containers around
pub record Frame (d : ℕ) (x : Spot) : Type 0 where
  pub no_target : is_target x.slot ≡ false
  pub no_reference : is_reference x.slot x.lead ≡ false
  pub around_is : x.around ≡ d

-- An inner array of a set of type t.
pub record Inner (t : ℕ) (w : Place) (l : Lead) (s : List ℕ) (ms : Items) : Type 0 where
  pub slot : Slot
  pub frame : Items
  pub body : Items
  pub frames : ℕ → ℕ → List Spot
  pub whole : ms ≡ join frame body
  pub is_target_lem : is_target slot ≡ true
  pub head : Sound l
  pub kind_is : l.kind ≡ array
  pub arg_is : l.arg ≡ framing t + trees body
  pub bare : s ≡ []
  pub frame_trees : trees frame ≡ framing t
  pub less : (k : ℕ) → k < trees body → Value t w (shorter l) s (join frame (without k body))
  pub each_frame : (p d : ℕ) → All (Frame d) (frames p d)
  pub spots_are : (h : Lead) (g : Items) (p d : ℕ) → h.kind ≡ array → h.arg ≡ framing t + trees g
      → spots (join frame g) false (members (value t w) h) p d ≡ frames p d ++ run slot g (p + length (encode frame)) d

target_again : Again target
unfolding rule
target_again = record { next = λ a n. refl }

report_again : Again report
unfolding rule
report_again = record { next = λ a n. refl }

frame_at : (s : Slot) (p d : ℕ) (l : Lead) (str : List ℕ) (ms : Items) → is_target s ≡ false → (rule s).takes_reference ≡ false → Frame d (spot_at s p d l str ms)
unfolding is_reference
frame_at s p d l str ms e f = record { no_target = e; no_reference = rw f; around_is = refl }

of_targets : {n : ℕ} (w : Place) {l l₁ : Lead} {s s₁ : List ℕ} {m₁ rs : Items} → Holds array (suc n) l s → Nonce l₁ s₁ m₁ → Targets n rs
    → Inner 20 w l s (item l₁ s₁ m₁ rs)
unfolding rule members
of_targets {n} w {l} {l₁} {s} {s₁} {m₁} {rs} h c ts =
    let e = targets_trees ts in
    record {
      slot = target;
      frame = item l₁ s₁ m₁ none;
      body = rs;
      frames = λ p d. spot_at (nonce 20) p d l₁ s₁ m₁ ∷ [];
      whole = refl;
      is_target_lem = refl;
      head = h.head;
      kind_is = h.kind_is;
      arg_is = h.arg_is ∙ (let z : suc n ≡ 1 + trees rs = omega arith in z);
      bare = h.bare;
      frame_trees = refl;
      less = λ k q. go n ts e h k q;
      each_frame = λ p d. spot_too {x = spot_at (nonce 20) p d l₁ s₁ m₁} (frame_at (nonce 20) p d l₁ s₁ m₁ refl refl) no_spot_lem;
      spots_are = λ h' g p d kind_is arg_is.
          let z : h'.arg - 1 ≡ trees g = omega arith in
          let q : ℕ = inside_at p l₁ s₁ + length (encode m₁) in
          let place : p + length (encode (item l₁ s₁ m₁ none)) ≡ q = behind p l₁ s₁ m₁ none ∙ (let y : q + 0 ≡ q = omega arith in y) in
          rw (kind_is, z, place, c.bare, run_many target_again g);
    }
  where
    go : (n : ℕ) → Targets n rs → trees rs ≡ n → Holds array (suc n) l s → (k : ℕ) → k < trees rs → Value 20 w (shorter l) s (item l₁ s₁ m₁ (without k rs))
    go zero ts e h k q = absurd (omega arith)
    go (suc n) ts e h k q = execset (shorter_holds h) c (targets_less k ts (omega arith))

of_reports : {n : ℕ} (w : Place) {l l₁ l₂ : Lead} {s s₁ s₂ : List ℕ} {m₁ m₂ rs : Items} → Holds array (suc (suc n)) l s → Nonce l₁ s₁ m₁ → Vast l₂ s₂ m₂
    → Reports n rs → Inner 21 w l s (item l₁ s₁ m₁ (item l₂ s₂ m₂ rs))
unfolding rule members
of_reports {n} w {l} {l₁} {l₂} {s} {s₁} {s₂} {m₁} {m₂} {rs} h c t ts =
    let e = reports_trees ts in
    record {
      slot = report;
      frame = item l₁ s₁ m₁ (item l₂ s₂ m₂ none);
      body = rs;
      frames = λ p d. spot_at (nonce 21) p d l₁ s₁ m₁ ∷ (spot_at set_time (inside_at p l₁ s₁ + length (encode m₁)) d l₂ s₂ m₂ ∷ []);
      whole = refl;
      is_target_lem = refl;
      head = h.head;
      kind_is = h.kind_is;
      arg_is = h.arg_is ∙ (let z : suc (suc n) ≡ 2 + trees rs = omega arith in z);
      bare = h.bare;
      frame_trees = refl;
      less = λ k q. go n ts e h k q;
      each_frame = λ p d.
          let q : ℕ = inside_at p l₁ s₁ + length (encode m₁) in
          spot_too {x = spot_at (nonce 21) p d l₁ s₁ m₁} (frame_at (nonce 21) p d l₁ s₁ m₁ refl refl)
          (spot_too {x = spot_at set_time q d l₂ s₂ m₂} (frame_at set_time q d l₂ s₂ m₂ refl refl) no_spot_lem);
      spots_are = λ h' g p d kind_is arg_is.
          let z : h'.arg - 2 ≡ trees g = omega arith in
          let q : ℕ = inside_at p l₁ s₁ + length (encode m₁) in
          let r : ℕ = inside_at q l₂ s₂ + length (encode m₂) in
          let place : p + length (encode (item l₁ s₁ m₁ (item l₂ s₂ m₂ none))) ≡ r =
          behind p l₁ s₁ m₁ (item l₂ s₂ m₂ none) ∙ (behind q l₂ s₂ m₂ none ∙ (let y : r + 0 ≡ r = omega arith in y)) in
          rw (kind_is, z, place, c.bare, t.bare, run_many report_again g);
    }
  where
    go : (n : ℕ) → Reports n rs → trees rs ≡ n → Holds array (suc (suc n)) l s → (k : ℕ) → k < trees rs
        → Value 21 w (shorter l) s (item l₁ s₁ m₁ (item l₂ s₂ m₂ (without k rs)))
    go zero ts e h k q = absurd (omega arith)
    go (suc n) ts e h k q = rptset (shorter_holds h) c t (reports_less k ts (omega arith))

-- a message's types
two_types : (k a : ℕ) → fits k a (type_rows message types) ≡ true → (a ≡ 20) ⊎ (a ≡ 21)
unfolding types
two_types k a e = go (or-true _ _ e)
  where
    one : (n : ℕ) → (eqb k 0 && within n n a) ≡ true → a ≡ n
    one n q = let (lo, hi) = within_true n n a (and-true (eqb k 0) (within n n a) q).1 in omega arith

    go : ((eqb k 0 && within 20 20 a) ≡ true) ⊎ (((eqb k 0 && within 21 21 a) || false) ≡ true) → (a ≡ 20) ⊎ (a ≡ 21)
    go (inl q) = inl (one 20 q)
    go (inr q) = inr (one 21 (or_nil _ q))

array_only : (t k a : ℕ) → (t ≡ 20) ⊎ (t ≡ 21) → fits k a (value_rows t types) ≡ true → k ≡ array
unfolding types
array_only t k a (inl e) f = eqb-true k array (and-true (eqb k array) _ (or_nil _ (rw e at f))).0
array_only t k a (inr e) f = eqb-true k array (and-true (eqb k array) _ (or_nil _ (rw e at f))).0

inner_of : {t : ℕ} {w : Place} {l : Lead} {s : List ℕ} {ms : Items} → Value t w l s ms → (t ≡ 20) ⊎ (t ≡ 21) → Inner t w l s ms
unfolding is_container
inner_of {t} {w} {l} (simple_value c x) e =
    let k = array_only t l.kind l.arg e x.fitting in
    absurd (true≢false (rw k at c))
inner_of (ac h a) (inl e) = absurd (omega arith)
inner_of (ac h a) (inr e) = absurd (omega arith)
inner_of (am h a) (inl e) = absurd (omega arith)
inner_of (am h a) (inr e) = absurd (omega arith)
inner_of {w = w} (execset h n ts) e = of_targets w h n ts
inner_of {w = w} (rptset h n t ts) e = of_reports w h n t ts

-- A message's set: its type, and its inner array.
pub record Set (l : Lead) (s : List ℕ) (ms : Items) : Type 0 where
  pub kind : Lead
  pub kind_str : List ℕ
  pub kind_inside : Items
  pub lead : Lead
  pub str : List ℕ
  pub inside : Items
  pub whole : ms ≡ item kind kind_str kind_inside (item lead str inside none)
  pub inner : Inner kind.arg Place.inside lead str inside
  pub two : l.arg ≡ 2
  pub less : (k : ℕ) → k < trees inner.body → Ari message l s (item kind kind_str kind_inside (item (shorter lead) str (join inner.frame (without k inner.body)) none))
  pub spots_are : (h : Lead) (g : Items) (p d : ℕ)
      → spots (item kind kind_str kind_inside (item h str g none)) false (members (ari message) l) p d
      ≡ spot_at (type message) p d kind kind_str kind_inside
      ∷ (spot_at (value kind.arg Place.inside) (inside_at p kind kind_str + length (encode kind_inside)) d h str g
      ∷ spots g false (members (value kind.arg Place.inside) h) (inside_at (inside_at p kind kind_str + length (encode kind_inside)) h str) (suc d))

pub set_of : {l : Lead} {s : List ℕ} {ms : Items} → Ari message l s ms → Set l s ms
unfolding rule members
set_of (literal f x) = absurd (true≢false (sym f))
set_of (namespace_ref f h n) = absurd (true≢false (sym f))
set_of (object_ref f o) = absurd (true≢false (sym f))
set_of (typed {l = l} {l₁ = l₁} {l₂ = l₂} {s = s} {s₁ = s₁} {s₂ = s₂} {m₁ = m₁} {m₂ = m₂} h t v) =
    let i = inner_of v (two_types l₁.kind l₁.arg t.fitting) in
    record {
      kind = l₁;
      kind_str = s₁;
      kind_inside = m₁;
      lead = l₂;
      str = s₂;
      inside = m₂;
      whole = refl;
      inner = i;
      two = h.arg_is;
      less = λ k q. typed h t (i.less k q);
      spots_are = λ h' g p d. rw (h.kind_is, h.arg_is, t.bare) (ap (λ (z : List Spot). spot_at (type message) p d l₁ s₁ none ∷ (spot_at (value l₁.arg Place.inside) (inside_at p l₁ s₁ + 0) d h' s₂ g ∷ z)) (append-nil _));
    }
