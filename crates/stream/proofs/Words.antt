-- The state's words and frames as the leaves load and store them: a law for each way that such a function ends.
use Prim.Native.Nat.{ℕ, suc, ◌+◌, ◌-◌, ◌<◌, ◌≤◌, min}
use mathlib.Core.Path.{◌≡◌, refl, sym, ◌∙◌}
use mathlib.Core.Bool.{false, ◌&&◌}
use mathlib.Core.List.{List}
use native.Mathlib.Omega.{arith}
use native.Mathlib.Nat.{min-le_right}
use lib.ListN.{length, set}
use lib.Dec.{eqb}
use mir.Syntax.{w64}
use mir.Val.{Fits}
use borrow.Author.Tests.{eq-eqb, ne_eqb, le-leb, lt-leb}
use Rattle.ari.specs.Limits.{gate_limits}
use Rattle.cbor.specs.declared.Head.{Head}
use Rattle.cbor.specs.declared.Head.TheVariants.{Bad, Good}
use Rattle.cbor.specs.Head.{is_container, key_of}
use Rattle.ari.specs.declared.Limits.{Limits}
use Rattle.cbor.specs.Answer.{head_at, Passed}
use Rattle.ari.specs.Table.{rule}
use Rattle.reader.specs.Steps.{key_at, key_span, step_at, Bounded}
use Rattle.reader.proofs.Bounds.{opens}
use Rattle.grammar.specs.Code.{slot_of, next_code, inside_code}
use Rattle.grammar.specs.declared.Next.{Next}
use Rattle.grammar.specs.declared.Next.TheVariants.{Done, Due}
use Rattle.reader.specs.declared.Taken.{Taken}
use Rattle.std.specs.declared.result.Result.TheVariants.{Ok, Err}
use Rattle.std.specs.declared.result.Result.{Result}
use Rattle.ari.specs.declared.Refusal.{Refusal}
use Rattle.ari.specs.Refusals.{refused}
use Rattle.ari.specs.declared.Fault.TheVariants.{Truncated, StringCut}
use Rattle.ari.proofs.Numbers.{other_number}
use Rattle.stream.specs.declared.Frame.{Frame}
use Rattle.stream.specs.State.{word, frame_start, frame_at}
use Rattle.stream.specs.Calls.{due_frame, stored, open_behind, words_behind, open_inside, words_inside, string_until, stop_at, halt_of, step_due, TakenDue, open_after, words_after}

module _ (ws : List ℕ) (k : ℕ) where
  pub frame_read : record {
    slot = word ws (frame_start k);
    more = word ws (frame_start k + 1);
    from = word ws (frame_start k + 2);
    to = word ws (frame_start k + 3);
    around = word ws (frame_start k + 4);
  } ≡ frame_at ws k
  unfolding frame_at
  frame_read = refl

  pub frame_stored : (f : Frame)
      → set (set (set (set (set ws (frame_start k) f.slot) (frame_start k + 1) f.more) (frame_start k + 2) f.from) (frame_start k + 3) f.to) (frame_start k + 4) f.around
      ≡ stored ws k f
  unfolding stored
  frame_stored f =
      let s = frame_start k in
      let one : s + 1 ≡ suc s = omega arith in
      let two : s + 2 ≡ suc (suc s) = omega arith in
      let three : s + 3 ≡ suc (suc (suc s)) = omega arith in
      let four : s + 4 ≡ suc (suc (suc (suc s))) = omega arith in
      rw (one, two, three, four)

module _ (ws : List ℕ) (at opened : ℕ) where
  pub due_inside : (opened ≡ 0 → ⊥) → {r : Frame} → r ≡ frame_at ws (opened - 1) → r ≡ due_frame ws at opened
  due_inside n e = rw (ne_eqb opened 0 n) e

  pub due_version : opened ≡ 0 → at ≡ 0 → record { slot = 0; more = 0; from = 0; to = 0; around = 0 } ≡ due_frame ws at opened
  due_version e f = rw (eq-eqb opened 0 e, eq-eqb at 0 f)

  pub due_set : opened ≡ 0 → (at ≡ 0 → ⊥) → record { slot = 2; more = 0; from = 0; to = 0; around = 0 } ≡ due_frame ws at opened
  due_set e n = rw (eq-eqb opened 0 e, ne_eqb at 0 n)

-- a level's frame is replaced, or left
module _ (ws : List ℕ) (opened : ℕ) (f : Frame) (a p q : ℕ) where
  abbrev next : Next
  next = next_code f.slot a f.more

  bottom_levels : (y : Next) → opened ≡ 0 → 0 ≡ open_behind y opened
  bottom_levels Done e = rw e
  bottom_levels (Due j n) e = sym e

  pub at_bottom : opened ≡ 0 → 0 ≡ open_behind next opened
  at_bottom e = bottom_levels next e

  bottom_words : (y : Next) → opened ≡ 0 → ws ≡ words_behind y ws opened f p q
  bottom_words Done e = refl
  bottom_words (Due j n) e = rw (eq-eqb opened 0 e)

  pub bottom_stays : opened ≡ 0 → ws ≡ words_behind next ws opened f p q
  bottom_stays e = bottom_words next e

  module _ {x : Next} (e : x ≡ next) where
    pub left_level : x ≡ Done → opened - 1 ≡ open_behind next opened
    left_level g = rw (← e, g)

    pub left_words : x ≡ Done → ws ≡ words_behind next ws opened f p q
    left_words g = rw (← e, g)

    pub next_level : {j n : ℕ} → x ≡ Due j n → opened ≡ open_behind next opened
    next_level g = rw (← e, g)

    pub next_words : {j n : ℕ} → x ≡ Due j n → (opened ≡ 0 → ⊥) → {u v : ℕ} → u ≡ key_span (rule (slot_of f.slot)).extra f.from p
        → v ≡ key_span (rule (slot_of f.slot)).extra f.to q → {w : List ℕ}
        → w ≡ stored ws (opened - 1) (record { slot = j; more = n; from = u; to = v; around = f.around }) → w ≡ words_behind next ws opened f p q
    next_words g n eu ev z = z ∙ rw (← e, g, ne_eqb opened 0 n, eu, ev)

module _ (ws : List ℕ) (opened around i k a : ℕ) {x : Next} (e : x ≡ inside_code i k a) where
  pub no_level : x ≡ Done → opened ≡ open_inside (inside_code i k a) opened
  no_level g = rw (← e, g)

  pub no_words : x ≡ Done → ws ≡ words_inside (inside_code i k a) ws opened around
  no_words g = rw (← e, g)

  pub new_level : {j n : ℕ} → x ≡ Due j n → opened + 1 ≡ open_inside (inside_code i k a) opened
  new_level g = rw (← e, g)

  pub new_words : {j n : ℕ} → x ≡ Due j n → {w : List ℕ} → w ≡ stored ws opened (record { slot = j; more = n; from = 0; to = 0; around = around + 1 })
      → w ≡ words_inside (inside_code i k a) ws opened around
  new_words g z = z ∙ rw (← e, g)

  -- the new level is below the limit
  pub level_free : {j n : ℕ} → x ≡ Due j n → (d : ℕ) → (is_container k && eqb d 0) ≡ false → opened ≤ around → around + d ≤ gate_limits.containers → opened < gate_limits.containers
  level_free g d s h l = omega (arith, opens i k a e d g s)

-- where a string ends
module _ (b : List ℕ) (at most : ℕ) {h : Head} (e : h ≡ head_at b at) where
  pub string_ends : {k a n x : ℕ} → h ≡ Good k a n → x ≡ min a most → n + x ≡ string_until (head_at b at) most (length b)
  string_ends g y = rw (← e, g, y)

  pub head_lacks : {r : ℕ} → h ≡ Bad r → length b + 1 ≡ string_until (head_at b at) most (length b)
  head_lacks g = rw (← e, g)

pub head_within : (b : List ℕ) (at : ℕ) {h : Head} → Passed b at h → {k a n : ℕ} → h ≡ Good k a n → n ≤ length b
head_within b at p g = let q = rw g at p in q.1

pub until_fits : (b : List ℕ) (at : ℕ) {h : Head} → Passed b at h → {k a n : ℕ} → h ≡ Good k a n → (most : ℕ) {x : ℕ} → x ≡ min a most → length b < 65536 → most < 65536 → Fits w64 (n + x)
until_fits b at p {k} {a} g most e l m = omega (arith, head_within b at p g, min-le_right a most)

-- the head that is due
module _ (m : Limits) (b : List ℕ) (f : Frame) (at count opened : ℕ) where
  pub low_level : f.around < opened → refused 2 at ≡ step_due m b f at count opened
  unfolding step_due
  low_level h = rw (lt-leb opened f.around h)

  pub deep_level : opened ≤ f.around → m.containers < f.around → refused 2 at ≡ step_due m b f at count opened
  unfolding step_due
  deep_level g h = rw (le-leb opened f.around g, lt-leb f.around m.containers h)

  module _ (g : opened ≤ f.around) (h : f.around ≤ m.containers) where
    pub own_level : {t : Result Taken Refusal} → t ≡ step_at b at (slot_of f.slot) (key_of (key_at b f.from f.to)) (m.items - count) (m.containers - f.around) → t ≡ step_due m b f at count opened
    unfolding step_due
    own_level e = rw (le-leb opened f.around g, le-leb f.around m.containers h) e

    pub level_shown : (t : Result Taken Refusal) → Bounded b at count m.items (m.containers - f.around) f.slot t → TakenDue m b f at count opened t
    level_shown (Ok t) w = (w, g, h)
    level_shown (Err e) w = tt

-- behind, and inside
module _ (f : Frame) (k a : ℕ) (ws : List ℕ) (opened p q : ℕ) {o₁ : ℕ} (e : o₁ ≡ open_behind (next_code f.slot a f.more) opened) where
  pub both_levels : {o₂ : ℕ} → o₂ ≡ open_inside (inside_code f.slot k a) o₁ → o₂ ≡ open_after f k a opened
  both_levels g = rw e at g

  pub both_words : {w₁ w₂ : List ℕ} → w₁ ≡ words_behind (next_code f.slot a f.more) ws opened f p q → w₂ ≡ words_inside (inside_code f.slot k a) w₁ o₁ f.around
      → w₂ ≡ words_after f k a ws opened p q
  both_words h g = rw (h, e) at g

behind_most : (x : Next) (o : ℕ) → open_behind x o ≤ o
behind_most Done o = omega arith
behind_most (Due j n) o = omega arith

pub left_above : (f : Frame) (a o : ℕ) {o₁ : ℕ} → o₁ ≡ open_behind (next_code f.slot a f.more) o → o ≤ f.around → o₁ ≤ f.around
left_above f a o e h = omega (arith, behind_most (next_code f.slot a f.more) o)

pub level_sum : (around d : ℕ) → around ≤ d → d ≤ gate_limits.containers → around + (d - around) ≤ gate_limits.containers
level_sum around d h g = omega arith

-- where no head is taken
module _ (b : List ℕ) (most at count opened : ℕ) (e : Refusal) where
  pub lacks_bytes : e.fault ≡ Truncated → Ok (stop_at at count opened (length b + 1)) ≡ halt_of b most e at count opened
  lacks_bytes q = rw q

  pub lacks_string : e.fault ≡ StringCut → {u : ℕ} → u ≡ string_until (head_at b at) most (length b) → Ok (stop_at at count opened u) ≡ halt_of b most e at count opened
  lacks_string q g = rw (q, g)

  pub is_refused : (e.fault ≡ Truncated → ⊥) → (e.fault ≡ StringCut → ⊥) → Err e ≡ halt_of b most e at count opened
  is_refused n q = rw (other_number e.fault 2 n, other_number e.fault 9 q)

pub ruleset leaves = (low_level, deep_level, own_level, level_shown, both_levels, both_words, left_above, level_sum, lacks_bytes, lacks_string, is_refused, frame_read, frame_stored, due_inside, due_version, due_set, at_bottom, bottom_stays, left_level, left_words, next_level, next_words, no_level, no_words, new_level, new_words, string_ends, head_lacks)
