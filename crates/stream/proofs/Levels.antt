-- The frames of the open levels: storing one leaves those below it, so the levels after an item are what the reader has due after it.
use Prim.Native.Nat.{ℕ, zero, suc, pred, ◌+◌, ◌-◌, ◌<◌, ◌≤◌}
use mathlib.Core.Path.{◌≡◌, refl, sym, ◌∙◌, subst}
use mathlib.Core.Bool.{Bool, true, false, cond}
use mathlib.Core.List.{List, [], ◌∷◌}
use native.Mathlib.Omega.{arith}
use lib.ListN.{length, set, length-set}
use lib.Seq.{sets, get_or-set_same, get_or-set_other, length-sets}
use lib.Dec.{eqb}
use borrow.Author.Tests.{ne_eqb}
use Rattle.ari.specs.Limits.{gate_limits}
use Rattle.buffer.specs.Bytes.{part}
use Rattle.cbor.specs.Head.{key_of, get_head}
use Rattle.ari.specs.Table.{done, rule}
use Rattle.ari.specs.Reader.{frame, push}
use Rattle.grammar.specs.Code.{slot_of, level_of}
use Rattle.grammar.specs.declared.Next.{Next}
use Rattle.grammar.specs.declared.Next.TheVariants.{Done, Due}
use Rattle.grammar.proofs.Right.{Slotted}
use Rattle.reader.specs.Steps.{key_span}
use Rattle.reader.proofs.Bounds.{span_order, span_within}
use Rattle.stream.specs.declared.Frame.{Frame}
use Rattle.stream.specs.State.{word, frame_start, frame_at, key_in, levels, WellFrame, WellFrames}
use Rattle.stream.specs.Calls.{words, stored, frame_behind, open_behind, words_behind, open_inside, words_inside}

-- what stands in front of the values stays
pub sets_before : (ws : List ℕ) (i : ℕ) (vs : List ℕ) (j : ℕ) → j < i → word (sets ws i vs) j ≡ word ws j
sets_before ws i [] j h = refl
sets_before ws i (v ∷ vs) j h = sets_before (set ws i v) (suc i) vs j (omega arith) ∙ get_or-set_other ws i j v 0 (λ e. omega arith)

module _ (ws : List ℕ) (k : ℕ) (f : Frame) where
  pub stored_size : length (stored ws k f) ≡ length ws
  unfolding stored
  stored_size = length-sets ws (frame_start k) (f.slot ∷ f.more ∷ f.from ∷ f.to ∷ f.around ∷ [])

  pub stored_before : (j : ℕ) → j < frame_start k → word (stored ws k f) j ≡ word ws j
  unfolding stored
  stored_before j h = sets_before ws (frame_start k) (f.slot ∷ f.more ∷ f.from ∷ f.to ∷ f.around ∷ []) j h

  -- a frame that was stored is read back
  stored_back : frame_start k + 4 < length ws → frame_at (stored ws k f) k ≡ f
  unfolding stored frame_at
  stored_back h =
      let s = frame_start k in
      let one : s + 1 ≡ suc s = omega arith in
      let two : s + 2 ≡ suc (suc s) = omega arith in
      let three : s + 3 ≡ suc (suc (suc s)) = omega arith in
      let four : s + 4 ≡ suc (suc (suc (suc s))) = omega arith in
      let w₁ = set ws s f.slot in
      let w₂ = set w₁ (suc s) f.more in
      let w₃ = set w₂ (suc (suc s)) f.from in
      let w₄ = set w₃ (suc (suc (suc s))) f.to in
      let l₁ : length w₁ ≡ length ws = length-set ws s f.slot in
      let l₂ : length w₂ ≡ length ws = length-set w₁ (suc s) f.more ∙ l₁ in
      let l₃ : length w₃ ≡ length ws = length-set w₂ (suc (suc s)) f.from ∙ l₂ in
      let l₄ : length w₄ ≡ length ws = length-set w₃ (suc (suc (suc s))) f.to ∙ l₃ in
      let e₀ : word (stored ws k f) s ≡ f.slot =
      sets_before w₁ (suc s) (f.more ∷ f.from ∷ f.to ∷ f.around ∷ []) s (omega arith) ∙ get_or-set_same ws s f.slot 0 (omega arith) in
      let e₁ : word (stored ws k f) (suc s) ≡ f.more =
      sets_before w₂ (suc (suc s)) (f.from ∷ f.to ∷ f.around ∷ []) (suc s) (omega arith) ∙ get_or-set_same w₁ (suc s) f.more 0 (omega arith) in
      let e₂ : word (stored ws k f) (suc (suc s)) ≡ f.from =
      sets_before w₃ (suc (suc (suc s))) (f.to ∷ f.around ∷ []) (suc (suc s)) (omega arith) ∙ get_or-set_same w₂ (suc (suc s)) f.from 0 (omega arith) in
      let e₃ : word (stored ws k f) (suc (suc (suc s))) ≡ f.to =
      sets_before w₄ (suc (suc (suc (suc s)))) (f.around ∷ []) (suc (suc (suc s))) (omega arith) ∙ get_or-set_same w₃ (suc (suc (suc s))) f.to 0 (omega arith) in
      let e₄ : word (stored ws k f) (suc (suc (suc (suc s)))) ≡ f.around = get_or-set_same w₄ (suc (suc (suc (suc s)))) f.around 0 (omega arith) in
      rw (one, two, three, four, e₀, e₁, e₂, e₃, e₄)

  -- the frames below stay
  stored_below : (j : ℕ) → j < k → frame_at (stored ws k f) j ≡ frame_at ws j
  unfolding frame_at
  stored_below j h =
      rw (
        stored_before (frame_start j) (omega arith),
        stored_before (frame_start j + 1) (omega arith),
        stored_before (frame_start j + 2) (omega arith),
        stored_before (frame_start j + 3) (omega arith),
        stored_before (frame_start j + 4) (omega arith),
      )

  levels_below : (d : ℕ) (b : List ℕ) (j : ℕ) → j ≤ k → levels (stored ws k f) d b j ≡ levels ws d b j
  levels_below d b zero h = refl
  levels_below d b (suc j) h = rw (stored_below j (omega arith), levels_below d b j (omega arith))

  well_below : (d n j : ℕ) → j ≤ k → WellFrames ws d n j → WellFrames (stored ws k f) d n j
  well_below d n zero h w = tt
  well_below d n (suc j) h w = (rw (stored_below j (omega arith)) w.0, well_below d n j (omega arith) w.1)

  -- the level with the new frame on top
  pub stored_levels : (d : ℕ) (b : List ℕ) → frame_start k + 4 < length ws
      → levels (stored ws k f) d b (suc k) ≡ frame (slot_of f.slot) f.more (key_in b f) (d - f.around) (levels ws d b k)
  stored_levels d b h = rw (stored_back h, levels_below d b k (omega arith))

  pub stored_well : (d n : ℕ) → frame_start k + 4 < length ws → WellFrame d n k f → WellFrames ws d n k → WellFrames (stored ws k f) d n (suc k)
  stored_well d n h w v = (rw (stored_back h) w, well_below d n k (omega arith) v)

-- behind an item: x is what is due there, k the level's number and f its frame
module _ (ws : List ℕ) (f : Frame) (p q : ℕ) (d : ℕ) (b : List ℕ) (size : words ≤ length ws) where
  behind_words : (k j n : ℕ) → words_behind (Due j n) ws (suc k) f p q ≡ stored ws k (frame_behind f j n p q)
  behind_words k j n = let e : suc k - 1 ≡ k = omega arith in rw (e, ne_eqb (suc k) 0 (λ q. omega arith))

  pub behind_levels : (o : ℕ) → o ≤ gate_limits.containers → (x : Next) → (o ≡ 0 → level_of x ≡ done)
      → levels (words_behind x ws o f p q) d b (open_behind x o)
      ≡ push (level_of x) (key_of (part b (key_span (rule (slot_of f.slot)).extra f.from p) (key_span (rule (slot_of f.slot)).extra f.to q))) (d - f.around) (levels ws d b (o - 1))
  behind_levels o h Done z = refl
  behind_levels zero h (Due j n) z = absurd (let e : ◌≡◌ {A = ℕ} 0 1 = cc (z refl) in omega arith)
  behind_levels (suc k) h (Due j n) z =
      let e : suc k - 1 ≡ k = omega arith in
      let P : List ℕ → Type 0 = λ w. levels w d b (suc k)
      ≡ frame (slot_of j) n (key_of (part b (key_span (rule (slot_of f.slot)).extra f.from p) (key_span (rule (slot_of f.slot)).extra f.to q))) (d - f.around) (levels ws d b (suc k - 1)) in
      subst P (sym (behind_words k j n)) (rw e (stored_levels ws k (frame_behind f j n p q) d b (omega arith)))

  pub behind_well : (n o : ℕ) → o ≤ gate_limits.containers → (x : Next) → Slotted x → WellFrames ws d n (o - 1) → ((k : ℕ) → o ≡ suc k → WellFrame d n k f) → p ≤ q → q ≤ n
      → WellFrames (words_behind x ws o f p q) d n (open_behind x o)
  behind_well n o h Done z w v pq qn = w
  behind_well n zero h (Due j m) z w v pq qn = tt
  behind_well n (suc k) h (Due j m) z w v pq qn =
      let e : suc k - 1 ≡ k = omega arith in
      let g = v k refl in
      let x = (rule (slot_of f.slot)).extra in
      let P : List ℕ → Type 0 = λ u. WellFrames u d n (suc k) in
      subst P (sym (behind_words k j m))
      (stored_well ws k (frame_behind f j m p q) d n (omega arith) (z, span_order x f.from f.to p q g.1 pq, span_within x f.to q n g.2 qn, g.3, g.4) (rw e at w))

  pub behind_size : (o : ℕ) (x : Next) → length (words_behind x ws o f p q) ≡ length ws
  behind_size o Done = refl
  behind_size o (Due j m) = go (eqb o 0)
    where
      go : (t : Bool) → length (cond t ws (stored ws (o - 1) (frame_behind f j m p q))) ≡ length ws
      go true = refl
      go false = stored_size ws (o - 1) (frame_behind f j m p q)

  pub behind_front : (o : ℕ) (x : Next) (j : ℕ) → j < 7 → word (words_behind x ws o f p q) j ≡ word ws j
  behind_front o Done j h = refl
  behind_front o (Due i m) j h = go (eqb o 0)
    where
      go : (t : Bool) → word (cond t ws (stored ws (o - 1) (frame_behind f i m p q))) j ≡ word ws j
      go true = refl
      go false = stored_before ws (o - 1) (frame_behind f i m p q) j (omega arith)

  pub behind_most : (o : ℕ) (x : Next) → open_behind x o ≤ o
  behind_most o Done = omega arith
  behind_most o (Due j m) = omega arith

-- inside an item that has so many containers around it
module _ (ws : List ℕ) (around d : ℕ) (b : List ℕ) (size : words ≤ length ws) where
  pub inside_levels : (o : ℕ) (x : Next) → ((j n : ℕ) → x ≡ Due j n → o < gate_limits.containers)
      → levels (words_inside x ws o around) d b (open_inside x o) ≡ push (level_of x) [] (pred (d - around)) (levels ws d b o)
  unfolding key_of get_head
  inside_levels o Done free = refl
  inside_levels o (Due j n) free =
      let h : o < gate_limits.containers = free j n refl in
      let e : o + 1 ≡ suc o = omega arith in
      let g : d - (around + 1) ≡ pred (d - around) = omega arith in
      rw (e, ← g) (stored_levels ws o (record { slot = j; more = n; from = 0; to = 0; around = around + 1 }) d b (omega arith))

  pub inside_well : (n o : ℕ) (x : Next) → Slotted x → ((j m : ℕ) → x ≡ Due j m → (o < gate_limits.containers) × (o ≤ around) × (around < d)) → WellFrames ws d n o
      → WellFrames (words_inside x ws o around) d n (open_inside x o)
  inside_well n o Done s free w = w
  inside_well n o (Due j m) s free w =
      let (h, oa, ad) = free j m refl in
      let e : o + 1 ≡ suc o = omega arith in
      rw e (stored_well ws o (record { slot = j; more = m; from = 0; to = 0; around = around + 1 }) d n (omega arith) (s, omega arith, omega arith, omega arith, omega arith) w)

  pub inside_size : (o : ℕ) (x : Next) → length (words_inside x ws o around) ≡ length ws
  inside_size o Done = refl
  inside_size o (Due j m) = stored_size ws o (record { slot = j; more = m; from = 0; to = 0; around = around + 1 })

  pub inside_front : (o : ℕ) (x : Next) (j : ℕ) → j < 7 → word (words_inside x ws o around) j ≡ word ws j
  inside_front o Done j h = refl
  inside_front o (Due i m) j h = stored_before ws o (record { slot = i; more = m; from = 0; to = 0; around = around + 1 }) j (omega arith)
