-- UTF-8, way by way through the tests; the premises are the tests as the code makes them.
use Prim.Native.Nat.{ℕ, zero, suc, ◌+◌, ◌<◌, ◌≤◌}
use mathlib.Core.Path.{◌≡◌, refl, sym, ◌∙◌, ap}
use mathlib.Core.Bool.{Bool, true, false, ◌&&◌, ◌||◌, or-false}
use mathlib.Core.List.{List, [], ◌∷◌}
use native.Mathlib.Omega.{arith}
use native.Mathlib.Nat.{add_assoc}
use native.Mathlib.Numerals.{add-one}
use lib.ListN.{length, drop, get_or, drop_of_length-le}
use lib.Seq.{drop-cons}
use lib.Dec.{ltb, leb}
use borrow.Author.Tests.{lt-ltb, le-ltb, le-leb, lt-leb, ne_eqb, ltb-true, ltb-false, leb-false}
use Rattle.buffer.specs.Bytes.{within}
use Rattle.buffer.specs.Runs.{past, RunTo}
use Rattle.buffer.proofs.RunLaws.{past_ends, past_on, Ahead, run_begins, run_ends, run_on, run_out, run_stops}
use Rattle.cbor.specs.Utf8.{utf8_from, utf8, is_ascii}
use Rattle.cbor.specs.Answer.{follows, Tail, Sequence}

-- One byte.
module _ (s : List ℕ) (at lo hi : ℕ) where
  pub none_there : length s ≤ at → false ≡ follows s at lo hi
  unfolding follows
  none_there h = simp (le-ltb _ _ h)

  pub too_low : at < length s → get_or s at 0 < lo → false ≡ follows s at lo hi
  unfolding follows
  too_low h k = simp (lt-ltb _ _ h, lt-leb _ _ k)

  pub high_enough : at < length s → lo ≤ get_or s at 0 → leb (get_or s at 0) hi ≡ follows s at lo hi
  unfolding follows
  high_enough h k = simp (lt-ltb _ _ h, le-leb _ _ k)

  there : follows s at lo hi ≡ true → at < length s
  unfolding follows
  there e = go (ltb at (length s)) refl e
    where
      go : (t : Bool) → ltb at (length s) ≡ t → (t && within lo hi (get_or s at 0)) ≡ true → at < length s
      go true f q = ltb-true at (length s) f
      go false f q = absurd (let z : ◌≡◌ {A = ℕ} 0 1 = cc in omega arith)

  step : (n : ℕ) → utf8_from (suc n) lo hi (drop at s) ≡ (follows s at lo hi && utf8_from n 128 191 (drop (at + 1) s))
  unfolding follows utf8_from
  step n = go (ltb at (length s)) refl
    where
      go : (t : Bool) → ltb at (length s) ≡ t → utf8_from (suc n) lo hi (drop at s) ≡ (t && within lo hi (get_or s at 0) && utf8_from n 128 191 (drop (at + 1) s))
      go true e = rw (add-one at, drop-cons s at 0 (ltb-true at (length s) e))
      go false e = rw (drop_of_length-le s (ltb-false at (length s) e))

  module _ {t : Bool} (f : t ≡ follows s at lo hi) (n : ℕ) where
    on : t ≡ true → utf8_from (suc n) lo hi (drop at s) ≡ utf8_from n 128 191 (drop (at + 1) s)
    on e = rw (step n, ← f, e)

    off : t ≡ false → utf8_from (suc n) lo hi (drop at s) ≡ false
    off e = rw (step n, ← f, e)

-- The bytes behind the first.
module _ (s : List ℕ) (i lo hi : ℕ) {t : Bool} (f : t ≡ follows s (i + 1) lo hi) where
  pub broken_1 : (n : ℕ) → i < length s → t ≡ false → 0 < n → Tail s i n lo hi 0
  broken_1 zero h e z = absurd (omega arith)
  broken_1 (suc n) h e z = record { inside = omega arith; rest = off s (i + 1) lo hi f n e }

  module _ (e : t ≡ true) where
    pub whole_1 : Tail s i 1 lo hi 2
    whole_1 =
        record {
          inside = omega (arith, there s (i + 1) lo hi (sym f ∙ e));
          rest = rw (on s (i + 1) lo hi f 0 e, add_assoc i 1 1);
        }

    module _ {u : Bool} (g : u ≡ follows s (i + 2) 128 191) where
      pub broken_2 : (n : ℕ) → i < length s → u ≡ false → 1 < n → Tail s i n lo hi 0
      broken_2 zero h d z = absurd (omega arith)
      broken_2 (suc zero) h d z = absurd (omega arith)
      broken_2 (suc (suc n)) h d z = record { inside = omega arith; rest = rw (on s (i + 1) lo hi f (suc n) e, add_assoc i 1 1, off s (i + 2) 128 191 g n d) }

      module _ (d : u ≡ true) where
        pub whole_2 : Tail s i 2 lo hi 3
        whole_2 =
            record {
              inside = omega (arith, there s (i + 2) 128 191 (sym g ∙ d));
              rest = rw (on s (i + 1) lo hi f 1 e, add_assoc i 1 1, on s (i + 2) 128 191 g 0 d, add_assoc i 2 1);
            }

        module _ {v : Bool} (k : v ≡ follows s (i + 3) 128 191) where
          pub broken_3 : i < length s → v ≡ false → Tail s i 3 lo hi 0
          broken_3 h c =
              record {
                inside = omega arith;
                rest = rw (on s (i + 1) lo hi f 2 e, add_assoc i 1 1, on s (i + 2) 128 191 g 1 d, add_assoc i 2 1, off s (i + 3) 128 191 k 0 c);
              }

          pub whole_3 : v ≡ true → Tail s i 3 lo hi 4
          whole_3 c =
              record {
                inside = omega (arith, there s (i + 3) 128 191 (sym k ∙ c));
                rest = rw (on s (i + 1) lo hi f 2 e, add_assoc i 1 1, on s (i + 2) 128 191 g 1 d, add_assoc i 2 1, on s (i + 3) 128 191 k 0 c, add_assoc i 3 1);
              }

-- The table, row by row: what is due behind the byte b.
module _ (b : ℕ) (bs : List ℕ) where
  ascii : b < 128 → utf8 (b ∷ bs) ≡ utf8 bs
  unfolding utf8_from
  ascii h =
      rw (
        lt-ltb b 128 h,
        lt-leb 194 b (omega arith),
        ne_eqb b 224 (λ e. omega arith),
        lt-leb 225 b (omega arith),
        lt-leb 238 b (omega arith),
        ne_eqb b 237 (λ e. omega arith),
        ne_eqb b 240 (λ e. omega arith),
        lt-leb 241 b (omega arith),
        ne_eqb b 244 (λ e. omega arith),
        or-false,
      )

  row_low : 128 ≤ b → b < 194 → utf8 (b ∷ bs) ≡ false
  unfolding utf8_from
  row_low h k =
      rw (
        le-ltb b 128 h,
        lt-leb 194 b k,
        ne_eqb b 224 (λ e. omega arith),
        lt-leb 225 b (omega arith),
        lt-leb 238 b (omega arith),
        ne_eqb b 237 (λ e. omega arith),
        ne_eqb b 240 (λ e. omega arith),
        lt-leb 241 b (omega arith),
        ne_eqb b 244 (λ e. omega arith),
      )

  row_2 : 194 ≤ b → b < 224 → utf8 (b ∷ bs) ≡ utf8_from 1 128 191 bs
  unfolding utf8_from
  row_2 h k =
      rw (
        le-ltb b 128 (omega arith),
        le-leb 194 b h,
        le-leb b 223 (omega arith),
        ne_eqb b 224 (λ e. omega arith),
        lt-leb 225 b (omega arith),
        lt-leb 238 b (omega arith),
        ne_eqb b 237 (λ e. omega arith),
        ne_eqb b 240 (λ e. omega arith),
        lt-leb 241 b (omega arith),
        ne_eqb b 244 (λ e. omega arith),
        or-false,
      )

  row_3 : 225 ≤ b → (b ≡ 237 → ⊥) → b < 240 → utf8 (b ∷ bs) ≡ utf8_from 2 128 191 bs
  unfolding utf8_from
  row_3 h n k =
      rw (
        le-ltb b 128 (omega arith),
        le-leb 194 b (omega arith),
        lt-leb b 223 (omega arith),
        ne_eqb b 224 (λ e. omega arith),
        le-leb 225 b h,
        le-leb b 239 (omega arith),
        ne_eqb b 237 n,
        ne_eqb b 240 (λ e. omega arith),
        lt-leb 241 b (omega arith),
        ne_eqb b 244 (λ e. omega arith),
      )
      (go (leb b 236) refl)
    where
      go : (t : Bool) → leb b 236 ≡ t → ((t || leb 238 b && true) && utf8_from 2 128 191 bs) || false ≡ utf8_from 2 128 191 bs
      go true e = or-false _
      go false e = rw (le-leb 238 b (omega (arith, leb-false b 236 e)), or-false)

  row_4 : 241 ≤ b → b < 244 → utf8 (b ∷ bs) ≡ utf8_from 3 128 191 bs
  unfolding utf8_from
  row_4 h k =
      rw (
        le-ltb b 128 (omega arith),
        le-leb 194 b (omega arith),
        lt-leb b 223 (omega arith),
        ne_eqb b 224 (λ e. omega arith),
        le-leb 225 b (omega arith),
        lt-leb b 236 (omega arith),
        le-leb 238 b (omega arith),
        lt-leb b 239 (omega arith),
        ne_eqb b 237 (λ e. omega arith),
        ne_eqb b 240 (λ e. omega arith),
        le-leb 241 b h,
        le-leb b 243 (omega arith),
        ne_eqb b 244 (λ e. omega arith),
        or-false,
      )

  row_high : 245 ≤ b → utf8 (b ∷ bs) ≡ false
  unfolding utf8_from
  row_high h =
      rw (
        le-ltb b 128 (omega arith),
        le-leb 194 b (omega arith),
        lt-leb b 223 (omega arith),
        ne_eqb b 224 (λ e. omega arith),
        le-leb 225 b (omega arith),
        lt-leb b 236 (omega arith),
        le-leb 238 b (omega arith),
        lt-leb b 239 (omega arith),
        ne_eqb b 237 (λ e. omega arith),
        ne_eqb b 240 (λ e. omega arith),
        le-leb 241 b (omega arith),
        lt-leb b 243 (omega arith),
        ne_eqb b 244 (λ e. omega arith),
      )

-- A sequence that starts at i.
module _ (s : List ℕ) (i : ℕ) (h : i < length s) where
  first : utf8 (drop i s) ≡ utf8 (get_or s i 0 ∷ drop (i + 1) s)
  first = rw (drop-cons s i 0 h, add-one i)

  none : utf8 (get_or s i 0 ∷ drop (i + 1) s) ≡ false → Sequence s i 0
  none e = record { inside = omega arith; rest = first ∙ e }

  pub no_lead : 128 ≤ get_or s i 0 → get_or s i 0 < 194 → Sequence s i 0
  no_lead k l = none (row_low _ _ k l)

  pub past_leads : 244 ≤ get_or s i 0 → (get_or s i 0 ≡ 244 → ⊥) → Sequence s i 0
  past_leads k n = none (row_high _ _ (omega arith))

  module _ {r : ℕ} where
    some : {n lo hi : ℕ} → utf8 (get_or s i 0 ∷ drop (i + 1) s) ≡ utf8_from n lo hi (drop (i + 1) s) → Tail s i n lo hi r → Sequence s i r
    some e t = record { inside = t.inside; rest = first ∙ e ∙ t.rest }

    pub lead_2 : 194 ≤ get_or s i 0 → get_or s i 0 < 224 → Tail s i 1 128 191 r → Sequence s i r
    lead_2 k l = some (row_2 _ _ k l)

    pub lead_e0 : get_or s i 0 ≡ 224 → Tail s i 2 160 191 r → Sequence s i r
    unfolding utf8_from
    lead_e0 e = some (rw e (or-false _))

    pub lead_ed : get_or s i 0 ≡ 237 → Tail s i 2 128 159 r → Sequence s i r
    unfolding utf8_from
    lead_ed e = some (rw e (or-false _))

    pub lead_3 : 224 ≤ get_or s i 0 → (get_or s i 0 ≡ 224 → ⊥) → (get_or s i 0 ≡ 237 → ⊥) → get_or s i 0 < 240 → Tail s i 2 128 191 r → Sequence s i r
    lead_3 k n m l = some (row_3 _ _ (omega arith) m l)

    pub lead_f0 : get_or s i 0 ≡ 240 → Tail s i 3 144 191 r → Sequence s i r
    unfolding utf8_from
    lead_f0 e = some (rw e (or-false _))

    pub lead_4 : 240 ≤ get_or s i 0 → (get_or s i 0 ≡ 240 → ⊥) → get_or s i 0 < 244 → Tail s i 3 128 191 r → Sequence s i r
    lead_4 k n l = some (row_4 _ _ (omega arith) l)

    pub lead_f4 : get_or s i 0 ≡ 244 → Tail s i 3 128 143 r → Sequence s i r
    unfolding utf8_from
    lead_f4 e = some (rw e)

-- ASCII bytes are passed.
utf8_past : (t : List ℕ) → utf8 t ≡ utf8 (past is_ascii t)
unfolding past
utf8_past [] = refl
utf8_past (x ∷ t) = go (utf8_past t) (is_ascii x) refl
  where
    go : utf8 t ≡ utf8 (past is_ascii t) → (b : Bool) → is_ascii x ≡ b → utf8 (x ∷ t) ≡ utf8 (past is_ascii (x ∷ t))
    go ih true e = ascii x t (ltb-true x 128 e) ∙ ih ∙ ap utf8 (sym (past_on is_ascii x t e))
    go ih false e = ap utf8 (sym (past_ends is_ascii x t e))

-- The loop stands behind ASCII bytes, and what is left decides.
pub record Behind (s : List ℕ) (i : ℕ) : Type 0 where
  pub inside : i ≤ length s
  pub rest : utf8 s ≡ utf8 (drop i s)
  pub lead : i < length s → 128 ≤ get_or s i 0

behind_run : (s : List ℕ) {a i : ℕ} → RunTo is_ascii s a i → utf8 s ≡ utf8 (drop a s) → Behind s i
behind_run s {a} {i} w e = record {
  inside = w.inside;
  rest = e ∙ utf8_past (drop a s) ∙ ap utf8 w.past_is;
  lead = λ h. ltb-false (get_or s i 0) 128 (run_stops is_ascii s w h);
}

pub behind_first : (s : List ℕ) {i : ℕ} → RunTo is_ascii s 0 i → Behind s i
behind_first s w = behind_run s w refl

module _ (s : List ℕ) (i : ℕ) (b : Behind s i) where
  pub leads : i < length s → 128 ≤ get_or s i 0
  leads = b.lead

  pub text_ends : length s ≤ i → true ≡ utf8 s
  unfolding utf8_from
  text_ends h = rw (b.rest, drop_of_length-le s h)

  module _ {n : ℕ} (q : Sequence s i n) where
    pub malformed : n ≡ 0 → false ≡ utf8 s
    malformed z = sym (b.rest ∙ q.rest ∙ rw z)

    pub behind_next : {j : ℕ} → (n ≡ 0 → ⊥) → RunTo is_ascii s (i + n) j → Behind s j
    behind_next z w = behind_run s w (b.rest ∙ q.rest ∙ rw (lt-ltb 0 n (omega arith)))

    pub onward : {j : ℕ} → (n ≡ 0 → ⊥) → RunTo is_ascii s (i + n) j → i < j
    onward z w = omega (arith, w.on)

-- A run of ASCII bytes goes on, or ends.
module _ (s : List ℕ) (a i : ℕ) (r : Ahead is_ascii s a i) (h : i < length s) where
  pub ascii_on : get_or s i 0 < 128 → Ahead is_ascii s a (i + 1)
  ascii_on k = run_on is_ascii s a i r h (sym (lt-ltb (get_or s i 0) 128 k)) refl

  pub ascii_ends : 128 ≤ get_or s i 0 → RunTo is_ascii s a i
  ascii_ends k = run_ends is_ascii s a i r h (sym (le-ltb (get_or s i 0) 128 k)) refl

pub ruleset texts = (none_there, too_low, high_enough, broken_1, broken_2, broken_3, whole_1, whole_2, whole_3, no_lead, past_leads, lead_2, lead_e0, lead_ed, lead_3, lead_f0, lead_4, lead_f4, run_begins, run_out, ascii_on, ascii_ends, behind_first, leads, text_ends, malformed, behind_next, onward)
