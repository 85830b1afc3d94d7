-- Texts one by one: what stands up to the next line feed is the first, and what is behind it has the others. Each is shorter than the bytes that they are in.
use Prim.Native.Nat.{ℕ, zero, suc, ◌+◌, ◌<◌, ◌≤◌}
use mathlib.Core.Path.{◌≡◌, refl, ◌∙◌, ap}
use mathlib.Core.Bool.{Bool, true, false, not, cond}
use mathlib.Core.List.{List, [], ◌∷◌, ◌++◌}
use native.Mathlib.Omega.{arith}
use lib.ListN.{length, get_or, drop}
use lib.Dec.{eqb}
use borrow.Author.Tests.{eqb-true}
use Rattle.buffer.specs.Bytes.{all, is_byte, part}
use Rattle.buffer.specs.Runs.{front, past, RunTo}
use Rattle.buffer.proofs.ByteLaws.{and-true}
use Rattle.buffer.proofs.RunLaws.{beyond, here}
use Rattle.composer.specs.Compose.{Texts, no_more, unended, text, lengthen, texts_in}
use Rattle.composer.specs.Code.{in_text, feed_of, feeds}

-- by what stands before the first line feed, and what from there on
abbrev by_past : List ℕ → List ℕ → Texts
by_past u [] = unended
by_past u (x ∷ r) = text u (texts_in r)

lengthen_by : (x : ℕ) (u r : List ℕ) → lengthen x (by_past u r) ≡ by_past (x ∷ u) r
lengthen_by x u [] = refl
lengthen_by x u (y ∷ r) = refl

first_text : (x : ℕ) (b : List ℕ) → texts_in (x ∷ b) ≡ by_past (front in_text (x ∷ b)) (past in_text (x ∷ b))
unfolding front past in_text
first_text x [] = go (eqb x 10)
  where
    go : (t : Bool) → cond t (text [] no_more) unended ≡ by_past (cond (not t) (x ∷ []) []) (cond (not t) [] (x ∷ []))
    go true = refl
    go false = refl
first_text x (y ∷ b) = go (eqb x 10) (first_text y b)
  where
    go : (t : Bool) → texts_in (y ∷ b) ≡ by_past (front in_text (y ∷ b)) (past in_text (y ∷ b))
        → cond t (text [] (texts_in (y ∷ b))) (lengthen x (texts_in (y ∷ b)))
        ≡ by_past (cond (not t) (x ∷ front in_text (y ∷ b)) []) (cond (not t) (past in_text (y ∷ b)) (x ∷ y ∷ b))
    go true ih = refl
    go false ih = ap (lengthen x) ih ∙ lengthen_by x (front in_text (y ∷ b)) (past in_text (y ∷ b))

module _ (b : List ℕ) (p : ℕ) (more : p < length b) {e : ℕ} (r : RunTo in_text b p e) where
  texts_at : texts_in (drop p b) ≡ by_past (part b p e) (drop e b)
  texts_at = let y : texts_in (drop p b) ≡ by_past (front in_text (drop p b)) (past in_text (drop p b)) = rw (here b p more) (first_text (get_or b p 0) (drop (p + 1) b)) in y ∙ rw (r.front_is, r.past_is)

  pub not_ended : e ≡ length b → texts_in (drop p b) ≡ unended
  not_ended g = texts_at ∙ rw (beyond b e (omega arith))

  pub ended : (e ≡ length b → ⊥) → texts_in (drop p b) ≡ text (part b p e) (texts_in (drop (e + 1) b))
  ended g = let h : e < length b = omega (arith, r.inside) in texts_at ∙ rw (here b e h)

pub none_left : (b : List ℕ) (p : ℕ) → length b ≤ p → texts_in (drop p b) ≡ no_more
none_left b p h = rw (beyond b p h)

-- Texts of bytes; the first is shorter than j, the others than k.
abbrev pub Clean : ℕ → ℕ → Texts → Type 0
Clean j k no_more = Unit {0}
Clean j k unended = Unit {0}
Clean j k (text t ts) = (all is_byte t ≡ true) × (length t < j) × Clean k k ts

longer : (x j k : ℕ) (ts : Texts) → is_byte x ≡ true → Clean j k ts → Clean (suc j) k (lengthen x ts)
longer x j k no_more o c = tt
longer x j k unended o c = tt
longer x j k (text t ts) o c = (rw (o, c.0), omega (arith, c.1), c.2)

pub clean : (b : List ℕ) (j k : ℕ) → all is_byte b ≡ true → length b ≤ j → j ≤ k → Clean j k (texts_in b)
clean [] j k o h i = tt
clean (x ∷ b) zero k o h i = absurd (omega arith)
clean (x ∷ b) (suc j) k o h i =
    let (ox, ob) = and-true (is_byte x) (all is_byte b) o in
    go (eqb x 10) ox (clean b k k ob (omega arith) (omega arith)) (clean b j k ob (omega arith) (omega arith))
  where
    go : (t : Bool) → is_byte x ≡ true → Clean k k (texts_in b) → Clean j k (texts_in b) → Clean (suc j) k (cond t (text [] (texts_in b)) (lengthen x (texts_in b)))
    go true o a c = (refl, omega arith, a)
    go false o a c = longer x j k (texts_in b) o c

-- how many are ended
abbrev pub many : Texts → ℕ
many no_more = 0
many unended = 0
many (text t ts) = suc (many ts)

many_longer : (x : ℕ) (ts : Texts) → many (lengthen x ts) ≡ many ts
many_longer x no_more = refl
many_longer x unended = refl
many_longer x (text t ts) = refl

pub many_feeds : (b : List ℕ) → many (texts_in b) ≡ feeds b
many_feeds [] = refl
many_feeds (x ∷ b) = go (eqb x 10) (many_feeds b)
  where
    go : (t : Bool) → many (texts_in b) ≡ feeds b → many (cond t (text [] (texts_in b)) (lengthen x (texts_in b))) ≡ cond t 1 0 + feeds b
    go true e = omega (arith, e)
    go false e = omega (arith, many_longer x (texts_in b), e)

-- all are ended
abbrev pub Ended : Texts → Type 0
Ended no_more = Unit {0}
Ended unended = ⊥
Ended (text t ts) = Ended ts

-- each with its line feed
abbrev pub joined : Texts → List ℕ
joined no_more = []
joined unended = []
joined (text t ts) = t ++ (10 ∷ joined ts)

ended_shorter : (x : ℕ) (ts : Texts) → Ended (lengthen x ts) → Ended ts × (joined (lengthen x ts) ≡ x ∷ joined ts)
ended_shorter x no_more e = absurd e
ended_shorter x unended e = absurd e
ended_shorter x (text t ts) e = (e, refl)

pub joined_back : (b : List ℕ) → Ended (texts_in b) → joined (texts_in b) ≡ b
joined_back [] e = refl
joined_back (x ∷ b) e = go (eqb x 10) refl e (joined_back b)
  where
    go : (t : Bool) → eqb x 10 ≡ t → Ended (cond t (text [] (texts_in b)) (lengthen x (texts_in b))) → (Ended (texts_in b) → joined (texts_in b) ≡ b)
        → joined (cond t (text [] (texts_in b)) (lengthen x (texts_in b))) ≡ x ∷ b
    go true q f ih = let z : x ≡ 10 = eqb-true x 10 q in rw (ih f, z)
    go false q f ih = let (g, z) = ended_shorter x (texts_in b) f in z ∙ ap (λ (r : List ℕ). x ∷ r) (ih g)

feed_most : (x : ℕ) → feed_of x ≤ 1
feed_most x = go (eqb x 10)
  where
    go : (c : Bool) → cond c 1 0 ≤ 1
    go true = omega arith
    go false = omega arith

-- each has its line feed
pub many_most : (b : List ℕ) → many (texts_in b) ≤ length b
many_most b = omega (arith, many_feeds b, most b)
  where
    most : (b : List ℕ) → feeds b ≤ length b
    most [] = omega arith
    most (x ∷ b) = omega (arith, feed_most x, most b)
