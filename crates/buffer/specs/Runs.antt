-- The longest start whose bytes have a property. Interface: RunTo, and front and past for those who say what a text means.
use Rattle.std.specs.Prelude.{ℕ, ◌≤◌, ◌≡◌, Bool, cond, List, [], ◌∷◌, length, drop}
use Rattle.buffer.specs.Bytes.{part}

-- that start, and what is behind it
unfoldable pub front : (ℕ → Bool) → List ℕ → List ℕ
front p [] = []
front p (x ∷ t) = let r = front p t in cond (p x) (x ∷ r) []

unfoldable pub past : (ℕ → Bool) → List ℕ → List ℕ
past p [] = []
past p (x ∷ t) = let r = past p t in cond (p x) r (x ∷ t)

-- from a on, that start goes to e
pub record RunTo (p : ℕ → Bool) (t : List ℕ) (a e : ℕ) : Type 0 where
  pub front_is : front p (drop a t) ≡ part t a e
  pub past_is : past p (drop a t) ≡ drop e t
  pub on : a ≤ e
  pub inside : e ≤ length t
