-- The grant table and its check: R83 to R85, R87, R88. Interface: Grant, clash, Check, check, holds, granted.
use Rattle.std.specs.Prelude.{ℕ, suc, Bool, true, false, not, ◌&&◌, ◌||◌, cond, List, [], ◌∷◌, ◌++◌, ℤ, pos, negsuc, eqb}
use Rattle.ari.specs.Listing.{Space, number, name, relative}

-- R83: a grant; a table is a list of them
pub record Grant : Type 0 where
  pub subscriber : ℕ
  pub namespace : ℤ

abbrev pub some : (Grant → Bool) → List Grant → Bool
some p [] = false
some p (g ∷ gs) = p g || some p gs

abbrev pub same : ℤ → ℤ → Bool
same (pos a) (pos b) = eqb a b
same (pos a) (negsuc b) = false
same (negsuc a) (pos b) = false
same (negsuc a) (negsuc b) = eqb a b

abbrev pub below0 : ℤ → Bool
below0 (pos a) = false
below0 (negsuc a) = true

-- R84
abbrev pub clash : Grant → Grant → Bool
clash g h = not (eqb h.subscriber g.subscriber) && (same h.namespace g.namespace && below0 g.namespace)

pub data Check : Type 0 where
  passes : Check
  refused : ℕ → ℕ → Check  -- number, row

-- R85: 18 with the first row that has a partner before it
abbrev pub check_from : List Grant → ℕ → List Grant → Check
check_from before i [] = passes
check_from before i (g ∷ gs) = let r = check_from (before ++ (g ∷ [])) (suc i) gs in cond (some (clash g) before) (refused 18 i) r

unfoldable pub check : List Grant → Check
check = check_from [] 0

-- R87: a row holds both
abbrev pub holds : ℕ → ℤ → Grant → Bool
holds s z g = eqb g.subscriber s && same g.namespace z

-- R87, R88
abbrev pub granted : List Grant → ℕ → Space → Bool
granted t s (number z) = some (holds s z) t
granted t s (name p n) = false
granted t s relative = false
