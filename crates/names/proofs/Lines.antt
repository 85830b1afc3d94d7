-- The lines of a list, one by one: what stands up to the next line feed is the first line, and what is behind it has the others.
use Prim.Native.Nat.{ℕ, ◌+◌, ◌-◌, ◌<◌, ◌≤◌, min}
use mathlib.Core.Path.{◌≡◌, refl, sym, ◌∙◌, ap}
use mathlib.Core.Bool.{Bool, true, false, not, ◌&&◌, cond}
use mathlib.Core.List.{List, [], ◌∷◌}
use native.Mathlib.Omega.{arith}
use native.Mathlib.Nat.{min-eq_left}
use lib.ListN.{length, get_or, take, drop, length-drop}
use lib.Seq.{drop-drop, length-take-le}
use lib.Dec.{eqb}
use borrow.Author.Tests.{not-true, not-false}
use Rattle.buffer.specs.Bytes.{part}
use Rattle.buffer.specs.Runs.{front, past, RunTo}
use Rattle.buffer.specs.Decimal.{signed_of}
use Rattle.buffer.proofs.RunLaws.{beyond, here, part_none, part_all}
use Rattle.ari.specs.Name.{namespace_name, same_name}
use Rattle.std.proofs.Common.{Option, Some, None}
use Rattle.names.specs.declared.Names.TheVariants.{Passes, Refused}
use Rattle.names.specs.Names.{Line, other_than, in_line, lengthen, lines, in_name, name_of, number_of, is_number, formed, well_formed, matches, found, is_own, find_line, number_for, Place, none, at, bad_from, wrong_of, check_names}

-- whether a list is empty
abbrev is_none : List ℕ → Bool
is_none [] = true
is_none (x ∷ t) = false

-- the first line, and the others
abbrev cut_lines : List ℕ → List Line
cut_lines b = record { text = front in_line b; ended = not (is_none (past in_line b)) } ∷ lines (drop 1 (past in_line b))

pub first_line : (x : ℕ) (b : List ℕ) → lines (x ∷ b) ≡ cut_lines (x ∷ b)
unfolding front past
first_line x [] = go (in_line x)
  where
    go : (t : Bool) → cond t (lengthen x []) (record { text = []; ended = true } ∷ [])
        ≡ record { text = cond t (x ∷ []) []; ended = not (is_none (cond t [] (x ∷ []))) } ∷ lines (drop 1 (cond t [] (x ∷ [])))
    go true = refl
    go false = refl
first_line x (y ∷ b) = go (in_line x) (first_line y b)
  where
    go : (t : Bool) → lines (y ∷ b) ≡ cut_lines (y ∷ b) → cond t (lengthen x (lines (y ∷ b))) (record { text = []; ended = true } ∷ lines (y ∷ b))
        ≡ record { text = cond t (x ∷ front in_line (y ∷ b)) []; ended = not (is_none (cond t (past in_line (y ∷ b)) (x ∷ y ∷ b))) }
        ∷ lines (drop 1 (cond t (past in_line (y ∷ b)) (x ∷ y ∷ b)))
    go true ih = ap (lengthen x) ih
    go false ih = refl

pub is_other : (x stop : ℕ) → not (eqb x stop) ≡ other_than stop x
unfolding other_than
is_other x stop = refl

-- a line's name and number
module _ (t : List ℕ) {q : ℕ} (r : RunTo in_name t 0 q) where
  pub name_is : take q t ≡ name_of t
  unfolding name_of
  name_is = let z : q - 0 ≡ q = omega arith in rw z at (sym r.front_is)

  pub no_number : q ≡ length t → None ≡ number_of t
  unfolding number_of
  no_number e = let z : past in_name t ≡ [] = r.past_is ∙ beyond t q (omega arith) in rw z

  pub number_is : {n : Option ℕ} → n ≡ signed_of (part t (q + 1) (length t)) → n ≡ number_of t
  unfolding number_of
  number_is g =
      let z : drop 1 (past in_name t) ≡ drop (q + 1) t = ap (drop 1) r.past_is ∙ drop-drop 1 q t in
      g ∙ rw (z, part_all t (q + 1))

  module _ {x : Bool} (ex : x ≡ namespace_name (take q t)) where
    pub ill_named : x ≡ false → x ≡ formed t
    unfolding formed
    ill_named n = rw (← name_is, ← ex, n)

    pub well_named : x ≡ true → {n : Option ℕ} → n ≡ number_of t → {y : Bool} → y ≡ is_number n → y ≡ formed t
    unfolding formed
    well_named m e g = g ∙ rw (← name_is, ← ex, m, e)

  module _ (name : List ℕ) {x : Bool} (ex : x ≡ same_name (take q t) name) where
    pub other_name : x ≡ false → x ≡ matches name t
    unfolding matches
    other_name n = rw (← name_is, ← ex, n) (go (formed t))
      where
        go : (y : Bool) → false ≡ y && false
        go true = refl
        go false = refl

    pub own_name : x ≡ true → {y : Bool} → y ≡ formed t → y ≡ matches name t
    unfolding matches
    own_name m e = rw (← name_is, ← ex, m, ← e) (go _)
      where
        go : (y : Bool) → y ≡ y && true
        go true = refl
        go false = refl

-- the line that begins at a place
module _ (list : List ℕ) (p : ℕ) (more : p < length list) {e : ℕ} (r : RunTo in_line list p e) where
  line_is : lines (drop p list) ≡ record { text = part list p e; ended = not (is_none (drop e list)) } ∷ lines (drop 1 (drop e list))
  line_is =
      let z = here list p more in
      let y : lines (drop p list) ≡ cut_lines (drop p list) = rw z (first_line (get_or list p 0) (drop (p + 1) list)) in
      y ∙ rw (r.front_is, r.past_is)

  module _ (n : e ≡ length list → ⊥) where
    ends_in : e < length list
    ends_in = omega (arith, r.inside)

    ended_line : lines (drop p list) ≡ record { text = part list p e; ended = true } ∷ lines (drop (e + 1) list)
    ended_line = line_is ∙ rw (here list e ends_in)

-- what is found from a place on is what is found in the whole
pub record Onward (name list : List ℕ) (p : ℕ) : Type 0 where
  pub inside : p ≤ length list
  pub same_found : found name (lines list) ≡ found name (lines (drop p list))

pub search_begins : (name list : List ℕ) → Onward name list 0
search_begins name list = record { inside = omega arith; same_found = refl }

module _ {name list : List ℕ} {p : ℕ} (o : Onward name list p) where
  pub search_ends : length list ≤ p → [] ≡ found name (lines list)
  search_ends h = sym (o.same_found ∙ rw (beyond list p h))

  module _ (more : p < length list) {e : ℕ} (r : RunTo in_line list p e) where
    pub unended : e ≡ length list → part list e e ≡ found name (lines list)
    unended g = part_none list e ∙ sym (o.same_found ∙ rw (line_is list p more r, beyond list e (omega arith)))

    module _ (n : e ≡ length list → ⊥) where
      pub line_found : {x : Bool} → x ≡ matches name (part list p e) → x ≡ true → part list p e ≡ found name (lines list)
      line_found g h = sym (o.same_found ∙ rw (ended_line list p more r n, ← g, h))

      pub next_line : {x : Bool} → x ≡ matches name (part list p e) → x ≡ false → Onward name list (e + 1)
      next_line g h = record { inside = omega (arith, ends_in list p more r n); same_found = o.same_found ∙ rw (ended_line list p more r n, ← g, h) }

-- which list
module _ (published own name : List ℕ) {x : Bool} (e : x ≡ is_own name) where
  pub in_own : x ≡ true → {r : List ℕ} → r ≡ found name (lines own) → r ≡ find_line published own name
  unfolding find_line
  in_own h g = g ∙ rw (← e, h)

  pub in_published : x ≡ false → {r : List ℕ} → r ≡ found name (lines published) → r ≡ find_line published own name
  unfolding find_line
  in_published h g = g ∙ rw (← e, h)

pub stands_for : (published own name : List ℕ) {l : List ℕ} → l ≡ find_line published own name → {n : Option ℕ} → n ≡ number_of l → n ≡ number_for published own name
unfolding number_for
stands_for published own name e g = rw e at g

-- the first line that is not well-formed, from a place on
pub record WrongOn (list : List ℕ) (p : ℕ) : Type 0 where
  pub inside : p ≤ length list
  pub same_wrong : bad_from 0 (lines list) ≡ bad_from p (lines (drop p list))

pub check_begins : (list : List ℕ) → WrongOn list 0
check_begins list = record { inside = omega arith; same_wrong = refl }

module _ {list : List ℕ} {p : ℕ} (o : WrongOn list p) where
  pub all_formed : length list ≤ p → None ≡ wrong_of (bad_from 0 (lines list))
  all_formed h = sym (ap wrong_of o.same_wrong ∙ rw (beyond list p h))

  module _ (more : p < length list) {e : ℕ} (r : RunTo in_line list p e) where
    pub wrong_unended : e ≡ length list → Some p ≡ wrong_of (bad_from 0 (lines list))
    wrong_unended g = sym (ap wrong_of o.same_wrong ∙ rw (line_is list p more r, beyond list e (omega arith)))

    module _ (n : e ≡ length list → ⊥) {x : Bool} (g : x ≡ formed (part list p e)) where
      pub wrong_line : not x ≡ true → Some p ≡ wrong_of (bad_from 0 (lines list))
      wrong_line h = sym (ap wrong_of o.same_wrong ∙ rw (ended_line list p more r n, ← g, not-true x h))

      pub right_line : not x ≡ false → WrongOn list (e + 1)
      right_line h =
          let z : p + (length (part list p e) + 1) ≡ e + 1 = omega (arith, length-take-le (e - p) (drop p list) (omega (arith, length-drop p list, r.inside)), r.on) in
          record { inside = omega (arith, ends_in list p more r n); same_wrong = o.same_wrong ∙ rw (ended_line list p more r n, ← g, not-false x h, z) }

-- places counted on
abbrev shifted : ℕ → Place → Place
shifted n none = none
shifted n (at p) = at (n + p)

shift_bad : (n p : ℕ) (ls : List Line) → bad_from (n + p) ls ≡ shifted n (bad_from p ls)
shift_bad n p [] = refl
shift_bad n p (l ∷ ls) = go (well_formed l) (shift_bad n (p + (length l.text + 1)) ls)
  where
    go : (t : Bool) → bad_from (n + (p + (length l.text + 1))) ls ≡ shifted n (bad_from (p + (length l.text + 1)) ls)
        → cond t (bad_from (n + p + (length l.text + 1)) ls) (at (n + p)) ≡ shifted n (cond t (bad_from (p + (length l.text + 1)) ls) (at p))
    go true ih = let z : n + p + (length l.text + 1) ≡ n + (p + (length l.text + 1)) = omega arith in rw z ih
    go false ih = refl

was_at : (x : Place) {p : ℕ} → Some p ≡ wrong_of x → x ≡ at p
was_at none e = absurd (let z : ◌≡◌ {A = ℕ} 0 1 = cc in omega arith)
was_at (at q) e = cc

was_none : (x : Place) → None ≡ wrong_of x → x ≡ none
was_none none e = refl
was_none (at q) e = absurd (let z : ◌≡◌ {A = ℕ} 0 1 = cc in omega arith)

module _ (published own : List ℕ) {x : Option ℕ} (ex : x ≡ wrong_of (bad_from 0 (lines published))) where
  pub published_wrong : {p : ℕ} → x ≡ Some p → p ≤ 18446744073709551615 → Refused p ≡ check_names published own
  unfolding check_names
  published_wrong {p} g h = rw (was_at (bad_from 0 (lines published)) (sym g ∙ ex), min-eq_left h)

  module _ (g : x ≡ None) {y : Option ℕ} (ey : y ≡ wrong_of (bad_from 0 (lines own))) where
    own_bad : bad_from (length published) (lines own) ≡ shifted (length published) (bad_from 0 (lines own))
    own_bad = let z : length published + 0 ≡ length published = omega arith in rw z at (shift_bad (length published) 0 (lines own))

    pub own_wrong : {p : ℕ} → y ≡ Some p → {n : ℕ} → n ≡ min (length published + p) 18446744073709551615 → Refused n ≡ check_names published own
    unfolding check_names
    own_wrong h e = rw (was_none (bad_from 0 (lines published)) (sym g ∙ ex), own_bad, was_at (bad_from 0 (lines own)) (sym h ∙ ey), e)

    pub both_pass : y ≡ None → Passes ≡ check_names published own
    unfolding check_names
    both_pass h = rw (was_none (bad_from 0 (lines published)) (sym g ∙ ex), own_bad, was_none (bad_from 0 (lines own)) (sym h ∙ ey))

pub ruleset check_ways = (check_begins, all_formed, wrong_unended, wrong_line, right_line, published_wrong, own_wrong, both_pass)

pub ruleset line_ways = (no_number, number_is, ill_named, well_named, other_name, own_name)

pub ruleset search_ways = (search_begins, search_ends, unended, line_found, next_line, in_own, in_published, stands_for)
