-- Names in the lists without regard to case: lists that differ in the case of letters alone have the same wrong lines and the same numbers, and so have
-- names. The idea: a list is held against itself with every letter small, and that is one for both.
use Prim.Native.Nat.{ℕ, ◌+◌, ◌-◌}
use Prim.Native.Char.{code}
use mathlib.Core.Path.{◌≡◌, refl, sym, ◌∙◌, ap}
use mathlib.Core.Bool.{Bool, true, false, ◌&&◌, cond}
use mathlib.Core.List.{List, [], ◌∷◌, map}
use native.Mathlib.Omega.{arith}
use lib.ListN.{length, drop, get_or, length-map}
use lib.Dec.{eqb}
use borrow.Author.Tests.{le-leb, lt-leb}
use Rattle.buffer.specs.Bytes.{within}
use Rattle.buffer.specs.Runs.{front, past}
use Rattle.buffer.specs.Decimal.{push_of, digitsOf, unsigned_of, signed_of}
use Rattle.std.specs.declared.option.Option.{Option}
use Rattle.std.specs.declared.option.Option.TheVariants.{Some, None}
use Rattle.std.specs.Option.{option_and_then}
use Rattle.buffer.proofs.ByteLaws.{within_true}
use Rattle.ari.specs.Name.{lower, folded_name, same_name}
use Rattle.ari.proofs.Case.{Recased, kept, lower_capital, lower_other, namespace_name_kept, folded_again, recased_same}
use Rattle.names.specs.Names.{Line, other_than, in_line, lengthen, lines, in_name, name_of, number_of, formed, matches, found, is_own, find_line, number_for, bad_from, check_names}

in_line_kept : (x : ℕ) → in_line (lower x) ≡ in_line x
unfolding other_than
in_line_kept = kept in_line refl

in_name_kept : (x : ℕ) → in_name (lower x) ≡ in_name x
unfolding other_than
in_name_kept = kept in_name refl

-- a run of bytes that pass a test
module _ (p : ℕ → Bool) (k : (x : ℕ) → p (lower x) ≡ p x) where
  front_folded : (t : List ℕ) → front p (folded_name t) ≡ folded_name (front p t)
  unfolding front
  front_folded [] = refl
  front_folded (x ∷ t) = rw (k x, front_folded t) (go (p x))
    where
      go : (c : Bool) → cond c (lower x ∷ folded_name (front p t)) [] ≡ folded_name (cond c (x ∷ front p t) [])
      go true = refl
      go false = refl

  past_folded : (t : List ℕ) → past p (folded_name t) ≡ folded_name (past p t)
  unfolding past
  past_folded [] = refl
  past_folded (x ∷ t) = rw (k x, past_folded t) (go (p x))
    where
      go : (c : Bool) → cond c (folded_name (past p t)) (lower x ∷ folded_name t) ≡ folded_name (cond c (past p t) (x ∷ t))
      go true = refl
      go false = refl

-- a number has no letters
push_kept : (n x : ℕ) → push_of n (lower x) ≡ push_of n x
unfolding push_of
push_kept n x = go (within 65 90 x) refl
  where
    go : (c : Bool) → within 65 90 x ≡ c → push_of n (lower x) ≡ push_of n x
    go true f =
        let (h, g) = within_true 65 90 x f in
        rw (lower_capital x h g, le-leb 48 (x + 32) (omega arith), lt-leb (x + 32) 57 (omega arith), le-leb 48 x (omega arith), lt-leb x 57 (omega arith))
    go false f = ap (push_of n) (lower_other x f)

digits_kept : (n : ℕ) (t : List ℕ) → digitsOf n (folded_name t) ≡ digitsOf n t
unfolding digitsOf
digits_kept n [] = refl
digits_kept n (x ∷ t) = rw (push_kept n x) (go (push_of n x) (λ m. digits_kept m t))
  where
    go : (r : Option ℕ) → ((m : ℕ) → digitsOf m (folded_name t) ≡ digitsOf m t) → option_and_then (λ m. digitsOf m (folded_name t)) r ≡ option_and_then (λ m. digitsOf m t) r
    go (Some m) ih = ih m
    go None ih = refl

first_kept : (y : ℕ) → (((x : ℕ) → eqb (lower x) y ≡ eqb x y)) → (t : List ℕ) → eqb (get_or (folded_name t) 0 0) y ≡ eqb (get_or t 0 0) y
first_kept y k [] = refl
first_kept y k (x ∷ t) = k x

zero_kept : (x : ℕ) → eqb (lower x) (code "0") ≡ eqb x (code "0")
zero_kept = kept (λ x. eqb x (code "0")) refl

unsigned_kept : (t : List ℕ) → unsigned_of (folded_name t) ≡ unsigned_of t
unfolding unsigned_of
unsigned_kept t = rw (length-map t lower, first_kept (code "0") zero_kept t, digits_kept 0 t)

minus_kept : (x : ℕ) → eqb (lower x) (code "-") ≡ eqb x (code "-")
minus_kept = kept (λ x. eqb x (code "-")) refl

signed_kept : (t : List ℕ) → signed_of (folded_name t) ≡ signed_of t
signed_kept [] = refl
signed_kept (x ∷ t) = rw (minus_kept x, unsigned_kept t, unsigned_kept (x ∷ t))

drop_folded : (t : List ℕ) → drop 1 (folded_name t) ≡ folded_name (drop 1 t)
drop_folded [] = refl
drop_folded (x ∷ t) = refl

-- a line
name_folded : (t : List ℕ) → name_of (folded_name t) ≡ folded_name (name_of t)
unfolding name_of
name_folded t = front_folded in_name in_name_kept t

pub number_kept : (t : List ℕ) → number_of (folded_name t) ≡ number_of t
unfolding number_of
number_kept t = rw (past_folded in_name in_name_kept t, drop_folded (past in_name t)) (signed_kept (drop 1 (past in_name t)))

formed_kept : (t : List ℕ) → formed (folded_name t) ≡ formed t
unfolding formed
formed_kept t = rw (name_folded t, namespace_name_kept (name_of t), number_kept t)

matches_kept : (name t : List ℕ) → matches name (folded_name t) ≡ matches name t
unfolding matches same_name
matches_kept name t = rw (formed_kept t, name_folded t, folded_again (name_of t))

-- a list's lines
abbrev folded_line : Line → Line
folded_line l = record { text = folded_name l.text; ended = l.ended }

lengthen_folded : (x : ℕ) (ls : List Line) → lengthen (lower x) (map folded_line ls) ≡ map folded_line (lengthen x ls)
lengthen_folded x [] = refl
lengthen_folded x (l ∷ ls) = refl

lines_folded : (b : List ℕ) → lines (folded_name b) ≡ map folded_line (lines b)
lines_folded [] = refl
lines_folded (x ∷ b) = rw (in_line_kept x, lines_folded b, lengthen_folded x (lines b)) (go (in_line x))
  where
    go : (c : Bool) → cond c (map folded_line (lengthen x (lines b))) (record { text = []; ended = true } ∷ map folded_line (lines b))
        ≡ map folded_line (cond c (lengthen x (lines b)) (record { text = []; ended = true } ∷ lines b))
    go true = refl
    go false = refl

found_folded : (name : List ℕ) (ls : List Line) → found name (map folded_line ls) ≡ folded_name (found name ls)
found_folded name [] = refl
found_folded name (l ∷ ls) = rw (matches_kept name l.text, found_folded name ls) (go (l.ended && matches name l.text))
  where
    go : (c : Bool) → cond c (folded_name l.text) (folded_name (found name ls)) ≡ folded_name (cond c l.text (found name ls))
    go true = refl
    go false = refl

bad_folded : (p : ℕ) (ls : List Line) → bad_from p (map folded_line ls) ≡ bad_from p ls
bad_folded p [] = refl
bad_folded p (l ∷ ls) = rw (formed_kept l.text, length-map l.text lower, bad_folded (p + (length l.text + 1)) ls)

-- two lists
number_of_folded : (published own name : List ℕ) → number_for (folded_name published) (folded_name own) name ≡ number_for published own name
unfolding number_for find_line
number_of_folded published own name =
    rw (lines_folded published, lines_folded own, found_folded name (lines published), found_folded name (lines own))
    (go (is_own name) (found name (lines own)) (found name (lines published)))
  where
    go : (c : Bool) (x y : List ℕ) → number_of (cond c (folded_name x) (folded_name y)) ≡ number_of (cond c x y)
    go true x y = number_kept x
    go false x y = number_kept y

check_folded : (published own : List ℕ) → check_names (folded_name published) (folded_name own) ≡ check_names published own
unfolding check_names
check_folded published own =
    rw (lines_folded published, lines_folded own, bad_folded 0 (lines published), length-map published lower, bad_folded (length published) (lines own))

-- R141: lists that differ in the case of letters alone.
module _ {published published' own own' : List ℕ} (p : Recased published published') (o : Recased own own') where
  pub recased_number : (name : List ℕ) → number_for published own name ≡ number_for published' own' name
  recased_number name =
      sym (number_of_folded published own name) ∙ (rw (recased_same p, recased_same o) (number_of_folded published' own' name))

  pub recased_check : check_names published own ≡ check_names published' own'
  recased_check = sym (check_folded published own) ∙ (rw (recased_same p, recased_same o) (check_folded published' own'))

-- And a name in another case has the same line.
module _ {name name' : List ℕ} (r : Recased name name') where
  matches_recased : (t : List ℕ) → matches name t ≡ matches name' t
  unfolding matches same_name
  matches_recased t = rw (recased_same r)

  found_recased : (ls : List Line) → found name ls ≡ found name' ls
  found_recased [] = refl
  found_recased (l ∷ ls) = rw (matches_recased l.text, found_recased ls)

  own_recased : is_own name ≡ is_own name'
  own_recased =
      let k = kept (λ x. eqb x (code "!")) refl in
      sym (first_kept (code "!") k name) ∙ (rw (recased_same r) (first_kept (code "!") k name'))

  pub recased_line : (published own : List ℕ) → find_line published own name ≡ find_line published own name'
  unfolding find_line
  recased_line published own = rw (own_recased, found_recased (lines published), found_recased (lines own))
