-- The lines of a month: they rise, each has what refers to its namespace, and there is no other. So they go by these numbers alone.
use Prim.Native.Nat.{ℕ, zero, suc, ◌+◌, ◌<◌, ◌≤◌}
use mathlib.Core.Logic.{◌↔◌}
use mathlib.Core.Path.{◌≡◌, refl, sym, ◌∙◌, ap, subst}
use mathlib.Core.Bool.{Bool, true, false, ◌&&◌, cond, true≢false}
use mathlib.Core.List.{List, [], ◌∷◌, ◌++◌, Memᴰ}
use native.Mathlib.Omega.{arith}
use lib.ListN.{length}
use lib.Dec.{eqb, ltb, leb}
use borrow.Author.Tests.{eq-eqb, ne_eqb, eqb-true, eqb-false, le-leb, leb-true, ltb-true, ltb-false}
use Rattle.month_lines.specs.Lines.{Line, line, counted, Behind, Rising, most_total}
use Rattle.month_lines.proofs.Counting.{rising_counted, no_fewer}
use Rattle.month_figures.specs.Figures.{lines_from, lines_fit}

-- the references of the line at a place; how often a place occurs; all references of lines
abbrev pub at : ℕ → List Line → ℕ
at p [] = 0
at p (l ∷ ls) = cond (eqb p l.place) l.references 0 + at p ls

abbrev pub times : ℕ → List ℕ → ℕ
times p [] = 0
times p (q ∷ qs) = cond (eqb q p) 1 0 + times p qs

abbrev pub sum : List Line → ℕ
sum [] = 0
sum (l ∷ ls) = l.references + sum ls

-- every line has some
abbrev pub Filled : List Line → Type 0
Filled [] = Unit {0}
Filled (l ∷ ls) = (0 < l.references) × Filled ls

flipped : (p q : ℕ) → eqb p q ≡ eqb q p
flipped p q = go (eqb q p) refl
  where
    go : (t : Bool) → eqb q p ≡ t → eqb p q ≡ t
    go true e = eq-eqb p q (sym (eqb-true q p e))
    go false e = ne_eqb p q (λ h. eqb-false q p e (sym h))

-- one reference more
at_counted : (p q : ℕ) (ls : List Line) → at p (counted q ls) ≡ cond (eqb q p) 1 0 + at p ls
at_counted p q [] = rw (flipped p q)
at_counted p q (l ∷ ls) = go (eqb q l.place) refl (ltb q l.place) (at_counted p q ls)
  where
    go : (t : Bool) → eqb q l.place ≡ t → (u : Bool) → at p (counted q ls) ≡ cond (eqb q p) 1 0 + at p ls
        → at p (cond t (line q (suc l.references) ∷ ls) (cond u (line q 1 ∷ l ∷ ls) (l ∷ counted q ls))) ≡ cond (eqb q p) 1 0 + (cond (eqb p l.place) l.references 0 + at p ls)
    go false e true ih = rw (flipped p q)
    go false e false ih = rw ih (omega arith)
    go true e u ih =
        let z : q ≡ l.place = eqb-true q l.place e in
        rw (← z, flipped p q) (here (eqb q p))
      where
        here : (t : Bool) → cond t (suc l.references) 0 + at p ls ≡ cond t 1 0 + (cond t l.references 0 + at p ls)
        here true = omega arith
        here false = omega arith

sum_counted : (q : ℕ) (ls : List Line) → sum (counted q ls) ≡ suc (sum ls)
sum_counted q [] = omega arith
sum_counted q (l ∷ ls) = go (eqb q l.place) (ltb q l.place) (sum_counted q ls)
  where
    go : (t u : Bool) → sum (counted q ls) ≡ suc (sum ls) → sum (cond t (line q (suc l.references) ∷ ls) (cond u (line q 1 ∷ l ∷ ls) (l ∷ counted q ls))) ≡ suc (l.references + sum ls)
    go true u ih = omega arith
    go false true ih = omega arith
    go false false ih = omega (arith, ih)

filled_counted : (q : ℕ) (ls : List Line) → Filled ls → Filled (counted q ls)
filled_counted q [] f = (omega arith, tt)
filled_counted q (l ∷ ls) f = go (eqb q l.place) (ltb q l.place) (filled_counted q ls f.1)
  where
    go : (t u : Bool) → Filled (counted q ls) → Filled (cond t (line q (suc l.references) ∷ ls) (cond u (line q 1 ∷ l ∷ ls) (l ∷ counted q ls)))
    go true u ih = (omega arith, f.1)
    go false true ih = (omega arith, f)
    go false false ih = (f.0, ih)

less_fit : (q : ℕ) (ls : List Line) → lines_fit (counted q ls) ≡ true → lines_fit ls ≡ true
less_fit q [] e = refl
less_fit q (l ∷ ls) e = go (eqb q l.place) (ltb q l.place) (less_fit q ls) e
  where
    both : (a b : Bool) → (a && b) ≡ true → (a ≡ true) × (b ≡ true)
    both true b e = (refl, e)
    both false b e = absurd (true≢false (sym e))

    go : (t u : Bool) → (lines_fit (counted q ls) ≡ true → lines_fit ls ≡ true) → lines_fit (cond t (line q (suc l.references) ∷ ls) (cond u (line q 1 ∷ l ∷ ls) (l ∷ counted q ls))) ≡ true
        → (leb l.references most_total && lines_fit ls) ≡ true
    go true u ih e =
        let (a, b) = both (leb (suc l.references) most_total) (lines_fit ls) e in
        rw (le-leb l.references most_total (omega (arith, leb-true (suc l.references) most_total a)), b)
    go false true ih e = (both (leb 1 most_total) (leb l.references most_total && lines_fit ls) e).1
    go false false ih e =
        let (a, b) = both (leb l.references most_total) (lines_fit (counted q ls)) e in
        rw (a, ih b)

-- many
pub rising_from : (ps : List ℕ) (ls : List Line) → Rising ls → Rising (lines_from ls ps)
rising_from [] ls r = r
rising_from (p ∷ ps) ls r = rising_from ps (counted p ls) (rising_counted p ls r)

pub filled_from : (ps : List ℕ) (ls : List Line) → Filled ls → Filled (lines_from ls ps)
filled_from [] ls f = f
filled_from (p ∷ ps) ls f = filled_from ps (counted p ls) (filled_counted p ls f)

pub at_from : (p : ℕ) (ps : List ℕ) (ls : List Line) → at p (lines_from ls ps) ≡ times p ps + at p ls
at_from p [] ls = omega arith
at_from p (q ∷ ps) ls = omega (arith, at_from p ps (counted q ls), at_counted p q ls)

pub sum_from : (ps : List ℕ) (ls : List Line) → sum (lines_from ls ps) ≡ length ps + sum ls
sum_from [] ls = omega arith
sum_from (p ∷ ps) ls = omega (arith, sum_from ps (counted p ls), sum_counted p ls)

pub no_fewer_from : (ps : List ℕ) (ls : List Line) → length ls ≤ length (lines_from ls ps)
no_fewer_from [] ls = omega arith
no_fewer_from (p ∷ ps) ls = omega (arith, no_fewer_from ps (counted p ls), no_fewer p ls)

pub less_fit_from : (ps : List ℕ) (ls : List Line) → lines_fit (lines_from ls ps) ≡ true → lines_fit ls ≡ true
less_fit_from [] ls e = e
less_fit_from (p ∷ ps) ls e = less_fit p ls (less_fit_from ps (counted p ls) e)

-- In rising lines a place has one line at the most,
behind_none : (p : ℕ) (ls : List Line) → Behind p ls → at p ls ≡ 0
behind_none p [] b = refl
behind_none p (l ∷ ls) b = rw (ne_eqb p l.place (λ e. omega (arith, b.0)), behind_none p ls b.1) (omega arith)

behind_less : (p q : ℕ) (ls : List Line) → p < q → Behind q ls → Behind p ls
behind_less p q [] h b = tt
behind_less p q (l ∷ ls) h b = (omega (arith, b.0), behind_less p q ls h b.1)

at_own : (l : Line) (ls : List Line) → Behind l.place ls → at l.place (l ∷ ls) ≡ l.references
at_own l ls b = rw (eq-eqb l.place l.place refl, behind_none l.place ls b) (omega arith)

-- so a line of theirs has all that is at its place,
behind_member : (p : ℕ) (ls : List Line) → Behind p ls → (l : Line) → Memᴰ l ls → p < l.place
behind_member p [] b l x'' = elim x'' [ ]
behind_member p (x ∷ ls) b l (mathlib.Core.List.Memᴰ.head e) = rw e b.0
behind_member p (x ∷ ls) b l (mathlib.Core.List.Memᴰ.tail m) = behind_member p ls b.1 l m

at_member : (ls : List Line) → Rising ls → (l : Line) → Memᴰ l ls → at l.place ls ≡ l.references
at_member [] r l x'' = elim x'' [ ]
at_member (x ∷ ls) r l (mathlib.Core.List.Memᴰ.head e) =
    let P : Line → Type 0 = λ (y : Line). at y.place (x ∷ ls) ≡ y.references in
    subst P (sym e) (at_own x ls r.0)
at_member (x ∷ ls) r l (mathlib.Core.List.Memᴰ.tail m) =
    rw (ne_eqb l.place x.place (λ e. omega (arith, behind_member x.place ls r.0 l m))) (omega (arith, at_member ls r.1 l m))

filled_member : (ls : List Line) → Filled ls → (l : Line) → Memᴰ l ls → 0 < l.references
filled_member [] f l x'' = elim x'' [ ]
filled_member (x ∷ ls) f l (mathlib.Core.List.Memᴰ.head e) = rw e f.0
filled_member (x ∷ ls) f l (mathlib.Core.List.Memᴰ.tail m) = filled_member ls f.1 l m

member_at : (ls : List Line) → Rising ls → (p : ℕ) → 0 < at p ls → Memᴰ (line p (at p ls)) ls
member_at [] r p h = absurd (omega arith)
member_at (x ∷ ls) r p h = go (eqb p x.place) refl (member_at ls r.1 p)
  where
    go : (t : Bool) → eqb p x.place ≡ t → (0 < at p ls → Memᴰ (line p (at p ls)) ls) → Memᴰ (line p (at p (x ∷ ls))) (x ∷ ls)
    go true e ih =
        let z : p ≡ x.place = eqb-true p x.place e in
        mathlib.Core.List.Memᴰ.head (ap (λ (q : ℕ). line q (at q (x ∷ ls))) z ∙ ap (line x.place) (at_own x ls r.0))
    go false e ih =
        let z : at p (x ∷ ls) ≡ at p ls = rw e (omega arith) in
        let m : Memᴰ (line p (at p (x ∷ ls))) ls = rw z (ih (omega (arith, z, h))) in
        mathlib.Core.List.Memᴰ.tail m

pub member_exactly_if : (ls : List Line) → Rising ls → Filled ls → (p n : ℕ) → Memᴰ (line p n) ls ↔ ((0 < n) × (n ≡ at p ls))
member_exactly_if ls r f p n = (
  λ m. (filled_member ls f (line p n) m, sym (at_member ls r (line p n) m)),
  λ h. rw h.1 (member_at ls r p (omega (arith, h.0, h.1))),
)

-- and two lists of them that agree at every place are the same
at_first : (l : Line) (ls : List Line) → Rising (l ∷ ls) → (p : ℕ) → p < l.place → at p (l ∷ ls) ≡ 0
at_first l ls r p h = behind_none p (l ∷ ls) (h, behind_less p l.place ls h r.0)

pub by_places : (ls ks : List Line) → Rising ls → Rising ks → Filled ls → Filled ks → ((p : ℕ) → at p ls ≡ at p ks) → ls ≡ ks
by_places [] [] r s f g h = refl
by_places [] (k ∷ ks) r s f g h = absurd (omega (arith, h k.place, at_own k ks s.0, g.0))
by_places (l ∷ ls) [] r s f g h = absurd (omega (arith, h l.place, at_own l ls r.0, f.0))
by_places (l ∷ ls) (k ∷ ks) r s f g h =
    let first : l.place ≡ k.place = same_place in
    let more : l.references ≡ k.references = sym (at_own l ls r.0) ∙ h l.place ∙ ap (λ (p : ℕ). at p (k ∷ ks)) first ∙ at_own k ks s.0 in
    let rest : ls ≡ ks = by_places ls ks r.1 s.1 f.1 g.1 (λ p. tails first more p) in
    ap (λ (x : Line). x ∷ ls) (ap (λ (p : ℕ). line p l.references) first ∙ ap (line k.place) more) ∙ ap (λ (x : List Line). k ∷ x) rest
  where
    same_place : l.place ≡ k.place
    same_place = go (ltb l.place k.place) refl (ltb k.place l.place) refl
      where
        go : (t : Bool) → ltb l.place k.place ≡ t → (u : Bool) → ltb k.place l.place ≡ u → l.place ≡ k.place
        go true e u d = absurd (omega (arith, at_first k ks s l.place (ltb-true l.place k.place e), h l.place, at_own l ls r.0, f.0))
        go false e true d = absurd (omega (arith, at_first l ls r k.place (ltb-true k.place l.place d), h k.place, at_own k ks s.0, g.0))
        go false e false d = omega (arith, ltb-false l.place k.place e, ltb-false k.place l.place d)

    tails : l.place ≡ k.place → l.references ≡ k.references → (p : ℕ) → at p ls ≡ at p ks
    tails first more p =
        let here : cond (eqb p l.place) l.references 0 ≡ cond (eqb p k.place) k.references 0 = rw (first, more) in
        omega (arith, h p, here)
