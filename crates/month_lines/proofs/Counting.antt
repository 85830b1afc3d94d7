-- One reference more, as words. The idea: where the words are split at a place, the line is there or is inserted there.
use Prim.Native.Nat.{ℕ, zero, suc, ◌+◌, ◌<◌, ◌≤◌, min}
use mathlib.Core.Path.{◌≡◌, refl, sym, ◌∙◌, ap}
use mathlib.Core.Bool.{Bool, true, false, cond}
use mathlib.Core.List.{List, [], ◌∷◌, map}
use native.Mathlib.Omega.{arith}
use lib.ListN.{length, take, drop, get_or, set, length-map}
use lib.Seq.{take-append-le, take-set-lt, get_or-take, length-take-le, take_all}
use lib.Dec.{eqb, ltb}
use Rattle.std.specs.Prelude.{Err}
use Rattle.std.proofs.Common.{Equal}
use Rattle.std.specs.Ordering.{nat_cmp}
use Rattle.std.specs.List.Sorted.{IsBinarySearchResult}
use Rattle.std.proofs.lemmas.List.Sorted.{searched}
use Rattle.std.proofs.lemmas.Bool.Decides.{nat_tests}
use borrow.Author.Tests.{lt-ltb, le-ltb, eq-eqb, ne_eqb, eqb-true, eqb-false, ltb-true, ltb-false}
use Rattle.month_lines.specs.Lines.{Line, line, counted, Behind, Rising, most_lines}
use Rattle.month_lines.specs.Code.{beyond, place, amount, Lined, inserted, shifted, Counts}
use Rattle.month_lines.proofs.Words.{insert_take, insert_length}

insert_map : (f : Line → ℕ) (l : List Line) (i : ℕ) (c : Line) → map f (inserted i c l) ≡ inserted i (f c) (map f l)
insert_map f l zero c = refl
insert_map f [] (suc i) c = refl
insert_map f (y ∷ l) (suc i) c = ap (λ (r : List ℕ). f y ∷ r) (insert_map f l i c)

-- a counted reference keeps the order
behind_counted : (q p : ℕ) (ls : List Line) → q < p → Behind q ls → Behind q (counted p ls)
behind_counted q p [] h b = (h, tt)
behind_counted q p (l ∷ ls) h b = go (eqb p l.place) (ltb p l.place) (behind_counted q p ls h b.1)
  where
    go : (t u : Bool) → Behind q (counted p ls) → Behind q (cond t (line p (suc l.references) ∷ ls) (cond u (line p 1 ∷ l ∷ ls) (l ∷ counted p ls)))
    go true u ih = (h, b.1)
    go false true ih = (h, b)
    go false false ih = (b.0, ih)

behind_less : (q p : ℕ) (ls : List Line) → p < q → Behind q ls → Behind p ls
behind_less q p [] h b = tt
behind_less q p (l ∷ ls) h b = (omega (arith, b.0), behind_less q p ls h b.1)

pub rising_counted : (p : ℕ) (ls : List Line) → Rising ls → Rising (counted p ls)
rising_counted p [] r = (tt, tt)
rising_counted p (l ∷ ls) r = go (rising_counted p ls r.1) (eqb p l.place) refl (ltb p l.place) refl
  where
    go : Rising (counted p ls) → (t : Bool) → eqb p l.place ≡ t → (u : Bool) → ltb p l.place ≡ u → Rising (cond t (line p (suc l.references) ∷ ls) (cond u (line p 1 ∷ l ∷ ls) (l ∷ counted p ls)))
    go ih true e u f = (rw (eqb-true p l.place e) r.0, r.1)
    go ih false e true f = let h = ltb-true p l.place f in ((h, behind_less l.place p ls h r.0), r)
    go ih false e false f =
        let h : l.place < p = omega (arith, ltb-false p l.place f, eqb-false p l.place e) in
        (behind_counted l.place p ls h r.0, ih)

pub no_fewer : (p : ℕ) (ls : List Line) → length ls ≤ length (counted p ls)
no_fewer p [] = omega arith
no_fewer p (l ∷ ls) = go (eqb p l.place) (ltb p l.place) (no_fewer p ls)
  where
    go : (t u : Bool) → length ls ≤ length (counted p ls) → suc (length ls) ≤ length (cond t (line p (suc l.references) ∷ ls) (cond u (line p 1 ∷ l ∷ ls) (l ∷ counted p ls)))
    go true u ih = omega arith
    go false true ih = omega arith
    go false false ih = omega arith

-- rising lines are sorted words
behind_at : (p : ℕ) (ls : List Line) → Behind p ls → (j : ℕ) → j < length ls → p < get_or (map place ls) j 0
behind_at p [] b j h = absurd (omega arith)
behind_at p (l ∷ ls) b zero h = b.0
behind_at p (l ∷ ls) b (suc j) h = behind_at p ls b.1 j (omega arith)

rising_at : (ls : List Line) → Rising ls → (i j : ℕ) → i < j → j < length ls → get_or (map place ls) i 0 < get_or (map place ls) j 0
rising_at [] r i j h k = absurd (omega arith)
rising_at (l ∷ ls) r i zero h k = absurd (omega arith)
rising_at (l ∷ ls) r zero (suc j) h k = behind_at l.place ls r.0 j (omega arith)
rising_at (l ∷ ls) r (suc i) (suc j) h k = rising_at ls r.1 i j (omega arith) (omega arith)

-- the line is at i,
abbrev Before : ℕ → ℕ → List Line → Type 0
Before p i ls = (j : ℕ) → j < i → get_or (map place ls) j 0 < p

record There (p i : ℕ) (ls : List Line) : Type 0 where
  same_places : map place (counted p ls) ≡ map place ls
  one_more : map amount (counted p ls) ≡ set (map amount ls) i (min (get_or (map amount ls) i 0 + 1) beyond)

there : (p : ℕ) (ls : List Line) (i : ℕ) → Before p i ls → i < length ls → get_or (map place ls) i 0 ≡ p → There p i ls
there p [] i b h e = absurd (omega arith)
there p (l ∷ ls) zero b h e =
    let more : min (suc l.references) beyond ≡ min (min l.references beyond + 1) beyond = omega arith in
    let so : counted p (l ∷ ls) ≡ line p (suc l.references) ∷ ls = rw (eq-eqb p l.place (sym e)) in
    record { same_places = ap (map place) so ∙ ap (λ (v : ℕ). v ∷ map place ls) (sym e); one_more = ap (map amount) so ∙ ap (λ (v : ℕ). v ∷ map amount ls) more }
there p (l ∷ ls) (suc i) b h e =
    let first : l.place < p = b 0 (omega arith) in
    let rest = there p ls i (λ j k. b (suc j) (omega arith)) (omega arith) e in
    let so : counted p (l ∷ ls) ≡ l ∷ counted p ls = rw (ne_eqb p l.place (λ q. omega arith), le-ltb p l.place (omega arith)) in
    record {
      same_places = ap (map place) so ∙ ap (λ (v : List ℕ). l.place ∷ v) rest.same_places;
      one_more = ap (map amount) so ∙ ap (λ (v : List ℕ). amount l ∷ v) rest.one_more;
    }

-- or there is a new one at i
new : (p : ℕ) (ls : List Line) (i : ℕ) → Before p i ls → i ≤ length ls → (i < length ls → p < get_or (map place ls) i 0) → counted p ls ≡ inserted i (line p 1) ls
new p [] zero b h f = refl
new p [] (suc i) b h f = absurd (omega arith)
new p (l ∷ ls) zero b h f =
    let first : p < l.place = f (omega arith) in
    rw (ne_eqb p l.place (λ q. omega arith), lt-ltb p l.place first)
new p (l ∷ ls) (suc i) b h f =
    let first : l.place < p = b 0 (omega arith) in
    rw (ne_eqb p l.place (λ q. omega arith), le-ltb p l.place (omega arith)) (ap (λ (v : List Line). l ∷ v) (new p ls i (λ j k. b (suc j) (omega arith)) (omega arith) (λ k. f (omega arith))))

-- the first n words rise
abbrev Sorted : List ℕ → ℕ → Type 0
Sorted ps n = (i j : ℕ) → i < j → j < n → get_or ps i 0 < get_or ps j 0

-- words before a place are before p, those from there on are behind it
abbrev pub Splits : List ℕ → ℕ → ℕ → ℕ → Type 0
Splits ps n p i = Sorted ps n → ((j : ℕ) → j < i → get_or ps j 0 < p) × ((j : ℕ) → i ≤ j → j < n → p < get_or ps j 0)

-- what the library's search in them says of a place where p is, and of one where it would be inserted
module _ (ps : List ℕ) (n p : ℕ) (long : n ≤ length ps) (i : ℕ) where
  size : length (take n ps) ≡ n
  size = length-take-le n ps long

  pub found_at : i < n → nat_cmp (get_or (take n ps) i 0) p ≡ Equal → get_or ps i 0 ≡ p
  found_at h e = let q : get_or (take n ps) i 0 ≡ get_or ps i 0 = get_or-take n ps i 0 h in rw (← q) (grind (arith, nat_tests))

  pub splits : IsBinarySearchResult (λ y. nat_cmp y p) (take n ps) (Err i) → Splits ps n p i
  splits h o =
      let up : (a b : ℕ) → a ≤ b → b < length (take n ps) → get_or (take n ps) a 0 ≤ get_or (take n ps) b 0 = λ a b l k. rises a b l (rw size at k) in
      let r = searched (take n ps) p (Err i) h up in
      let le : i ≤ n = omega (arith, r.0, size) in (
        λ j k. rw (get_or-take n ps j 0 (omega arith)) at (r.1 j k),
        λ j k l. rw (get_or-take n ps j 0 l) at (r.2 j k (rw size l)),
      )
    where
      rises : (a b : ℕ) → a ≤ b → b < n → get_or (take n ps) a 0 ≤ get_or (take n ps) b 0
      rises a b l k = rw (get_or-take n ps a 0 (omega arith), get_or-take n ps b 0 k) (go (ltb a b) refl)
        where
          go : (t : Bool) → ltb a b ≡ t → get_or ps a 0 ≤ get_or ps b 0
          go true e = let h = o a b (ltb-true a b e) k in omega arith
          go false e = let z : a ≡ b = omega (arith, ltb-false a b e) in rw z (omega arith)

-- the ways of `count`
module _ (ps cs : List ℕ) (n p : ℕ) where
  pub count_beyond : most_lines < n → Counts ps cs n p n ps cs
  count_beyond h = record {
    counts = λ a b ls x. record {
      size = omega (arith, x.size, no_fewer p ls);
      rising = rising_counted p ls x.rising;
      places = λ k. absurd (omega (arith, x.size, no_fewer p ls));
      amounts = λ k. absurd (omega (arith, x.size, no_fewer p ls));
    };
  }

  pub count_few_places : length ps < most_lines → Counts ps cs n p n ps cs
  count_few_places h = record { counts = λ a b ls x. absurd (omega arith) }

  pub count_few_amounts : length cs < most_lines → Counts ps cs n p n ps cs
  count_few_amounts h = record { counts = λ a b ls x. absurd (omega arith) }

  -- as the lines have it
  module _ (few : n ≤ most_lines) (a : most_lines ≤ length ps) (b : most_lines ≤ length cs) {ls : List Line} (x : Lined ps cs n ls) where
    all_used : length ls ≡ n
    all_used = omega (arith, x.size)

    at_place : (j : ℕ) → j < n → get_or ps j 0 ≡ get_or (map place ls) j 0
    at_place j h = sym (get_or-take (length ls) ps j 0 (omega (arith, all_used))) ∙ ap (λ (v : List ℕ). get_or v j 0) (x.places (omega (arith, all_used)))

    at_amount : (j : ℕ) → j < n → get_or cs j 0 ≡ get_or (map amount ls) j 0
    at_amount j h = sym (get_or-take (length ls) cs j 0 (omega (arith, all_used))) ∙ ap (λ (v : List ℕ). get_or v j 0) (x.amounts (omega (arith, all_used)))

    sorted : Sorted ps n
    sorted i j h k = rw (at_place i (omega arith), at_place j k) (rising_at ls x.rising i j h (omega (arith, all_used)))

    module _ {i : ℕ} (below : Sorted ps n → (j : ℕ) → j < i → get_or ps j 0 < p) (le : i ≤ n) where
      before : Before p i ls
      before j h = rw (← at_place j (omega arith)) (below sorted j h)

      lined_there : i < n → get_or ps i 0 ≡ p → {v : ℕ} → v ≡ min (get_or cs i 0 + 1) beyond → Lined ps (set cs i v) n (counted p ls)
      lined_there h e {v} f =
          let t = there p ls i before (omega (arith, all_used)) (sym (at_place i h) ∙ e) in
          let long : length (counted p ls) ≡ length ls = sym (length-map (counted p ls) place) ∙ ap length t.same_places ∙ length-map ls place in
          record {
            size = omega (arith, x.size, long);
            rising = rising_counted p ls x.rising;
            places = λ k. rw long (x.places (omega (arith, all_used)) ∙ sym t.same_places);
            amounts = λ k. rw (long, take-set-lt (length ls) cs i v (omega (arith, all_used)), x.amounts (omega (arith, all_used)), f, at_amount i h) (sym t.one_more);
          }

      module _ (above : Sorted ps n → (j : ℕ) → i ≤ j → j < n → p < get_or ps j 0) where
        is_new : counted p ls ≡ inserted i (line p 1) ls
        is_new =
            new p ls i before (omega (arith, all_used))
            (λ h. let k : i < n = omega (arith, all_used) in omega (arith, at_place i k, above sorted i (omega arith) k))

        one_longer : length (counted p ls) ≡ suc n
        one_longer = ap length is_new ∙ insert_length ls i (line p 1) ∙ ap suc all_used

        lined_full : n ≡ most_lines → Lined ps cs (most_lines + 1) (counted p ls)
        lined_full e = record {
          size = omega (arith, one_longer);
          rising = rising_counted p ls x.rising;
          places = λ k. absurd (omega (arith, one_longer));
          amounts = λ k. absurd (omega (arith, one_longer));
        }

        -- of words in a row of which the first n are those of the lines
        grown : (f : Line → ℕ) (ws : List ℕ) → n < length ws → take (length ls) ws ≡ map f ls → take (length (counted p ls)) (shifted n i (f (line p 1)) ws) ≡ map f (counted p ls)
        unfolding shifted
        grown f ws long e =
            let front : List ℕ = take (suc n) (inserted i (f (line p 1)) ws) in
            let size : length front ≡ suc n = length-take-le (suc n) (inserted i (f (line p 1)) ws) (omega (arith, insert_length ws i (f (line p 1)))) in
            rw (one_longer, take-append-le (suc n) front (drop (suc n) ws) (omega arith), take_all (suc n) front (omega arith), insert_take ws n i (f (line p 1)) le (omega arith))
            (ap (λ (v : List ℕ). inserted i (f (line p 1)) v) (sym (ap (λ (k : ℕ). take k ws) all_used) ∙ e) ∙ sym (insert_map f ls i (line p 1)) ∙ sym (ap (map f) is_new))

        lined_new : n < most_lines → {ps' cs' : List ℕ} → ps' ≡ shifted n i p ps → cs' ≡ shifted n i 1 cs → Lined ps' cs' (n + 1) (counted p ls)
        lined_new h f g = record {
          size = omega (arith, one_longer);
          rising = rising_counted p ls x.rising;
          places = λ k. rw f (grown place ps (omega arith) (x.places (omega (arith, all_used))));
          amounts = λ k. rw g (grown amount cs (omega arith) (x.amounts (omega (arith, all_used))));
        }

  module _ (few : n ≤ most_lines) (a : most_lines ≤ length ps) (b : most_lines ≤ length cs) {i : ℕ} where
    pub count_there : i < n → get_or ps i 0 ≡ p → {v : ℕ} → v ≡ min (get_or cs i 0 + 1) beyond → Counts ps cs n p n ps (set cs i v)
    count_there h e f = record { counts = λ _ _ ls x. lined_there few a b x (λ o j k. rw e at (o j i k h)) (omega arith) h e f }

    module _ (s : Splits ps n p i) (le : i ≤ n) where
      pub count_full : n ≡ most_lines → Counts ps cs n p (most_lines + 1) ps cs
      count_full e = record { counts = λ _ _ ls x. lined_full few a b x (λ o. (s o).0) le (λ o. (s o).1) e }

      pub count_new : n < most_lines → {ps' cs' : List ℕ} → ps' ≡ shifted n i p ps → cs' ≡ shifted n i 1 cs → Counts ps cs n p (n + 1) ps' cs'
      count_new h f q = record { counts = λ _ _ ls x. lined_new few a b x (λ o. (s o).0) le (λ o. (s o).1) h f q }
