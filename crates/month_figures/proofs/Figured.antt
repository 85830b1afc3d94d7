-- What the figures of a month are: sums that go by the messages and by no order of them.
use Prim.Native.Nat.{ℕ, zero, suc, ◌+◌, ◌<◌, ◌≤◌}
use mathlib.Core.Logic.{◌↔◌}
use mathlib.Core.Path.{◌≡◌, refl, sym, ◌∙◌, ap}
use mathlib.Core.Bool.{Bool, true, false, ◌&&◌, cond, true≢false}
use mathlib.Core.List.{List, [], ◌∷◌, ◌++◌, map, append_assoc, Memᴰ, Permᴰ}
use native.Mathlib.Omega.{arith}
use lib.ListN.{length, length-append, length-map}
use lib.Dec.{eqb, leb}
use borrow.Author.Tests.{le-leb, leb-true}
use Rattle.ari.specs.Listing.{Space, number, name, relative, Entry, listing}
use Rattle.names.specs.Translated.{translate, translated}
use Rattle.day_file.specs.Day.{messages_in}
use Rattle.month_lines.specs.Lines.{Line, line, counted, Rising, most_total}
use Rattle.month_figures.specs.Figures.{Source, Message, space_of, message_with, messages_of, month, total, one_each, bytes_in, items_in, many, is_unknown, is_relative, place_of, is_at, many_in, spaces_of, places, lines_from, Figures, figures, lines_fit, fits}
use Rattle.month_figures.proofs.Lines.{at, times, sum, Filled, rising_from, filled_from, at_from, sum_from, no_fewer_from, less_fit_from, member_exactly_if, by_places}

-- sums over messages
pub total_append : (f : Message → ℕ) (a b : List Message) → total f (a ++ b) ≡ total f a + total f b
total_append f [] b = omega arith
total_append f (x ∷ a) b = omega (arith, total_append f a b)

pub spaces_append : (a b : List Message) → spaces_of (a ++ b) ≡ spaces_of a ++ spaces_of b
spaces_append [] b = refl
spaces_append (x ∷ a) b = ap (λ (l : List Space). x.spaces ++ l) (spaces_append a b) ∙ sym (append_assoc x.spaces (spaces_of a) (spaces_of b))

pub places_append : (a b : List Space) → places (a ++ b) ≡ places a ++ places b
places_append [] b = refl
places_append (number z ∷ a) b = ap (λ (l : List ℕ). place_of z ∷ l) (places_append a b)
places_append (name p n ∷ a) b = places_append a b
places_append (relative ∷ a) b = places_append a b

pub lines_append : (ls : List Line) (a b : List ℕ) → lines_from ls (a ++ b) ≡ lines_from (lines_from ls a) b
lines_append ls [] b = refl
lines_append ls (p ∷ a) b = lines_append (counted p ls) a b

many_append : (p : Space → Bool) (a b : List Space) → many p (a ++ b) ≡ many p a + many p b
many_append p [] b = omega arith
many_append p (x ∷ a) b = omega (arith, many_append p a b)

many_all : (p : Space → Bool) (xs : List Message) → many p (spaces_of xs) ≡ total (many_in p) xs
many_all p [] = refl
many_all p (x ∷ xs) = many_append p x.spaces (spaces_of xs) ∙ ap (λ (n : ℕ). many p x.spaces + n) (many_all p xs)

times_all : (p : ℕ) (xs : List Space) → times p (places xs) ≡ many (is_at p) xs
times_all p [] = refl
times_all p (number z ∷ xs) = ap (λ (n : ℕ). cond (eqb (place_of z) p) 1 0 + n) (times_all p xs)
times_all p (name q n ∷ xs) = times_all p xs ∙ (let e : many (is_at p) xs ≡ 0 + many (is_at p) xs = omega arith in e)
times_all p (relative ∷ xs) = times_all p xs ∙ (let e : many (is_at p) xs ≡ 0 + many (is_at p) xs = omega arith in e)

-- R212: namespaces rise
pub namespaces_rise : (xs : List Message) → Rising (figures xs).lines
unfolding figures
namespaces_rise xs = rising_from (places (spaces_of xs)) [] tt

lines_filled : (xs : List Message) → Filled (figures xs).lines
unfolding figures
lines_filled xs = filled_from (places (spaces_of xs)) [] tt

at_is : (xs : List Message) (p : ℕ) → at p (figures xs).lines ≡ total (many_in (is_at p)) xs
unfolding figures
at_is xs p = at_from p (places (spaces_of xs)) [] ∙ (let e : times p (places (spaces_of xs)) + 0 ≡ times p (places (spaces_of xs)) = omega arith in e) ∙ times_all p (spaces_of xs) ∙ many_all (is_at p) xs

-- R211, R212: there is a line for a namespace exactly if something refers to it, and it has the sum over the messages
pub line_exactly_if : (xs : List Message) (p n : ℕ) → Memᴰ (line p n) (figures xs).lines ↔ ((0 < n) × (n ≡ total (many_in (is_at p)) xs))
line_exactly_if xs p n =
    let (to, from) = member_exactly_if (figures xs).lines (namespaces_rise xs) (lines_filled xs) p n in
    (λ m. let (a, b) = to m in (a, b ∙ at_is xs p), λ h. from (h.0, h.1 ∙ sym (at_is xs p)))

-- R211: the lines of namespaces with the two others add up to the listed references
kinds : (xs : List Space) → length xs ≡ many is_unknown xs + (many is_relative xs + length (places xs))
kinds [] = omega arith
kinds (number z ∷ xs) = omega (arith, kinds xs)
kinds (name p n ∷ xs) = omega (arith, kinds xs)
kinds (relative ∷ xs) = omega (arith, kinds xs)

abbrev pub spaces_in : Message → ℕ
spaces_in x = length x.spaces

abbrev pub listed_in : Message → ℕ
listed_in x = length (listing x.bytes)

spaces_all : (xs : List Message) → length (spaces_of xs) ≡ total spaces_in xs
spaces_all [] = refl
spaces_all (x ∷ xs) = length-append x.spaces (spaces_of xs) ∙ ap (λ (n : ℕ). length x.spaces + n) (spaces_all xs)

spaces_listed : (published own x : List ℕ) → spaces_in (message_with published own x) ≡ listed_in (message_with published own x)
spaces_listed published own x = length-map (translated published own x) space_of ∙ length-map (listing x) (translate published own)

file_listed : (published own : List ℕ) (xs : List (List ℕ)) → total spaces_in (map (message_with published own) xs) ≡ total listed_in (map (message_with published own) xs)
file_listed published own [] = refl
file_listed published own (x ∷ xs) = omega (arith, spaces_listed published own x, file_listed published own xs)

month_listed : (ss : List Source) → total spaces_in (month ss) ≡ total listed_in (month ss)
month_listed [] = refl
month_listed (s ∷ ss) =
    omega (
      arith,
      total_append spaces_in (messages_of s) (month ss),
      total_append listed_in (messages_of s) (month ss),
      file_listed s.published s.own (messages_in s.format s.file),
      month_listed ss,
    )

pub add_up_to_the_listed : (ss : List Source) → (figures (month ss)).unknown + ((figures (month ss)).relative + sum (figures (month ss)).lines) ≡ total listed_in (month ss)
unfolding figures
add_up_to_the_listed ss =
    let xs = month ss in
    omega (
      arith,
      kinds (spaces_of xs),
      many_all is_unknown xs,
      many_all is_relative xs,
      sum_from (places (spaces_of xs)) [],
      spaces_all xs,
      month_listed ss,
    )

-- in whatever order the files come
total_order : (f : Message → ℕ) {ss tt : List Source} → Permᴰ ss tt → total f (month ss) ≡ total f (month tt)
total_order f Permᴰ.nil = refl
total_order f (Permᴰ.cons {a = a} {b = b} {l₁ = l} {l₂ = m} e p) =
    omega (arith, total_append f (messages_of a) (month l), total_append f (messages_of b) (month m), total_order f p, ap (λ (s : Source). total f (messages_of s)) e)
total_order f (Permᴰ.swap {a = a} {b = b} {a' = c} {b' = d} {l = l} e g) =
    omega (
      arith,
      total_append f (messages_of a) (messages_of b ++ month l),
      total_append f (messages_of b) (month l),
      total_append f (messages_of c) (messages_of d ++ month l),
      total_append f (messages_of d) (month l),
      ap (λ (s : Source). total f (messages_of s)) e,
      ap (λ (s : Source). total f (messages_of s)) g,
    )
total_order f (Permᴰ.trans p q) = total_order f p ∙ total_order f q

abbrev of : ℕ → ℕ → ℕ → ℕ → ℕ → List Line → Figures
of a b c d e l = record { messages = a; bytes = b; items = c; unknown = d; relative = e; lines = l }

pub same : (f g : Figures) → f.messages ≡ g.messages → f.bytes ≡ g.bytes → f.items ≡ g.items → f.unknown ≡ g.unknown → f.relative ≡ g.relative → f.lines ≡ g.lines → f ≡ g
same f g a b c d e l =
    let whole : of f.messages f.bytes f.items f.unknown f.relative f.lines ≡ of g.messages g.bytes g.items g.unknown g.relative g.lines = rw (a, b, c, d, e, l) in
    whole

pub in_any_order : {ss tt : List Source} → Permᴰ ss tt → figures (month ss) ≡ figures (month tt)
unfolding figures
in_any_order {ss} {tt} p =
    same (figures (month ss)) (figures (month tt)) (total_order one_each p) (total_order bytes_in p) (total_order items_in p) (total_order (many_in is_unknown) p) (total_order (many_in is_relative) p)
    (by_places (figures (month ss)).lines (figures (month tt)).lines (namespaces_rise (month ss)) (namespaces_rise (month tt)) (lines_filled (month ss)) (lines_filled (month tt))
    (λ q. at_is (month ss) q ∙ total_order (many_in (is_at q)) p ∙ sym (at_is (month tt) q)))

-- what is within the bounds is so with fewer messages: no order of files that fit together refuses one of them
both : (a b : Bool) → (a && b) ≡ true → (a ≡ true) × (b ≡ true)
both true b e = (refl, e)
both false b e = absurd (true≢false (sym e))

lines_of : (xs ys : List Message) → (figures (xs ++ ys)).lines ≡ lines_from (figures xs).lines (places (spaces_of ys))
unfolding figures
lines_of xs ys = ap (lines_from []) (ap places (spaces_append xs ys) ∙ places_append (spaces_of xs) (spaces_of ys)) ∙ lines_append [] (places (spaces_of xs)) (places (spaces_of ys))

pub fewer_lines : (xs ys : List Message) → length (figures xs).lines ≤ length (figures (xs ++ ys)).lines
fewer_lines xs ys = rw (lines_of xs ys) (no_fewer_from (places (spaces_of ys)) (figures xs).lines)

less_total : (f : Message → ℕ) (xs ys : List Message) → leb (total f (xs ++ ys)) most_total ≡ true → leb (total f xs) most_total ≡ true
less_total f xs ys e = le-leb (total f xs) most_total (omega (arith, leb-true (total f (xs ++ ys)) most_total e, total_append f xs ys))

pub fewer_fit : (xs ys : List Message) → fits (figures (xs ++ ys)) ≡ true → fits (figures xs) ≡ true
unfolding figures
fewer_fit xs ys e =
    let (a, p) = both (leb (total one_each (xs ++ ys)) most_total) _ e in
    let (b, q) = both (leb (total bytes_in (xs ++ ys)) most_total) _ p in
    let (c, r) = both (leb (total items_in (xs ++ ys)) most_total) _ q in
    let (d, s) = both (leb (total (many_in is_unknown) (xs ++ ys)) most_total) _ r in
    let (g, t) = both (leb (total (many_in is_relative) (xs ++ ys)) most_total) _ s in
    let lines : lines_fit (figures xs).lines ≡ true = less_fit_from (places (spaces_of ys)) (figures xs).lines (rw (lines_of xs ys) at t) in
    rw (less_total one_each xs ys a, less_total bytes_in xs ys b, less_total items_in xs ys c, less_total (many_in is_unknown) xs ys d, less_total (many_in is_relative) xs ys g) lines
