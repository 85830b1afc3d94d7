-- R89 to R92 as R147 to R149 read them, in their own words: over the messages that the rules make one (`Is`), the references of the rules' own derivation
-- (`references`, with what `entry_for` says of each), the two lists and the rows of the table. The idea: the listing is the list of those references
-- (`listing_is`), so what Clause says of the listing's entries holds of them.
use Prim.Native.Nat.{ℕ, ◌/◌, ◌%◌}
use mathlib.Core.Logic.{◌⊎◌, inl, inr, ◌↔◌}
use mathlib.Core.Path.{◌≡◌, refl, sym, ◌∙◌, ap, subst}
use mathlib.Core.Bool.{Bool, true, false, cond}
use mathlib.Core.List.Memᴰ
use mathlib.Core.List.{List, [], ◌∷◌, ◌++◌, map, Memᴰ, map-append}
use native.Mathlib.Omega.{arith}
use lib.ListN.{length, length-map}
use lib.IntN.{ℤ, negsuc}
use lib.Dec.{eqb}
use borrow.Author.Tests.{eqb-true, eqb-false, eq-eqb, ne_eqb}
use Rattle.buffer.specs.Bytes.{all, is_byte}
use Rattle.buffer.proofs.ByteLaws.{not-false}
use Rattle.ari.specs.declared.Limits.{Limits}
use Rattle.ari.specs.declared.Input.TheVariants.{Message}
use Rattle.ari.specs.Reader.{Answer, refuse, accept, read}
use Rattle.ari.specs.Items.{Items}
use Rattle.ari.specs.Decode.{decode}
use Rattle.ari.specs.Rules.{Is}
use Rattle.ari.specs.Listing.{Space, number, Entry}
use Rattle.ari.specs.References.{Placed, references, entry_for}
use Rattle.ari.proofs.Demand.{demand_two, is_read}
use Rattle.ari.proofs.Listed.{listing_is, each_is_listed, nothing_else_is_listed}
use Rattle.names.specs.declared.Names.{Names}
use Rattle.names.specs.declared.Names.TheVariants.{Passes, Refused}
use Rattle.names.specs.Names.{check_names}
use Rattle.names.specs.Translated.{stands_for, translate, translated}
use Rattle.grants.specs.Grants.{Grant, passes, check}
use Rattle.grants.specs.Bytes.{rows, ragged, check_bytes}
use Rattle.grants.proofs.Grants.{Row, Granted}
use Rattle.release.specs.Release.{Release, refused, yes, no, release, with_lists, after_lists, release_bytes}
use Rattle.release.proofs.Judged.{FirstHeld}
use Rattle.release.proofs.Clause.{NamesBy, released_exactly_if, held_exactly_if, refused_exactly_if, only_own_rows, private_number_once, released_under_checked, whole_rows, passing_bytes}

-- what a reference's namespace stands for under two lists
abbrev pub namespace_of : List ℕ → List ℕ → Placed → Space
namespace_of published own r = stands_for published own (entry_for r).space

-- its entry, with that
abbrev entry_by : List ℕ → List ℕ → Placed → Entry
entry_by published own r = translate published own (entry_for r)

-- all are granted: each reference's namespace is, or by the lists stands for, a number, and some row of the table holds that subscriber and that number
abbrev pub AllGranted : List Grant → List ℕ → List ℕ → ℕ → List Placed → Type 0
AllGranted t published own s rs = (r : Placed) → Memᴰ r rs → Granted t s (namespace_of published own r)

-- Reference k, counted from 0, is the first for which this fails.
pub record FirstUngranted (t : List Grant) (published own : List ℕ) (s : ℕ) (rs : List Placed) (k : ℕ) : Type 0 where
  pub before : List Placed
  pub reference : Placed
  pub behind : List Placed
  pub stand : rs ≡ before ++ (reference ∷ behind)
  pub number_of : length before ≡ k
  pub granted_before : AllGranted t published own s before
  pub not_granted : Granted t s (namespace_of published own reference) → ⊥

-- a list of images, taken apart
record Parted {A B : Type 0} (f : A → B) (xs : List A) (before : List B) (y : B) : Type 0 where
  front : List A
  at : A
  rest : List A
  whole : xs ≡ front ++ (at ∷ rest)
  fronts : map f front ≡ before
  is : f at ≡ y

map_parts : {A B : Type 0} (f : A → B) (xs : List A) (before : List B) (y : B) (behind : List B) → map f xs ≡ before ++ (y ∷ behind) → Parted f xs before y
map_parts f [] [] y behind e = absurd (let z : ◌≡◌ {A = ℕ} 0 1 = cc in omega arith)
map_parts f [] (b ∷ bs) y behind e = absurd (let z : ◌≡◌ {A = ℕ} 0 1 = cc in omega arith)
map_parts f (x ∷ xs) [] y behind e = record { front = []; at = x; rest = xs; whole = refl; fronts = refl; is = cc }
map_parts {A} f (x ∷ xs) (b ∷ bs) y behind e = more (cc) (map_parts f xs bs y behind (cc))
  where
    more : f x ≡ b → Parted f xs bs y → Parted f (x ∷ xs) (b ∷ bs) y
    more h p = record {
      front = x ∷ p.front;
      at = p.at;
      rest = p.rest;
      whole = ap (λ (r : List A). x ∷ r) p.whole;
      fronts = rw (h, p.fronts);
      is = p.is;
    }

map_twice : {A B C : Type 0} (f : B → C) (g : A → B) (xs : List A) → map f (map g xs) ≡ map (λ x. f (g x)) xs
map_twice f g [] = refl
map_twice f g (x ∷ xs) = ap (λ (r : List _). f (g x) ∷ r) (map_twice f g xs)

module _ (t : List Grant) (published own : List ℕ) (s : ℕ) (rs : List Placed) (k : ℕ) where
  abbrev es : List Entry
  es = map (entry_by published own) rs

  first_listed : FirstHeld t s es k → FirstUngranted t published own s rs k
  first_listed f =
      let p = map_parts (entry_by published own) rs f.before f.entry f.behind f.listed in
      record {
        before = p.front;
        reference = p.at;
        behind = p.rest;
        stand = p.whole;
        number_of = sym (length-map p.front (entry_by published own)) ∙ ap length p.fronts ∙ f.number_of;
        granted_before = λ r m. f.granted_before (entry_by published own r) (subst (Memᴰ (entry_by published own r)) p.fronts (Memᴰ.map (entry_by published own) m));
        not_granted = subst (λ (e : Entry). Granted t s e.space → ⊥) (sym p.is) f.not_granted;
      }

  listed_first : FirstUngranted t published own s rs k → FirstHeld t s es k
  listed_first f = record {
    before = map (entry_by published own) f.before;
    entry = entry_by published own f.reference;
    behind = map (entry_by published own) f.behind;
    listed = ap (map (entry_by published own)) f.stand ∙ map-append (entry_by published own) f.before (f.reference ∷ f.behind);
    number_of = length-map f.before (entry_by published own) ∙ f.number_of;
    granted_before = λ e m. (let (r, l, q) = Memᴰ.of_map (entry_by published own) f.before m in rw (← q) (f.granted_before r l));
    not_granted = f.not_granted;
  }

equal_unless : (s s' : ℕ) → ((s ≡ s' → ⊥) → ⊥) → s ≡ s'
equal_unless s s' n = go (eqb s s') refl
  where
    go : (x : Bool) → eqb s s' ≡ x → s ≡ s'
    go true e = eqb-true s s' e
    go false e = absurd (n (eqb-false s s' e))

-- A message: whatever limits accept it, and whatever derivation makes it one.
module _ {m : Limits} {b : List ℕ} {g : Items} {n : ℕ} (c : Is m Message b g n) where
  accepted : read m Message b ≡ accept n
  accepted = is_read m Message b c

  entries_are : (published own : List ℕ) → translated published own b ≡ map (entry_by published own) (references c.stands)
  entries_are published own = rw (listing_is c) (map_twice (translate published own) entry_for (references c.stands))

  module _ (t : List Grant) (published own : List ℕ) (s : ℕ) where
    -- R89, R147
    pub released_exactly_if_granted : (release m b t published own s ≡ yes) ↔ AllGranted t published own s (references c.stands)
    released_exactly_if_granted = (
      λ e r k. ((released_exactly_if m b t published own s).0 e).1 (entry_for r) (each_is_listed c r k),
      λ a.
          (released_exactly_if m b t published own s).1
          ((n, accepted), λ e k. let (r, l, q) = nothing_else_is_listed c e k in rw (← q) (a r l)),
    )

    -- R90: no with k exactly if all references before reference k are granted
    -- and reference k isn't,
    pub held_at_the_first : (k : ℕ) → (release m b t published own s ≡ no k) ↔ FirstUngranted t published own s (references c.stands) k
    held_at_the_first k = (
      λ e. first_listed t published own s (references c.stands) k (rw (entries_are published own) at ((held_exactly_if m b t published own s k).0 e).1),
      λ f. (held_exactly_if m b t published own s k).1 ((n, accepted), rw (entries_are published own) (listed_first t published own s (references c.stands) k f)),
    )

    -- and there is no third answer.
    pub released_or_held : (release m b t published own s ≡ yes) ⊎ ((k : ℕ) × (release m b t published own s ≡ no k))
    released_or_held = go (release m b t published own s) refl
      where
        go : (a : Release) → release m b t published own s ≡ a → (a ≡ yes) ⊎ ((k : ℕ) × (a ≡ no k))
        go (refused r p) e =
            let q : read m Message b ≡ refuse r p = (refused_exactly_if m b t published own s r p).0 e in
            absurd (let z : ◌≡◌ {A = ℕ} 0 1 = cc (accepted) in omega arith)
        go yes e = inl refl
        go (no k) e = inr (k, refl)

    named_by : (r : Placed) → Memᴰ r (references c.stands) → (a : ℕ) → namespace_of published own r ≡ number (negsuc a) → NamesBy published own b (negsuc a)
    named_by r k a q = record { entry = entry_for r; listed = each_is_listed c r k; is = q }

-- R91, R149: two tables alike in what they grant a subscriber give it the same answer under the same pair of lists, whatever rows they have for others: the
-- same refusal, the same yes, or no with the same reference. So it is for all bytes, message or not.
pub others_rows_never_matter : (m : Limits) (b : List ℕ) (t t' : List Grant) (published own : List ℕ) (s : ℕ) → ((z : ℤ) → Row t s z ↔ Row t' s z)
    → release m b t published own s ≡ release m b t' published own s
others_rows_never_matter = only_own_rows

-- R92, R149: if a table passes its check, and two messages, equal or not, have each a reference whose namespace is, or by that message's own lists stands for,
-- the negative number -1 - a, they are released for the same subscriber only.
module _ {m m' : Limits} {b b' : List ℕ} {g g' : Items} {n n' : ℕ} (c : Is m Message b g n) (c' : Is m' Message b' g' n') (published own published' own' : List ℕ)
    (r r' : Placed) (k : Memᴰ r (references c.stands)) (k' : Memᴰ r' (references c'.stands)) (a : ℕ)
    (q : namespace_of published own r ≡ number (negsuc a)) (q' : namespace_of published' own' r' ≡ number (negsuc a)) where
  pub private_for_one_only : (t : List Grant) → check t ≡ passes → (s s' : ℕ)
      → release m b t published own s ≡ yes → release m' b' t published' own' s' ≡ yes → s ≡ s'
  private_for_one_only t p s s' f h =
      equal_unless s s'
      (λ d. private_number_once t m m' p d f h (named_by c t published own s r k a q) (named_by c' t published' own' s' r' k' a q'))

  pub bytes_private_for_one_only : (t : List ℕ) → check_bytes t ≡ passes → (s s' : ℕ)
      → release_bytes m b t published own s ≡ yes → release_bytes m' b' t published' own' s' ≡ yes → s ≡ s'
  bytes_private_for_one_only t p s s' f h =
      private_for_one_only (rows t) (passing_bytes t p).1 s s' (released_under_checked m b t published own s f).2
      (released_under_checked m' b' t published' own' s' h).2

-- bytes that the rules make no message
abbrev pub NoMessage : Limits → List ℕ → Type 0
NoMessage m b = (g : Items) (n : ℕ) → Is m Message b g n → ⊥

module _ (m : Limits) (b : List ℕ) (h : all is_byte b ≡ true) where
  -- Such bytes are refused as the reading of them is, and never released.
  pub no_message_is_refused : NoMessage m b → (t : List Grant) (published own : List ℕ) (s : ℕ)
      → (r : ℕ) × (p : ℕ) × (read m Message b ≡ refuse r p) × (release m b t published own s ≡ Release.refused r p)
  no_message_is_refused x t published own s = go (read m Message b) refl
    where
      go : (a : Answer) → read m Message b ≡ a → (r : ℕ) × (p : ℕ) × (a ≡ refuse r p) × (release m b t published own s ≡ Release.refused r p)
      go (refuse r p) e = (r, p, refl, (refused_exactly_if m b t published own s r p).1 e)
      go (accept n) e = absurd (x (decode b) n ((demand_two m Message b n h).0 e))

  -- What is released is a message, and there is its derivation.
  pub released_is_a_message : (t : List Grant) (published own : List ℕ) (s : ℕ) → release m b t published own s ≡ yes → (n : ℕ) × Is m Message b (decode b) n
  released_is_a_message t published own s e = let (n, q) = ((released_exactly_if m b t published own s).0 e).0 in (n, (demand_two m Message b n h).0 q)

-- The same of the table of bytes that the C host passes, by its rows. Bytes that are not whole rows are no grant table.
abbrev pub Whole : List ℕ → Type 0
Whole t = length t % 16 ≡ 0

-- and of lists as they are passed: each line well-formed
abbrev pub Formed : List ℕ → List ℕ → Type 0
Formed published own = check_names published own ≡ Passes

not_ragged : (t : List ℕ) → Whole t → ragged t ≡ false
not_ragged t w = rw (eq-eqb (length t % 16) 0 w)

is_whole : (t : List ℕ) → ragged t ≡ false → Whole t
is_whole t e = eqb-true (length t % 16) 0 (not-false _ e)

module _ {m : Limits} {b : List ℕ} {g : Items} {n : ℕ} (c : Is m Message b g n) (t published own : List ℕ) (s : ℕ) where
  on_bytes : release_bytes m b t published own s ≡ with_lists (check_names published own) (cond (ragged t) (Release.refused 18 (length t / 16)) (release m b (rows t) published own s))
  unfolding release_bytes
  on_bytes = rw (accepted c)

  -- an answer that is no refusal is that of well-formed lists and whole rows
  answered : (a : Release) → ((x p : ℕ) → Release.refused x p ≡ a → ⊥) → release_bytes m b t published own s ≡ a
      → Formed published own × Whole t × (release m b (rows t) published own s ≡ a)
  answered a x e = go (check_names published own) refl (ragged t) refl (sym on_bytes ∙ e)
    where
      go : (l : Names) → check_names published own ≡ l → (w : Bool) → ragged t ≡ w
          → with_lists l (cond w (Release.refused 18 (length t / 16)) (release m b (rows t) published own s)) ≡ a
          → Formed published own × Whole t × (release m b (rows t) published own s ≡ a)
      go (Refused p) el w ew q = absurd (x 19 p q)
      go Passes el true ew q = absurd (x 18 (length t / 16) q)
      go Passes el false ew q = (el, is_whole t ew, q)

  by_rows : Formed published own → Whole t → release_bytes m b t published own s ≡ release m b (rows t) published own s
  by_rows f w = whole_rows m b published own s f t (not_ragged t w)

  -- R148: a line that is not well-formed answers 19, whatever the table is.
  pub bytes_ill_formed_are_refused : {p : ℕ} → check_names published own ≡ Refused p → release_bytes m b t published own s ≡ Release.refused 19 p
  bytes_ill_formed_are_refused f = on_bytes ∙ rw f

  -- R96, R97: no whole rows answer 18 with the number of whole ones.
  pub bytes_ragged_are_refused : Formed published own → (Whole t → ⊥) → release_bytes m b t published own s ≡ Release.refused 18 (length t / 16)
  bytes_ragged_are_refused f x = on_bytes ∙ rw (f, ne_eqb (length t % 16) 0 x)

  -- Released exactly if lines are well-formed, rows whole, and every reference's namespace is, or stands for, a number granted to the subscriber.
  pub bytes_released_exactly_if_granted : (release_bytes m b t published own s ≡ yes)
      ↔ (Formed published own × Whole t × AllGranted (rows t) published own s (references c.stands))
  bytes_released_exactly_if_granted = (
    λ e.
        (let (f, w, q) = answered yes (λ x p z. let z : ◌≡◌ {A = ℕ} 0 1 = cc in omega arith) e in
        (f, w, (released_exactly_if_granted c (rows t) published own s).0 q)),
    λ (f, w, a). by_rows f w ∙ (released_exactly_if_granted c (rows t) published own s).1 a,
  )

  -- No with k exactly if lines are well-formed, rows whole, and reference k is the first for which this fails.
  pub bytes_held_at_the_first : (k : ℕ) → (release_bytes m b t published own s ≡ no k)
      ↔ (Formed published own × Whole t × FirstUngranted (rows t) published own s (references c.stands) k)
  bytes_held_at_the_first k = (
    λ e.
        (let (f, w, q) = answered (no k) (λ x p z. let z : ◌≡◌ {A = ℕ} 0 1 = cc in omega arith) e in
        (f, w, (held_at_the_first c (rows t) published own s k).0 q)),
    λ (f, w, a). by_rows f w ∙ (held_at_the_first c (rows t) published own s k).1 a,
  )

-- Whole rows that grant a subscriber the same numbers give it the same answer, whatever the lists are.
pub bytes_others_rows_never_matter : (m : Limits) (b t t' published own : List ℕ) (s : ℕ) → Whole t → Whole t' → ((z : ℤ) → Row (rows t) s z ↔ Row (rows t') s z)
    → release_bytes m b t published own s ≡ release_bytes m b t' published own s
unfolding release_bytes
bytes_others_rows_never_matter m b t t' published own s w w' h =
    rw (not_ragged t w, not_ragged t' w') (ap (after_lists (read m Message b) (check_names published own)) (others_rows_never_matter m b (rows t) (rows t') published own s h))

-- What is no message is refused as its reading is, whatever bytes stand for the table and the lists.
pub bytes_no_message_is_refused : (m : Limits) (b : List ℕ) → all is_byte b ≡ true → NoMessage m b → (t published own : List ℕ) (s : ℕ)
    → (r : ℕ) × (p : ℕ) × (read m Message b ≡ refuse r p) × (release_bytes m b t published own s ≡ Release.refused r p)
unfolding release_bytes
bytes_no_message_is_refused m b h x t published own s = let (r, p, e, q) = no_message_is_refused m b h x (rows t) published own s in (r, p, e, rw e)
