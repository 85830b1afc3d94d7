-- R89 to R92 as R147 to R149 read them, over the listing: for all messages, tables, lists and subscribers. The idea: release judges the listing with what
-- its namespaces stand for, so what Judged says of a listing's entries holds of that one. What a table grants is in Judged, its check in Checked.
use Prim.Native.Nat.{ℕ, suc, ◌/◌}
use mathlib.Core.Logic.{◌↔◌}
use mathlib.Core.Path.{◌≡◌, refl, sym, ◌∙◌, ap, fun_ext}
use mathlib.Core.Bool.{Bool, true, false, cond}
use mathlib.Core.List.Memᴰ
use mathlib.Core.List.{List, [], ◌∷◌, map, Memᴰ}
use native.Mathlib.Omega.{arith}
use lib.ListN.{length}
use lib.IntN.{ℤ, negsuc}
use Rattle.buffer.proofs.ByteLaws.{past}
use Rattle.ari.specs.declared.Limits.{Limits}
use Rattle.ari.specs.declared.Input.TheVariants.{Message}
use Rattle.ari.specs.Reader.{Answer, refuse, accept, read}
use Rattle.ari.specs.Listing.{Space, number, name, relative, Entry, listing}
use Rattle.names.specs.declared.Names.{Names}
use Rattle.names.specs.declared.Names.TheVariants.{Passes, Refused}
use Rattle.names.specs.Names.{check_names}
use Rattle.names.specs.Translated.{stands_for, translate, translated}
use Rattle.names.proofs.Translation.{no_lists}
use Rattle.grants.specs.Grants.{Grant, Check, passes, check, granted}
use Rattle.grants.specs.Bytes.{rows, ragged, check_bytes}
use Rattle.grants.proofs.Grants.{Row, Granted, granted_exactly_if}
use Rattle.grants.proofs.Checked.{passes_exactly_if}
use Rattle.release.specs.Release.{Release, yes, no, judge_from, judge, release, with_lists, after_lists, release_rows, release_bytes}
use Rattle.release.proofs.Judged.{FirstHeld, judged_yes, judged_no}

-- a message that is accepted
abbrev pub Accepted : Limits → List ℕ → Type 0
Accepted m b = (n : ℕ) × (read m Message b ≡ accept n)

module _ (m : Limits) (b : List ℕ) (t : List Grant) (published own : List ℕ) (s : ℕ) where
  after_answer : (a : Answer) (r : Release) → judge a (granted t s) (translated published own b) ≡ r → ((n p : ℕ) → r ≡ Release.refused n p → ⊥)
      → ((n : ℕ) × (a ≡ accept n)) × (judge_from (granted t s) 0 (translated published own b) ≡ r)
  after_answer (refuse n p) r e h = absurd (h n p (sym e))
  after_answer (accept n) r e h = ((n, refl), e)

  -- Released exactly if the message is accepted and every listed namespace is, or by the lists stands for, a number granted to the subscriber.
  pub released_exactly_if : (release m b t published own s ≡ yes)
      ↔ (Accepted m b × ((e : Entry) → Memᴰ e (listing b) → Granted t s (stands_for published own e.space)))
  unfolding release
  released_exactly_if = (
    λ e.
        (let (a, j) = after_answer (read m Message b) yes e (λ n p q. let z : ◌≡◌ {A = ℕ} 0 1 = cc in omega arith) in
        (a, λ d k. (judged_yes t s (translated published own b)).0 j (translate published own d) (Memᴰ.map (translate published own) k))),
    λ (a, g).
        rw a.1
        ((judged_yes t s (translated published own b)).1 (λ e k. let (d, l, z) = Memᴰ.of_map (translate published own) (listing b) k in rw (← z) (g d l))),
  )

  -- Held with entry k exactly if the message is accepted and k is the first entry for which this fails.
  pub held_exactly_if : (k : ℕ) → (release m b t published own s ≡ no k) ↔ (Accepted m b × FirstHeld t s (translated published own b) k)
  unfolding release
  held_exactly_if k = (
    λ e.
        (let (a, j) = after_answer (read m Message b) (no k) e (λ n p q. let z : ◌≡◌ {A = ℕ} 0 1 = cc in omega arith) in
        (a, (judged_no t s k (translated published own b)).0 j)),
    λ (a, g). rw a.1 ((judged_no t s k (translated published own b)).1 g),
  )

  -- Refused exactly as the message is.
  pub refused_exactly_if : (n p : ℕ) → (release m b t published own s ≡ Release.refused n p) ↔ (read m Message b ≡ refuse n p)
  unfolding release
  refused_exactly_if n p = (there (read m Message b), λ e. rw e)
    where
      judged : (i : ℕ) (es : List Entry) → judge_from (granted t s) i es ≡ Release.refused n p → ⊥
      judged i [] e = let z : ◌≡◌ {A = ℕ} 0 1 = cc in omega arith
      judged i (f ∷ es) e = go (granted t s f.space) e (judged (suc i) es)
        where
          go : (x : Bool) → cond x (judge_from (granted t s) (suc i) es) (no i) ≡ Release.refused n p → (judge_from (granted t s) (suc i) es ≡ Release.refused n p → ⊥) → ⊥
          go true q ih = ih q
          go false q ih = let z : ◌≡◌ {A = ℕ} 0 1 = cc in omega arith

      there : (a : Answer) → judge a (granted t s) (translated published own b) ≡ Release.refused n p → a ≡ refuse n p
      there (refuse k q) e = cc
      there (accept k) e = absurd (judged 0 (translated published own b) e)

-- Its answer rests on that subscriber's rows only: two tables that grant it the same numbers, whatever rows they have for others, give it the
-- same refusal, the same yes, or no with the same entry, on every message, under the same pair of lists.
pub only_own_rows : (m : Limits) (b : List ℕ) (t t' : List Grant) (published own : List ℕ) (s : ℕ) → ((z : ℤ) → Row t s z ↔ Row t' s z)
    → release m b t published own s ≡ release m b t' published own s
unfolding release
only_own_rows m b t t' published own s h = ap (λ (ok : Space → Bool). judge (read m Message b) ok (translated published own b)) (fun_ext alike)
  where
    agree : (x y : Bool) → (x ≡ true → y ≡ true) → (y ≡ true → x ≡ true) → x ≡ y
    agree true y f g = sym (f refl)
    agree false true f g = g refl
    agree false false f g = refl

    alike : (x : Space) → granted t s x ≡ granted t' s x
    alike (number z) =
        agree (granted t s (number z)) (granted t' s (number z)) (λ e. (granted_exactly_if t' s z).1 ((h z).0 ((granted_exactly_if t s z).0 e)))
        (λ e. (granted_exactly_if t s z).1 ((h z).1 ((granted_exactly_if t' s z).0 e)))
    alike (name p n) = refl
    alike relative = refl

-- a message names a number under two lists if a listed namespace is it or stands for it; a negative one is private
pub record NamesBy (published own b : List ℕ) (z : ℤ) : Type 0 where
  pub entry : Entry
  pub listed : Memᴰ entry (listing b)
  pub is : stands_for published own entry.space ≡ number z

module _ (t : List Grant) where
  -- what a released message names, a row of the subscriber's has
  names_row : (m : Limits) {b published own : List ℕ} {s : ℕ} {z : ℤ} → release m b t published own s ≡ yes → NamesBy published own b z → Row t s z
  names_row m {b} {published} {own} {s} {z} r n =
      let g = ((released_exactly_if m b t published own s).0 r).1 n.entry n.listed in
      let e : g.number_is ≡ z = cc in
      rw (← e) g.row

  -- If a table passes its check, no messages released under it for different subscribers, equal or not, name the same private number, whatever lists each
  -- has.
  pub private_number_once : (m m' : Limits) {b b' published own published' own' : List ℕ} {s s' : ℕ} {a : ℕ} → check t ≡ passes → (s ≡ s' → ⊥)
      → release m b t published own s ≡ yes → release m' b' t published' own' s' ≡ yes
      → NamesBy published own b (negsuc a) → NamesBy published' own' b' (negsuc a) → ⊥
  private_number_once m m' {a = a} c n f g x y =
      let p = names_row m f x in
      let q = names_row m' g y in
      (passes_exactly_if t).0 c p.grant q.grant p.among q.among
      (record { different = λ e. n (sym p.theirs ∙ e ∙ q.theirs); number = a; one = p.this; other = q.this })

-- With no lists a name stands for no number: the listing itself is judged.
pub without_lists : (m : Limits) (b : List ℕ) (t : List Grant) (s : ℕ) → release m b t [] [] s ≡ judge (read m Message b) (granted t s) (listing b)
unfolding release
without_lists m b t s = rw (no_lists b)

-- What is released, is released under well-formed lists and whole rows: a call that answers 19 or 18 releases nothing (R148).
pub released_under_checked : (m : Limits) (b t published own : List ℕ) (s : ℕ) → release_bytes m b t published own s ≡ yes
    → (check_names published own ≡ Passes) × (ragged t ≡ false) × (release m b (rows t) published own s ≡ yes)
unfolding release_bytes
released_under_checked m b t published own s e = go (read m Message b) (check_names published own) refl (ragged t) refl e
  where
    go : (a : Answer) (c : Names) → check_names published own ≡ c → (x : Bool) → ragged t ≡ x
        → after_lists a c (cond x (Release.refused 18 (length t / 16)) (release m b (rows t) published own s)) ≡ yes
        → (check_names published own ≡ Passes) × (ragged t ≡ false) × (release m b (rows t) published own s ≡ yes)
    go (refuse r p) c ec x ex e = absurd (let z : ◌≡◌ {A = ℕ} 0 1 = cc in omega arith)
    go (accept n) (Refused p) ec x ex e = absurd (let z : ◌≡◌ {A = ℕ} 0 1 = cc in omega arith)
    go (accept n) Passes ec true ex e = absurd (let z : ◌≡◌ {A = ℕ} 0 1 = cc in omega arith)
    go (accept n) Passes ec false ex e = (ec, ex, e)

-- By well-formed lists, and whole rows, the answer is that of the listing.
module _ (m : Limits) (b published own : List ℕ) (s : ℕ) (f : check_names published own ≡ Passes) where
  pub formed_lists : (t : List Grant) → release_rows m b t published own s ≡ release m b t published own s
  unfolding release_rows release
  formed_lists t = rw f (go (read m Message b))
    where
      go : (a : Answer) → after_lists a Passes (judge a (granted t s) (translated published own b)) ≡ judge a (granted t s) (translated published own b)
      go (refuse n p) = refl
      go (accept n) = refl

  pub whole_rows : (t : List ℕ) → ragged t ≡ false → release_bytes m b t published own s ≡ release m b (rows t) published own s
  unfolding release_bytes release_rows
  whole_rows t r = rw r (formed_lists (rows t))

pub passing_bytes : (t : List ℕ) → check_bytes t ≡ passes → (ragged t ≡ false) × (check (rows t) ≡ passes)
unfolding check_bytes
passing_bytes t e = past (ragged t) (Check.refused 18 (length t / 16)) (check (rows t)) (λ q. let z : ◌≡◌ {A = ℕ} 0 1 = cc in omega arith) e
