-- What is held: the entry that release names is listed, and the answer is made of its place and its chain.
use Prim.Native.Nat.{ℕ, zero, suc, ◌+◌, ◌-◌, ◌*◌, ◌/◌, ◌<◌, ◌≤◌}
use mathlib.Core.Path.{◌≡◌, refl, sym, ◌∙◌, ap}
use mathlib.Core.Bool.{Bool, true, false, cond}
use mathlib.Core.List.{List, [], ◌∷◌, map, Memᴰ}
use native.Mathlib.Omega.{arith}
use lib.ListN.{length, get_or, take, replicate, length-map, length-append, length-replicate}
use lib.Seq.{take_at}
use lib.Dec.{ltb}
use mir.Syntax.{w64}
use mir.Val.{Fits}
use borrow.Author.Tests.{lt-ltb, le-ltb}
use Rattle.ari.specs.declared.Limits.{Limits}
use Rattle.ari.specs.declared.Input.TheVariants.{Message}
use Rattle.ari.specs.Limits.{gate_limits}
use Rattle.ari.specs.Reader.{read, refuse, accept}
use Rattle.ari.specs.Reader as reader
use Rattle.ari.specs.Listing.{Space, Entry, listing}
use Rattle.item_table.specs.Entries.{Tabled}
use Rattle.std.specs.Prelude.{IfOk}
use Rattle.std.specs.declared.result.Result.{Result}
use Rattle.std.specs.declared.result.Result.TheVariants.{Ok, Err}
use Rattle.ari.specs.declared.Refusal.{Refusal}
use Rattle.ari.specs.Refusals as refusals
use Rattle.reader.specs.Results.{result_of}
use Rattle.names.specs.declared.Names.{Names}
use Rattle.names.specs.declared.Names.TheVariants as lists
use Rattle.names.specs.Names.{check_names}
use Rattle.names.specs.Translated.{translate, translated}
use Rattle.grants.specs.Grants.{granted}
use Rattle.grants.specs.Bytes.{rows, ragged}
use Rattle.release.specs.declared.Released.{Released}
use Rattle.release.specs.declared.Released.TheVariants.{Yes, No}
use Rattle.release.specs.Release.{Release, refused, yes, no, judge_from, judge, release, after_lists, release_bytes}
use Rattle.release.specs.Compared.{compared, counted, counted_bytes}
use Rattle.why_held.specs.declared.Link.{Link}
use Rattle.why_held.specs.declared.Chain.{Chain}
use Rattle.why_held.specs.declared.Place.{Place}
use Rattle.why_held.specs.declared.Outcome.{Outcome}
use Rattle.why_held.specs.declared.Outcome.TheVariants.{Held}
use Rattle.why_held.specs.declared.Outcome.TheVariants as outcomes
use Rattle.why_held.specs.declared.Why.{Why}
use Rattle.why_held.specs.Chain.{chain}
use Rattle.why_held.specs.Why.{reason_of, no_entry, no_link, in_room, outcome_of, links_of, why_by, why, Few, answer_of, outcome_in, room_after, why_room}
use Rattle.why_held.specs.Code.{chain_by, place_of, IsListed, IsHeld, written_by}
use Rattle.why_held.proofs.Going.{few_links}

-- a listed entry, and with what its namespace stands for: the same ends
pub mem_at : (es : List Entry) (k : ℕ) (d : Entry) → k < length es → Memᴰ (get_or es k d) es
mem_at [] k d h = absurd (omega arith)
mem_at (e ∷ es) zero d h = Memᴰ.head refl
mem_at (e ∷ es) (suc k) d h = Memᴰ.tail (mem_at es k d (omega arith))

translated_at : (published own : List ℕ) (es : List Entry) (k : ℕ) → k < length es → get_or (map (translate published own) es) k no_entry ≡ translate published own (get_or es k no_entry)
translated_at published own [] k h = absurd (omega arith)
translated_at published own (e ∷ es) zero h = refl
translated_at published own (e ∷ es) (suc k) h = translated_at published own es k (omega arith)

room_of : (ls : List Link) → length ls ≤ gate_limits.containers → length (in_room ls) ≡ gate_limits.containers
room_of ls h = simp length-append (omega (arith, length-replicate (gate_limits.containers - length ls) no_link))

module _ (b published own : List ℕ) (k : ℕ) (h : k < length (listing b)) {p : Place} (e : p ≡ place_of (get_or (translated published own b) k no_entry)) where
  pub its_ends : IsListed b p.first p.after
  its_ends =
      let t = translated_at published own (listing b) k h in
      record {
        entry = get_or (listing b) k no_entry;
        listed = mem_at (listing b) k no_entry h;
        first_is = ap (λ (z : Place). z.first) e ∙ ap (λ (z : Entry). z.first) t;
        after_is = ap (λ (z : Place). z.after) e ∙ ap (λ (z : Entry). z.after) t;
      }

  module _ {c : Chain} (f : c ≡ chain_by b p.first p.after) where
    pub held_is : ◌≡◌ {A = Result Why Refusal} (Ok (record { outcome = Held k p.reason c.count; links = c.links })) (why_by b published own (no k))
    held_is = rw (f, e)

    pub held_few : {m : Limits} {n : ℕ} {t : List ℕ} → Tabled m Message b n t → m.containers ≤ gate_limits.containers
        → Few (record { outcome = Held k p.reason c.count; links = c.links })
    held_few d l =
        let z : length (chain b p.first p.after) ≤ gate_limits.containers = omega (arith, few_links d.is its_ends) in
        record { links = rw f z; room = rw f (room_of (chain b p.first p.after) z) }

-- release says no of an accepted message, with one of its entries
judged_below : (ok : Space → Bool) (i : ℕ) (es : List Entry) (k : ℕ) → judge_from ok i es ≡ no k → k < i + length es
judged_below ok i [] k e = absurd (yes_not_no e)
  where
    yes_not_no : yes ≡ no k → ⊥
    yes_not_no q = let z : ◌≡◌ {A = ℕ} 0 1 = cc in omega arith
judged_below ok i (e ∷ es) k q = go (ok e.space) q (λ z. judged_below ok (suc i) es k z)
  where
    go : (t : Bool) → cond t (judge_from ok (suc i) es) (no i) ≡ no k → (judge_from ok (suc i) es ≡ no k → k < suc i + length es) → k < i + length (e ∷ es)
    go true z r = let y = r z in omega arith
    go false z r = let y : i ≡ k = cc in omega arith

module _ (m : Limits) (b t published own : List ℕ) (s k : ℕ) where
  abbrev whole : Release
  whole = cond (ragged t) (refused 18 (length t / 16)) (release m b (rows t) published own s)

  no_below : {n : ℕ} → read m Message b ≡ accept n → (x : Bool) → cond x (refused 18 (length t / 16)) (judge (read m Message b) (granted (rows t) s) (translated published own b)) ≡ no k
      → k < length (listing b)
  no_below a true e = absurd (let z : ◌≡◌ {A = ℕ} 0 1 = cc in omega arith)
  no_below a false e = omega (arith, judged_below (granted (rows t) s) 0 (translated published own b) k (rw a at e), length-map (listing b) (translate published own))

  held_by : (x : reader.Answer) → read m Message b ≡ x → (c : Names) → after_lists x c whole ≡ no k → IsHeld m b k
  unfolding release
  held_by (refuse r p) a c e = absurd (let z : ◌≡◌ {A = ℕ} 0 1 = cc in omega arith)
  held_by (accept n) a (lists.Refused p) e = absurd (let z : ◌≡◌ {A = ℕ} 0 1 = cc in omega arith)
  held_by (accept n) a lists.Passes e = record { items = n; accepted = a; below = no_below a (ragged t) e }

  is_held : release_bytes m b t published own s ≡ no k → IsHeld m b k
  unfolding release_bytes
  is_held e = held_by (read m Message b) refl (check_names published own) e

-- what release answers, from the code's answer
yes_of : (z : Release) (c : ℕ) {d : ℕ} → Ok (Yes d) ≡ counted z c → z ≡ yes
yes_of yes c e = refl
yes_of (no k) c e = absurd (let z : ◌≡◌ {A = ℕ} 0 1 = cc in omega arith)
yes_of (refused r p) c e = absurd (let z : ◌≡◌ {A = ℕ} 0 1 = cc in omega arith)

no_of : (z : Release) (c : ℕ) {k d : ℕ} → Ok (No k d) ≡ counted z c → z ≡ no k
no_of yes c e = absurd (let z : ◌≡◌ {A = ℕ} 0 1 = cc in omega arith)
no_of (no j) c {k} e = let q : k ≡ j = cc in ap no (sym q)
no_of (refused r p) c e = absurd (let z : ◌≡◌ {A = ℕ} 0 1 = cc in omega arith)

refusal_of : (b published own : List ℕ) (z : Release) (c : ℕ) {e : Refusal} → Err e ≡ counted z c → Err e ≡ why_by b published own z
refusal_of b published own yes c q = absurd (let z : ◌≡◌ {A = ℕ} 0 1 = cc in omega arith)
refusal_of b published own (no k) c q = absurd (let z : ◌≡◌ {A = ℕ} 0 1 = cc in omega arith)
refusal_of b published own (refused r p) c {e} q = let f : e ≡ refusals.refusal_of r p = cc in ap Err f

module _ (m : Limits) (b t published own : List ℕ) (s : ℕ) {x : Result Released Refusal} (e : x ≡ counted_bytes m b t published own s) where
  abbrev r : Release
  r = release_bytes m b t published own s

  pub why_released : {c : ℕ} → x ≡ Ok (Yes c) → {w : Why} → w.outcome ≡ outcomes.Released → w.links ≡ in_room [] → Ok w ≡ why m b t published own s
  unfolding why counted_bytes
  why_released f g h = rw (yes_of r _ (sym f ∙ e)) (rw (g, h))

  pub why_refused : {z : Refusal} → x ≡ Err z → Err z ≡ why m b t published own s
  unfolding why counted_bytes
  why_refused f = refusal_of b published own r _ (sym f ∙ e)

  pub why_held : {k c : ℕ} → x ≡ Ok (No k c) → {w : Result Why Refusal} → w ≡ why_by b published own (no k) → w ≡ why m b t published own s
  unfolding why counted_bytes
  why_held f g = g ∙ rw (no_of r _ (sym f ∙ e))

  pub held_needs : {k c : ℕ} {m' : Limits} → m' ≡ m → x ≡ Ok (No k c) → IsHeld m' b k
  unfolding counted_bytes
  held_needs {k} q f = rw q (is_held m b t published own s k (no_of r _ (sym f ∙ e)))

-- the room after it, in the terms of the definition
first_links : (ls : List Link) → take (length ls) (in_room ls) ≡ ls
first_links ls = take_at ls (replicate (gate_limits.containers - length ls) no_link) (length ls) refl

module _ (b published own : List ℕ) where
  written_is : (x : Release) (out : List ℕ)
      → written_by (outcome_in (outcome_of b published own x) (length out)) (in_room (links_of b published own x)) out
      ≡ room_after (outcome_in (outcome_of b published own x) (length out)) (links_of b published own x) out
  written_is yes out = refl
  written_is (refused r p) out = refl
  written_is (no k) out = go (ltb (length out) (24 * length ls))
    where
      ls : List Link
      ls = links_of b published own (no k)

      held : Result Outcome Refusal
      held = Ok (Held k (reason_of (get_or (translated published own b) k no_entry).space) (length ls))

      go : (t : Bool) → written_by (cond t (refusals.refused 16 (24 * length ls)) held) (in_room ls) out ≡ room_after (cond t (refusals.refused 16 (24 * length ls)) held) ls out
      go true = refl
      go false = rw (first_links ls)

module _ (m : Limits) (b t published own : List ℕ) (s : ℕ) {a : Result Why Refusal} (e : a ≡ why m b t published own s) (out : List ℕ) where
  same_room_after : (x : Release) {z : Refusal} → Err z ≡ why_by b published own x → out ≡ room_after (outcome_in (outcome_of b published own x) (length out)) (links_of b published own x) out
  same_room_after yes q = absurd (let z : ◌≡◌ {A = ℕ} 0 1 = cc in omega arith)
  same_room_after (no k) q = absurd (let z : ◌≡◌ {A = ℕ} 0 1 = cc in omega arith)
  same_room_after (refused r p) q = refl

  pub no_room : {x : Refusal} → a ≡ Err x → out ≡ why_room m b t published own s out
  unfolding why why_room
  no_room f = same_room_after (release_bytes m b t published own s) (sym f ∙ e)

  module _ {w : Why} (f : a ≡ Ok w) {o : Result Outcome Refusal} where
    written_by_why : (x : Release) → Ok w ≡ why_by b published own x → o ≡ outcome_in (Ok w.outcome) (length out) → {out' : List ℕ} → out' ≡ written_by o w.links out
        → out' ≡ room_after (outcome_in (outcome_of b published own x) (length out)) (links_of b published own x) out
    written_by_why yes q g h = let z : w ≡ record { outcome = outcomes.Released; links = in_room [] } = cc in h ∙ rw (g, z)
    written_by_why (refused r p) q g h = absurd (let z : ◌≡◌ {A = ℕ} 0 1 = cc in omega arith)
    written_by_why (no k) q g h =
        let y = get_or (translated published own b) k no_entry in
        let z : w ≡ record { outcome = Held k (reason_of y.space) (length (chain b y.first y.after)); links = in_room (chain b y.first y.after) } = cc in
        h ∙ rw (g, z) (written_is b published own (no k) out)

    pub same_room : o ≡ outcome_in (Ok w.outcome) (length out) → {out' : List ℕ} → out' ≡ written_by o w.links out → out' ≡ why_room m b t published own s out
    unfolding why why_room
    same_room g h = written_by_why (release_bytes m b t published own s) (sym f ∙ e) g h
