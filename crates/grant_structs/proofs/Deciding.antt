-- A message's translated listing as bytes decides, and costs, as the message does. The idea: kind and word of entry i are read where its bytes stand, so
-- judging the entries in place is judging the listing; and the room is enough for every listing, so it is there whole, and is translated whole.
use Prim.Native.Nat.{ℕ, suc, ◌+◌, ◌*◌, ◌/◌, ◌≤◌, min}
use mathlib.Core.Path.{◌≡◌, refl, sym, ◌∙◌, ap, subst}
use mathlib.Core.Bool.{false}
use mathlib.Core.List.Memᴰ
use mathlib.Core.List.{List, [], ◌∷◌, ◌++◌, append_assoc, Memᴰ}
use native.Mathlib.Omega.{arith}
use lib.ListN.{length, get_or, drop, length-append, length-map}
use lib.Seq.{drop-drop, drop_at}
use lib.IntN.{ℤ}
use lib.Dec.{ltb}
use borrow.Author.Tests.{le-ltb}
use mir.Syntax.{w8}
use mir.Val.{Fits}
use Rattle.buffer.proofs.ByteLaws.{all_bytes}
use Rattle.ari.specs.declared.Limits.{Limits}
use Rattle.ari.specs.Limits.{capped}
use Rattle.ari.specs.declared.Input.TheVariants.{Message}
use Rattle.ari.specs.Reader.{Answer, accept, refuse, read}
use Rattle.ari.specs.Decode.{decode}
use Rattle.ari.specs.Rules.{Is}
use Rattle.ari.specs.Signed.{word}
use Rattle.ari.specs.Listing.{Space, number, name, relative, Entry, listing}
use Rattle.ari.proofs.Demand.{demand_two}
use Rattle.ari.proofs.ListingBound.{at_most_half}
use Rattle.ari.proofs.Named.{InRange, numbers_in_range}
use Rattle.grants.specs.Grants.{Grant, granted}
use Rattle.buffer.specs.Bytes.{load_at}
use Rattle.ari.proofs.SignedLaws.{signed_word, word_fits}
use Rattle.listing.specs.declared.Listed.{Listed}
use Rattle.std.specs.declared.result.Result.{Result}
use Rattle.std.specs.declared.result.Result.TheVariants.{Ok, Err}
use Rattle.ari.specs.declared.Refusal.{Refusal}
use Rattle.ari.specs.Refusals.{refusal_of, refused}
use Rattle.listing.specs.Bytes.{kind_of, entry_bytes, listing_bytes}
use Rattle.listing.specs.Answers.{listed_of, list_of, written_by, written_of}
use Rattle.listing.proofs.EntryBytes.{length_entry, length_listing, kind_there, word_there}
use Rattle.listing.proofs.Table.{names_stand}
use Rattle.names.specs.declared.Names.{Names}
use Rattle.names.specs.declared.Names.TheVariants as lists
use Rattle.names.specs.Names.{check_names}
use Rattle.names.specs.Translated.{translate, translated, entries_translated}
use Rattle.names.proofs.Translation.{stands_in_range, translated_bytes}
use Rattle.release.specs.declared.Released.{Released}
use Rattle.release.specs.Release.{judge_from, release, release_rows}
use Rattle.release.specs.Compared.{compared_for, compared_over, compared, counted_rows, judged_over}
use Rattle.grant_structs.specs.Structs.{granted_at, judged_from, cost_at, compared_from, judged_counted, answer_by, Decides}

module _ (t : List Grant) (s : ℕ) (l : List ℕ) (i : ℕ) where
  by_kind : (x : Space) → InRange x → load_at 8 l (24 * i + 8) ≡ kind_of x → ((z : ℤ) → x ≡ number z → load_at 8 l (24 * i + 16) ≡ word z)
      → (granted_at t s l i ≡ granted t s x) × (cost_at t s l i ≡ compared_for t s x)
  by_kind (number z) h e f = (rw (e, f z refl, signed_word z h), rw (e, f z refl, signed_word z h))
  by_kind (name p n) h e f = (rw e, rw e)
  by_kind relative h e f = (rw e, rw e)

  entry_there : (e : Entry) (y : List ℕ) → InRange e.space → drop (24 * i) l ≡ entry_bytes e ++ y
      → (granted_at t s l i ≡ granted t s e.space) × (cost_at t s l i ≡ compared_for t s e.space)
  entry_there e y h q =
      by_kind e.space h (kind_there l (24 * i) e y q)
      (λ z f. word_there l (24 * i) e y q (rw f (word_fits z (rw f at h))) ∙ rw f)

-- entries whose bytes stand from entry i on
judged_in_place : (t : List Grant) (s : ℕ) (l : List ℕ) (i : ℕ) (es : List Entry) (y : List ℕ) → drop (24 * i) l ≡ listing_bytes es ++ y → ((e : Entry) → Memᴰ e es → InRange e.space)
    → (judged_from (granted_at t s l) i (length es) ≡ judge_from (granted t s) i es) × (compared_from (granted_at t s l) (cost_at t s l) i (length es) ≡ compared_over t s es)
judged_in_place t s l i [] y q h = (refl, refl)
judged_in_place t s l i (e ∷ es) y q h =
    let q' : drop (24 * i) l ≡ entry_bytes e ++ (listing_bytes es ++ y) = q ∙ append_assoc (entry_bytes e) (listing_bytes es) y in
    let step : 24 * suc i ≡ 24 * i + 24 = omega arith in
    let next : drop (24 * suc i) l ≡ listing_bytes es ++ y = rw step (sym (drop-drop 24 (24 * i) l) ∙ ap (drop 24) q' ∙ drop_at (entry_bytes e) (listing_bytes es ++ y) 24 (length_entry e)) in
    let this = entry_there t s l i e (listing_bytes es ++ y) (h e (Memᴰ.head refl)) q' in
    let others = judged_in_place t s l (suc i) es y next (λ x k. h x (Memᴰ.tail k)) in
    (rw (this.0, others.0), rw (this.0, this.1, others.1))

counted_in_place : (t : List Grant) (s : ℕ) (l : List ℕ) (es : List Entry) (y : List ℕ) → l ≡ listing_bytes es ++ y → ((e : Entry) → Memᴰ e es → InRange e.space)
    → judged_counted t s l (length es) ≡ judged_over t s es
counted_in_place t s l es y q h = let both = judged_in_place t s l 0 es y q h in rw (both.0, both.1)

-- what a message's namespaces stand for is in range, as they are
translated_in_range : (published own : List ℕ) {m : Limits} {b : List ℕ} {n : ℕ} → Is m Message b (decode b) n → (d : Entry) → Memᴰ d (translated published own b) → InRange d.space
translated_in_range published own {b = b} c d i =
    let (a, at, is) = Memᴰ.of_map (translate published own) (listing b) i in
    subst (λ (z : Entry). InRange z.space) is (stands_in_range published own a.space (numbers_in_range c a at))

-- What `listing::list_within` answers and writes in room for 2,048 entries: the message's refusal, or its whole listing.
record Whole (m : Limits) (b out : List ℕ) (k n : ℕ) (x : List ℕ) : Type 0 where
  pub accepted : read m Message b ≡ accept n
  pub is : Is m Message b (decode b) n
  pub all_listed : k ≡ length (listing b)
  pub written : x ≡ listing_bytes (listing b) ++ drop (24 * length (listing b)) out

module _ (limits : Limits) (b : List ℕ) (bytes : (j : ℕ) → Fits w8 (get_or b j 0)) (out : List ℕ) (room : 24 * 2048 ≤ length out) {l : Result Listed Refusal} (e : l ≡ list_of (capped limits) b out) {x : List ℕ} (f : x ≡ written_of (capped limits) b out) where
  abbrev m : Limits
  m = capped limits

  enough : {n : ℕ} → Is m Message b (decode b) n → ltb (length out / 24) (length (listing b)) ≡ false
  enough c = le-ltb (length out / 24) (length (listing b)) (omega (arith, at_most_half c, c.few))

  was_refused : {x : Refusal} → l ≡ Err x → (r : ℕ) × (p : ℕ) × (read m Message b ≡ refuse r p) × (x ≡ refusal_of r p)
  unfolding list_of
  was_refused {x} g = go (read m Message b) refl (sym g ∙ e)
    where
      go : (a : Answer) → read m Message b ≡ a → Err x ≡ listed_of a (listing b) (length out / 24) → (r : ℕ) × (p : ℕ) × (read m Message b ≡ refuse r p) × (x ≡ refusal_of r p)
      go (refuse r p) h q = let y : x ≡ refusal_of r p = cc in (r, p, h, y)
      go (accept n) h q =
          let c : Is m Message b (decode b) n = (demand_two m Message b n (all_bytes b bytes)).0 h in
          let q' : ◌≡◌ {A = Result Listed Refusal} (Err x) (Ok (record { listed = length (listing b); count = n })) = q ∙ rw (enough c) in
          absurd (let z : ◌≡◌ {A = ℕ} 0 1 = cc in omega arith)

  was_listed : {y : Listed} → l ≡ Ok y → Whole m b out y.listed y.count x
  unfolding list_of written_of
  was_listed {y} g = go (read m Message b) refl (sym g ∙ e)
    where
      written : x ≡ listing_bytes (listing b) ++ drop (24 * length (listing b)) out
      written = f ∙ ap (λ (r : Result Listed Refusal). written_by r (listing b) out) (sym e ∙ g)

      go : (a : Answer) → read m Message b ≡ a → Ok y ≡ listed_of a (listing b) (length out / 24) → Whole m b out y.listed y.count x
      go (refuse r p) h q = absurd (let z : ◌≡◌ {A = ℕ} 0 1 = cc in omega arith)
      go (accept n') h q =
          let c : Is m Message b (decode b) n' = (demand_two m Message b n' (all_bytes b bytes)).0 h in
          let q' : ◌≡◌ {A = Result Listed Refusal} (Ok y) (Ok (record { listed = length (listing b); count = n' })) = q ∙ rw (enough c) in
          let whole : y ≡ record { listed = length (listing b); count = n' } = cc in
          let same : n' ≡ y.count = rw whole refl in
          record { accepted = h ∙ ap accept same; is = subst (λ (i : ℕ). Is m Message b (decode b) i) same c; all_listed = rw whole refl; written = written }

  -- the ways of `listed_in`
  module _ (published own : List ℕ) where
    pub message_refused : {r : Refusal} → l ≡ Err r → Decides (capped limits) b published own (Err r) x
    unfolding counted_rows release_rows
    message_refused g = let (n, p, h, q) = was_refused g in record { most = tt; decides = λ t s. sym (rw h (sym (ap (λ (y : Refusal). Err y) q))) }

    module _ {z : Listed} (g : l ≡ Ok z) {c : Names} (h : c ≡ check_names published own) where
      pub list_refused : {p : ℕ} → c ≡ lists.Refused p → Decides (capped limits) b published own (refused 19 p) x
      unfolding counted_rows release_rows
      list_refused q = let w = was_listed g in record { most = tt; decides = λ t s. sym (rw (w.accepted, ← h, q)) }

      pub entries_translated_lem : c ≡ lists.Passes → {y : List ℕ} → y ≡ entries_translated published own b 0 (min z.listed (length x / 24)) x → Decides (capped limits) b published own (Ok z.listed) y
      unfolding counted_rows release_rows release compared
      entries_translated_lem q {y} j =
          let w = was_listed g in
          let es = translated published own b in
          let rest : List ℕ = drop (24 * length (listing b)) out in
          let long : length x ≡ 24 * length (listing b) + length rest =
          ap length w.written ∙ length-append (listing_bytes (listing b)) rest ∙ rw (length_listing (listing b)) in
          let each : min z.listed (length x / 24) ≡ length (listing b) = omega (arith, w.all_listed) in
          let y_is : y ≡ listing_bytes es ++ rest =
          j ∙ ap (λ (i : ℕ). entries_translated published own b 0 i x) each ∙ ap (entries_translated published own b 0 (length (listing b))) w.written
          ∙ translated_bytes published own b (listing b) rest (names_stand w.is) (omega (arith, w.is.short)) in
          let count : z.listed ≡ length es = w.all_listed ∙ sym (length-map (listing b) (translate published own)) in
          record {
            most = omega (arith, ap length y_is, length-append (listing_bytes es) rest, length_listing es, count);
            decides = λ t s. ap (judged_counted t s y) count ∙ counted_in_place t s y es rest y_is (translated_in_range published own w.is) ∙ sym (rw (w.accepted, ← h, q));
          }
