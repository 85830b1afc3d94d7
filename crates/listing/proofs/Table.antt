-- Each word of the item table, and the listing. The idea: the listing from item k on is that from item k + 1 on, with an entry in front where item k
-- is a reference; so a loop over the words goes through the entries in their order.
use Prim.Native.Nat.{ℕ, zero, suc, ◌+◌, ◌-◌, ◌<◌, ◌≤◌}
use mathlib.Core.Path.{◌≡◌, refl, sym, ◌∙◌, ap}
use mathlib.Core.Bool.{Bool, true, false, cond}
use mathlib.Core.List.Memᴰ
use mathlib.Core.List.{List, [], ◌∷◌, ◌++◌, append_assoc, append-nil, map, Memᴰ}
use native.Mathlib.Omega.{arith}
use native.Mathlib.Numerals.{add-one}
use lib.ListN.{length, get_or, drop, length-append, length-drop, take-append-drop}
use lib.Seq.{drop-cons, drop-drop, drop_at, take_at, drop-length}
use lib.IntN.{pos, negsuc}
use lib.Dec.{eqb}
use borrow.Author.Tests.{eqb-true, ne_eqb}
use Rattle.cbor.specs.Head.{unsigned, negative, text, size, string_size, lead_bytes}
use Rattle.cbor.specs.Answer.{head_at}
use Rattle.cbor.proofs.HeadLaws.{length_lead}
use Rattle.ari.specs.Table.{max64, is_reference}
use Rattle.ari.specs.declared.Limits.{Limits}
use Rattle.ari.specs.declared.Input.TheVariants.{Message}
use Rattle.ari.specs.Items.{Items, none, item, encode, Spot, inside_at, spots_of}
use Rattle.ari.specs.Decode.{decode}
use Rattle.ari.specs.Rules.{Is}
use Rattle.ari.specs.Listing.{Space, number, name, relative, Entry, space_in, referring, listing}
use Rattle.ari.specs.Listing as ari
use Rattle.ari.specs.References.{entry_for}
use Rattle.ari.proofs.Spots.{spot_count}
use Rattle.ari.proofs.Listed.{nothing_else_is_listed, own_bytes}
use Rattle.ari.proofs.Referring.{place_of, found_references}
use Rattle.ari.proofs.Named.{Named, InRange, own_namespace, numbers_in_range}
use Rattle.item_table.specs.Entries.{no_spot, spot_number, Tabled}
use Rattle.item_table.proofs.Entries.{no_string, head_is, there, fine_at, covers_at, item_at, head_of_at, short_at}
use Rattle.listing.specs.declared.Namespace.{Namespace}
use Rattle.listing.specs.declared.Namespace.TheVariants.{Number, Name, Relative}
use Rattle.listing.specs.declared.Reference.{Reference}
use Rattle.listing.specs.declared.Reference.TheVariants.{Nothing, To}
use Rattle.listing.specs.Entries.{namespace_of, reference_from, space_code, string_in, NameStands}

-- the listing from item k on
unfoldable pub listing_from : List ℕ → ℕ → List Entry
listing_from b k = map ari.entry_of (referring (drop k (spots_of Message (decode b))))

-- the first member's head stands where the members begin
member_space : (b : List ℕ) (p : ℕ) (g : Items) (r : List ℕ) → drop p b ≡ encode g ++ r → Named g → namespace_of p (head_at b p) ≡ space_code (space_in p g)
unfolding string_size
member_space b p none r e n = absurd n
member_space b p (item l s ms rs) r e n =
    rw (head_is b p l (s ++ (encode ms ++ encode rs) ++ r) (e ∙ simp append_assoc) n.head)
    (go (eqb l.kind unsigned) (eqb l.kind negative) (eqb l.kind text) refl)
  where
    long : eqb l.kind text ≡ true → l.arg ≡ length s
    long q = sym (n.sized ∙ rw (eqb-true l.kind text q))

    go : (t u v : Bool) → eqb l.kind text ≡ v
        → cond t (Number l.arg) (cond u (Number (max64 - l.arg)) (cond v (Name p l.arg) Relative))
        ≡ space_code (cond t (number (pos l.arg)) (cond u (number (negsuc l.arg)) (cond v (name p s) relative)))
    go true u v q = refl
    go false true v q = refl
    go false false true q = ap (Name p) (long q)
    go false false false q = refl

-- and its string behind it
member_name : (b : List ℕ) (p : ℕ) (g : Items) (r : List ℕ) → drop p b ≡ encode g ++ r → Named g → NameStands b (space_in p g)
unfolding string_in string_size
member_name b p none r e n = absurd n
member_name b p (item l s ms rs) r e n = go (eqb l.kind unsigned) (eqb l.kind negative) (eqb l.kind text) refl
  where
    rest : List ℕ
    rest = (encode ms ++ encode rs) ++ r

    whole : drop p b ≡ lead_bytes l ++ (s ++ rest)
    whole = e ∙ simp append_assoc

    long : eqb l.kind text ≡ true → l.arg ≡ length s
    long q = sym (n.sized ∙ rw (eqb-true l.kind text q))

    go : (t u v : Bool) → eqb l.kind text ≡ v → NameStands b (cond t (number (pos l.arg)) (cond u (number (negsuc l.arg)) (cond v (name p s) relative)))
    go true u v q = tt
    go false true v q = tt
    go false false false q = tt
    go false false true q =
        let a : drop (p + size l) b ≡ s ++ rest = sym (drop-drop (size l) p b) ∙ rw whole (drop_at (lead_bytes l) (s ++ rest) (size l) (length_lead l)) in (
          omega (arith, length-drop p b, ap length whole, length-append (lead_bytes l) (s ++ rest), length_lead l),
          rw (head_is b p l (s ++ rest) whole n.head, a) (take_at s rest l.arg (sym (long q))),
        )

-- each listed name is the string at its place
pub names_stand : {m : Limits} {b : List ℕ} {g : Items} {n : ℕ} → Is m Message b g n → (e : Entry) → Memᴰ e (listing b) → NameStands b e.space
names_stand {b = b} c e k =
    let (r, at, is) = nothing_else_is_listed c e k in
    let p = r.first in
    let l = r.lead in
    let tail : List ℕ = drop ((entry_for r).after - p) (drop p b) in
    let front : List ℕ = lead_bytes l ++ r.str in
    let whole : drop p b ≡ front ++ (encode r.inside ++ tail) =
    sym (take-append-drop ((entry_for r).after - p) (drop p b)) ∙ rw (own_bytes c r at, append-nil) (simp append_assoc) in
    let long : length front ≡ size l + length r.str = simp length-append (omega (arith, length_lead l)) in
    rw (← is)
    (member_name b (inside_at p l r.str) r.inside tail
    (sym (drop-drop (size l + length r.str) p b) ∙ ap (drop (size l + length r.str)) whole ∙ drop_at front (encode r.inside ++ tail) (size l + length r.str) long)
    (own_namespace c r at))

found_at : (xs : List Spot) (k : ℕ) (d : Spot) → k < length xs → is_reference (get_or xs k d).slot (get_or xs k d).lead ≡ true → Memᴰ (get_or xs k d) (referring xs)
found_at [] k d h e = absurd (omega arith)
found_at (x ∷ xs) zero d h e = rw e (Memᴰ.head refl)
found_at (x ∷ xs) (suc k) d h e = go (is_reference x.slot x.lead) (found_at xs k d (omega arith) e)
  where
    go : (u : Bool) → Memᴰ (get_or xs k d) (referring xs) → Memᴰ (get_or xs k d) (cond u (x ∷ referring xs) (referring xs))
    go true m = Memᴰ.tail m
    go false m = m

-- A reference that the word of item k stands for.
pub record Here (b : List ℕ) (k first after : ℕ) (n : Namespace) : Type 0 where
  pub entry : Entry
  pub listed : listing_from b k ≡ entry ∷ listing_from b (k + 1)
  pub first_is : first ≡ entry.first
  pub after_is : after ≡ entry.after
  pub space_is : n ≡ space_code entry.space
  pub range : InRange entry.space
  pub name_is : NameStands b entry.space
  pub short : (first < 65536) × (after < 65536)

module _ {m : Limits} {b t : List ℕ} {n : ℕ} (c : Tabled m Message b n t) where
  pub from_start : listing b ≡ listing_from b 0
  unfolding listing listing_from
  from_start = refl

  pub from_end : (k : ℕ) → n ≤ k → k ≤ n → listing_from b k ≡ []
  unfolding listing_from
  from_end k h l =
      let e : k ≡ length (spots_of Message (decode b)) = omega (arith, spot_count c.is) in
      rw (e, drop-length (spots_of Message (decode b)))

  module _ (k : ℕ) (h : k < n) where
    abbrev x : Spot
    x = spot_number Message b k

    abbrev w : ℕ
    w = get_or t k 0

    abbrev is_one : Bool
    is_one = is_reference x.slot x.lead

    abbrev inner : ℕ
    inner = inside_at x.first x.lead x.str

    step : listing_from b k ≡ map ari.entry_of (cond is_one (x ∷ referring (drop (suc k) (spots_of Message (decode b)))) (referring (drop (suc k) (spots_of Message (decode b)))))
    unfolding listing_from
    step = rw (drop-cons (spots_of Message (decode b)) k no_spot (there c k h))

    begins : is_one ≡ true → x.first + size x.lead ≡ inner
    begins e = omega (arith, (fine_at c k h).sized, no_string x.slot x.lead e)

    members_at : drop inner b ≡ encode x.inside ++ drop x.after b
    members_at =
        let l : length (lead_bytes x.lead ++ x.str) ≡ size x.lead + length x.str = simp length-append (omega (arith, length_lead x.lead)) in
        rw (← drop-drop (size x.lead + length x.str) x.first b, covers_at c k h, ← append_assoc (lead_bytes x.lead) x.str (encode x.inside ++ drop x.after b))
        (drop_at (lead_bytes x.lead ++ x.str) (encode x.inside ++ drop x.after b) _ l)

    reference_is : reference_from b w ≡ cond is_one (To x.first x.after (namespace_of inner (head_at b inner))) Nothing
    unfolding reference_from
    reference_is = rw (item_at c k h, head_of_at c k h) (go is_one begins)
      where
        go : (z : Bool) {q : ℕ} → (z ≡ true → x.first + size x.lead ≡ q)
            → cond (eqb (cond z (size x.lead) 0) 0) Nothing (To x.first x.after (namespace_of (x.first + cond z (size x.lead) 0) (head_at b (x.first + cond z (size x.lead) 0))))
            ≡ cond z (To x.first x.after (namespace_of q (head_at b q))) Nothing
        go true f = rw (ne_eqb (size x.lead) 0 (λ e. omega arith), f refl)
        go false f = refl

    module _ {r : Reference} (f : r ≡ reference_from b w) where
      pub no_reference : r ≡ Nothing → listing_from b k ≡ listing_from b (k + 1)
      unfolding listing_from
      no_reference g = step ∙ rw add-one (go is_one (sym reference_is ∙ sym f ∙ g))
        where
          go : (z : Bool) → cond z (To x.first x.after (namespace_of inner (head_at b inner))) Nothing ≡ Nothing
              → map ari.entry_of (cond z (x ∷ referring (drop (suc k) (spots_of Message (decode b)))) (referring (drop (suc k) (spots_of Message (decode b)))))
              ≡ map ari.entry_of (referring (drop (suc k) (spots_of Message (decode b))))
          go true q = absurd (let z : ◌≡◌ {A = ℕ} 0 1 = cc in omega arith)
          go false q = refl

      pub here : {fst aft : ℕ} {s : Namespace} → r ≡ To fst aft s → Here b k fst aft s
      unfolding listing_from listing
      here {fst} {aft} {s} g = go is_one refl (sym reference_is ∙ sym f ∙ g)
        where
          go : (z : Bool) → is_one ≡ z → cond z (To x.first x.after (namespace_of inner (head_at b inner))) Nothing ≡ To fst aft s → Here b k fst aft s
          go true e u =
              let one = found_at (spots_of Message (decode b)) k no_spot (there c k h) e in
              let named : Named x.inside = own_namespace c.is (place_of x) (rw (← found_references c.is.stands) (Memᴰ.map place_of one)) in
              let ef : x.first ≡ fst = cc in
              let ea : x.after ≡ aft = cc in
              let es : namespace_of inner (head_at b inner) ≡ s = cc in
              record {
                entry = ari.entry_of x;
                listed = step ∙ rw (e, add-one k);
                first_is = sym ef;
                after_is = sym ea;
                space_is = sym es ∙ member_space b _ x.inside (drop x.after b) members_at named;
                range = numbers_in_range c.is (ari.entry_of x) (Memᴰ.map ari.entry_of one);
                name_is = names_stand c.is (ari.entry_of x) (Memᴰ.map ari.entry_of one);
                short = (omega (arith, ef, (short_at c k h).0), omega (arith, ea, (short_at c k h).1));
              }
          go false e u = absurd (let z : ◌≡◌ {A = ℕ} 0 1 = cc in omega arith)
