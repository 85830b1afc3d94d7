-- The references that match. The idea: what is found and what the entries from item k on give is the whole.
use Prim.Native.Nat.{ℕ, suc, ◌+◌, ◌-◌, ◌*◌, ◌<◌, ◌≤◌}
use mathlib.Core.Path.{◌≡◌, refl, sym, ◌∙◌, ap}
use mathlib.Core.Bool.{Bool, true, false}
use mathlib.Core.List.{List, [], ◌∷◌, ◌++◌, append-nil, append_assoc, map}
use native.Mathlib.Omega.{arith}
use lib.ListN.{length, get_or, length-append}
use lib.Seq.{sets}
use lib.Dec.{eqb}
use mir.Syntax.{w64}
use mir.Val.{Fits}
use Rattle.buffer.specs.Bytes.{be}
use Rattle.buffer.specs.Put.{Put}
use Rattle.buffer.proofs.ByteLaws.{length_be}
use Rattle.buffer.proofs.Putting.{sets_append, put_both}
use Rattle.ari.specs.declared.Limits.{Limits}
use Rattle.ari.specs.declared.Input.TheVariants.{Message}
use Rattle.ari.specs.Listing.{Space, number, name, relative, Entry}
use Rattle.ari.specs.Reader.{read}
use Rattle.item_table.specs.Entries.{Tabled}
use Rattle.item_table.proofs.Entries.{fewer_than_bytes}
use Rattle.std.specs.declared.result.Result.{Result}
use Rattle.std.specs.declared.result.Result.TheVariants.{Ok, Err}
use Rattle.ari.specs.declared.Refusal.{Refusal}
use Rattle.ari.specs.Reader as ari
use Rattle.reader.specs.Results.{result_of}
use Rattle.reader.proofs.Results.{is_accepted}
use Rattle.listing.specs.declared.Reference.{Reference}
use Rattle.listing.specs.declared.Reference.TheVariants.{Nothing, To}
use Rattle.listing.specs.declared.Namespace.{Namespace}
use Rattle.listing.specs.declared.Namespace.TheVariants as code
use Rattle.listing.specs.Entries.{reference_from, space_code}
use Rattle.listing.proofs.Table.{listing_from, Here, from_start, from_end, no_reference, here}
use Rattle.names.specs.Translated.{stands_for, translate, translated, stands_by}
use Rattle.names.proofs.Translation.{stands_code}
use Rattle.day_search.specs.Search.{Hit, is_word, hits_in, hit_bytes, hits_bytes}
use Rattle.day_search.specs.Tally.{is_sought, hits_by, hits_within, hits_over, Finds}
use Rattle.day_file.specs.declared.Format.{Format}
use Rattle.day_file.specs.Day.{first_at, message_at}
use native.Mathlib.Numerals.{add-one}

-- lengths
length_hit : (h : Hit) → length (hit_bytes h) ≡ 24
length_hit h =
    omega (arith, length-append (be 8 h.message) (be 8 h.first ++ be 8 h.after), length-append (be 8 h.first) (be 8 h.after), length_be 8 h.message, length_be 8 h.first, length_be 8 h.after)

pub length_hits : (hs : List Hit) → length (hits_bytes hs) ≡ 24 * length hs
length_hits [] = refl
length_hits (h ∷ hs) = omega (arith, length-append (hit_bytes h) (hits_bytes hs), length_hit h, length_hits hs)

hits_append : (xs ys : List Hit) → hits_bytes (xs ++ ys) ≡ hits_bytes xs ++ hits_bytes ys
hits_append [] ys = refl
hits_append (x ∷ xs) ys = ap (λ (l : List ℕ). hit_bytes x ++ l) (hits_append xs ys) ∙ sym (append_assoc (hit_bytes x) (hits_bytes xs) (hits_bytes ys))

-- none, and one after the other
pub finds_none : (o : List ℕ) (c : ℕ) → Finds o o c c []
finds_none o c = record { bytes = refl; count = omega arith }

finds_both : {o o' o'' : List ℕ} {c d e : ℕ} {hs gs : List Hit} → Finds o o' c d hs → Finds o' o'' d e gs → Finds o o'' c e (hs ++ gs)
finds_both {o} {o'} {o''} {c} {d} {e} {hs} {gs} p q =
    let place : 24 * c + length (hits_bytes hs) ≡ 24 * d = omega (arith, length_hits hs, p.count) in
    record {
      bytes = q.bytes ∙ sym (rw (hits_append hs gs, sets_append o (24 * c) (hits_bytes hs) (hits_bytes gs), place, ← p.bytes));
      count = omega (arith, length-append hs gs, p.count, q.count);
    }

-- the ways of `is_sought`
module _ (w : ℕ) {n x : Namespace} (e : n ≡ x) where
  pub sought_number : {v : ℕ} → n ≡ code.Number v → eqb v w ≡ is_sought w x
  sought_number g = rw (← e, g)

  pub sought_name : {p l : ℕ} → n ≡ code.Name p l → false ≡ is_sought w x
  sought_name g = rw (← e, g)

  pub sought_relative : n ≡ code.Relative → false ≡ is_sought w x
  sought_relative g = rw (← e, g)

pub ruleset seeks = (sought_number, sought_name, sought_relative)

-- as the code has it
sought_is : (w : ℕ) (x : Space) → is_sought w (space_code x) ≡ is_word w x
sought_is w (number z) = refl
sought_is w (name p n) = refl
sought_is w relative = refl

-- the entries from item k on, with what their namespaces stand for
abbrev rest : List ℕ → List ℕ → List ℕ → ℕ → List Entry
rest b published own k = map (translate published own) (listing_from b k)

pub record Finding (b published own : List ℕ) (w message base k : ℕ) (o o' : List ℕ) (c d : ℕ) : Type 0 where
  pub done : List Hit
  pub finds : Finds o o' c d done
  pub so_far : hits_in w message base (translated published own b) ≡ done ++ hits_in w message base (rest b published own k)

module _ {m : Limits} {b ws : List ℕ} {n : ℕ} (c : Tabled m Message b n ws) (published own : List ℕ) (w : ℕ) where
  pub finding_none : (message base : ℕ) (o : List ℕ) (d : ℕ) → Finding b published own w message base 0 o o d d
  finding_none message base o d = record { done = []; finds = finds_none o d; so_far = rw (from_start c) }

  pub finding_few : (e : ℕ) {d : ℕ} → d ≤ e + n → d ≤ e + m.items
  finding_few e h = omega (arith, c.is.few)

  pub place_fits : {d e k : ℕ} → k < n → d ≤ e + k → e < 4294967296 → Fits w64 (24 * d)
  place_fits h l s = record { fits = omega (arith, fewer_than_bytes c.is, c.is.short, c.small) }

  module _ {message base k : ℕ} {o o' : List ℕ} {d e : ℕ} (p : Finding b published own w message base k o o' d e) where
    pub finding_all : n ≤ k → k ≤ n → Finds o o' d e (hits_in w message base (translated published own b))
    finding_all h l = rw (p.so_far, from_end c k h l, append-nil) p.finds

    module _ (h : k < n) {r : Reference} (f : r ≡ reference_from b (get_or ws k 0)) where
      pub finding_over : r ≡ Nothing → Finding b published own w message base (k + 1) o o' d e
      finding_over g = record { done = p.done; finds = p.finds; so_far = p.so_far ∙ rw (no_reference c k h f g) }

      module _ {fst aft : ℕ} {v : Namespace} (g : r ≡ To fst aft v) where
        abbrev x : Here b k fst aft v
        x = here c k h f g

        -- places in the file
        pub first_fits : base < 4294967296 → Fits w64 (base + fst)
        first_fits l = record { fits = omega (arith, x.short.0) }

        pub after_fits : base < 4294967296 → Fits w64 (base + aft)
        after_fits l = record { fits = omega (arith, x.short.1) }

        module _ {y : Bool} (z : y ≡ is_sought w (stands_by published own b v)) where
          is_word_lem : y ≡ is_word w (stands_for published own x.entry.space)
          is_word_lem =
              z ∙ ap (is_sought w) (ap (stands_by published own b) x.space_is ∙ stands_code published own b x.entry.space x.name_is)
              ∙ sought_is w (stands_for published own x.entry.space)

          pub finding_miss : y ≡ false → Finding b published own w message base (k + 1) o o' d e
          finding_miss i = record { done = p.done; finds = p.finds; so_far = p.so_far ∙ rw (x.listed, ← is_word_lem, i) }

          pub finding_hit : y ≡ true → {o'' : List ℕ} → o'' ≡ sets o' (24 * e) (be 8 message ++ (be 8 (base + fst) ++ be 8 (base + aft)))
              → Finding b published own w message base (k + 1) o o'' d (e + 1)
          finding_hit i {o''} s =
              let this : Hit = record { message = message; first = base + x.entry.first; after = base + x.entry.after } in
              let its : be 8 message ++ (be 8 (base + fst) ++ be 8 (base + aft)) ≡ hits_bytes (this ∷ []) =
              ap (λ (j : ℕ). be 8 message ++ (be 8 (base + j) ++ be 8 (base + aft))) x.first_is ∙ ap (λ (j : ℕ). be 8 message ++ (be 8 (base + x.entry.first) ++ be 8 (base + j))) x.after_is
              ∙ sym (append-nil (hit_bytes this)) in
              let one : Finds o' o'' e (e + 1) (this ∷ []) = record { bytes = s ∙ ap (sets o' (24 * e)) its; count = omega arith } in
              record {
                done = p.done ++ (this ∷ []);
                finds = finds_both p.finds one;
                so_far = p.so_far ∙ rw (x.listed, ← is_word_lem, i) (sym (append_assoc p.done (this ∷ []) (hits_in w message base (rest b published own (k + 1)))));
              }

pub hit_put : {a b c d : List ℕ} {at p q r : ℕ} (x y z : ℕ) → Put a b at p (be 8 x) → Put b c p q (be 8 y) → Put c d q r (be 8 z) → d ≡ sets a at (be 8 x ++ (be 8 y ++ be 8 z))
hit_put x y z i j k = (put_both i (put_both j k)).bytes

pub ruleset findings = (finding_none, finding_few, place_fits, finding_all, finding_over, first_fits, after_fits, finding_miss, finding_hit)

-- from the message's answer
module _ (m : Limits) (b published own : List ℕ) (w message base : ℕ) {a : Result ℕ Refusal} (e : a ≡ result_of (read m Message b)) where
  pub none_found : (o : List ℕ) (c : ℕ) {i : Refusal} → a ≡ Err i → Finds o o c c (hits_within m published own w message base b)
  unfolding hits_within
  none_found o c {i} f = go (read m Message b) (sym f ∙ e)
    where
      go : (y : ari.Answer) → Err i ≡ result_of y → Finds o o c c (hits_by y w message base (translated published own b))
      go (ari.refuse r p) q = finds_none o c
      go (ari.accept n) q = absurd (let z : ◌≡◌ {A = ℕ} 0 1 = cc in omega arith)

  pub all_found : {o o' : List ℕ} {c d n : ℕ} → a ≡ Ok n → Finds o o' c d (hits_in w message base (translated published own b)) → Finds o o' c d (hits_within m published own w message base b)
  unfolding hits_within
  all_found f p = rw (is_accepted m Message b e f) p

pub ruleset messages = (none_found, all_found)

-- message by message
pub record Passing (f : Format) (m : Limits) (b published own : List ℕ) (w n k : ℕ) (o o' : List ℕ) (d : ℕ) : Type 0 where
  pub done : List Hit
  pub finds : Finds o o' 0 d done
  pub on : hits_over f m b published own w 0 n ≡ done ++ hits_over f m b published own w k (n - k)

module _ (f : Format) (m : Limits) (b published own : List ℕ) (w n : ℕ) where
  pub passing_none : (o : List ℕ) → Passing f m b published own w n 0 o o 0
  passing_none o = let e : n - 0 ≡ n = omega arith in record { done = []; finds = finds_none o 0; on = rw e }

  module _ {k d : ℕ} {o o' : List ℕ} (t : Passing f m b published own w n k o o' d) where
    pub passing_next : k < n → {x : List ℕ} → x ≡ message_at f b k → {base : ℕ} → base ≡ first_at f b k → {o'' : List ℕ} {e : ℕ} → Finds o' o'' d e (hits_within m published own w k base x)
        → Passing f m b published own w n (k + 1) o o'' e
    passing_next h {x} e {base} g u =
        let r : n - k ≡ suc (n - (k + 1)) = omega arith in
        let this : hits_within m published own w k (first_at f b k) (message_at f b k) ≡ hits_within m published own w k base x = rw (e, g) in
        record {
          done = t.done ++ hits_within m published own w k base x;
          finds = finds_both t.finds u;
          on =
              t.on ∙ rw (r, add-one k) (ap (λ (l : List Hit). t.done ++ (l ++ hits_over f m b published own w (suc k) (n - suc k))) this)
              ∙ sym (append_assoc t.done (hits_within m published own w k base x) (hits_over f m b published own w (suc k) (n - suc k))) ∙ (let z : suc k ≡ k + 1 = omega arith in rw z);
        }

    pub passing_all : n ≤ k → k ≤ n → Finds o o' 0 d (hits_over f m b published own w 0 n)
    passing_all h l = let q : n - k ≡ 0 = omega arith in rw (t.on, q, append-nil) t.finds

pub ruleset days = (passing_none, passing_next, passing_all)
