-- Whole inputs: the sets of a message, the end of a single ARI, and the table of an accepted input.
use Prim.Native.Nat.{ℕ, zero, suc, ◌+◌, ◌-◌, ◌≤◌, ◌<◌}
use mathlib.Core.Path.{◌≡◌, refl, sym, ◌∙◌, ap}
use mathlib.Core.Bool.{true, false}
use mathlib.Core.List.{List, [], ◌∷◌, ◌++◌, map, map-append, append-nil, append_assoc}
use native.Mathlib.Omega.{arith}
use native.Mathlib.Nat.{sub-zero}
use lib.ListN.{length, get_or, drop, length-append, length-map, drop_of_length-le}
use lib.Seq.{drop-cons}
use borrow.Author.Tests.{lt-ltb, le-ltb}
use Rattle.buffer.proofs.Putting.{sets_append}
use Rattle.ari.specs.Table.{message, alone, Slot, version, ari, Level, done, due, rule, members}
use Rattle.ari.specs.declared.Limits.{Limits}
use Rattle.ari.specs.declared.Input.{Input}
use Rattle.ari.specs.declared.Input.TheVariants.{Single, Message}
use Rattle.ari.specs.Reader.{Dues, end, sets, frame, push, Answer, refuse, accept, visit, run, counted, first_slot, bottom, read}
use Rattle.ari.proofs.Join.{join}
use Rattle.ari.specs.Items.{Items, none, item, encode, heads, Spot, spots, spot_at, inside_at, spots_of}
use Rattle.ari.specs.Decode.{decode}
use Rattle.ari.specs.Due.{Due}
use Rattle.ari.proofs.Due.{due_sets, prev_after}
use Rattle.ari.proofs.Join.{encode_join, heads_join}
use Rattle.ari.proofs.Central.{paste}
use Rattle.ari.proofs.Weight.{decodes}
use Rattle.ari.specs.Listing.{referring}
use Rattle.ari.proofs.Referring.{referring_append}
use Rattle.item_table.specs.Entries.{entry_of}
use Rattle.item_table.proofs.References.{noted_append}
use Rattle.reader.specs.Walks.{Tables, both, kept_in, Walked, SetsHeld, SetsWalked, after_walk, after_sets}
use Rattle.reader.proofs.Tables.{spots_heads, both_are}
use Rattle.std.specs.declared.result.Result.{Result}
use Rattle.std.specs.declared.result.Result.TheVariants.{Ok, Err}
use Rattle.ari.specs.declared.Refusal.{Refusal}
use Rattle.ari.specs.Refusals.{refused}
use Rattle.reader.specs.declared.Read.{Read}
use Rattle.reader.specs.Walks.{read_to}
use Rattle.reader.specs.Results.{result_of, Keeps, Notes}

-- a level and the sets behind it
spots_join : (g h : Items) (v : Level) (prev : List ℕ) (d p around : ℕ) → Due g (push v prev d end)
    → spots (join g h) true v p around ≡ spots g false v p around ++ spots h true done (p + length (encode g)) around
spots_join none h done prev d p around f = let e : p + 0 ≡ p = omega arith in rw e
spots_join none h (due s n) prev d p around f = absurd f
spots_join (item l str ms rs) h done prev d p around f = absurd f
spots_join (item l str ms rs) h (due s n) prev d p around f =
    let q : ℕ = inside_at p l str + length (encode ms) in
    let i = spots_join rs h ((rule s).next l.arg n) (prev_after s prev l str) d q around f.3 in
    let e : p + length (encode (item l str ms rs)) ≡ q + length (encode rs)
    = simp length-append (omega (arith, Rattle.cbor.proofs.HeadLaws.length_lead l)) in
    rw (i, e) (ap (λ (x : List Spot). spot_at s p around l str ms ∷ x) (sym (append_assoc (spots ms false (members s l) (inside_at p l str) (suc around)) _ _)))

-- the table of a level and of the sets behind it
join_table : (v : Level) (g h : Items) (d p c q e : ℕ) (t : Tables) {t₁ z : Tables} → Due g (push v [] d end) → q ≡ p + length (encode g) → e ≡ c + heads g
    → t₁ ≡ kept_in t c (spots g false v p 0) → z ≡ kept_in t₁ e (spots h true done q 0) → z ≡ kept_in t c (spots (join g h) true v p 0)
join_table v g h d p c q e t {t₁} {z} f pl ce e₁ e₂ =
    let xs = spots g false v p 0 in
    let n : c + length (map entry_of xs) ≡ e = omega (arith, length-map xs entry_of, spots_heads g v [] d p 0 f) in
    let s : spots (join g h) true v p 0 ≡ xs ++ spots h true done q 0 = rw pl (spots_join g h v [] d p 0 f) in
    let ys = spots h true done q 0 in
    rw (e₂, e₁, s)
    (both_are
    (rw (map-append entry_of xs ys, sets_append t.items c (map entry_of xs) (map entry_of ys), n))
    (rw (referring_append xs ys, map-append entry_of (referring xs) (referring ys), noted_append t.references (map entry_of (referring xs)) (map entry_of (referring ys)))))

-- one more set is due where the sets go on
one_more : (g : Items) (d p around : ℕ) → Due g (frame (ari message) 0 [] d (sets d)) → spots g true done p around ≡ spots g true (due (ari message) 0) p around
one_more none d p around f = absurd f
one_more (item l str ms rs) d p around f = refl

-- at the sets, with something left, one more is due
run_sets : (left d p x : ℕ) (b : List ℕ) → run left (sets d) p (x ∷ b) ≡ run left (frame (ari message) 0 [] d (sets d)) p (x ∷ b)
unfolding run visit
run_sets zero d p x b = refl
run_sets (suc left) d p x b = refl

run_end : (left p : ℕ) → run left end p [] ≡ accept left
unfolding run visit
run_end zero p = refl
run_end (suc left) p = refl

run_more : (left p x : ℕ) (b : List ℕ) → run left end p (x ∷ b) ≡ refuse 13 p
unfolding run visit
run_more zero p x b = refl
run_more (suc left) p x b = refl

run_none : (left d p : ℕ) → run left (sets d) p [] ≡ accept left
unfolding run visit
run_none zero d p = refl
run_none (suc left) d p = refl

module _ (b : List ℕ) (items d p c : ℕ) where
  at_set : p < length b → (left : ℕ) → run left (sets d) p (drop p b) ≡ run left (frame (ari message) 0 [] d (sets d)) p (drop p b)
  at_set h left = rw (drop-cons b p 0 h) (run_sets left d p (get_or b p 0) (drop (suc p) b))

  pub sets_ended : {t : Tables} → length b ≤ p → p ≤ length b → c ≤ items → SetsWalked b items d p c (read_to p c) t t
  sets_ended h g n =
      let e : drop p b ≡ [] = drop_of_length-le b h in
      record {
        runs = rw e (ap result_of (run_none (items - c) d p));
        held = (record { tree = none; fit = tt; bytes = e; count = omega arith; table = refl }, n);
      }

  module _ (h : p < length b) {w : Result Read Refusal} {t t₁ : Tables} (v : Walked b items (due (ari message) 0) [] d 0 p c w t t₁) where
    pub sets_stopped : {f : Refusal} → w ≡ Err f → {z : Tables} → SetsWalked b items d p c (Err f) t z
    sets_stopped g =
        let y = rw g at v in
        record { runs = ap result_of (at_set h (items - c)) ∙ y.runs (sets d); held = tt }

    module _ {q e : ℕ} (g : w ≡ read_to q e) where
      abbrev y : Walked b items (due (ari message) 0) [] d 0 p c (read_to q e) t t₁
      y = rw g at v

      one_set : {e' : ℕ} {z : Tables} → SetsHeld b d q e e' t₁ z → SetsHeld b d p c e' t z
      one_set {e'} {z} u =
          let m = y.held.0 in
          let f : Due (join m.tree u.tree) (frame (ari message) 0 [] d (sets d))
          = paste m.tree u.tree (due (ari message) 0) [] d (sets d) m.fit u.fit in
          record {
            tree = join m.tree u.tree;
            fit = due_sets d (join m.tree u.tree) f;
            bytes = m.bytes ∙ ap (λ (x : List ℕ). encode m.tree ++ x) u.bytes ∙ sym (encode_join m.tree u.tree);
            count = omega (arith, m.count, u.count, heads_join m.tree u.tree);
            table = join_table (due (ari message) 0) m.tree u.tree d p c q e t m.fit m.place m.count m.table u.table
                ∙ ap (λ (x : List Spot). kept_in t c x) (sym (one_more (join m.tree u.tree) d p 0 f));
          }

      pub sets_on : {u : Result Read Refusal} {z : Tables} → SetsWalked b items d q e u t₁ z → SetsWalked b items d p c u t z
      sets_on {u} x = sets_of u x
        where
          sets_of : (u : Result Read Refusal) {z : Tables} → SetsWalked b items d q e u t₁ z → SetsWalked b items d p c u t z
          sets_of (Ok z') x = record { runs = ap result_of (at_set h (items - c)) ∙ y.runs (sets d) ∙ x.runs; held = (one_set x.held.0, x.held.1) }
          sets_of (Err f) x = record { runs = ap result_of (at_set h (items - c)) ∙ y.runs (sets d) ∙ x.runs; held = tt }

-- The loop over the sets: what ends the rest ends the whole.
pub record SetsLead (b : List ℕ) (items d p₀ c₀ : ℕ) (t₀ : Tables) (p c : ℕ) (t : Tables) : Type 0 where
  pub then : {w : Result Read Refusal} {z : Tables} → SetsWalked b items d p c w t z → SetsWalked b items d p₀ c₀ w t₀ z

pub sets_begin : (b : List ℕ) (items d p c : ℕ) (t : Tables) → SetsLead b items d p c t p c t
sets_begin b items d p c t = record { then = λ w. w }

pub sets_again : (b : List ℕ) (items d p₀ c₀ : ℕ) (t₀ : Tables) (p c : ℕ) (t : Tables) → SetsLead b items d p₀ c₀ t₀ p c t → p < length b
    → {w : Result Read Refusal} {t₁ : Tables} → Walked b items (due (ari message) 0) [] d 0 p c w t t₁ → {q e : ℕ} → w ≡ read_to q e → SetsLead b items d p₀ c₀ t₀ q e t₁
sets_again b items d p₀ c₀ t₀ p c t i h v g = record { then = λ y. i.then (sets_on b items d p c h v g y) }

pub sets_halt : (b : List ℕ) (items d p₀ c₀ : ℕ) (t₀ : Tables) (p c : ℕ) (t : Tables) → SetsLead b items d p₀ c₀ t₀ p c t → p < length b
    → {w : Result Read Refusal} {t₁ : Tables} → Walked b items (due (ari message) 0) [] d 0 p c w t t₁ → {f : Refusal} → w ≡ Err f → {z : Tables}
    → SetsWalked b items d p₀ c₀ (Err f) t₀ z
sets_halt b items d p₀ c₀ t₀ p c t i h v g = i.then (sets_stopped b items d p c h v g)

pub sets_done : (b : List ℕ) (items d p₀ c₀ : ℕ) (t₀ : Tables) (p c : ℕ) (t : Tables) → SetsLead b items d p₀ c₀ t₀ p c t → length b ≤ p → p ≤ length b → c ≤ items
    → SetsWalked b items d p₀ c₀ (read_to p c) t₀ t
sets_done b items d p₀ c₀ t₀ p c t i h g n = i.then (sets_ended b items d p c h g n)

-- items that were read, for items to spare
abbrev counted_of : ℕ → Result ℕ Refusal → Result ℕ Refusal
counted_of n (Ok left) = Ok (n - left)
counted_of n (Err e) = Err e

counted_is : (n : ℕ) (x : Answer) → result_of (counted n x) ≡ counted_of n (result_of x)
counted_is n (refuse r p) = refl
counted_is n (accept left) = refl

-- The answers.
module _ (b : List ℕ) (m : Limits) where
  abbrev bytes : ℕ
  bytes = m.bytes

  abbrev items : ℕ
  items = m.items

  abbrev d : ℕ
  d = m.containers

  -- test 1
  pub too_long : (i : Input) → bytes < length b → refused 1 0 ≡ result_of (read m i b)
  unfolding read
  too_long i h = rw (lt-ltb bytes (length b) h)

  module _ (h : length b ≤ bytes) where
    read_is : (i : Input) {r : Result ℕ Refusal} → result_of (run items (frame (first_slot i) 0 [] d (bottom i d)) 0 b) ≡ r → result_of (read m i b) ≡ counted_of items r
    unfolding read
    read_is i e = rw (le-ltb bytes (length b) h) (counted_is items (run items (frame (first_slot i) 0 [] d (bottom i d)) 0 b) ∙ ap (counted_of items) e)

    refuses : (i : Input) {f : Refusal} → result_of (run items (frame (first_slot i) 0 [] d (bottom i d)) 0 b) ≡ Err f → Err f ≡ result_of (read m i b)
    refuses i e = sym (read_is i e)

    accepts : (i : Input) {c : ℕ} → result_of (run items (frame (first_slot i) 0 [] d (bottom i d)) 0 b) ≡ Ok (items - c) → c ≤ items → Ok c ≡ result_of (read m i b)
    accepts i {c} e n = let k : items - (items - c) ≡ c = omega arith in rw (read_is i e, k)

    -- what was walked from the start of the input
    from_start : (s : Slot) {w : Result Read Refusal} {t t₁ : Tables} → Walked b items (due s 0) [] d 0 0 0 w t t₁ → (ds : Dues)
        → result_of (run items (frame s 0 [] d ds) 0 b) ≡ after_walk b items w ds
    from_start s v ds = rw (sub-zero items) at (v.runs ds)

    module _ {w : Result Read Refusal} {t u t₁ u₁ : List ℕ} (v : Walked b items (due (ari alone) 0) [] d 0 0 0 w (both t u) (both t₁ u₁)) where
      pub single_refused : {f : Refusal} → w ≡ Err f → Err f ≡ result_of (read m Single b)
      single_refused g = refuses Single (rw g at (from_start (ari alone) v end))

      module _ {q c : ℕ} (g : w ≡ read_to q c) where
        abbrev one : Walked b items (due (ari alone) 0) [] d 0 0 0 (read_to q c) (both t u) (both t₁ u₁)
        one = rw g at v

        pub single_more : q < length b → refused 13 q ≡ result_of (read m Single b)
        single_more n =
            let e : result_of (run items (frame (ari alone) 0 [] d end) 0 b) ≡ refused 13 q
            = from_start (ari alone) one end ∙ rw (drop-cons b q 0 n) (ap result_of (run_more (items - c) q (get_or b q 0) (drop (suc q) b))) in
            refuses Single e

        none_left : length b ≤ q → drop q b ≡ []
        none_left n = drop_of_length-le b n

        pub single_accepted : length b ≤ q → Ok c ≡ result_of (read m Single b)
        single_accepted n =
            accepts Single (from_start (ari alone) one end ∙ rw (none_left n) (ap result_of (run_end (items - c) q))) one.held.2

        single_table : length b ≤ q → both t₁ u₁ ≡ kept_in (both t u) 0 (spots_of Single (decode b))
        single_table n =
            let k = one.held.0 in
            let e : encode k.tree ≡ b = sym (append-nil (encode k.tree)) ∙ ap (λ (x : List ℕ). encode k.tree ++ x) (sym (none_left n)) ∙ sym k.bytes in
            let f : decode b ≡ k.tree = ap decode (sym e) ∙ decodes k.tree (frame (ari alone) 0 [] d end) k.fit in
            k.table ∙ ap (λ (x : Items). kept_in (both t u) 0 (spots_of Single x)) (sym f)

        pub single_kept : length b ≤ q → Keeps Single b (Ok c) t t₁
        single_kept n = record { kept = ap (λ (x : Tables). x.items) (single_table n) }

        pub single_noted : length b ≤ q → Notes Single b (Ok c) u u₁
        single_noted n = record { noted = ap (λ (x : Tables). x.references) (single_table n) }

    module _ {w : Result Read Refusal} {t u t₁ u₁ : List ℕ} (v : Walked b items (due version 0) [] d 0 0 0 w (both t u) (both t₁ u₁)) where
      pub message_refused : {f : Refusal} → w ≡ Err f → Err f ≡ result_of (read m Message b)
      message_refused g = refuses Message (rw g at (from_start version v (sets d)))

      module _ {q c : ℕ} (g : w ≡ read_to q c) {y : Result Read Refusal} {t₂ u₂ : List ℕ} (x : SetsWalked b items d q c y (both t₁ u₁) (both t₂ u₂)) where
        abbrev ver : Walked b items (due version 0) [] d 0 0 0 (read_to q c) (both t u) (both t₁ u₁)
        ver = rw g at v

        message_runs : result_of (run items (frame version 0 [] d (sets d)) 0 b) ≡ after_sets items y
        message_runs = from_start version ver (sets d) ∙ x.runs

        pub message_stopped : {f : Refusal} → y ≡ Err f → Err f ≡ result_of (read m Message b)
        message_stopped f = refuses Message (rw f at message_runs)

        module _ {q' e : ℕ} (f : y ≡ read_to q' e) where
          abbrev x' : SetsWalked b items d q c (read_to q' e) (both t₁ u₁) (both t₂ u₂)
          x' = rw f at x

          pub message_accepted : Ok e ≡ result_of (read m Message b)
          message_accepted = accepts Message (rw f at message_runs) x'.held.1

          message_table : both t₂ u₂ ≡ kept_in (both t u) 0 (spots_of Message (decode b))
          message_table =
              let k = ver.held.0 in
              let l = x'.held.0 in
              let g = join k.tree l.tree in
              let w : Due g (frame version 0 [] d (sets d)) = paste k.tree l.tree (due version 0) [] d (sets d) k.fit l.fit in
              let n : encode g ≡ b = encode_join k.tree l.tree ∙ ap (λ (z : List ℕ). encode k.tree ++ z) (sym l.bytes) ∙ sym k.bytes in
              let r : decode b ≡ g = ap decode (sym n) ∙ decodes g (frame version 0 [] d (sets d)) w in
              join_table (due version 0) k.tree l.tree d 0 0 q c (both t u) k.fit k.place k.count k.table l.table
              ∙ ap (λ (z : Items). kept_in (both t u) 0 (spots_of Message z)) (sym r)

          pub message_kept : Keeps Message b (Ok e) t t₂
          message_kept = record { kept = ap (λ (z : Tables). z.items) message_table }

          pub message_noted : Notes Message b (Ok e) u u₂
          message_noted = record { noted = ap (λ (z : Tables). z.references) message_table }

-- of a refused input no table is asked
pub unkept : (i : Input) (b : List ℕ) {f : Refusal} (t t' : List ℕ) → length t' ≡ length t → Keeps i b (Err f) t t'
unkept i b t t' l = record { kept = l }

pub unkept_later : (i : Input) (b : List ℕ) {f : Refusal} (t t₁ t' : List ℕ) → length t₁ ≡ length t → length t' ≡ length t₁ → Keeps i b (Err f) t t'
unkept_later i b t t₁ t' l l₁ = record { kept = l₁ ∙ l }

-- nor one of references
pub unnoted : (i : Input) (b : List ℕ) {f : Refusal} (t t' : List ℕ) → length t' ≡ length t → Notes i b (Err f) t t'
unnoted i b t t' l = record { noted = l }

pub unnoted_later : (i : Input) (b : List ℕ) {f : Refusal} (t t₁ t' : List ℕ) → length t₁ ≡ length t → length t' ≡ length t₁ → Notes i b (Err f) t t'
unnoted_later i b t t₁ t' l l₁ = record { noted = l₁ ∙ l }

pub noted_from : (i : Input) (b : List ℕ) {a : Result ℕ Refusal} {t t₁ t' : List ℕ} → t₁ ≡ t → Notes i b a t₁ t' → Notes i b a t t'
noted_from i b e k = rw e at k

pub ruleset single_ways = (too_long, single_refused, single_more, single_accepted, single_kept, single_noted, unkept, unnoted)

pub ruleset message_ways = (too_long, message_refused, message_stopped, message_accepted, message_kept, message_noted, unkept, unkept_later, unnoted, unnoted_later)

-- the answer for one input is the answer for that input
pub input_read : (m : Limits) (b : List ℕ) {i j : Input} → i ≡ j → {a : Result ℕ Refusal} → a ≡ result_of (read m j b) → a ≡ result_of (read m i b)
input_read m b e g = rw e g

pub input_kept : (b : List ℕ) {a : Result ℕ Refusal} {t t' : List ℕ} {i j : Input} → i ≡ j → Keeps j b a t t' → Keeps i b a t t'
input_kept b e k = rw e k

pub input_noted : (b : List ℕ) {a : Result ℕ Refusal} {t t' : List ℕ} {i j : Input} → i ≡ j → Notes j b a t t' → Notes i b a t t'
input_noted b e k = rw e k

pub ruleset of_input = (input_read, input_kept, input_noted)
