-- A message and a file, counted. The idea: what is held now, with what is still to be counted, gives what was held with all of it.
use Prim.Native.Nat.{ℕ, suc, ◌+◌, ◌-◌, ◌<◌, ◌≤◌}
use mathlib.Core.Path.{◌≡◌, refl, sym, ◌∙◌, ap}
use mathlib.Core.Bool.{true, false}
use mathlib.Core.List.{List, ◌∷◌, map}
use native.Mathlib.Omega.{arith}
use native.Mathlib.Numerals.{add-one}
use lib.ListN.{length, get_or}
use borrow.Author.Tests.{le-leb}
use mir.Syntax.{w8}
use mir.Val.{Fits}
use Rattle.buffer.proofs.ByteLaws.{all_bytes}
use Rattle.ari.specs.declared.Limits.{Limits}
use Rattle.ari.specs.declared.Input.TheVariants as input
use Rattle.ari.specs.Listing.{Space, number, name, relative, Entry}
use Rattle.ari.specs.Reader.{read, accept}
use Rattle.ari.proofs.Demand.{demand_two}
use Rattle.item_table.specs.Entries.{Tabled}
use Rattle.std.specs.declared.result.Result.{Result}
use Rattle.std.specs.declared.result.Result.TheVariants.{Ok, Err}
use Rattle.ari.specs.declared.Refusal.{Refusal}
use Rattle.ari.specs.Reader as ari
use Rattle.reader.specs.Results.{result_of}
use Rattle.reader.proofs.Results as results
use Rattle.listing.specs.declared.Reference.{Reference}
use Rattle.listing.specs.declared.Reference.TheVariants.{Nothing, To}
use Rattle.listing.specs.declared.Namespace.{Namespace}
use Rattle.listing.specs.Entries.{reference_from, space_code}
use Rattle.listing.proofs.Table.{listing_from, Here, from_start, from_end, no_reference, here}
use Rattle.names.specs.Translated.{stands_for, translate, translated, stands_by}
use Rattle.names.proofs.Translation.{stands_code}
use Rattle.day_file.specs.declared.Format.{Format}
use Rattle.day_file.specs.Day.{is_accepted, message_in, message_at, message_stands, messages_from, first_not}
use Rattle.day_file.proofs.Ways.{Passing, passing_none, all_pass, this_fails, this_passes}
use Rattle.month_figures.specs.Figures.{Message, space_of, message_with, Figures}
use Rattle.month.specs.declared.Tally.{Tally}
use Rattle.month.specs.Code.{with_space, with_spaces, with_code, with_size, with_message, with_messages, Held, Goes, sized, MessageWalked}
use Rattle.month.proofs.Counting.{size_counted}

-- as the code has it
with_code_lem : (x : Space) (f : Figures) → with_code (space_code x) f ≡ with_space x f
with_code_lem (number z) f = refl
with_code_lem (name p n) f = refl
with_code_lem relative f = refl

-- the references from item k on
abbrev rest : List ℕ → List ℕ → List ℕ → ℕ → List Space
rest b published own k = map space_of (map (translate published own) (listing_from b k))

pub record Spacing (b published own : List ℕ) (t₀ : Tally) (ps₀ cs₀ : List ℕ) (k : ℕ) (t : Tally) (ps cs : List ℕ) : Type 0 where
  pub on : (f : Figures) → Held t₀ ps₀ cs₀ f → (g : Figures) × Held t ps cs g × (with_spaces (rest b published own k) g ≡ with_spaces (map space_of (translated published own b)) f)

module _ {m : Limits} {b ws : List ℕ} {n : ℕ} (c : Tabled m input.Message b n ws) (published own : List ℕ) (t₀ : Tally) (ps₀ cs₀ : List ℕ) where
  pub spacing_none : Spacing b published own t₀ ps₀ cs₀ 0 t₀ ps₀ cs₀
  spacing_none = record { on = λ f h. (f, h, rw (from_start c)) }

  pub spacing_all : {k : ℕ} {t : Tally} {ps cs : List ℕ} → Spacing b published own t₀ ps₀ cs₀ k t ps cs → n ≤ k → k ≤ n
      → Goes t₀ ps₀ cs₀ (with_spaces (map space_of (translated published own b))) t ps cs
  spacing_all {k} {t} {ps} {cs} s h l = record { on = λ f x. let (g, y, e) = s.on f x in rw (← (rw (from_end c k h l) at e)) y }

  module _ {k : ℕ} {t : Tally} {ps cs : List ℕ} (s : Spacing b published own t₀ ps₀ cs₀ k t ps cs) (h : k < n) {r : Reference} (f : r ≡ reference_from b (get_or ws k 0)) where
    pub spacing_over : r ≡ Nothing → Spacing b published own t₀ ps₀ cs₀ (k + 1) t ps cs
    spacing_over g = record { on = λ x y. let (z, u, e) = s.on x y in (z, u, rw (no_reference c k h f g) at e) }

    pub spacing_one : {fst aft : ℕ} {v : Namespace} → r ≡ To fst aft v → {w : Namespace} → w ≡ stands_by published own b v → {t' : Tally} {ps' cs' : List ℕ} → Goes t ps cs (with_code w) t' ps' cs'
        → Spacing b published own t₀ ps₀ cs₀ (k + 1) t' ps' cs'
    spacing_one g {w} i {t'} {ps'} {cs'} step =
        let x : Here b k _ _ _ = here c k h f g in
        let y : Space = stands_for published own x.entry.space in
        let stands : w ≡ space_code y = i ∙ ap (stands_by published own b) x.space_is ∙ stands_code published own b x.entry.space x.name_is in
        record {
          on = λ a held.
              let (z, u, e) = s.on a held in
              let listed : rest b published own k ≡ y ∷ rest b published own (k + 1) = ap (λ (l : List Entry). map space_of (map (translate published own) l)) x.listed in
              let same : with_code w z ≡ with_space y z = ap (λ (q : Namespace). with_code q z) stands ∙ with_code_lem y z in
              (with_space y z, rw same at (step.on z u), rw listed at e);
        }

pub ruleset spacings = (spacing_none, spacing_all, spacing_over, spacing_one)

-- from the message's answer
module _ (m : Limits) (b published own : List ℕ) (t : Tally) (ps cs : List ℕ) {a : Result ℕ Refusal} (e : a ≡ result_of (read m input.Message b)) where
  pub message_refused : {i : Refusal} → a ≡ Err i → MessageWalked m b published own t ps cs (Err i) ps cs
  message_refused {i} f = record { by = go (read m input.Message b) (sym f ∙ e) }
    where
      go : (y : ari.Answer) → Err i ≡ result_of y → is_accepted y ≡ false
      go (ari.refuse r p) q = refl
      go (ari.accept n) q = absurd (let z : ◌≡◌ {A = ℕ} 0 1 = cc in omega arith)

  -- the items of an accepted message are its heads
  pub message_counted : ((j : ℕ) → Fits w8 (get_or b j 0)) → {n : ℕ} → a ≡ Ok n → {u : Tally} → u ≡ sized t (length b) n
      → {r : Tally} {ps' cs' : List ℕ} → Goes u ps cs (with_spaces (map space_of (translated published own b))) r ps' cs' → MessageWalked m b published own t ps cs (Ok r) ps' cs'
  message_counted bytes {n} f g s =
      let e : read m input.Message b ≡ accept n = results.is_accepted m input.Message b e f in
      let count = ((demand_two m input.Message b n (all_bytes b bytes)).0 e).count in
      record { by = (ap is_accepted e, record { on = λ x h. rw count (s.on (with_size (length b) n x) (rw g ((size_counted t ps cs (length b) n).on x h))) }) }

pub ruleset messages = (message_refused, message_counted)

message_there : (f : Format) (m : Limits) (b : List ℕ) (k : ℕ) (published own : List ℕ) (t : Tally) (ps cs : List ℕ) → k < 65536 → 8 ≤ length b → {x : List ℕ} → x ≡ message_at f b k
    → {w : Result Tally Refusal} {ps' cs' : List ℕ} → MessageWalked m x published own t ps cs w ps' cs' → MessageWalked m (message_in f b k) published own t ps cs w ps' cs'
unfolding message_at
message_there f m b k published own t ps cs h long e r =
    let there : message_in f b k ≡ message_at f b k = sym (rw (le-leb 8 (length b) long, le-leb k 65535 (omega arith))) in
    rw (there ∙ sym e) r

-- message by message
abbrev left : Format → List ℕ → List ℕ → List ℕ → ℕ → ℕ → List Message
left f b published own k n = map (message_with published own) (messages_from f b k n)

-- all messages of a file are counted, or the first that is refused is known
abbrev pub FileBy : Format → Limits → List ℕ → ℕ → List ℕ → List ℕ → Tally → List ℕ → List ℕ → Result Tally ℕ → List ℕ → List ℕ → Type 0
FileBy f m b n published own t ps cs (Ok t') ps' cs' =
    (n ≡ first_not (message_stands f m b) 0 n) × Goes t ps cs (with_messages (left f b published own 0 n)) t' ps' cs'
FileBy f m b n published own t ps cs (Err k) ps' cs' = (k ≡ first_not (message_stands f m b) 0 n) × (k < n)

pub record FileWalked (f : Format) (m : Limits) (b : List ℕ) (n : ℕ) (published own : List ℕ) (t : Tally) (ps cs : List ℕ) (r : Result Tally ℕ) (ps' cs' : List ℕ) : Type 0 where
  pub by : FileBy f m b n published own t ps cs r ps' cs'

pub record Filing (f : Format) (m : Limits) (b published own : List ℕ) (n : ℕ) (t₀ : Tally) (ps₀ cs₀ : List ℕ) (k : ℕ) (t : Tally) (ps cs : List ℕ) : Type 0 where
  pub passing : Passing (message_stands f m b) n k
  pub on : (x : Figures) → Held t₀ ps₀ cs₀ x → (g : Figures) × Held t ps cs g × (with_messages (left f b published own k (n - k)) g ≡ with_messages (left f b published own 0 n) x)

module _ (f : Format) (m : Limits) (b published own : List ℕ) (n : ℕ) (t₀ : Tally) (ps₀ cs₀ : List ℕ) where
  pub filing_none : Filing f m b published own n t₀ ps₀ cs₀ 0 t₀ ps₀ cs₀
  filing_none = let e : n - 0 ≡ n = omega arith in record { passing = passing_none (message_stands f m b) n; on = λ x h. (x, h, rw e) }

  module _ {k : ℕ} {t : Tally} {ps cs : List ℕ} (s : Filing f m b published own n t₀ ps₀ cs₀ k t ps cs) where
    pub filing_all : n ≤ k → k ≤ n → FileWalked f m b n published own t₀ ps₀ cs₀ (Ok t) ps cs
    filing_all h l =
        let at_end : k ≡ n = omega arith in
        let e : n - k ≡ 0 = omega arith in
        record {
          by = (
            sym at_end ∙ all_pass (message_stands f m b) n s.passing h l,
            record { on = λ x held. let (g, y, q) = s.on x held in rw (← (rw e at q)) y },
          );
        }

    module _ (h : k < n) (few : n < 65536) (long : 8 ≤ length b) {y : List ℕ} (i : y ≡ message_at f b k) {w : Result Tally Refusal} {ps' cs' : List ℕ} (v : MessageWalked m y published own t ps cs w ps' cs') where
      r : MessageWalked m (message_in f b k) published own t ps cs w ps' cs'
      r = message_there f m b k published own t ps cs (omega arith) long i v

      stands_as : message_stands f m b k ≡ is_accepted (read m input.Message (message_in f b k))
      unfolding message_stands
      stands_as = refl

      pub filing_refused : {i : Refusal} → w ≡ Err i → FileWalked f m b n published own t₀ ps₀ cs₀ (Err k) ps' cs'
      filing_refused g =
          let no-message : is_accepted (read m input.Message (message_in f b k)) ≡ false = rw g at r.by in
          record { by = (this_fails (message_stands f m b) n s.passing h {x = false} (sym (stands_as ∙ no-message)) refl, h) }

      pub filing_next : {t' : Tally} → w ≡ Ok t' → Filing f m b published own n t₀ ps₀ cs₀ (k + 1) t' ps' cs'
      filing_next {t'} g =
          let (taken, goes) = rw g at r.by in
          let z : n - k ≡ suc (n - (k + 1)) = omega arith in
          record {
            passing = this_passes (message_stands f m b) n s.passing h {x = true} (sym (stands_as ∙ taken)) refl;
            on = λ a held.
                let (q, y, i) = s.on a held in
                (with_message (message_with published own (message_in f b k)) q, goes.on q y, rw (z, ← add-one k) at i);
          }

pub ruleset files = (filing_none, filing_all, filing_refused, filing_next)
