-- From the answer and what was kept to the tables of an accepted input.
use Prim.Native.Nat.{ℕ, ◌*◌, ◌≤◌, ◌<◌, min}
use mathlib.Core.Path.{◌≡◌, sym, ◌∙◌, ap}
use mathlib.Core.List.{List}
use native.Mathlib.Omega.{arith}
use lib.ListN.{length, get_or, set, length-map}
use mir.Syntax.{w8}
use mir.Val.{Fits}
use Rattle.ari.specs.declared.Limits.{Limits}
use Rattle.ari.specs.declared.Input.{Input}
use Rattle.ari.specs.declared.Input.TheVariants.{Message}
use Rattle.ari.specs.Reader.{refuse, accept, read}
use Rattle.ari.specs.Reader as reader
use Rattle.ari.specs.Decode.{decode}
use Rattle.ari.specs.Rules.{Is}
use Rattle.ari.specs.Items.{spots_of}
use Rattle.ari.specs.Listing.{referring, listing}
use Rattle.ari.specs.Listing as ari
use Rattle.ari.proofs.Demand.{demand_two}
use Rattle.ari.proofs.ListingBound.{at_most_half}
use Rattle.item_table.specs.Entries.{Tabled}
use Rattle.item_table.specs.References.{Referenced}
use Rattle.item_table.proofs.Entries.{stored_table, fewer_than_bytes}
use Rattle.item_table.proofs.References.{noted_table}
use Rattle.std.specs.declared.result.Result.{Result}
use Rattle.std.specs.declared.result.Result.TheVariants.{Ok, Err}
use Rattle.ari.specs.declared.Refusal.{Refusal}
use Rattle.ari.specs.Refusals.{number_of, refusal_of, refused}
use Rattle.ari.proofs.Refusals.{Numbered, number_of-fault_of, read_numbered}
use Rattle.ari.proofs.Refusals as numbers
use Rattle.reader.specs.Results.{result_of, Keeps, Notes}
use Rattle.buffer.proofs.ByteLaws.{all_bytes}

was_accepted : (x : reader.Answer) {n : ℕ} → Ok n ≡ result_of x → x ≡ accept n
was_accepted (refuse r p) e = absurd (let z : ◌≡◌ {A = ℕ} 0 1 = cc in omega arith)
was_accepted (accept m) e = cc

was_refused : (x : reader.Answer) {e : Refusal} → Err e ≡ result_of x → {A : Type 0} (f : reader.Answer → Result A Refusal) → ((r p : ℕ) → f (refuse r p) ≡ refused r p) → Err e ≡ f x
was_refused (refuse r p) q f h = let z : refused r p ≡ f (refuse r p) = sym (h r p) in cc
was_refused (accept m) q f h = absurd (let z : ◌≡◌ {A = ℕ} 0 1 = cc in omega arith)

refused_back : (x : reader.Answer) → Numbered x → {e : Refusal} → Err e ≡ result_of x → x ≡ refuse (number_of e.fault) e.place
refused_back (refuse r p) (numbers.refused i) {e} q =
    let f : refusal_of r p ≡ e = cc in rw (← f) (ap (λ (k : ℕ). refuse k p) (sym (number_of-fault_of r i)))
refused_back (accept m) h q = absurd (let z : ◌≡◌ {A = ℕ} 0 1 = cc in omega arith)

-- What is answered of a refused input is its refusal, by whatever definition hands refusals on.
module _ (m : Limits) (i : Input) (b : List ℕ) {a : Result ℕ Refusal} (q : a ≡ result_of (read m i b)) where
  pub is_accepted : {n : ℕ} → a ≡ Ok n → read m i b ≡ accept n
  is_accepted f = was_accepted (read m i b) (sym f ∙ q)

  pub is_refused : {e : Refusal} → a ≡ Err e → {A : Type 0} (f : reader.Answer → Result A Refusal) → ((r p : ℕ) → f (refuse r p) ≡ refused r p) → Err e ≡ f (read m i b)
  is_refused g f h = was_refused (read m i b) (sym g ∙ q) f h

  -- with the rules' number
  pub read_refused : {e : Refusal} → a ≡ Err e → read m i b ≡ refuse (number_of e.fault) e.place
  read_refused g = refused_back (read m i b) (read_numbered m i b) (sym g ∙ q)

  pub tabled : {t t' : List ℕ} → Keeps i b a t t' → length t' ≡ length t → ((j : ℕ) → Fits w8 (get_or b j 0))
      → (min m.items (length b) ≤ length t) × (m.bytes < 65536) × (m.containers < 256) → {n : ℕ} → a ≡ Ok n → Tabled m i b n t'
  tabled {t} y l bytes fit {n} f =
      let kept = rw f at y in
      stored_table t ((demand_two m i b n (all_bytes b bytes)).0 (is_accepted f)) fit.1 fit.2 fit.0 l kept.kept

-- the references of a message are its listing's, at most half as many as items
pub as_many : (b : List ℕ) → length (referring (spots_of Message (decode b))) ≡ length (listing b)
unfolding listing
as_many b = sym (length-map (referring (spots_of Message (decode b))) ari.entry_of)

pub referenced : (m : Limits) (b : List ℕ) {a : Result ℕ Refusal} → a ≡ result_of (read m Message b) → (t : List ℕ) {t' : List ℕ} → Notes Message b a (set t 0 0) t' → ((j : ℕ) → Fits w8 (get_or b j 0))
    → (min m.items (length b) < 2 * length t) × (m.bytes < 65536) × (m.containers < 256) → {n : ℕ} → a ≡ Ok n → Referenced m Message b n t'
referenced m b e t y bytes fit {n} f =
    let kept = rw f at y in
    let is : Is m Message b (decode b) n = (demand_two m Message b n (all_bytes b bytes)).0 (is_accepted m Message b e f) in
    let few : length (referring (spots_of Message (decode b))) < length t = omega (arith, as_many b, at_most_half is, is.few, fewer_than_bytes is, fit.0) in
    noted_table t is fit.1 fit.2 few kept.noted
