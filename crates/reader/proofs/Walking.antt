-- The laws of the walk: a head that is refused, an item with its members, the end of a level.
use Prim.Native.Nat.{ℕ, zero, suc, pred, ◌+◌, ◌-◌, ◌≤◌, ◌<◌}
use mathlib.Core.Path.{◌≡◌, refl, sym, ◌∙◌, ap}
use mathlib.Core.Bool.{true, false}
use mathlib.Core.List.{List, [], ◌++◌, append_assoc}
use native.Mathlib.Omega.{arith}
use lib.ListN.{length, drop, set, length-append, take-append-drop}
use lib.Seq.{drop-drop, length-take-le}
use borrow.Author.Tests.{eqb-false}
use Rattle.buffer.specs.Bytes.{all, is_byte}
use Rattle.cbor.specs.Head.{Lead, size, lead_bytes, Got, bad, got, get_head, string_size}
use Rattle.buffer.proofs.ByteLaws.{all_drop}
use Rattle.cbor.proofs.HeadLaws.{get_head_forth, length_lead}
use Rattle.ari.specs.Table.{Slot, Level, done, due, rule, members}
use Rattle.ari.specs.Reader.{Dues, end, frame, push, behind, key_after, judge, judge_got, Answer, refuse, take_step, visit, run}
use Rattle.ari.specs.Reader as reader
use Rattle.ari.specs.Items.{none, item, encode, heads, Spot, spots, inside_at}
use Rattle.ari.specs.Due.{Good}
use Rattle.ari.proofs.Due.{prev_after}
use Rattle.ari.proofs.Central.{Judged, judged}
use Rattle.grammar.specs.Code.{slot_number}
use Rattle.ari.specs.Table.{is_reference}
use Rattle.item_table.specs.Entries.{packed, reference_head, entry_of, reference_by}
use Rattle.item_table.specs.References.{filled, place_for, reserved_for}
use Rattle.reader.specs.Steps.{step_answer, step_at}
use Rattle.reader.specs.Walks.{Tables, both, Held, Walked}
use Rattle.reader.proofs.Tables.{spots_heads, item_kept}
use Rattle.std.specs.declared.result.Result.{Result}
use Rattle.std.specs.declared.result.Result.TheVariants.{Ok, Err}
use Rattle.ari.specs.declared.Refusal.{Refusal}
use Rattle.ari.specs.Refusals.{refusal_of}
use Rattle.reader.specs.declared.Read.{Read}
use Rattle.reader.specs.declared.Taken.{Taken}
use Rattle.reader.specs.Steps.{taken}
use Rattle.reader.specs.Walks.{read_to}
use Rattle.reader.specs.Results.{result_of}

-- a head that was taken
pub record Took (b : List ℕ) (p left d : ℕ) (s : Slot) (prev : List ℕ) (k a q : ℕ) : Type 0 where
  pub lead : Lead
  pub str : List ℕ
  pub head : get_head (drop p b) ≡ got lead
  pub judge_is : judge_got left d s prev (get_head (drop p b)) (drop p b) ≡ reader.yes lead str
  pub passed : Judged left d s prev lead (drop (size lead) (drop p b)) str
  pub kind_is : lead.kind ≡ k
  pub arg_is : lead.arg ≡ a
  pub after_is : inside_at p lead str ≡ q

-- what was taken, part by part
pub taken_same : {k a q k' a' q' : ℕ} → taken k a q ≡ taken k' a' q' → (k ≡ k') × (a ≡ a') × (q ≡ q')
taken_same {k} {a} {q} {k'} {a'} {q'} e =
    let z : ◌≡◌ {A = Taken} (record { kind = k; arg = a; after = q }) (record { kind = k'; arg = a'; after = q' }) = cc in
    (ap (λ (x : Taken). x.kind) z, ap (λ (x : Taken). x.arg) z, ap (λ (x : Taken). x.after) z)

module _ (b : List ℕ) (p left d : ℕ) (s : Slot) (prev : List ℕ) (k a q : ℕ) where
  took_got : (x : Got) → get_head (drop p b) ≡ x → (y : reader.Step) → judge_got left d s prev x (drop p b) ≡ y → step_answer p y ≡ taken k a q → Took b p left d s prev k a q
  unfolding judge_got
  took_got (bad r) g (reader.no r') j e = absurd (let z : ◌≡◌ {A = ℕ} 0 1 = cc in omega arith)
  took_got (bad r) g (reader.yes l str) j e = absurd (let z : ◌≡◌ {A = ℕ} 0 1 = cc in omega arith)
  took_got (got l) g (reader.no r') j e = absurd (let z : ◌≡◌ {A = ℕ} 0 1 = cc in omega arith)
  took_got (got l) g (reader.yes m str) j e =
      let (w, y) = judged left d s prev l (drop (size l) (drop p b)) j in
      let (ek, ea, eq) = taken_same e in
      record {
        lead = l;
        str = str;
        head = g;
        judge_is = rw (g, w) (rw w at j);
        passed = y;
        kind_is = rw w ek;
        arg_is = rw w ea;
        after_is = rw w eq;
      }

  pub took : step_at b p s prev left d ≡ taken k a q → Took b p left d s prev k a q
  unfolding step_at
  took e = took_got (get_head (drop p b)) refl (judge_got left d s prev (get_head (drop p b)) (drop p b)) refl e

-- The run at a frame: one step.
pub run_frame : (left : ℕ) (s : Slot) (n : ℕ) (prev : List ℕ) (d : ℕ) (ds : Dues) (p r : ℕ) (x : List ℕ) → judge_got left d s prev (get_head x) x ≡ reader.no r
    → run left (frame s n prev d ds) p x ≡ refuse r p
unfolding run visit take_step
run_frame zero s n prev d ds p r x e = rw e
run_frame (suc left) s n prev d ds p r x e = rw e

pub run_taken : (left : ℕ) (s : Slot) (n : ℕ) (prev : List ℕ) (d : ℕ) (ds : Dues) (p : ℕ) (x : List ℕ) (l : Lead) (str : List ℕ)
    → judge_got (suc left) d s prev (get_head x) x ≡ reader.yes l str
    → run (suc left) (frame s n prev d ds) p x
    ≡ run left (push (members s l) [] (pred d) (behind s l str n prev d ds)) (inside_at p l str) (drop (size l + length str) x)
unfolding run visit take_step
run_taken left s n prev d ds p x l str e = rw e

-- the level has ended
pub ended : (b : List ℕ) (items : ℕ) (prev : List ℕ) (d around p c : ℕ) (t : Tables) → p ≤ length b → c ≤ items
    → Walked b items done prev d around p c (read_to p c) t t
ended b items prev d around p c t h g = record {
  runs = λ ds. refl;
  held = (record { tree = none; fit = tt; bytes = refl; place = omega arith; count = omega arith; table = refl }, h, g);
}

-- a head is refused
pub stopped : (b : List ℕ) (items : ℕ) (s : Slot) (n : ℕ) (prev : List ℕ) (d around p c : ℕ) (f : Refusal) (t t' : Tables)
    → step_at b p s prev (items - c) d ≡ Err f → Walked b items (due s n) prev d around p c (Err f) t t'
unfolding step_at
stopped b items s n prev d around p c f t t' e = go (judge_got (items - c) d s prev (get_head (drop p b)) (drop p b)) refl e
  where
    go : (y : reader.Step) → judge_got (items - c) d s prev (get_head (drop p b)) (drop p b) ≡ y → step_answer p y ≡ Err f
        → Walked b items (due s n) prev d around p c (Err f) t t'
    go (reader.no r') j e =
        let z : refusal_of r' p ≡ f = cc in
        record { runs = λ ds. ap result_of (run_frame (items - c) s n prev d ds p r' (drop p b) j) ∙ ap Err z; held = tt }
    go (reader.yes l str) j e = absurd (let z : ◌≡◌ {A = ℕ} 0 1 = cc in omega arith)

-- An item: its head was taken, and its members were walked.
module _ (b : List ℕ) (bs : all is_byte b ≡ true) (items : ℕ) (s : Slot) (n : ℕ) (prev : List ℕ) (d around p c k a q₀ : ℕ)
    (h : Took b p (items - c) d s prev k a q₀) where
  -- the head is one of the items that may come
  pub spare : c < items
  spare = let m : items - c ≡ 0 → ⊥ = eqb-false (items - c) 0 h.passed.spare in omega arith

  left_is : items - c ≡ suc (items - suc c)
  left_is = let m : c < items = spare in omega arith

  pub runs_in : (ds : Dues) → run (items - c) (frame s n prev d ds) p (drop p b)
      ≡ run (items - suc c) (push (members s h.lead) [] (pred d) (behind s h.lead h.str n prev d ds)) q₀ (drop q₀ b)
  runs_in ds =
      let e : judge_got (suc (items - suc c)) d s prev (get_head (drop p b)) (drop p b) ≡ reader.yes h.lead h.str = rw left_is at h.judge_is in
      let f : p + (size h.lead + length h.str) ≡ q₀ = h.after_is in
      rw (left_is, run_taken (items - suc c) s n prev d ds p (drop p b) h.lead h.str e, drop-drop (size h.lead + length h.str) p b, f)

  -- a member is refused
  pub broken : {f : Refusal} {t tᵣ t₁ t' : Tables} → Walked b items (members s h.lead) [] (pred d) (suc around) q₀ (suc c) (Err f) tᵣ t₁
      → Walked b items (due s n) prev d around p c (Err f) t t'
  broken w = record { runs = λ ds. ap result_of (runs_in ds) ∙ w.runs (behind s h.lead h.str n prev d ds); held = tt }

  pub good : Good s prev h.lead h.str
  good = record {
    head = (get_head_forth (drop p b) (all_drop is_byte p b bs) h.head).0;
    fitting = h.passed.fitting;
    versioned = h.passed.versioned;
    sized = rw h.passed.string (length-take-le (string_size h.lead) (drop (size h.lead) (drop p b)) h.passed.there);
    spelled = h.passed.spelled;
    rising = h.passed.rising;
    filled = h.passed.filled;
  }

  -- the bytes of the head and its string
  pub head_bytes : drop p b ≡ lead_bytes h.lead ++ (h.str ++ drop q₀ b)
  head_bytes =
      let l = h.lead in
      let f = (get_head_forth (drop p b) (all_drop is_byte p b bs) h.head).1 in
      let z : length h.str ≡ string_size l = good.sized in
      let e : p + (size l + length h.str) ≡ q₀ = h.after_is in
      let u : drop (size l) (drop p b) ≡ h.str ++ drop q₀ b =
      sym (take-append-drop (string_size l) (drop (size l) (drop p b)))
      ∙ rw (← h.passed.string, drop-drop (string_size l) (size l) (drop p b), drop-drop (size l + string_size l) p b, ← z, e) in
      f ∙ ap (λ (x : List ℕ). lead_bytes l ++ x) u

  abbrev next : Level
  next = (rule s).next h.lead.arg n

  abbrev after : List ℕ
  after = prev_after s prev h.lead h.str

  -- what follows the item finishes the whole
  module _ (i : ℕ) {q e : ℕ} {t t₁ t₂ : Tables} {v pl : ℕ} {res : List ℕ} (is : is_reference s h.lead ≡ reference_by i k a) (taken : res ≡ reserved_for i k a t.references)
      (at : pl ≡ place_for i k a t.references)
      (w : Walked b items (members s h.lead) [] (pred d) (suc around) q₀ (suc c) (read_to q e) (both t.items res) t₁)
      (put : t₂.items ≡ set t₁.items c (packed p q around (slot_number s) (reference_head s h.lead)))
      (fill : t₂.references ≡ filled t₁.references pl v)
      (own : reference_by i k a ≡ true → v ≡ packed p q around (slot_number s) (reference_head s h.lead)) where
    together : {q' e' : ℕ} {z : Tables} → Held b next after d around q e q' e' t₂ z → Held b (due s n) prev d around p c q' e' t z
    unfolding entry_of
    together {q'} {e'} {z} f =
        let m = w.held.0 in
        let l = h.lead in
        let str = h.str in
        let ms = m.tree in
        let rs = f.tree in
        let j : inside_at p l str ≡ q₀ = h.after_is in
        let x : inside_at p l str + length (encode ms) ≡ q = rw j (sym m.place) in
        let xs = spots ms false (members s l) q₀ (suc around) in
        let hx : length xs ≡ heads ms = spots_heads ms (members s l) [] (pred d) q₀ (suc around) m.fit in
        let ll : length (lead_bytes l) ≡ size l = length_lead l in
        let y : Spot = record { slot = s; first = p; after = q; around = around; lead = l; str = str; inside = ms } in
        record {
          tree = item l str ms rs;
          fit = (good, h.passed.shallow, m.fit, f.fit);
          bytes = head_bytes ∙ rw (m.bytes, f.bytes) (simp append_assoc);
          place = simp (length-append) (omega (arith, m.place, f.place, j, ll));
          count = omega (arith, m.count, f.count);
          table = f.table
              ∙ rw (x, j)
              (item_kept t c (heads ms) i k a y xs (spots rs false next q around) hx m.count is taken at m.table put fill own);
        }

    onward_of : (u : Result Read Refusal) {z : Tables} → Walked b items next after d around q e u t₂ z → Walked b items (due s n) prev d around p c u t z
    onward_of (Ok q') y = record {
      runs = λ ds. ap result_of (runs_in ds) ∙ w.runs (behind s h.lead h.str n prev d ds) ∙ y.runs ds;
      held = (together y.held.0, y.held.1, y.held.2);
    }
    onward_of (Err f) y =
        record { runs = λ ds. ap result_of (runs_in ds) ∙ w.runs (behind s h.lead h.str n prev d ds) ∙ y.runs ds; held = tt }

    pub onward : {u : Result Read Refusal} {z : Tables} → Walked b items next after d around q e u t₂ z → Walked b items (due s n) prev d around p c u t z
    onward {u} y = onward_of u y
