-- A container that is the last of its level, where the table has no room for its entry: what ends the level inside it ends the whole, and the reference
-- that it is, with those that wait.
use Prim.Native.Nat.{ℕ, ◌+◌, ◌-◌, ◌≤◌, ◌<◌}
use mathlib.Core.Path.{◌≡◌, refl, sym, ap}
use mathlib.Core.Bool.{true, false, ◌&&◌}
use mathlib.Core.List.{List, [], map}
use native.Mathlib.Omega.{arith}
use lib.ListN.{length, set}
use lib.Seq.{sets, length-sets, set_out}
use lib.Dec.{eqb}
use Rattle.buffer.specs.Bytes.{all, is_byte, part}
use Rattle.cbor.specs.Head.{get_head, key_of, is_container}
use Rattle.ari.specs.Table.{Slot, Level, due}
use Rattle.ari.specs.Items.{spots}
use Rattle.ari.specs.Listing.{referring}
use Rattle.grammar.specs.declared.Next.{Next}
use Rattle.grammar.specs.declared.Next.TheVariants.{Due}
use Rattle.grammar.specs.Code.{slot_of, IsSlot, inside_code}
use Rattle.item_table.specs.Entries.{packed, head_by, entry_of}
use Rattle.item_table.specs.References.{place_for, reserved_for, filled, latest, noted, ended}
use Rattle.item_table.proofs.References.{Pending, all_get_it, still_waits, waits_on}
use Rattle.reader.specs.Steps.{step_at, Bounded}
use Rattle.reader.specs.Walks.{Tables, both, kept_in, Walked, LastShown}
use Rattle.reader.proofs.Bounds.{opens, opened, taken_kind, taken_fits}
use Rattle.reader.proofs.Loop.{Leads, settled, breaks, ends}
use Rattle.std.specs.declared.result.Result.{Result}
use Rattle.std.specs.declared.result.Result.TheVariants.{Ok, Err}
use Rattle.ari.specs.declared.Refusal.{Refusal}
use Rattle.reader.specs.declared.Taken.{Taken}
use Rattle.reader.specs.declared.Read.{Read}
use Rattle.reader.specs.Steps.{taken}
use Rattle.reader.specs.Walks.{read_to}

module _ (i a n room c pl : ℕ) {y : Next} {z : Next} (last : LastShown i a n room c pl y z) {j m : ℕ} (ez : z ≡ Due j m) where
  pub last_due : y ≡ Due j m
  last_due = (rw ez at last).0

pub last_opens : (i k a : ℕ) {y : Next} → y ≡ inside_code i k a → (n room c pl : ℕ) {z : Next} → LastShown i a n room c pl y z → {j m : ℕ} → z ≡ Due j m
    → (d : ℕ) → (is_container k && eqb d 0) ≡ false → 0 < d
last_opens i k a ey n room c pl last ez d s = opens i k a ey d (last_due i a n room c pl last ez) s

pub fewer : (d d₀ : ℕ) → d ≤ d₀ → d - 1 ≤ d₀
fewer d d₀ h = omega arith

-- where a walk ends does not hang on what the tables held
elsewhere : (b : List ℕ) (items : ℕ) (v : Level) (prev : List ℕ) (d around p c : ℕ) {q e : ℕ} {t t' : Tables} (w : Walked b items v prev d around p c (read_to q e) t t') (t₁ : Tables)
    → Walked b items v prev d around p c (read_to q e) t₁ (kept_in t₁ c (spots w.held.0.tree false v p around))
elsewhere b items v prev d around p c w t₁ =
    let h = w.held.0 in
    record {
      runs = w.runs;
      held = (record { tree = h.tree; fit = h.fit; bytes = h.bytes; place = h.place; count = h.count; table = refl }, w.held.1, w.held.2);
    }

module _ (b : List ℕ) (bs : all is_byte b ≡ true) (items : ℕ) (s₀ : Slot) (n₀ : ℕ) (prev₀ : List ℕ) (d₀ around₀ p₀ c₀ : ℕ) (t₀ : Tables)
    (i n f t d around p c : ℕ) (tab refs : List ℕ) (pend : ℕ) (v : IsSlot i)
    (lead : Leads b items s₀ n₀ prev₀ d₀ around₀ p₀ c₀ t₀ (slot_of i) n (key_of (part b f t)) d around p c (both tab refs) pend) (waits : Pending pend refs)
    {x : Result Taken Refusal} (e : x ≡ step_at b p (slot_of i) (key_of (part b f t)) (items - c) d) (h : Bounded b p c items d i x) {k a q₀ : ℕ} (q : x ≡ taken k a q₀)
    {y : Next} (ey : y ≡ inside_code i k a) {pl : ℕ} (at : pl ≡ place_for i k a refs) {res : List ℕ} (taken : res ≡ reserved_for i k a refs)
    {z : Next} (last : LastShown i a n (length tab) c pl y z) {j m : ℕ} (ez : z ≡ Due j m)
    {refs₁ : List ℕ} (fill : refs₁ ≡ filled res pl (packed p pend around i (q₀ - p))) {pend₁ : ℕ} (last_one : pend₁ ≡ latest pl pend) where
  abbrev shown : LastShown i a n (length tab) c pl y (Due j m)
  shown = rw ez at last

  finishes : (u : Result Read Refusal) {tab' : Tables} → Walked b items (due (slot_of j) m) [] (d - 1) (around + 1) q₀ (c + 1) u (both tab refs₁) tab'
      → Walked b items (due s₀ n₀) prev₀ d₀ around₀ p₀ c₀ u t₀ (settled pend₁ u tab')
  finishes (Err g) w =
      breaks b bs items s₀ n₀ prev₀ d₀ around₀ p₀ c₀ t₀ i n f t d around p c (both tab refs) pend v lead e q (opened i k a ey b items d around q₀ (c + 1) v shown.0 w) refl
  finishes (Ok x₁) {tab'} w =
      let q₁ = x₁.next in
      let xs = spots w.held.0.tree false (due (slot_of j) m) q₀ (around + 1) in
      let ws = map entry_of (referring xs) in
      let es = map entry_of xs in
      let word = packed p q₁ around i (head_by i k a (q₀ - p)) in
      let r : length tab ≤ c = shown.2 in
      let put : sets tab (c + 1) es ≡ set (sets tab (c + 1) es) c word = sym (set_out (sets tab (c + 1) es) c word (omega (arith, length-sets tab (c + 1) es))) in
      let w₁ = elsewhere b items (due (slot_of j) m) [] (d - 1) (around + 1) q₀ (c + 1) w (both tab res) in
      let all : ended (noted refs₁ ws) pend₁ q₁ ≡ ended (filled (noted res ws) pl (packed p q₁ around i (q₀ - p))) pend q₁
      = all_get_it i k a refs at taken waits p around i (q₀ - p) fill last_one q₁ ws in
      rw w.held.0.table
      (ends b bs items s₀ n₀ prev₀ d₀ around₀ p₀ c₀ t₀ i n f t d around p c (both tab refs) pend v lead e q (opened i k a ey b items d around q₀ (c + 1) v shown.0 w₁) refl
      {tab₂ = both (sets tab (c + 1) es) (filled (noted res ws) pl (packed p q₁ around i (q₀ - p)))} taken at put refl (taken_kind b p c items d i h q) (taken_fits b p c items d i h q) (sym shown.1) refl w.held.1 w.held.2 all)

  pub goes_inside : Leads b items s₀ n₀ prev₀ d₀ around₀ p₀ c₀ t₀ (slot_of j) m (key_of (part b 0 0)) (d - 1) (around + 1) q₀ (c + 1) (both tab refs₁) pend₁
  unfolding key_of get_head
  goes_inside = record { then = λ {v} w. finishes v w }

  pub goes_waiting : Pending pend₁ refs₁
  goes_waiting = still_waits i k a refs at taken waits p around i (q₀ - p) fill last_one shown.3

-- a reference that gets its end at once: those before it go on waiting
pub waits_behind : (i : ℕ) {x : Result Taken Refusal} {k a q₀ : ℕ} → x ≡ taken k a q₀ → (refs : List ℕ) {pl : ℕ} → pl ≡ place_for i k a refs → {res : List ℕ} → res ≡ reserved_for i k a refs → {pend : ℕ} → Pending pend refs
    → (b : List ℕ) (items : ℕ) (v : Level) (prev : List ℕ) (d around p c : ℕ) {w : Result Read Refusal} {q e : ℕ} {tab t₁ u₁ : List ℕ} → Walked b items v prev d around p c w (both tab res) (both t₁ u₁)
    → w ≡ read_to q e → (word : ℕ) {u₂ : List ℕ} → u₂ ≡ filled u₁ pl word → Pending pend u₂
waits_behind i {k = k} {a = a} _ refs at taken waits b items v prev d around p c {t₁ = t₁} {u₁ = u₁} m g word fill =
    let h = (rw g at m).held.0 in
    let es = map entry_of (referring (spots h.tree false v p around)) in
    waits_on i k a refs at taken waits es (ap (λ (z : Tables). z.references) h.table) word fill
