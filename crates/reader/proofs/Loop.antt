-- The walk's loop: one law for each way that a turn ends; the premises are the facts that the code leaves.
use Prim.Native.Nat.{ℕ, suc, pred, ◌+◌, ◌-◌, ◌≤◌}
use mathlib.Core.Path.{◌≡◌, refl, sym, ◌∙◌, ap}
use mathlib.Core.Bool.{true}
use mathlib.Core.List.{List, []}
use native.Mathlib.Omega.{arith}
use native.Mathlib.Numerals.{add-one}
use lib.ListN.{length, drop, set}
use lib.Seq.{length-take-le}
use Rattle.buffer.specs.Bytes.{all, is_byte}
use Rattle.cbor.specs.Head.{Lead, size, string_size, get_head, key_of}
use Rattle.ari.specs.Table.{Slot, ExtraTest, none, one, rising, filled, due, rule, members}
use Rattle.cbor.specs.Head.{key_bytes}
use Rattle.ari.specs.Reader.{key_after}
use Rattle.ari.proofs.Due.{prev_after}
use Rattle.grammar.specs.declared.Next.{Next}
use Rattle.grammar.specs.declared.Next.TheVariants.{Done, Due}
use Rattle.grammar.specs.Code.{slot_of, slot_number, level_of, fits_code, next_code}
use Rattle.grammar.specs.Code.{IsSlot}
use Rattle.grammar.proofs.Right.{number_slot, next_right}
use Rattle.ari.specs.Table.{is_reference}
use Rattle.item_table.specs.Entries.{packed, head_by, reference_head, reference_by}
use Rattle.item_table.specs.References.{place_for, reserved_for}
use Rattle.item_table.specs.References as references
use Rattle.item_table.proofs.Entries.{reference_head_lem}
use Rattle.buffer.specs.Bytes.{part}
use Rattle.reader.specs.Steps.{step_at, key_span}
use Rattle.reader.specs.Walks.{inside_level, Tables, both, Walked}
use Rattle.reader.proofs.Walking.{Took, took, ended, stopped, broken, onward}
use Rattle.reader.proofs.Keys.{ordered_kind, key_bytes_lem}
use Rattle.std.specs.declared.result.Result.{Result}
use Rattle.std.specs.declared.result.Result.TheVariants.{Ok, Err}
use Rattle.ari.specs.declared.Refusal.{Refusal}
use Rattle.reader.specs.declared.Taken.{Taken}
use Rattle.reader.specs.declared.Read.{Read}
use Rattle.reader.specs.Steps.{taken}
use Rattle.reader.specs.Walks.{read_to}

-- the members' level, by kind and argument
inside_is : (s : Slot) (l : Lead) → inside_level s l.kind l.arg ≡ members s l
unfolding members
inside_is s l = refl

-- whether a head is a reference, by kind and argument
reference_by_lem : (i k a : ℕ) (l : Lead) → l.kind ≡ k → l.arg ≡ a → is_reference (slot_of i) l ≡ reference_by i k a
unfolding is_reference
reference_by_lem i k a l ek ea = rw (← ek, ← ea)

-- The tables when the references that wait have their end.
abbrev pub settled : ℕ → Result Read Refusal → Tables → Tables
settled k (Ok x) z = both z.items (references.ended z.references k x.next)
settled k (Err f) z = z

-- What is due at p after the key before leads on: whatever ends it from here ends the whole from where the level began.
pub record Leads (b : List ℕ) (items : ℕ) (s₀ : Slot) (n₀ : ℕ) (prev₀ : List ℕ) (d₀ around₀ p₀ c₀ : ℕ) (t₀ : Tables) (s : Slot) (n : ℕ) (prev : List ℕ)
    (d around p c : ℕ) (t : Tables) (pend : ℕ) : Type 0 where
  pub then : {v : Result Read Refusal} {z : Tables} → Walked b items (due s n) prev d around p c v t z → Walked b items (due s₀ n₀) prev₀ d₀ around₀ p₀ c₀ v t₀ (settled pend v z)

-- where a level begins there is no key before
pub begins : (b : List ℕ) (items : ℕ) (s : Slot) (n d around p c : ℕ) (t : Tables) → Leads b items s n [] d around p c t s n (key_of (part b 0 0)) d around p c t 0
unfolding key_of get_head
begins b items s n d around p c t = record { then = λ {v} w. go v w }
  where
    go : (v : Result Read Refusal) {z : Tables} → Walked b items (due s n) [] d around p c v t z → Walked b items (due s n) [] d around p c v t (settled 0 v z)
    go (Ok q) w = w
    go (Err f) w = w

-- the bytes of a key are its head's and its string's
pub key_part : (b : List ℕ) → all is_byte b ≡ true → (left : ℕ) (s : Slot) (prev : List ℕ) (d p k a q : ℕ) (h : Took b p left d s prev k a q)
    → h.lead.kind ≤ 5 → key_bytes h.lead h.str ≡ key_of (part b p q)
key_part b bs left s prev d p k a q h kk =
    let l = h.lead in
    let r = drop (size l) (drop p b) in
    let z : length h.str ≡ string_size l = rw h.passed.string (length-take-le (string_size l) r h.passed.there) in
    let i : p + (size l + string_size l) ≡ q = rw (← z) h.after_is in
    rw h.passed.string (key_bytes_lem b p l bs h.head kk h.passed.there q i)

pub key_span_lem : (b : List ℕ) (o : ExtraTest) (f t p q : ℕ) (kb : List ℕ) → (o ≡ rising → kb ≡ key_of (part b p q))
    → key_after o (key_of (part b f t)) kb ≡ key_of (part b (key_span o f p) (key_span o t q))
key_span_lem b none f t p q kb e = refl
key_span_lem b one f t p q kb e = refl
key_span_lem b rising f t p q kb e = e refl
key_span_lem b filled f t p q kb e = refl

module _ (b : List ℕ) (bs : all is_byte b ≡ true) (items : ℕ) (s₀ : Slot) (n₀ : ℕ) (prev₀ : List ℕ) (d₀ around₀ p₀ c₀ : ℕ) (t₀ : Tables)
    (i n f t d around p c : ℕ) (tab : Tables) (pend : ℕ) (v : IsSlot i)
    (lead : Leads b items s₀ n₀ prev₀ d₀ around₀ p₀ c₀ t₀ (slot_of i) n (key_of (part b f t)) d around p c tab pend)
    {x : Result Taken Refusal} (e : x ≡ step_at b p (slot_of i) (key_of (part b f t)) (items - c) d) where
  -- the head is refused
  pub halts : {y : Refusal} → x ≡ Err y → {z : Tables} → Walked b items (due s₀ n₀) prev₀ d₀ around₀ p₀ c₀ (Err y) t₀ z
  halts {y} q {z} = lead.then (stopped b items (slot_of i) n (key_of (part b f t)) d around p c y tab z (sym e ∙ q))

  module _ {k a q₀ : ℕ} (q : x ≡ taken k a q₀) {w : Result Read Refusal} {res : List ℕ} {tab₁ : Tables}
      (m : Walked b items (inside_level (slot_of i) k a) [] (pred d) (suc around) q₀ (c + 1) w (both tab.items res) tab₁) where
    abbrev tk : Took b p (items - c) d (slot_of i) (key_of (part b f t)) k a q₀
    tk = took b p (items - c) d (slot_of i) (key_of (part b f t)) k a q₀ (sym e ∙ q)

    walked : Walked b items (members (slot_of i) tk.lead) [] (pred d) (suc around) q₀ (suc c) w (both tab.items res) tab₁
    walked = rw (← inside_is (slot_of i) tk.lead, tk.kind_is, tk.arg_is, ← add-one c) m

    -- the bytes of the head, if it is a reference
    head_is : head_by i k a (q₀ - p) ≡ reference_head (slot_of i) tk.lead
    head_is = reference_head_lem i k a (q₀ - p) tk.lead tk.kind_is tk.arg_is (λ z.
        let r = drop (size tk.lead) (drop p b) in
        omega (arith, ap length tk.passed.string, length-take-le (string_size tk.lead) r tk.passed.there, tk.after_is))

    -- a member is refused
    pub breaks : {y : Refusal} → w ≡ Err y → {z : Tables} → Walked b items (due s₀ n₀) prev₀ d₀ around₀ p₀ c₀ (Err y) t₀ z
    breaks g {z} =
        (lead.then (broken b bs items (slot_of i) n (key_of (part b f t)) d around p c k a q₀ tk (rw g at walked)))

    -- whether it is one
    reference_is : is_reference (slot_of i) tk.lead ≡ reference_by i k a
    reference_is = reference_by_lem i k a tk.lead tk.kind_is tk.arg_is

    module _ {q₁ e₁ : ℕ} (g : w ≡ read_to q₁ e₁) {pl : ℕ} {tab₂ : Tables} (taken : res ≡ reserved_for i k a tab.references) (at : pl ≡ place_for i k a tab.references)
        (put : tab₂.items ≡ set tab₁.items c (packed p q₁ around i (head_by i k a (q₀ - p))))
        (fill : tab₂.references ≡ references.filled tab₁.references pl (packed p q₁ around i (q₀ - p))) where
      own : reference_by i k a ≡ true → packed p q₁ around i (q₀ - p) ≡ packed p q₁ around (slot_number (slot_of i)) (reference_head (slot_of i) tk.lead)
      own y = rw (number_slot i v, ← head_is, y)

      -- what follows the item ends the level
      item : {u : Result Read Refusal} {z : Tables} → Walked b items ((rule (slot_of i)).next tk.lead.arg n) (prev_after (slot_of i) (key_of (part b f t)) tk.lead tk.str) d around q₁ e₁ u tab₂ z
          → Walked b items (due s₀ n₀) prev₀ d₀ around₀ p₀ c₀ u t₀ (settled pend u z)
      item y =
          lead.then (onward b bs items (slot_of i) n (key_of (part b f t)) d around p c k a q₀ tk i reference_is taken at (rw g at walked) (put ∙ rw (number_slot i v, head_is)) fill own y)

      module _ (kk : k ≤ 9) (fit : fits_code i k a ≡ true) {nx : Next} (nn : nx ≡ next_code i a n) where
        next_is : level_of nx ≡ (rule (slot_of i)).next tk.lead.arg n
        next_is = rw (nn, tk.arg_is) (next_right i k a n v kk fit).level

        pub ends : nx ≡ Done → q₁ ≤ length b → e₁ ≤ items → {refs : List ℕ} → refs ≡ references.ended tab₂.references pend q₁
            → Walked b items (due s₀ n₀) prev₀ d₀ around₀ p₀ c₀ (read_to q₁ e₁) t₀ (both tab₂.items refs)
        ends z h h' all =
            rw all (item (rw (← next_is, z) (ended b items _ d around q₁ e₁ tab₂ h h')))

        pub next_slotted : {j m' : ℕ} → nx ≡ Due j m' → IsSlot j
        next_slotted z = let s = (next_right i k a n v kk fit).slotted in rw (← nn, z) at s

        pub again : {j m' : ℕ} → nx ≡ Due j m' → {f' t' : ℕ} → f' ≡ key_span (rule (slot_of i)).extra f p → t' ≡ key_span (rule (slot_of i)).extra t q₀
            → Leads b items s₀ n₀ prev₀ d₀ around₀ p₀ c₀ t₀ (slot_of j) m' (key_of (part b f' t')) d around q₁ e₁ tab₂ pend
        again {j} {m'} z {f'} {t'} ef et =
            let kp : (rule (slot_of i)).extra ≡ rising → key_bytes tk.lead tk.str ≡ key_of (part b p q₀) = λ o.
            key_part b bs (items - c) (slot_of i) (key_of (part b f t)) d p k a q₀ tk (ordered_kind (slot_of i) tk.lead.kind tk.lead.arg o tk.passed.fitting) in
            let pv : prev_after (slot_of i) (key_of (part b f t)) tk.lead tk.str ≡ key_of (part b f' t')
            = rw (ef, et) (key_span_lem b (rule (slot_of i)).extra f t p q₀ (key_bytes tk.lead tk.str) kp) in
            record { then = λ y. item (rw (← next_is, z, pv) y) }

pub ruleset turns = (begins, halts, breaks, ends, again, next_slotted)
