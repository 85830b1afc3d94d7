-- The walk that writes: an item with its members, the end of a level; one law for each way that a turn ends.
use Prim.Native.Nat.{ℕ, pred, ◌+◌, ◌-◌, ◌≤◌, ◌<◌}
use mathlib.Core.Path.{◌≡◌, refl, sym, ◌∙◌, ap}
use mathlib.Core.Bool.{Bool, true, false, ◌&&◌}
use mathlib.Core.List.{List, [], ◌++◌, append_assoc}
use native.Mathlib.Omega.{arith}
use native.Mathlib.Numerals.{sub-one}
use lib.ListN.{length, drop, length-append}
use lib.Seq.{drop-drop, drop-append_seam, take-append_seam}
use lib.Dec.{eqb}
use Rattle.cbor.specs.Head.{Lead, size, lead_bytes, is_container, Sound, counted, a_simple, a_float}
use Rattle.cbor.proofs.HeadLaws.{length_lead}
use Rattle.ari.specs.Table.{Level, done, due, rule, members}
use Rattle.ari.specs.Reader.{end, push}
use Rattle.ari.specs.Items.{Items, none, item, encode}
use Rattle.ari.proofs.Due.{prev_after}
use Rattle.ari.specs.Due as fit
use Rattle.grammar.specs.declared.Next.{Next}
use Rattle.grammar.specs.declared.Next.TheVariants.{Done, Due}
use Rattle.grammar.specs.Code.{slot_of, level_of, next_code, inside_code}
use Rattle.grammar.specs.Code.{IsSlot}
use Rattle.grammar.proofs.Right.{fits_right, next_right, inside_right}
use Rattle.grammar.proofs.Right.{next_slotted as slotted}
use Rattle.buffer.specs.Bytes.{part}
use Rattle.reader.specs.Walks.{inside_level}
use Rattle.text.specs.Text.{spell, texts}
use Rattle.buffer.specs.Put.{Put}
use Rattle.text_write_item.specs.Spellings.{spelling_at, before_by, after_by}
use Rattle.buffer.proofs.Putting.{put_nothing, put_both}
use Rattle.text_write_item.proofs.Spelled.{is_due, before_is, after_is}
use Rattle.std.specs.Prelude.{Option, None}
use Rattle.text_write.specs.declared.Item.{Item}
use Rattle.text_write.specs.declared.Pos.{Pos}
use Rattle.text_write.specs.Walks.{Inside, taken, ItemAt, Writes}

abbrev pub pos : ℕ → ℕ → Pos
pos p r = record { next = p; end = r }

-- the level has ended
pub ended : (b : List ℕ) (d p at : ℕ) (room : List ℕ) → p ≤ length b → Writes b done d p at (pos p at) room room
ended b d p at room h = record { on = omega arith; within = h; text_of_lem = go }
  where
    go : (g : Items) (prev z : List ℕ) → fit.Due g end → drop p b ≡ encode g ++ z → (p ≡ p + length (encode g)) × Put room room at at (texts g done)
    go none prev z f e = (omega arith, put_nothing room at)
    go (item l s ms rs) prev z f e = absurd f

-- no head may stand here
halted : (b : List ℕ) (i n d p at : ℕ) (room : List ℕ) {x : Option Item} → ItemAt b p i d x → x ≡ None → p ≤ length b → Writes b (due (slot_of i) n) d p at (pos p at) room room
halted b i n d p at room {x} y q h = record { on = omega arith; within = h; text_of_lem = go }
  where
    go : (g : Items) (prev z : List ℕ) → fit.Due g (push (due (slot_of i) n) prev d end) → drop p b ≡ encode g ++ z
        → (p ≡ p + length (encode g)) × Put room room at at (texts g (due (slot_of i) n))
    go none prev z f e = absurd f
    go (item l s ms rs) prev z f e =
        let t = sym q ∙ y.takes l s ((encode ms ++ encode rs) ++ z) prev f.0 f.1 (e ∙ simp append_assoc) in
        absurd (let z : ◌≡◌ {A = ℕ} 0 1 = cc in omega arith)

same_item : {k a f t k' a' f' t' : ℕ} → taken k a f t ≡ taken k' a' f' t' → (k ≡ k') × (a ≡ a') × (f ≡ f') × (t ≡ t')
same_item {k} {a} {f} {t} {k'} {a'} {f'} {t'} e =
    let d : ◌≡◌ {A = Item} (record { kind = k; arg = a; from = f; to = t }) (record { kind = k'; arg = a'; from = f'; to = t' }) = cc in
    (ap (λ (x : Item). x.kind) d, ap (λ (x : Item). x.arg) d, ap (λ (x : Item). x.from) d, ap (λ (x : Item). x.to) d)

inside_is : (i : ℕ) (l : Lead) → inside_level (slot_of i) l.kind l.arg ≡ members (slot_of i) l
unfolding members
inside_is i l = refl

-- the bytes behind a part
pub behind : (b : List ℕ) (p : ℕ) (u z : List ℕ) → drop p b ≡ u ++ z → drop (p + length u) b ≡ z
behind b p u z e = sym (drop-drop (length u) p b) ∙ rw e (drop-append_seam u z)

sound_kind : {l : Lead} → Sound l → l.kind ≤ 9
sound_kind (counted h c) = omega arith
sound_kind (a_simple e g h i) = omega arith
sound_kind (a_float h g i a b) = omega arith

-- A turn: the head was taken, what it writes was put around its members.
module _ (b : List ℕ) (i n d p at : ℕ) {x : Option Item} (y : ItemAt b p i d x) {k a f t : ℕ} (e : x ≡ taken k a f t) where
  abbrev shown : Inside b p d (taken k a f t)
  shown = rw e at y.inside

  pub taken_on : p < f
  taken_on = shown.0

  pub taken_order : f ≤ t
  taken_order = shown.1

  pub taken_in : t ≤ length b
  taken_in = shown.2

  pub taken_shallow : (is_container k && eqb d 0) ≡ false
  taken_shallow = shown.3

  module _ (v : IsSlot i) {nx : Next} (nn : nx ≡ next_code i a n) where
    -- of a head that may stand there
    next_is : {l : Lead} {str prev : List ℕ} → fit.Good (slot_of i) prev l str → k ≡ l.kind → a ≡ l.arg → level_of nx ≡ (rule (slot_of i)).next l.arg n
    next_is {l} g ek ea =
        let h = sound_kind g.head in
        rw (nn, ea) (next_right i l.kind l.arg n v h (fits_right i l.kind l.arg ∙ g.fitting)).level

    pub next_slotted : {j m : ℕ} → nx ≡ Due j m → IsSlot j
    next_slotted z = rw (← nn, z) at (slotted i a n v)

    module _ {room room₁ room₂ room₃ : List ℕ} {q q₃ : ℕ} {w : Pos} (before : Put room room₁ at q (before_by (spelling_at i) k a (part b f t)))
        (m : Writes b (inside_level (slot_of i) k a) (pred d) t q w room₁ room₂) (after : Put room₂ room₃ w.end q₃ (after_by (spelling_at i) k (is_due (level_of nx)))) where
      onward_text : {u : Pos} {room' : List ℕ} → Writes b (level_of nx) d w.next q₃ u room₃ room' → (g : Items) (prev z : List ℕ)
          → fit.Due g (push (due (slot_of i) n) prev d end) → drop p b ≡ encode g ++ z
          → (u.next ≡ p + length (encode g)) × Put room room' at u.end (texts g (due (slot_of i) n))
      onward_text s none prev z g c = absurd g
      onward_text {u} {room'} s (item l str ms rs) prev z g c =
          let rest : List ℕ = encode ms ++ (encode rs ++ z) in
          let c₁ : drop p b ≡ lead_bytes l ++ (str ++ rest) = c ∙ simp append_assoc in
          let (ek, ea, ef, et) = same_item (sym e ∙ y.takes l str rest prev g.0 g.1 c₁) in
          let ll : length (lead_bytes l) ≡ size l = length_lead l in
          let df : drop f b ≡ str ++ rest = rw (ef, ← ll) (behind b p (lead_bytes l) (str ++ rest) c₁) in
          let eft : t ≡ f + length str = omega arith in
          let dt : drop t b ≡ rest = rw eft (behind b f str rest df) in
          let ts : t - f ≡ length str = omega arith in
          let pt : part b f t ≡ str = rw (ts, df) (take-append_seam str rest) in
          let lv : inside_level (slot_of i) k a ≡ members (slot_of i) l = rw (ek, ea) (inside_is i l) in
          let nv : level_of nx ≡ (rule (slot_of i)).next l.arg n = next_is g.0 ek ea in
          let mi = m.text_of_lem ms [] (encode rs ++ z) (rw lv g.2) dt in
          let dn : drop w.next b ≡ encode rs ++ z = rw mi.0 (behind b t (encode ms) (encode rs ++ z) dt) in
          let si = s.text_of_lem rs (prev_after (slot_of i) prev l str) z (rw nv g.3) dn in
          let p₀ : Put room room₁ at q ((spell (slot_of i)).before l str) = rw (before_is i l str, ← ek, ← ea, ← pt) before in
          let p₁ : Put room₁ room₂ q w.end (texts ms (members (slot_of i) l)) = rw (← lv) mi.1 in
          let p₂ : Put room₂ room₃ w.end q₃ ((spell (slot_of i)).after l ((rule (slot_of i)).next l.arg n))
          = rw (after_is i l ((rule (slot_of i)).next l.arg n), ← ek, ← nv) after in
          let p₃ : Put room₃ room' q₃ u.end (texts rs ((rule (slot_of i)).next l.arg n)) = rw (← nv) si.1 in
          (simp length-append (omega (arith, mi.0, si.0)), put_both p₀ (put_both p₁ (put_both p₂ p₃)))

      onward : {u : Pos} {room' : List ℕ} → Writes b (level_of nx) d w.next q₃ u room₃ room' → Writes b (due (slot_of i) n) d p at u room room'
      onward s = record { on = omega (arith, shown.0, shown.1, m.on, s.on); within = s.within; text_of_lem = onward_text s }

-- What is due at p leads on: whatever ends it from here ends the whole from where the level began.
pub record Leads (b : List ℕ) (v₀ : Level) (d p₀ at₀ : ℕ) (room₀ : List ℕ) (v : Level) (p at : ℕ) (room : List ℕ) : Type 0 where
  pub then : {u : Pos} {room' : List ℕ} → Writes b v d p at u room room' → Writes b v₀ d p₀ at₀ u room₀ room'

pub begins : (b : List ℕ) (v : Level) (d p at : ℕ) (room : List ℕ) → Leads b v d p at room v p at room
begins b v d p at room = record { then = λ w. w }

module _ (b : List ℕ) (v₀ : Level) (d p₀ at₀ : ℕ) (room₀ : List ℕ) (i n p at : ℕ) (room : List ℕ) (lead : Leads b v₀ d p₀ at₀ room₀ (due (slot_of i) n) p at room)
    {x : Option Item} (y : ItemAt b p i d x) where
  pub halts : x ≡ None → p ≤ length b → Writes b v₀ d p₀ at₀ (pos p at) room₀ room
  halts q h = lead.then (halted b i n d p at room y q h)

  module _ {k a f t : ℕ} (e : x ≡ taken k a f t) (v : IsSlot i) {nx : Next} (nn : nx ≡ next_code i a n) {room₁ room₂ room₃ : List ℕ} {q q₃ : ℕ} {w : Pos}
      (before : Put room room₁ at q (before_by (spelling_at i) k a (part b f t))) (m : Writes b (inside_level (slot_of i) k a) (pred d) t q w room₁ room₂) where
    pub ends : nx ≡ Done → Put room₂ room₃ w.end q₃ (after_by (spelling_at i) k false) → Writes b v₀ d p₀ at₀ (pos w.next q₃) room₀ room₃
    ends z after =
        let z₁ : Put room₂ room₃ w.end q₃ (after_by (spelling_at i) k (is_due (level_of nx))) = rw z after in
        lead.then (onward b i n d p at y e v nn before m z₁ (rw z (ended b d w.next q₃ room₃ m.within)))

    pub again : {j l : ℕ} → nx ≡ Due j l → Put room₂ room₃ w.end q₃ (after_by (spelling_at i) k true) → Leads b v₀ d p₀ at₀ room₀ (due (slot_of j) l) w.next q₃ room₃
    again z after =
        let z₁ : Put room₂ room₃ w.end q₃ (after_by (spelling_at i) k (is_due (level_of nx))) = rw z after in
        record { then = λ s. lead.then (onward b i n d p at y e v nn before m z₁ (rw z s)) }

-- what is due inside a head
module _ (i k a : ℕ) {x : Next} (e : x ≡ inside_code i k a) (v : IsSlot i) where
  level_is : level_of x ≡ inside_level (slot_of i) k a
  level_is = rw e (inside_right i (record { info = 0; kind = k; arg = a }) v).level

  module _ (b : List ℕ) (d p at : ℕ) {room : List ℕ} where
    pub nothing_inside : x ≡ Done → p ≤ length b → Writes b (inside_level (slot_of i) k a) (pred d) p at (pos p at) room room
    nothing_inside q h = rw (← level_is, q) (ended b (pred d) p at room h)

    pub opened : {j m : ℕ} → x ≡ Due j m → {w : Pos} {room' : List ℕ} → Writes b (due (slot_of j) m) (d - 1) p at w room room'
        → Writes b (inside_level (slot_of i) k a) (pred d) p at w room room'
    opened q {w} {room'} y = rw (← level_is, q, ← sub-one d) y

pub falls_on : (n p f t q : ℕ) → p < f → f ≤ t → t ≤ q → q ≤ n → n - q < n - p
falls_on n p f t q h g k l = omega arith

pub ruleset writing = (taken_on, taken_order, taken_in, taken_shallow, next_slotted, begins, halts, ends, again, nothing_inside, opened)
