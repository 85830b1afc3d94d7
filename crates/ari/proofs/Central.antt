-- The reader accepts exactly the bytes of the items that are due.
use Prim.Native.Nat.{ℕ, zero, suc, pred, ◌+◌, ◌-◌, ◌≤◌}
use mathlib.Core.Logic.{◌↔◌}
use mathlib.Core.Path.{◌≡◌, refl, sym, ◌∙◌, ap}
use mathlib.Core.Bool.{Bool, true, false, not, ◌&&◌, cond}
use mathlib.Core.List.{List, [], ◌∷◌, ◌++◌}
use native.Mathlib.Omega.{arith}
use lib.ListN.{length, take, drop, length-append, take-append-drop}
use lib.Seq.{take_at, drop_at, length-take-le, drop-drop, drop-append-add}
use lib.Dec.{ltb, eqb}
use borrow.Author.Tests.{ltb-false, le-ltb, eqb-false, ne_eqb}
use Rattle.buffer.specs.Bytes.{all, is_byte}
use Rattle.cbor.specs.Head.{text, Lead, size, lead_bytes, Got, bad, got, get_head, string_size, is_container}
use Rattle.buffer.proofs.ByteLaws.{not-false, past, all_drop}
use Rattle.cbor.proofs.HeadLaws.{length_lead, get_head_back, get_head_forth}
use Rattle.ari.specs.Table.{message, Slot, ari, Level, done, due, rule, fits, members}
use Rattle.ari.specs.declared.Limits.{Limits}
use Rattle.ari.specs.declared.Input.{Input}
use Rattle.cbor.specs.Head.{key_bytes}
use Rattle.ari.specs.Reader.{Dues, end, sets, frame, push, wrong_version, not_greater, is_empty, Step, no, yes, judge, judge_content, judge_got, behind, Answer, refuse, accept, Go, take_step, visit_frame, visit, run, counted, first_slot, bottom, read}
use Rattle.ari.proofs.Join.{join}
use Rattle.ari.specs.Items.{Items, none, item, encode, heads}
use Rattle.ari.specs.Due.{Good, Due}
use Rattle.ari.proofs.Due.{due_sets, prev_after}
use Rattle.ari.proofs.Join.{encode_join, heads_join}

-- Items that are due on a level and behind it are those of the level and those behind it.
record Cut (g : Items) (v : Level) (prev : List ℕ) (d : ℕ) (ds : Dues) : Type 0 where
  front : Items
  back : Items
  whole : g ≡ join front back
  front_due : Due front (push v prev d end)
  back_due : Due back ds

cut : (g : Items) (v : Level) (prev : List ℕ) (d : ℕ) (ds : Dues) → Due g (push v prev d ds) → Cut g v prev d ds
cut none done prev d ds f = record { front = none; back = none; whole = refl; front_due = tt; back_due = f }
cut (item l str ms rs) done prev d ds f = record { front = none; back = item l str ms rs; whole = refl; front_due = tt; back_due = f }
cut none (due s n) prev d ds f = absurd f
cut (item l str ms rs) (due s n) prev d ds f =
    let c = cut rs ((rule s).next l.arg n) (prev_after s prev l str) d ds f.3 in
    record {
      front = item l str ms c.front;
      back = c.back;
      whole = ap (item l str ms) c.whole;
      front_due = (f.0, f.1, f.2, c.front_due);
      back_due = c.back_due;
    }

pub paste : (g h : Items) (v : Level) (prev : List ℕ) (d : ℕ) (ds : Dues) → Due g (push v prev d end) → Due h ds → Due (join g h) (push v prev d ds)
paste none h done prev d ds p q = q
paste none h (due s n) prev d ds p q = absurd p
paste (item l str ms rs) h done prev d ds p q = absurd p
paste (item l str ms rs) h (due s n) prev d ds p q =
    (p.0, p.1, p.2, paste rs h ((rule s).next l.arg n) (prev_after s prev l str) d ds p.3 q)

-- The tests 5 to 12, all passed.
not_yes : {r : ℕ} {l : Lead} {str : List ℕ} → no r ≡ yes l str → ⊥
not_yes e = let z : ◌≡◌ {A = ℕ} 0 1 = cc in omega arith

pub record Judged (left d : ℕ) (s : Slot) (prev : List ℕ) (l : Lead) (r str : List ℕ) : Type 0 where
  pub spare : eqb left 0 ≡ false
  pub shallow : (is_container l.kind && eqb d 0) ≡ false
  pub fitting : fits l.kind l.arg (rule s).rows ≡ true
  pub versioned : wrong_version (rule s).extra l.arg ≡ false
  pub there : string_size l ≤ length r
  pub string : str ≡ take (string_size l) r
  pub spelled : (eqb l.kind text && not ((rule s).spelling str)) ≡ false
  pub rising : not_greater (rule s).extra prev (key_bytes l str) ≡ false
  pub filled : is_empty (rule s).extra l.arg ≡ false

pub judged : (left d : ℕ) (s : Slot) (prev : List ℕ) (l : Lead) (r : List ℕ) {k : Lead} {str : List ℕ}
    → judge left d s prev l r ≡ yes k str → (l ≡ k) × Judged left d s prev l r str
unfolding judge judge_content
judged left d s prev l r {k} {str} e =
    let cut : List ℕ = take (string_size l) r in
    let (t5, e5) = past (eqb left 0) _ _ not_yes e in
    let (t6, e6) = past (is_container l.kind && eqb d 0) _ _ not_yes e5 in
    let (t7, e7) = past (not (fits l.kind l.arg (rule s).rows)) _ _ not_yes e6 in
    let (t8, e8) = past (wrong_version (rule s).extra l.arg) _ _ not_yes e7 in
    let (t9, e9) = past (ltb (length r) (string_size l)) _ _ not_yes e8 in
    let (t10, e10) = past (eqb l.kind text && not ((rule s).spelling cut)) _ _ not_yes e9 in
    let (t11, e11) = past (not_greater (rule s).extra prev (key_bytes l cut)) _ _ not_yes e10 in
    let (t12, e12) = past (is_empty (rule s).extra l.arg) _ _ not_yes e11 in
    let q : str ≡ take (string_size l) r = cc in (
      cc,
      record {
        spare = t5;
        shallow = t6;
        fitting = not-false _ t7;
        versioned = t8;
        there = ltb-false (length r) (string_size l) t9;
        string = q;
        spelled = rw q t10;
        rising = rw q t11;
        filled = t12;
      },
    )

string_cut : (h n : ℕ) (b str : List ℕ) → str ≡ take n (drop h b) → length str ≡ n → drop h b ≡ str ++ drop (h + length str) b
string_cut h n b str q l = rw (l, q, ← drop-drop n h b, take-append-drop n (drop h b))

same_left : {l m : ℕ} → accept l ≡ accept m → l ≡ m
same_left e = cc

pub not_accept : {r p m : ℕ} → refuse r p ≡ accept m → ⊥
not_accept e = let z : ◌≡◌ {A = ℕ} 0 1 = cc in omega arith

-- the place behind a head and its string
abbrev over : Lead → List ℕ → ℕ
over l str = size l + length str

-- a step that was taken
record Stepped (left : ℕ) (go : Go) (s : Slot) (n : ℕ) (prev : List ℕ) (d : ℕ) (ds : Dues) (p : ℕ) (b : List ℕ) (m : ℕ) : Type 0 where
  lead : Lead
  str : List ℕ
  good : Good s prev lead str
  shallow : (is_container lead.kind && eqb d 0) ≡ false
  spare : eqb left 0 ≡ false
  bytes : b ≡ lead_bytes lead ++ (str ++ drop (over lead str) b)
  goes : go (push (members s lead) [] (pred d) (behind s lead str n prev d ds)) (p + over lead str) (drop (over lead str) b) ≡ accept m

module _ (left : ℕ) (go : Go) (s : Slot) (n : ℕ) (prev : List ℕ) (d : ℕ) (ds : Dues) (p : ℕ) (b : List ℕ) (m : ℕ) (e : all is_byte b ≡ true) where
  from_step : (l : Lead) → get_head b ≡ got l → (y : Step) → judge left d s prev l (drop (size l) b) ≡ y
      → take_step go s n prev d ds p b y ≡ accept m → Stepped left go s n prev d ds p b m
  unfolding take_step
  from_step l g (no r) j t = absurd (not_accept t)
  from_step l g (yes k str) j t =
      let (q, y) = judged left d s prev l (drop (size l) b) j in
      let f = get_head_forth b e g in
      let z : length str ≡ string_size l = rw y.string (length-take-le (string_size l) (drop (size l) b) y.there) in
      record {
        lead = l;
        str = str;
        good = record {
          head = f.0;
          fitting = y.fitting;
          versioned = y.versioned;
          sized = z;
          spelled = y.spelled;
          rising = y.rising;
          filled = y.filled;
        };
        shallow = y.shallow;
        spare = y.spare;
        bytes = f.1 ∙ ap (λ (x : List ℕ). lead_bytes l ++ x) (string_cut (size l) (string_size l) b str y.string z);
        goes = rw q t;
      }

  from_got : (x : Got) → get_head b ≡ x → take_step go s n prev d ds p b (judge_got left d s prev x b) ≡ accept m → Stepped left go s n prev d ds p b m
  unfolding take_step judge_got
  from_got (bad r) g t = absurd (not_accept t)
  from_got (got l) g t = from_step l g (judge left d s prev l (drop (size l) b)) refl t

  stepped : visit_frame left go s n prev d ds p b ≡ accept m → Stepped left go s n prev d ds p b m
  stepped t = from_got (get_head b) refl t

-- An accepted run is the bytes of items that are due.
pub record Parse (left : ℕ) (ds : Dues) (b : List ℕ) (m : ℕ) : Type 0 where
  pub items : Items
  pub fit : Due items ds
  pub bytes : encode items ≡ b
  pub count : heads items + m ≡ left

grown : (left : ℕ) (go : Go) (s : Slot) (n : ℕ) (prev : List ℕ) (d : ℕ) (ds : Dues) (p : ℕ) (b : List ℕ) (m : ℕ) (w : Stepped (suc left) go s n prev d ds p b m)
    → Parse left (push (members s w.lead) [] (pred d) (behind s w.lead w.str n prev d ds)) (drop (over w.lead w.str) b) m
    → Parse (suc left) (frame s n prev d ds) b m
grown left go s n prev d ds p b m w q =
    let c = cut q.items (members s w.lead) [] (pred d) (behind s w.lead w.str n prev d ds) q.fit in
    let eb : encode c.front ++ encode c.back ≡ drop (over w.lead w.str) b = sym (encode_join c.front c.back) ∙ ap encode (sym c.whole) ∙ q.bytes in
    record {
      items = item w.lead w.str c.front c.back;
      fit = (w.good, w.shallow, c.front_due, c.back_due);
      bytes = rw eb (sym w.bytes);
      count = omega (arith, q.count, ap heads c.whole, heads_join c.front c.back);
    }

nothing_left : (ds : Dues) (left m : ℕ) → Due none ds → accept left ≡ accept m → Parse left ds [] m
nothing_left ds left m f r = record { items = none; fit = f; bytes = refl; count = omega (arith, same_left r) }

none_spare : (s : Slot) (n : ℕ) (prev : List ℕ) (d : ℕ) (ds : Dues) (p : ℕ) (b : List ℕ) (m : ℕ) → all is_byte b ≡ true
    → visit_frame 0 (λ ds p b. refuse 5 p) s n prev d ds p b ≡ accept m → ⊥
none_spare s n prev d ds p b m e r = eqb-false 0 0 (stepped 0 _ s n prev d ds p b m e r).spare refl

pub forth : (left : ℕ) (ds : Dues) (p : ℕ) (b : List ℕ) (m : ℕ) → all is_byte b ≡ true → run left ds p b ≡ accept m → Parse left ds b m
unfolding run visit
forth zero end p [] m e r = nothing_left end 0 m tt r
forth zero end p (x ∷ b) m e r = absurd (not_accept r)
forth zero (sets d) p [] m e r = nothing_left (sets d) 0 m tt r
forth zero (sets d) p (x ∷ b) m e r = absurd (none_spare (ari message) 0 [] d (sets d) p (x ∷ b) m e r)
forth zero (frame s n prev d ds) p b m e r = absurd (none_spare s n prev d ds p b m e r)
forth (suc left) end p [] m e r = nothing_left end (suc left) m tt r
forth (suc left) end p (x ∷ b) m e r = absurd (not_accept r)
forth (suc left) (sets d) p [] m e r = nothing_left (sets d) (suc left) m tt r
forth (suc left) (sets d) p (x ∷ b) m e r =
    let w = stepped (suc left) (run left) (ari message) 0 [] d (sets d) p (x ∷ b) m e r in
    let g = grown left (run left) (ari message) 0 [] d (sets d) p (x ∷ b) m w
    (forth left _ _ _ m (all_drop is_byte (over w.lead w.str) (x ∷ b) e) w.goes) in
    record { items = g.items; fit = due_sets d g.items g.fit; bytes = g.bytes; count = g.count }
forth (suc left) (frame s n prev d ds) p b m e r =
    let w = stepped (suc left) (run left) s n prev d ds p b m e r in
    grown left (run left) s n prev d ds p b m w (forth left _ _ _ m (all_drop is_byte (over w.lead w.str) b e) w.goes)

-- And the bytes of items that are due are accepted.
judge_back : (left d : ℕ) (s : Slot) (prev : List ℕ) (l : Lead) (str r : List ℕ) → Good s prev l str → (is_container l.kind && eqb d 0) ≡ false
    → judge (suc left) d s prev l (str ++ r) ≡ yes l str
unfolding judge judge_content
judge_back left d s prev l str r g q =
    rw (
      take_at str r (string_size l) g.sized,
      ne_eqb (suc left) 0 (λ e. omega arith),
      q,
      g.fitting,
      g.versioned,
      le-ltb (length (str ++ r)) (string_size l) (omega (arith, length-append str r, g.sized)),
      g.spelled,
      g.rising,
      g.filled,
    )

step_back : (left : ℕ) (go : Go) (s : Slot) (n : ℕ) (prev : List ℕ) (d : ℕ) (ds : Dues) (p : ℕ) (l : Lead) (str r : List ℕ) → Good s prev l str
    → (is_container l.kind && eqb d 0) ≡ false
    → visit_frame (suc left) go s n prev d ds p (lead_bytes l ++ (str ++ r)) ≡ go (push (members s l) [] (pred d) (behind s l str n prev d ds)) (p + over l str) r
unfolding take_step judge_got
step_back left go s n prev d ds p l str r g q =
    rw (get_head_back (str ++ r) g.head, drop_at (lead_bytes l) (str ++ r) (size l) (length_lead l), judge_back left d s prev l str r g q)
    (rw (← length_lead l, drop-append-add (lead_bytes l) (str ++ r) (length str), drop_at str r (length str) refl))

visit_sets : (left : ℕ) (go : Go) (d p : ℕ) (l : Lead) (r : List ℕ)
    → visit left go (sets d) p (lead_bytes l ++ r) ≡ visit_frame left go (ari message) 0 [] d (sets d) p (lead_bytes l ++ r)
unfolding visit lead_bytes
visit_sets left go d p l r = refl

pub back : (left m : ℕ) (g : Items) (ds : Dues) (p : ℕ) → Due g ds → heads g + m ≡ left → run left ds p (encode g) ≡ accept m
unfolding run visit
back zero m none end p f c = ap accept (omega arith)
back zero m none (sets d) p f c = ap accept (omega arith)
back zero m none (frame s n prev d ds) p f c = absurd f
back zero m (item l str ms rs) ds p f c = absurd (omega arith)
back (suc left) m none end p f c = ap accept (omega arith)
back (suc left) m none (sets d) p f c = ap accept (omega arith)
back (suc left) m none (frame s n prev d ds) p f c = absurd f
back (suc left) m (item l str ms rs) end p f c = absurd f
back (suc left) m (item l str ms rs) (sets d) p f c =
    let ds : Dues = behind (ari message) l str 0 [] d (sets d) in
    let j = paste ms rs (members (ari message) l) [] (pred d) ds f.2 f.3 in
    rw (← encode_join ms rs)
    (visit_sets (suc left) (run left) d p l (str ++ encode (join ms rs))
    ∙ step_back left (run left) (ari message) 0 [] d (sets d) p l str (encode (join ms rs)) f.0 f.1
    ∙ back left m (join ms rs) _ _ j (omega (arith, heads_join ms rs)))
back (suc left) m (item l str ms rs) (frame s n prev d ds) p f c =
    let j = paste ms rs (members s l) [] (pred d) (behind s l str n prev d ds) f.2 f.3 in
    rw (← encode_join ms rs)
    (step_back left (run left) s n prev d ds p l str (encode (join ms rs)) f.0 f.1 ∙ back left m (join ms rs) _ _ j (omega (arith, heads_join ms rs)))

-- The 'exactly if' of R47, over what is due.
abbrev pub start : Limits → Input → Dues
start m i = frame (first_slot i) 0 [] m.containers (bottom i m.containers)

pub record Reads (m : Limits) (i : Input) (b : List ℕ) (n : ℕ) : Type 0 where
  pub items : Items
  pub fit : Due items (start m i)
  pub bytes : encode items ≡ b
  pub count : heads items ≡ n
  pub short : length b ≤ m.bytes
  pub few : n ≤ m.items

module _ (m : Limits) (i : Input) (b : List ℕ) (n : ℕ) where
  from_run : all is_byte b ≡ true → length b ≤ m.bytes → (x : Answer) → run m.items (start m i) 0 b ≡ x → counted m.items x ≡ accept n → Reads m i b n
  from_run e h (refuse r p) q a = absurd (not_accept a)
  from_run e h (accept left) q a =
      let g = forth m.items (start m i) 0 b left e q in
      let c : m.items - left ≡ n = same_left a in
      record { items = g.items; fit = g.fit; bytes = g.bytes; count = omega (arith, g.count); short = h; few = omega arith }

  from_read : all is_byte b ≡ true → (t : Bool) → ltb m.bytes (length b) ≡ t
      → cond t (refuse 1 0) (counted m.items (run m.items (start m i) 0 b)) ≡ accept n → Reads m i b n
  from_read e true q a = absurd (not_accept a)
  from_read e false q a = from_run e (ltb-false m.bytes (length b) q) (run m.items (start m i) 0 b) refl a

  pub to_read : Reads m i b n → read m i b ≡ accept n
  unfolding read
  to_read r =
      rw (le-ltb m.bytes (length b) r.short, ← r.bytes, back m.items (m.items - n) r.items (start m i) 0 r.fit (omega (arith, r.count, r.few)))
      (ap accept (omega (arith, r.few)))

  pub accepts : all is_byte b ≡ true → (read m i b ≡ accept n) ↔ Reads m i b n
  unfolding read
  accepts e = (from_read e (ltb m.bytes (length b)) refl, to_read)
