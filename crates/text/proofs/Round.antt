-- R110, R111: what is written is read again, what is read is written again, and nothing else is read.
use Prim.Native.Nat.{ℕ, ◌+◌, ◌*◌, ◌≤◌, ◌<◌}
use mathlib.Core.Logic.{◌↔◌, ◌⊎◌, inl, inr}
use mathlib.Core.Path.{◌≡◌, refl, sym, ◌∙◌, ap, subst}
use mathlib.Core.Bool.{Bool, true, false, cond, true≢false}
use mathlib.Core.List.{List, []}
use native.Mathlib.Omega.{arith}
use lib.ListN.{length}
use lib.Dec.{ltb}
use borrow.Author.Tests.{ltb-true, ltb-false}
use Rattle.buffer.specs.Bytes.{all, is_byte, same}
use Rattle.buffer.proofs.ByteLaws.{same_is, same_self}
use Rattle.ari.specs.Table.{max64, alone, ari, due}
use Rattle.ari.specs.declared.Limits.{Limits}
use Rattle.ari.specs.declared.Input.TheVariants.{Single}
use Rattle.ari.specs.Reader.{Answer, refuse, accept, read}
use Rattle.ari.specs.Items.{Items, encode, heads}
use Rattle.ari.specs.Decode.{decode}
use Rattle.ari.specs.Rules.{Is}
use Rattle.ari.specs.Limits.{gate_limits, capped}
use Rattle.ari.specs.Shortened.{shortened, short_form}
use Rattle.ari.proofs.Shortened.{shortened_is}
use Rattle.ari.proofs.Demand.{stands_fit, demand_two, unique, is_read}
use Rattle.ari.proofs.Weight.{well_fit}
use Rattle.ari.proofs.Decoded.{heads_encode}
use Rattle.text.specs.Text.{text_of, Form, spelled, none_at, form}
use Rattle.text.specs.Parse.{candidate}
use Rattle.text.specs.Answer.{Output, refused, output, written, write_text, checked, read_text, Spelled, longest}
use Rattle.text.proofs.Bound.{text_most}
use Rattle.text.proofs.Short.{short_text, short_form_lem}
use Rattle.text.proofs.Outer.{candidate_back}
use Rattle.text.proofs.Octets.{candidate_bytes}

never : {r p n : ℕ} {t : List ℕ} → refused r p ≡ output t n → ⊥
never e = let z : ◌≡◌ {A = ℕ} 0 1 = cc in omega arith

text_of_lem : {t u : List ℕ} {n k : ℕ} → output t n ≡ output u k → t ≡ u
text_of_lem e = cc

count_of : {t u : List ℕ} {n k : ℕ} → output t n ≡ output u k → n ≡ k
count_of e = cc

module _ (m : Limits) where
  module _ {t b : List ℕ} {n : ℕ} where
    spelled_written : Spelled m t b n → write_text m b ≡ output t n
    unfolding write_text
    spelled_written c = rw (is_read m Single b c.is, c.has_text, c.the_text)

    -- its shortened form has the same text
    spelled_short : Spelled m t b n → Spelled m t (short_form b) n
    spelled_short c =
        let i : Is m Single (short_form b) (shortened (decode b)) n = shortened_is c.is in
        let u : shortened (decode b) ≡ decode (short_form b) = unique m Single (short_form b) i in
        record {
          is = subst (λ (g : Items). Is m Single (short_form b) g n) u i;
          has_text = subst (λ (g : Items). form g ≡ spelled) u (short_form_lem (decode b) c.has_text);
          the_text = subst (λ (g : Items). text_of g ≡ t) u (short_text (decode b) ∙ c.the_text);
        }

  -- what is written
  module _ {t b : List ℕ} {n : ℕ} (o : all is_byte b ≡ true) where
    written_spelled : write_text m b ≡ output t n → Spelled m t b n
    unfolding write_text
    written_spelled e = go (read m Single b) refl (form (decode b)) refl e
      where
        go : (x : Answer) → read m Single b ≡ x → (f : Form) → form (decode b) ≡ f → written x (decode b) ≡ output t n → Spelled m t b n
        go (refuse r p) q f g h = absurd (never h)
        go (accept k) q spelled g h =
            let h' : output (text_of (decode b)) k ≡ output t n = rw g at h in
            let i = (demand_two m Single b k o).0 q in
            let z : k ≡ n = cc in
            let y : text_of (decode b) ≡ t = cc in
            record { is = rw z at i; has_text = g; the_text = y }
        go (accept k) q (none_at p) g h = absurd (never (rw g at h))

    pub write_exactly : (write_text m b ≡ output t n) ↔ Spelled m t b n
    write_exactly = (written_spelled, spelled_written)

    -- an ARI's text leads back to it, in its shortened form
    spelled_back : Spelled m t b n → encode (candidate m t) ≡ short_form b
    spelled_back c =
        let i = c.is in
        let e : all is_byte (encode (decode b)) ≡ true = rw i.bytes o in
        let k : heads (decode b) ≤ m.items = omega (arith, i.count, i.few) in
        ap encode (ap (candidate m) (sym c.the_text) ∙ candidate_back m i.stands c.has_text e i.shallow k)

    -- R112
    pub text_length : Spelled m t b n → length t ≤ 4 + (3 * length b + 16 * n)
    text_length c =
        let i = c.is in
        rw (c.the_text, i.bytes, i.count) at (text_most (decode b) (well_fit (decode b) false (due (ari alone) 0) [] (stands_fit i.stands)))

  -- what the reader refuses is refused so
  pub write_refused : (b : List ℕ) (r p : ℕ) → read m Single b ≡ refuse r p → write_text m b ≡ refused r p
  unfolding write_text
  write_refused b r p e = rw e

  -- R64: an accepted ARI without a text is 14
  pub write_no_text : (b : List ℕ) (n p : ℕ) → all is_byte b ≡ true → Is m Single b (decode b) n → form (decode b) ≡ none_at p → write_text m b ≡ refused 14 p
  unfolding write_text
  write_no_text b n p o i e = rw ((demand_two m Single b n o).1 i, e)

  -- the candidate of a text, and whether it is written so
  abbrev tried : List ℕ → List ℕ
  tried t = encode (candidate m t)

  data Tried (t : List ℕ) (x : Output) : Type 0 where
    too_long : m.text < length t → x ≡ refused 1 0 → Tried t x
    no_text : length t ≤ m.text → ((n : ℕ) → write_text m (tried t) ≡ output t n → ⊥) → x ≡ refused 15 0 → Tried t x
    a_text : length t ≤ m.text → (n : ℕ) → write_text m (tried t) ≡ output t n → x ≡ output (tried t) n → Tried t x

  read_tried : (t : List ℕ) → Tried t (read_text m t)
  unfolding read_text
  read_tried t = go (ltb m.text (length t)) refl
    where
      fit : length t ≤ m.text → (w : Output) → write_text m (tried t) ≡ w → Tried t (checked t (tried t) w)
      fit h (refused r p) e = no_text h (λ n q. never (sym e ∙ q)) refl
      fit h (output u k) e = pick (same u t) refl
        where
          pick : (y : Bool) → same u t ≡ y → Tried t (cond y (output (tried t) k) (refused 15 0))
          pick true z = a_text h k (e ∙ ap (λ (v : List ℕ). output v k) (same_is u t z)) refl
          pick false z = no_text h (λ n q. true≢false (sym (ap (λ (v : List ℕ). same v t) (text_of_lem (sym e ∙ q)) ∙ same_self t) ∙ z)) refl

      go : (x : Bool) → ltb m.text (length t) ≡ x → Tried t (cond x (refused 1 0) (checked t (tried t) (write_text m (tried t))))
      go true e = too_long (ltb-true m.text (length t) e) refl
      go false e = fit (ltb-false m.text (length t) e) (write_text m (tried t)) refl

  -- Read and written again, the same text.
  pub read_write : (t b : List ℕ) (n : ℕ) → read_text m t ≡ output b n → write_text m b ≡ output t n
  read_write t b n e = go (read_tried t)
    where
      go : Tried t (read_text m t) → write_text m b ≡ output t n
      go (too_long h q) = absurd (never (sym q ∙ e))
      go (no_text h x q) = absurd (never (sym q ∙ e))
      go (a_text h k x q) = let z = sym q ∙ e in rw (← text_of_lem z, ← count_of z) x

  -- R110: a text is read exactly if it is the text of an accepted ARI, and not too long; what it gives is in shortest heads.
  module _ {t : List ℕ} (o : all is_byte t ≡ true) (f : length t < max64) where
    pub read_exactly : (b : List ℕ) (n : ℕ) → (read_text m t ≡ output b n) ↔ ((length t ≤ m.text) × (all is_byte b ≡ true) × Spelled m t b n × (b ≡ short_form b))
    read_exactly b n = (λ e. forth e (read_tried t), λ x. back x (read_tried t))
      where
        forth : read_text m t ≡ output b n → Tried t (read_text m t) → (length t ≤ m.text) × (all is_byte b ≡ true) × Spelled m t b n × (b ≡ short_form b)
        forth e (too_long h q) = absurd (never (sym q ∙ e))
        forth e (no_text h x q) = absurd (never (sym q ∙ e))
        forth e (a_text h k x q) =
            let z = sym q ∙ e in
            let c : all is_byte b ≡ true = rw (← text_of_lem z) (candidate_bytes m t (record { octets = o; short = f })) in
            let s = written_spelled {t = t} {b = b} {n = n} c (rw (← text_of_lem z, ← count_of z) x) in
            (h, c, s, sym (text_of_lem z) ∙ spelled_back c s)

        back : (length t ≤ m.text) × (all is_byte b ≡ true) × Spelled m t b n × (b ≡ short_form b) → Tried t (read_text m t) → read_text m t ≡ output b n
        back (h, c, s, d) (too_long l q) = absurd (omega arith)
        back (h, c, s, d) (no_text l x q) = absurd (x n (rw (spelled_back c s, ← d) (spelled_written s)))
        back (h, c, s, d) (a_text l k x q) =
            let y = spelled_back c s ∙ sym d in
            let z = sym (rw y at x) ∙ spelled_written s in
            rw (q, y, count_of z)

    -- R65: what is the text of no accepted ARI is 15
    pub read_no_text : (read_text m t ≡ refused 15 0) ↔ ((length t ≤ m.text) × ((b : List ℕ) (n : ℕ) → all is_byte b ≡ true → Spelled m t b n → ⊥))
    read_no_text = (λ e. forth e (read_tried t), λ x. back x (read_tried t))
      where
        forth : read_text m t ≡ refused 15 0 → Tried t (read_text m t) → (length t ≤ m.text) × ((b : List ℕ) (n : ℕ) → all is_byte b ≡ true → Spelled m t b n → ⊥)
        forth e (too_long h q) = absurd (let z : ◌≡◌ {A = ℕ} 1 15 = cc in omega arith)
        forth e (no_text h x q) = (h, λ b n c s. x n (rw (spelled_back c s) (spelled_written (spelled_short s))))
        forth e (a_text h k x q) = absurd (never (sym e ∙ q))

        back : (length t ≤ m.text) × ((b : List ℕ) (n : ℕ) → all is_byte b ≡ true → Spelled m t b n → ⊥) → Tried t (read_text m t) → read_text m t ≡ refused 15 0
        back (h, x) (too_long l q) = absurd (omega arith)
        back (h, x) (no_text l y q) = q
        back (h, x) (a_text l k y q) = let c = candidate_bytes m t (record { octets = o; short = f }) in absurd (x (tried t) k c (written_spelled c y))

  -- R51, R65: a text is refused by 1 or by 15
  pub read_refusals : (t : List ℕ) {r p : ℕ} → read_text m t ≡ refused r p → (r ≡ 1) ⊎ (r ≡ 15)
  read_refusals t {r} {p} e = go (read_tried t)
    where
      go : Tried t (read_text m t) → (r ≡ 1) ⊎ (r ≡ 15)
      go (too_long h q) = inl (let z : r ≡ 1 = cc in z)
      go (no_text h x q) = inr (let z : r ≡ 15 = cc in z)
      go (a_text h k x q) = absurd (never (sym e ∙ q))

  -- R51: a text that is too long is 1
  pub read_too_long : (t : List ℕ) → (read_text m t ≡ refused 1 0) ↔ (m.text < length t)
  read_too_long t = (λ e. forth e (read_tried t), λ h. back h (read_tried t))
    where
      forth : read_text m t ≡ refused 1 0 → Tried t (read_text m t) → m.text < length t
      forth e (too_long h q) = h
      forth e (no_text h x q) = absurd (let z : ◌≡◌ {A = ℕ} 1 15 = cc in omega arith)
      forth e (a_text h k x q) = absurd (never (sym e ∙ q))

      back : m.text < length t → Tried t (read_text m t) → read_text m t ≡ refused 1 0
      back h (too_long l q) = q
      back h (no_text l x q) = absurd (omega arith)
      back h (a_text l k x q) = absurd (omega arith)

  -- Accepted ARIs with the same text have the same shortened form.
  pub one_text_one_ari : (t b c : List ℕ) (n k : ℕ) → all is_byte b ≡ true → all is_byte c ≡ true → write_text m b ≡ output t n → write_text m c ≡ output t k → short_form b ≡ short_form c
  one_text_one_ari t b c n k o p e f = sym (spelled_back o (written_spelled o e)) ∙ spelled_back p (written_spelled p f)

  module _ (t b : List ℕ) (n : ℕ) (o : all is_byte b ≡ true) (e : write_text m b ≡ output t n) where
    pub text_bound : length t ≤ 4 + (3 * length b + 16 * n)
    text_bound = text_length o (written_spelled o e)

    pub text_short : length t ≤ longest m (length b)
    text_short =
        let i = (written_spelled o e).is in
        omega (arith, text_bound, i.short, i.few, i.count, heads_encode (decode b), ap length i.bytes)

    -- Written and read again, the shortened bytes.
    pub write_read : longest m m.bytes ≤ m.text → read_text m t ≡ output (short_form b) n
    write_read h = go (read_tried t)
      where
        c : Spelled m t b n
        c = written_spelled o e

        again : write_text m (short_form b) ≡ output t n
        again = spelled_written (spelled_short c)

        go : Tried t (read_text m t) → read_text m t ≡ output (short_form b) n
        go (too_long l q) = absurd (omega (arith, text_short, c.is.short))
        go (no_text l x q) = absurd (x n (rw (spelled_back o c) again))
        go (a_text l k x q) =
            let y = spelled_back o c in
            let z = sym (rw y at x) ∙ again in
            rw (q, y, count_of z)

-- Within limits that are none above the gate's own, no text is longer than the gate's own limit.
pub capped_longest : (m : Limits) (n : ℕ) → longest (capped m) n ≤ gate_limits.text
capped_longest m n = omega arith

-- Within the gate's own limits every written text is read again.
module _ (t b : List ℕ) (n : ℕ) (o : all is_byte b ≡ true) (e : write_text gate_limits b ≡ output t n) where
  pub first_short : length t ≤ gate_limits.text
  first_short = omega (arith, text_short gate_limits t b n o e)

  pub first_write_read : read_text gate_limits t ≡ output (short_form b) n
  first_write_read = write_read gate_limits t b n o e (omega arith)
