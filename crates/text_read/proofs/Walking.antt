-- The walk that reads: one law for each way that a turn ends; the premises are the facts that the code leaves.
use Prim.Native.Nat.{ℕ, zero, suc, ◌+◌, ◌-◌, ◌≤◌, ◌<◌}
use Prim.Native.Char.{code}
use mathlib.Core.Path.{◌≡◌, refl, sym, ◌∙◌}
use mathlib.Core.Bool.{Bool, true, false}
use mathlib.Core.List.{List, [], ◌∷◌, ◌++◌, append_assoc}
use native.Mathlib.Omega.{arith}
use lib.ListN.{length, drop, get_or, length-append}
use lib.Dec.{leb}
use borrow.Author.Tests.{ne_eqb, leb-true, leb-false}
use Rattle.buffer.specs.Bytes.{within}
use Rattle.cbor.specs.Head.{Lead, lead_bytes}
use Rattle.cbor.proofs.HeadLaws.{length_lead}
use Rattle.ari.specs.Table.{Level, done, due, rule, members}
use Rattle.ari.specs.Items.{item, encode}
use Rattle.grammar.specs.declared.Next.{Next}
use Rattle.grammar.specs.declared.Next.TheVariants.{Done, Due}
use Rattle.grammar.specs.Code.{slot_of, level_of, next_code, inside_code}
use Rattle.grammar.specs.Code.{IsSlot}
use Rattle.grammar.proofs.Right.{next_stands, inside_right}
use Rattle.reader.specs.Walks.{inside_level}
use Rattle.buffer.specs.Put.{Put}
use Rattle.text_write_item.specs.Spellings.{spelling_at, after_by}
use Rattle.buffer.proofs.Putting.{put_nothing, put_out, put_other, put_size, put_end, put_over, put_both}
use Rattle.text_write_item.proofs.Spelled.{is_due, after_is}
use Rattle.text.specs.Text.{spell}
use Rattle.text.specs.Parse.{starts_by, Taken, take_at, Run, nothing, level, parse}
use Rattle.text_read_item.specs.declared.Item as read
use Rattle.text_read_item.specs.Words.{NextTo, Read}
use Rattle.text_read_item.proofs.WordWays.{type_arg}
use Rattle.text_read.specs.declared.Pos.{Pos}
use Rattle.text_read.specs.Parsed.{Parsed, Begins}

abbrev pub pos : ℕ → ℕ → Pos
pos p r = record { next = p; end = r }

-- nothing is read
pub idle : (t : List ℕ) (p at : ℕ) (room : List ℕ) → p ≤ length t → Parsed t (nothing (drop p t)) at room room (pos p at)
idle t p at room h = record { within = h; put = put_nothing room at; rest_is = λ f. refl }

level_done : (go : Level → List ℕ → Run) (k : ℕ) (t : List ℕ) → level go k done t ≡ nothing t
unfolding level
level_done go zero t = refl
level_done go (suc k) t = refl

parse_done : (k d : ℕ) (t : List ℕ) → parse k d done t ≡ nothing t
unfolding parse
parse_done k zero t = refl
parse_done k (suc d) t = level_done (parse k d) k t

parsed_as : {t : List ℕ} {x y : Run} {at : ℕ} {room room' : List ℕ} {w : Pos} → Parsed t x at room room' w → x ≡ y → Parsed t y at room room' w
parsed_as p e = rw e at p

-- inside a head
module _ (i k a : ℕ) {x : Next} (e : x ≡ inside_code i k a) (v : IsSlot i) where
  level_is : level_of x ≡ inside_level (slot_of i) k a
  level_is = rw e (inside_right i (record { info = 0; kind = k; arg = a }) v).level

  pub inner_slot : {j m : ℕ} → x ≡ Due j m → IsSlot j
  inner_slot q = rw (← e, q) at (inside_right i (record { info = 0; kind = k; arg = a }) v).slotted

module _ (t : List ℕ) (at items i k a end d : ℕ) where
  pub no_depth : {room : List ℕ} → at ≤ length t → d ≡ 0 → Parsed t (parse items d (inside_level (slot_of i) k a) (drop at t)) end room room (pos at end)
  unfolding parse
  no_depth {room} h e = rw e (idle t at end room h)

  module _ {x : Next} (e : x ≡ inside_code i k a) (v : IsSlot i) where
    pub nothing_inside : {room : List ℕ} → at ≤ length t → x ≡ Done → Parsed t (parse items d (inside_level (slot_of i) k a) (drop at t)) end room room (pos at end)
    nothing_inside {room} h q = parsed_as (idle t at end room h) (sym (rw (← level_is i k a e v, q) (parse_done items d (drop at t))))

    pub opened : {room room' : List ℕ} {w : Pos} {j m : ℕ} → x ≡ Due j m → (d ≡ 0 → ⊥) → Parsed t (level (parse items (d - 1)) items (due (slot_of j) m) (drop at t)) end room room' w
        → Parsed t (parse items d (inside_level (slot_of i) k a) (drop at t)) end room room' w
    unfolding parse
    opened {j = j} {m = m} q n p = parsed_as p (go d n)
      where
        go : (d : ℕ) → (d ≡ 0 → ⊥) → level (parse items (d - 1)) items (due (slot_of j) m) (drop at t) ≡ parse items d (inside_level (slot_of i) k a) (drop at t)
        go zero n = absurd (n refl)
        go (suc d) n = let z : suc d - 1 ≡ d = omega arith in rw (z, ← level_is i k a e v, q)

-- a level
module _ (t : List ℕ) (go : Level → List ℕ → Run) where
  pub out_of_fuel : (v : Level) (p at k : ℕ) (room : List ℕ) → k ≤ 0 → p ≤ length t → Parsed t (level go k v (drop p t)) at room room (pos p at)
  unfolding level
  out_of_fuel v p at zero room h g = idle t p at room g
  out_of_fuel v p at (suc k) room h g = absurd (omega arith)

  pub full : (i n p at k : ℕ) (room : List ℕ) → 0 < k → length room ≤ at → p ≤ length t → Parsed t (level go k (due (slot_of i) n) (drop p t)) at room room (pos p at)
  unfolding level
  full i n p at zero room h g l = absurd (omega arith)
  full i n p at (suc k) room h g l = record { within = l; put = put_out room at _ g; rest_is = λ f. absurd (never f) }
    where
      never : at + length (encode (level go (suc k) (due (slot_of i) n) (drop p t)).items) ≤ length room → ⊥
      never f =
          let y = take_at (slot_of i) (drop p t) in
          let l = y.head.lead in
          omega (arith, f, simp length-append at f, length_lead l)

-- a turn
module _ (t : List ℕ) (items d i n p at k : ℕ) {room room₁ : List ℕ} {x : read.Item} (y : Read t (take_at (slot_of i) (drop p t)) at room room₁ x) (v : IsSlot i) where
  abbrev h : Taken
  h = take_at (slot_of i) (drop p t)

  abbrev l : Lead
  l = h.head.lead

  small : within 5 8 i ≡ true → x.arg ≤ 21
  small q = rw y.arg_is (type_arg i (drop p t) q)

  module _ {nx : Next} (nn : nx ≡ next_code i x.arg n) where
    next_is : level_of nx ≡ (rule (slot_of i)).next l.arg n
    next_is = rw (← y.arg_is, nn) (next_stands i x.arg n v small).level

    pub next_slotted : {j m : ℕ} → nx ≡ Due j m → IsSlot j
    next_slotted q = rw (← nn, q) at (next_stands i x.arg n v small).slotted

    module _ {room₂ : List ℕ} {w : Pos} (m : Parsed t (parse items d (inside_level (slot_of i) x.kind x.arg) (drop x.next t)) x.end room₁ room₂ w)
        {s q : ℕ} (e : s ≡ length (after_by (spelling_at i) x.kind (is_due (level_of nx)))) (g : NextTo t w.next s q) where
      -- the members, and what is read beside them
      abbrev ms : Run
      ms = parse items d (members (slot_of i) l) h.rest

      ms_is : parse items d (inside_level (slot_of i) x.kind x.arg) (drop x.next t) ≡ ms
      unfolding members
      ms_is = rw (y.kind_is, y.arg_is, y.rest_is)

      m' : Parsed t ms x.end room₁ room₂ w
      m' = parsed_as m ms_is

      size_is : s ≡ length ((spell (slot_of i)).after l ((rule (slot_of i)).next l.arg n))
      size_is = e ∙ rw (after_is i l ((rule (slot_of i)).next l.arg n), ← next_is, y.kind_is)

      abbrev rest : Run
      rest = level (parse items d) k ((rule (slot_of i)).next l.arg n) (drop (length ((spell (slot_of i)).after l ((rule (slot_of i)).next l.arg n))) ms.rest)

      abbrev whole : Run
      whole = record { items = item l h.head.str ms.items rest.items; rest = rest.rest }

      level_whole : level (parse items d) (suc k) (due (slot_of i) n) (drop p t) ≡ whole
      unfolding level
      level_whole = refl

      module _ {room₃ : List ℕ} {z : Pos} (u : Parsed t (level (parse items d) k (level_of nx) (drop q t)) w.end room₂ room₃ z) where
        abbrev own : List ℕ
        own = lead_bytes l ++ h.head.str

        long : length (encode whole.items) ≡ length own + (length (encode ms.items) + length (encode rest.items))
        long =
            let s = h.head.str in
            let a = encode ms.items in
            let b = encode rest.items in
            omega (arith, length-append (lead_bytes l) (s ++ (a ++ b)), length-append s (a ++ b), length-append a b, length-append (lead_bytes l) s)

        -- the members fit, and the rest is read where they end
        u' : x.end + length (encode ms.items) ≤ length room₁ → Parsed t rest w.end room₂ room₃ z
        u' f =
            let behind : drop q t ≡ drop (length ((spell (slot_of i)).after l ((rule (slot_of i)).next l.arg n))) ms.rest = g.is ∙ rw (m'.rest_is f, size_is) in
            parsed_as u (rw (next_is, behind))

        -- they do not, and nothing more is put
        rest_put : (c : Bool) → leb (x.end + length (encode ms.items)) (length room₁) ≡ c → Put room₂ room₃ w.end z.end (encode rest.items)
        rest_put true e = (u' (leb-true (x.end + length (encode ms.items)) (length room₁) e)).put
        rest_put false e =
            let o : length room₁ ≤ w.end = put_over m'.put (leb-false (x.end + length (encode ms.items)) (length room₁) e) in
            put_other u.put (encode rest.items) (omega (arith, put_size m'.put))

        joined : Put room room₃ at z.end (encode whole.items)
        joined =
            let s = rest_put (leb (x.end + length (encode ms.items)) (length room₁)) refl in
            rw (append_assoc (lead_bytes l) h.head.str (encode ms.items ++ encode rest.items)) at (put_both y.put (put_both m'.put s))

        module _ (f : at + length (encode whole.items) ≤ length room) where
          head_end : x.end ≡ at + length own
          head_end = put_end y.put (omega (arith, long))

          inside_fits : x.end + length (encode ms.items) ≤ length room₁
          inside_fits = omega (arith, long, head_end, put_size y.put)

          inside_end : w.end ≡ x.end + length (encode ms.items)
          inside_end = put_end m'.put inside_fits

          rest_fits : w.end + length (encode rest.items) ≤ length room₂
          rest_fits = omega (arith, long, head_end, inside_end, put_size y.put, put_size m.put)

        turned : Parsed t (level (parse items d) (suc k) (due (slot_of i) n) (drop p t)) at room room₃ z
        turned = parsed_as (record {
          within = u.within;
          put = joined;
          rest_is = λ f. (u' (inside_fits f)).rest_is (rest_fits f);
        }) (sym level_whole)

-- What finishes the rest finishes the whole.
pub record Toward (t : List ℕ) (run : Run) (at : ℕ) (room : List ℕ) (run' : Run) (at' : ℕ) (room₁ : List ℕ) : Type 0 where
  pub then : {room' : List ℕ} {w : Pos} → Parsed t run' at' room₁ room' w → Parsed t run at room room' w

pub begins : (t : List ℕ) (run : Run) (at : ℕ) (room : List ℕ) → Toward t run at room run at room
begins t run at room = record { then = λ p. p }

module _ (t : List ℕ) (items d i n p at fuel : ℕ) {run : Run} {at₀ : ℕ} {room₀ room : List ℕ}
    (a : Toward t run at₀ room₀ (level (parse items d) fuel (due (slot_of i) n) (drop p t)) at room) where
  pub spent : fuel ≤ 0 → p ≤ length t → Parsed t run at₀ room₀ room (pos p at)
  spent h g = a.then (out_of_fuel t (parse items d) (due (slot_of i) n) p at fuel room h g)

  pub filled : 0 < fuel → length room ≤ at → p ≤ length t → Parsed t run at₀ room₀ room (pos p at)
  filled h g l = a.then (full t (parse items d) i n p at fuel room h g l)

  module _ (f : 0 < fuel) {room₁ : List ℕ} {x : read.Item} (y : Read t (take_at (slot_of i) (drop p t)) at room room₁ x) (v : IsSlot i) {nx : Next} (nn : nx ≡ next_code i x.arg n)
      {room₂ : List ℕ} {w : Pos} (m : Parsed t (parse items d (inside_level (slot_of i) x.kind x.arg) (drop x.next t)) x.end room₁ room₂ w) where
    turn : {s q : ℕ} → s ≡ length (after_by (spelling_at i) x.kind (is_due (level_of nx))) → NextTo t w.next s q → {room₃ : List ℕ} {z : Pos}
        → Parsed t (level (parse items d) (fuel - 1) (level_of nx) (drop q t)) w.end room₂ room₃ z → Parsed t run at₀ room₀ room₃ z
    turn e g u =
        let c : suc (fuel - 1) ≡ fuel = omega arith in
        a.then (rw c at (turned t items d i n p at (fuel - 1) y v nn m e g u))

    pub ends : {q : ℕ} → nx ≡ Done → x.spelling ≡ spelling_at i → NextTo t w.next (length (after_by x.spelling x.kind false)) q
        → Parsed t run at₀ room₀ room₂ (pos q w.end)
    ends {q} o e g =
        turn (rw (o, e)) g (parsed_as (idle t q w.end room₂ g.inside) (sym (rw o (level_done (parse items d) (fuel - 1) (drop q t)))))

    pub again : {q j k : ℕ} → nx ≡ Due j k → x.spelling ≡ spelling_at i → NextTo t w.next (length (after_by x.spelling x.kind true)) q
        → Toward t run at₀ room₀ (level (parse items d) (fuel - 1) (due (slot_of j) k) (drop q t)) w.end room₂
    again o e g = record { then = λ u. turn (rw (o, e)) g (rw o u) }

-- the text behind the scheme
pub begins_empty : (t : List ℕ) → length t ≡ 0 → Begins t 0
unfolding starts_by
begins_empty [] h = record { is = refl; inside = omega arith }
begins_empty (x ∷ t) h = absurd (omega arith)

pub begins_relative : (t : List ℕ) → (length t ≡ 0 → ⊥) → get_or t 0 0 ≡ code "." → Begins t 0
unfolding starts_by
begins_relative [] h e = absurd (h refl)
begins_relative (x ∷ t) h e = record { is = rw e; inside = omega arith }

pub begins_absolute : (t : List ℕ) {r : ℕ} → (length t ≡ 0 → ⊥) → (get_or t 0 0 ≡ code "." → ⊥) → NextTo t 0 4 r → Begins t r
unfolding starts_by
begins_absolute [] h e n = absurd (h refl)
begins_absolute (x ∷ t) h e n = record { is = n.is ∙ rw (ne_eqb x (code ".") e); inside = n.inside }

pub ruleset walking = (no_depth, nothing_inside, opened, inner_slot, next_slotted, begins, spent, filled, ends, again, begins_empty, begins_relative, begins_absolute)
