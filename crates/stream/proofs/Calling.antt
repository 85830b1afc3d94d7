-- The calls: which bytes a state holds after each. A walk's outcome is kept in the words; a fragment goes behind the bytes that were received.
use Prim.Native.Nat.{ℕ, zero, suc, ◌+◌, ◌-◌, ◌*◌, ◌%◌, ◌<◌, ◌≤◌, min, zero-le}
use mathlib.Core.Path.{◌≡◌, refl, sym, ◌∙◌, ap}
use mathlib.Core.Bool.{Bool, true, false, cond, true≢false}
use mathlib.Core.List.{List, [], ◌∷◌, ◌++◌, append-nil, append_assoc}
use native.Mathlib.Omega.{arith}
use native.Mathlib.Nat.{min-eq_left, min-le_right}
use lib.ListN.{length, get_or, set, take, drop, length-append, length-set, length-drop, take-append-drop}
use lib.Seq.{sets, sets-eq, get_or-set_same, get_or-set_other, take-append-le, drop-append-le, take_all, take_at, length-take-le}
use lib.Dec.{ltb, eqb}
use borrow.Author.Tests.{ne_eqb, lt-ltb, le-ltb, ltb-false, eqb-true, eqb-false}
use Rattle.buffer.specs.Bytes.{part}
use Rattle.buffer.specs.Put.{Put}
use Rattle.ari.specs.declared.Limits.{Limits}
use Rattle.ari.specs.Limits.{gate_limits, capped}
use Rattle.ari.specs.declared.Input.TheVariants.{Message}
use Rattle.ari.specs.Reader.{Answer, refuse, accept, read}
use Rattle.listing.specs.declared.Listed.{Listed}
use Rattle.listing.specs.Answers.{list_of, written_of}
use Rattle.std.specs.declared.result.Result.{Result}
use Rattle.std.specs.declared.result.Result.TheVariants.{Ok, Err}
use Rattle.ari.specs.declared.Refusal.{Refusal}
use Rattle.ari.specs.declared.Fault.{Fault}
use Rattle.ari.specs.Refusals.{number_of, refusal_of, refused}
use Rattle.ari.proofs.Numbers.{fault_back, number_most}
use Rattle.stream.specs.declared.Stop.{Stop}
use Rattle.stream.specs.Stream.{open_ended, beyond, none, stands, standing_of, standing, fed_room, close_of, closed_room}
use Rattle.stream.specs.State.{word, frame_start, frame_at, levels, dues, WellFrames, Due, Quiet, Goes, Stopped, Holds, goes, stopped}
use Rattle.stream.specs.Calls.{words, needed, Fed, fed_of, lent_of, kept_in, Advanced, Walks, Overflows, Receives, FedBehind, Feeds, Fresh, Opens, wants_room, Answers, Ends, Closes}
use Rattle.stream.proofs.Standing.{within, past_limit, stands_still, stands_closes}
use Rattle.stream.proofs.Going.{read_is, run_refuses, at_end}

-- the frames are the same
module _ (ws ws' : List ℕ) (same : (j : ℕ) → 7 ≤ j → word ws' j ≡ word ws j) where
  frame_same : (k : ℕ) → frame_at ws' k ≡ frame_at ws k
  unfolding frame_at
  frame_same k =
      rw (
        same (frame_start k) (omega arith),
        same (frame_start k + 1) (omega arith),
        same (frame_start k + 2) (omega arith),
        same (frame_start k + 3) (omega arith),
        same (frame_start k + 4) (omega arith),
      )

  levels_same : (d : ℕ) (b : List ℕ) (o : ℕ) → levels ws' d b o ≡ levels ws d b o
  levels_same d b zero = refl
  levels_same d b (suc k) = rw (frame_same k, levels_same d b k)

  dues_same : (d : ℕ) (b : List ℕ) (at o : ℕ) → dues ws' d b at o ≡ dues ws d b at o
  dues_same d b at zero = refl
  dues_same d b at (suc k) = levels_same d b (suc k)

  well_same : (d n o : ℕ) → WellFrames ws d n o → WellFrames ws' d n o
  well_same d n zero w = tt
  well_same d n (suc k) w = (rw (frame_same k) w.0, well_same d n k w.1)

  due_same : (m : Limits) (b : List ℕ) (at c o : ℕ) → Due m ws b at c o → Due m ws' b at c o
  due_same m b at c o d = record {
    runs = λ x. d.runs x ∙ rw (dues_same m.containers b at o);
    inside = d.inside;
    frames = well_same m.containers (length b) o d.frames;
  }

-- more bytes follow
module _ (ws : List ℕ) (d : ℕ) (b f : List ℕ) where
  levels_grow : (o : ℕ) → WellFrames ws d (length b) o → levels ws d (b ++ f) o ≡ levels ws d b o
  levels_grow zero w = refl
  levels_grow (suc k) w =
      let g = frame_at ws k in
      let h : g.to ≤ length b = w.0.2 in
      let i : g.from ≤ g.to = w.0.1 in
      let e : part (b ++ f) g.from g.to ≡ part b g.from g.to =
      rw (drop-append-le g.from b f (omega arith), take-append-le (g.to - g.from) (drop g.from b) f (omega (arith, length-drop g.from b))) in
      rw (e, levels_grow k w.1)

  dues_grow : (at o : ℕ) → WellFrames ws d (length b) o → dues ws d (b ++ f) at o ≡ dues ws d b at o
  dues_grow at zero w = refl
  dues_grow at (suc k) w = levels_grow (suc k) w

  well_grow : (o : ℕ) → WellFrames ws d (length b) o → WellFrames ws d (length (b ++ f)) o
  well_grow zero w = tt
  well_grow (suc k) w = let (s, i, t, a, l) = w.0 in ((s, i, omega (arith, length-append b f), a, l), well_grow k w.1)

due_grows : (m : Limits) (ws b f : List ℕ) (at c o : ℕ) → Due m ws b at c o → Due m ws (b ++ f) at c o
due_grows m ws b f at c o d = record {
  runs = λ x. rw (append_assoc b f x) (d.runs (f ++ x) ∙ rw (dues_grow ws m.containers b f at o d.frames));
  inside = omega (arith, d.inside, length-append b f);
  frames = well_grow ws m.containers b f o d.frames;
}

quiet_grows : (m : Limits) (b f : List ℕ) (until : ℕ) → Quiet m b until → Quiet m (b ++ f) until
quiet_grows m b f until q x h l = rw (append_assoc b f x) (q (f ++ x) (rw append_assoc at h) (rw append_assoc at l))

-- the words in front, set one by one
front_set : (ws : List ℕ) (i x j : ℕ) → i < 7 → 7 ≤ j → word (set ws i x) j ≡ word ws j
front_set ws i x j h l = get_or-set_other ws i j x 0 (λ e. omega arith)

other_set : (ws : List ℕ) (i x j : ℕ) → (j ≡ i → ⊥) → word (set ws i x) j ≡ word ws j
other_set ws i x j n = get_or-set_other ws i j x 0 n

own_set : (ws : List ℕ) (i x : ℕ) → i < length ws → word (set ws i x) i ≡ x
own_set ws i x h = get_or-set_same ws i x 0 h

-- a refusal by its number
refused_back : (e : Refusal) → ◌≡◌ {A = Fed} (Err e) (refused (number_of e.fault) e.place)
refused_back e = rw (fault_back e.fault)

number_small : (f : Fault) → number_of f < 256
number_small f = omega (arith, number_most f)

-- a refusal that is kept in the words
module _ (m : Limits) (ws b : List ℕ) (r p : ℕ) (size_is : words ≤ length ws) (small : r < 256) (some : 0 < r) where
  abbrev stopped_words : List ℕ
  stopped_words = set (set ws 1 r) 2 p

  number_kept : word stopped_words 1 ≡ r
  number_kept = other_set (set ws 1 r) 2 p 1 (λ e. omega arith) ∙ own_set ws 1 r (omega arith)

  place_kept : word stopped_words 2 ≡ p
  place_kept = own_set (set ws 1 r) 2 p (omega (arith, length-set ws 1 r))

  kept_stop : standing m b ≡ stands r p → Stopped m stopped_words b
  kept_stop e = record {
    refused = λ z. omega (arith, number_kept);
    small = rw number_kept small;
    standing_is = rw (number_kept, place_kept) e;
  }

-- what a walk came to, over all bytes received
module _ (m : Limits) (b ws : List ℕ) {s : Result Stop Refusal} {ws₁ : List ℕ} (a : Advanced m b ws (word ws 4) (word ws 5) (word ws 6) s ws₁) (size_is : words ≤ length ws) (l : length b ≤ m.bytes)
  where
    size₁ : words ≤ length ws₁
    size₁ = omega (arith, a.kept.size)

    pub walk_refuses : {e : Refusal} → s ≡ Err e → {y : Fed} → y ≡ Err e → {w : List ℕ} → w ≡ set (set ws₁ 1 (number_of e.fault)) 2 e.place → Walks m b ws y w
    walk_refuses {e} g ey ew = record {
      holds = λ u v d room h.
          let r = number_of e.fault in
          let q = rw g at (a.reached size_is d) in
          let st : standing m b ≡ stands r e.place = run_refuses m b l (rw append-nil at (q.0 [])) q.1 in
          (ey ∙ refused_back e ∙ rw st, rw ew (stopped (kept_stop m ws₁ b r e.place size₁ (number_small e.fault) q.2 st)));
    }

    pub walk_waits : {x : Stop} → s ≡ Ok x → Walks m b ws (Ok tt) (set (set (set (set ws₁ 3 x.until) 4 x.place.at) 5 x.place.count) 6 x.place.opened)
    walk_waits {x} e = record {
      holds = λ un v d room h.
          let u = x.until in
          let at = x.place.at in
          let c = x.place.count in
          let o = x.place.opened in
          let q = rw e at (a.reached size_is d) in
          let st : standing m b ≡ none = q.0 in
          let w₃ = set ws₁ 3 u in
          let w₄ = set w₃ 4 at in
          let w₅ = set w₄ 5 c in
          let w₆ = set w₅ 6 o in
          let l₃ : length w₃ ≡ length ws₁ = length-set ws₁ 3 u in
          let l₄ : length w₄ ≡ length ws₁ = length-set w₃ 4 at ∙ l₃ in
          let l₅ : length w₅ ≡ length ws₁ = length-set w₄ 5 c ∙ l₄ in
          let same : (j : ℕ) → 7 ≤ j → word w₆ j ≡ word ws₁ j = λ j k.
          front_set w₅ 6 o j (omega arith) k ∙ front_set w₄ 5 c j (omega arith) k ∙ front_set w₃ 4 at j (omega arith) k ∙ front_set ws₁ 3 u j (omega arith) k in
          let low : (j : ℕ) → j < 3 → word w₆ j ≡ word ws j = λ j k.
          other_set w₅ 6 o j (λ z. omega arith) ∙ other_set w₄ 5 c j (λ z. omega arith) ∙ other_set w₃ 4 at j (λ z. omega arith) ∙ other_set ws₁ 3 u j (λ z. omega arith)
          ∙ a.kept.front j (omega arith) in
          let e₃ : word w₆ 3 ≡ u =
          other_set w₅ 6 o 3 (λ z. omega arith) ∙ other_set w₄ 5 c 3 (λ z. omega arith) ∙ other_set w₃ 4 at 3 (λ z. omega arith) ∙ own_set ws₁ 3 u (omega (arith, size₁)) in
          let e₄ : word w₆ 4 ≡ at = other_set w₅ 6 o 4 (λ z. omega arith) ∙ other_set w₄ 5 c 4 (λ z. omega arith) ∙ own_set w₃ 4 at (omega (arith, size₁)) in
          let e₅ : word w₆ 5 ≡ c = other_set w₅ 6 o 5 (λ z. omega arith) ∙ own_set w₄ 5 c (omega (arith, size₁)) in
          let e₆ : word w₆ 6 ≡ o = own_set w₅ 6 o (omega (arith, size₁)) in (
            rw st,
            goes (record {
              unrefused = low 1 (omega arith) ∙ un;
              idle = st;
              size = low 0 (omega arith) ∙ v;
              within = l;
              held = h;
              quiet = rw e₃ q.1;
              due = rw (e₄, e₅, e₆) (due_same ws₁ w₆ same m b at c o q.2);
            }),
          );
    }

    -- the bytes are the first of more than the limit
    beyond_none : standing m b ≡ none → beyond (read m Message b) ≡ refuse 1 0
    unfolding standing
    beyond_none e = go (read m Message b) (rw (within m b l) at e)
      where
        go : (x : Answer) → standing_of x ≡ none → beyond x ≡ refuse 1 0
        go (accept n) e = refl
        go (refuse r p) e = by (open_ended r) refl e
          where
            by : (t : Bool) → open_ended r ≡ t → cond t none (stands r p) ≡ none → cond t (refuse 1 0) (refuse r p) ≡ refuse 1 0
            by true o e = refl
            by false o e = absurd (let z : ◌≡◌ {A = ℕ} 0 1 = cc in omega arith)

    over_standing : (x : List ℕ) → length b ≡ m.bytes → 0 < length x → {r p : ℕ} → beyond (read m Message b) ≡ refuse r p → open_ended r ≡ false → standing m (b ++ x) ≡ stands r p
    unfolding standing
    over_standing x f g e o =
        rw (past_limit m (b ++ x) (omega (arith, length-append b x)), take_at b x m.bytes f, e, o)

    pub over_refuses : {e : Refusal} → s ≡ Err e → {y : Fed} → y ≡ Err e → {w : List ℕ} → w ≡ set (set ws₁ 1 (number_of e.fault)) 2 e.place → Overflows m b ws y w
    over_refuses {e} h ey ew = record {
      stops = λ d f x g.
          let r = number_of e.fault in
          let p = e.place in
          let q = rw h at (a.reached size_is d) in
          let rd : read m Message b ≡ refuse r p = sym (within m b l) ∙ read_is m b l ∙ rw (rw append-nil at (q.0 [])) in
          let st : standing m (b ++ x) ≡ stands r p = over_standing x f g (rw (rd, q.1)) q.1 in
          (ey ∙ refused_back e ∙ rw st, rw ew (kept_stop m ws₁ (b ++ x) r p size₁ (number_small e.fault) q.2 st));
    }

    pub over_waits : {x : Stop} → s ≡ Ok x → {y : Fed} → y ≡ refused 1 0 → {w : List ℕ} → w ≡ set (set ws₁ 1 1) 2 0 → Overflows m b ws y w
    over_waits e ey ew = record {
      stops = λ d f x g.
          let q = rw e at (a.reached size_is d) in
          let st : standing m (b ++ x) ≡ stands 1 0 = over_standing x f g (beyond_none q.0) refl in
          (ey ∙ rw st, rw ew (kept_stop m ws₁ (b ++ x) 1 0 size₁ (omega arith) (omega arith) st));
    }

pub ruleset outcomes = (walk_refuses, walk_waits, over_refuses, over_waits)

-- a word in front of the frames leaves the state's size
pub set_room : (ws : List ℕ) (i x n : ℕ) → n ≤ length ws → n ≤ length (set ws i x)
set_room ws i x n h = omega (arith, length-set ws i x)

-- one byte
only_byte : (f : List ℕ) → length f ≡ 1 → get_or f 0 0 ∷ [] ≡ f
only_byte [] e = absurd (omega arith)
only_byte (x ∷ []) e = refl
only_byte (x ∷ y ∷ f) e = absurd (omega arith)

pub put_only : (f : List ℕ) → length f ≡ 1 → {room room' : List ℕ} {at r : ℕ} → Put room room' at r (get_or f 0 0 ∷ []) → Put room room' at r f
put_only f e p = rw (only_byte f e) at p

-- the bytes in the room, when more have been put behind them
module _ (room b f : List ℕ) (held : take (length b) room ≡ b) (fits : length b + length f ≤ length room) where
  put_behind : take (length (b ++ f)) (sets room (length b) f) ≡ b ++ f
  put_behind =
      let e : sets room (length b) f ≡ (b ++ f) ++ drop (length b + length f) room = sets-eq f room (length b) fits ∙ rw held in
      rw e (take_at (b ++ f) (drop (length b + length f) room) (length (b ++ f)) refl)

fed_none : (m : Limits) (b f room : List ℕ) → standing m b ≡ none → fed_room m b f room ≡ sets room (length b) (take (m.bytes - length b) f)
unfolding fed_room
fed_none m b f room e = rw e

pub fed_stood : (m : Limits) (b f room : List ℕ) {r p : ℕ} → standing m b ≡ stands r p → room ≡ fed_room m b f room
unfolding fed_room
fed_stood m b f room e = rw e

-- a fragment within the limit
module _ (m : Limits) (ws room f : List ℕ) (size_is : words ≤ length ws) (roomy : m.bytes ≤ length room) (end : ℕ) (end_is : end ≡ word ws 0 + length f) (short : end ≤ m.bytes)
    {room' : List ℕ} {q : ℕ} (put : Put room room' (word ws 0) q f) where
  abbrev ws' : List ℕ
  ws' = set ws 0 end

  module _ (b : List ℕ) (g : Goes m ws room b) where
    length_is : end ≡ length (b ++ f)
    length_is = omega (arith, length-append b f, g.size)

    room_is : room' ≡ sets room (length b) f
    room_is = put.bytes ∙ rw g.size

    kept_room : room' ≡ fed_room m b f room
    kept_room =
        let z : length f ≤ m.bytes - length b = omega (arith, g.size) in
        room_is ∙ sym (fed_none m b f room g.idle ∙ rw (take_all (m.bytes - length b) f z))

    bytes_held : take (length (b ++ f)) room' ≡ b ++ f
    bytes_held = rw room_is (put_behind room b f g.held (omega (arith, g.size)))

    due_now : Due m ws' (b ++ f) (word ws' 4) (word ws' 5) (word ws' 6)
    due_now =
        rw (other_set ws 0 end 4 (λ e. omega arith), other_set ws 0 end 5 (λ e. omega arith), other_set ws 0 end 6 (λ e. omega arith))
        (due_same ws ws' (λ j h. front_set ws 0 end j (omega arith) h) m (b ++ f) (word ws 4) (word ws 5) (word ws 6)
        (due_grows m ws b f (word ws 4) (word ws 5) (word ws 6) g.due))

    size_now : word ws' 0 ≡ length (b ++ f)
    size_now = own_set ws 0 end (omega arith) ∙ length_is

    unrefused_now : word ws' 1 ≡ 0
    unrefused_now = other_set ws 0 end 1 (λ e. omega arith) ∙ g.unrefused

    until_now : word ws' 3 ≡ word ws 3
    until_now = other_set ws 0 end 3 (λ e. omega arith)

    quietly : end < word ws' 3 → (Ok tt ≡ fed_of (standing m (b ++ f))) × Holds m ws' room' (b ++ f) × (room' ≡ fed_room m b f room)
    quietly h =
        let st : standing m (b ++ f) ≡ none = g.quiet f (omega (arith, length_is, until_now)) (omega (arith, length_is)) in (
          rw st,
          goes (record {
            unrefused = unrefused_now;
            idle = st;
            size = size_now;
            within = omega (arith, length_is);
            held = bytes_held;
            quiet = rw until_now (quiet_grows m b f (word ws 3) g.quiet);
            due = due_now;
          }),
          kept_room,
        )

    walked : {s : List ℕ} → s ≡ part room' 0 end → {y : Fed} {w : List ℕ} → Walks m s ws' y w
        → (y ≡ fed_of (standing m (b ++ f))) × Holds m w room' (b ++ f) × (room' ≡ fed_room m b f room)
    walked {s} e v =
        let z : s ≡ b ++ f = e ∙ (let n : end - 0 ≡ length (b ++ f) = omega (arith, length_is) in rw n bytes_held) in
        let (a, h) = (rw z at v).holds unrefused_now size_now due_now room' bytes_held in
        (a, h, kept_room)

  pub waits_on : end < word ws 3 → {w : List ℕ} → w ≡ ws' → Receives m ws room f (Ok tt) w room'
  waits_on h e = record { behind = λ b g. rw e (quietly b g (omega (arith, until_now b g))) }

  pub walks_on : {w : List ℕ} → w ≡ ws' → {y : Fed} {w' : List ℕ} → Walks m (part room' 0 end) w y w' → Receives m ws room f y w' room'
  walks_on e v = record { behind = λ b g. walked b g refl (rw e at v) }

-- a fragment past the limit
module _ (m : Limits) (ws room f : List ℕ) (roomy : m.bytes ≤ length room) (free : ℕ) (started : word ws 0 ≤ m.bytes) (free-is : free ≡ m.bytes - word ws 0)
    (more : free < length f) {room' : List ℕ} {q : ℕ} (put : Put room room' (word ws 0) q (part f 0 free)) where
  module _ (b : List ℕ) (g : Goes m ws room b) where
    abbrev front : List ℕ
    front = take free f

    abbrev rest : List ℕ
    rest = drop free f

    front_length : length front ≡ free
    front_length = length-take-le free f (omega arith)

    whole : b ++ f ≡ (b ++ front) ++ rest
    whole = rw (append_assoc b front rest, take-append-drop free f)

    full : length (b ++ front) ≡ m.bytes
    full = omega (arith, length-append b front, front_length, g.size)

    full_room : room' ≡ sets room (length b) front
    full_room = let n : free - 0 ≡ free = omega arith in put.bytes ∙ rw (g.size, n)

    kept_full : room' ≡ fed_room m b f room
    kept_full = let n : m.bytes - length b ≡ free = omega (arith, g.size) in full_room ∙ sym (fed_none m b f room g.idle ∙ rw n)

    first_bytes : part room' 0 m.bytes ≡ b ++ front
    first_bytes =
        let n : m.bytes - 0 ≡ length (b ++ front) = omega (arith, full) in
        rw (n, full_room) (put_behind room b front g.held (omega (arith, length-append b front, full)))

    overflowed : {y : Fed} {w : List ℕ} → Overflows m (part room' 0 m.bytes) ws y w
        → (y ≡ fed_of (standing m (b ++ f))) × Holds m w room' (b ++ f) × (room' ≡ fed_room m b f room)
    overflowed v =
        let d = due_grows m ws b front (word ws 4) (word ws 5) (word ws 6) g.due in
        let (a, h) = (rw first_bytes at v).stops d full rest (omega (arith, length-drop free f)) in
        (a ∙ rw whole, stopped (rw whole h), kept_full)

  pub overflows : {y : Fed} {w : List ℕ} → Overflows m (part room' 0 m.bytes) ws y w → Receives m ws room f y w room'
  overflows v = record { behind = λ b g. overflowed b g v }

-- no state of ours has received more than the limit
pub never_more : (m : Limits) (ws room f : List ℕ) → m.bytes < word ws 0 → {y : Fed} {w room' : List ℕ} → Receives m ws room f y w room'
never_more m ws room f h = record { behind = λ b g. absurd (omega (arith, g.size, g.within)) }

pub ruleset received = (waits_on, walks_on, overflows, never_more)

-- a fresh state has received nothing
pub fresh_holds : (m : Limits) (ws room : List ℕ) → Fresh ws → Holds m ws room []
fresh_holds m ws room f = goes (record {
  unrefused = f.unrefused;
  idle = nothing;
  size = f.none_received;
  within = zero-le;
  held = refl;
  quiet = λ c h l. absurd (omega (arith, f.until));
  due = rw (f.next, f.count, f.levels) start;
})
  where
    start : Due m ws [] 0 0 0
    start = record { runs = λ c. let e : m.items - 0 ≡ m.items = omega arith in rw e; inside = zero-le; frames = tt }

    nothing : standing m [] ≡ none
    nothing = at_end m ws [] 0 0 0 start zero-le zero-le

pub cleared : (ws : List ℕ) → words ≤ length ws → Fresh (set (set (set (set (set (set ws 0 0) 1 0) 3 0) 4 0) 5 0) 6 0)
cleared ws h =
    let w₀ = set ws 0 0 in
    let w₁ = set w₀ 1 0 in
    let w₃ = set w₁ 3 0 in
    let w₄ = set w₃ 4 0 in
    let w₅ = set w₄ 5 0 in
    let l₀ : length w₀ ≡ length ws = length-set ws 0 0 in
    let l₁ : length w₁ ≡ length ws = length-set w₀ 1 0 ∙ l₀ in
    let l₃ : length w₃ ≡ length ws = length-set w₁ 3 0 ∙ l₁ in
    let l₄ : length w₄ ≡ length ws = length-set w₃ 4 0 ∙ l₃ in
    let l₅ : length w₅ ≡ length ws = length-set w₄ 5 0 ∙ l₄ in
    record {
      none_received =
          other_set w₅ 6 0 0 (λ z. omega arith) ∙ other_set w₄ 5 0 0 (λ z. omega arith) ∙ other_set w₃ 4 0 0 (λ z. omega arith) ∙ other_set w₁ 3 0 0 (λ z. omega arith)
          ∙ other_set w₀ 1 0 0 (λ z. omega arith) ∙ own_set ws 0 0 (omega arith);
      unrefused =
          other_set w₅ 6 0 1 (λ z. omega arith) ∙ other_set w₄ 5 0 1 (λ z. omega arith) ∙ other_set w₃ 4 0 1 (λ z. omega arith) ∙ other_set w₁ 3 0 1 (λ z. omega arith)
          ∙ own_set w₀ 1 0 (omega arith);
      until = other_set w₅ 6 0 3 (λ z. omega arith) ∙ other_set w₄ 5 0 3 (λ z. omega arith) ∙ other_set w₃ 4 0 3 (λ z. omega arith) ∙ own_set w₁ 3 0 (omega arith);
      next = other_set w₅ 6 0 4 (λ z. omega arith) ∙ other_set w₄ 5 0 4 (λ z. omega arith) ∙ own_set w₃ 4 0 (omega arith);
      count = other_set w₅ 6 0 5 (λ z. omega arith) ∙ own_set w₄ 5 0 (omega arith);
      levels = own_set w₅ 6 0 (omega arith);
    }

-- too little memory
module _ (n room most : ℕ) where
  pub few_words : n < words → words * 8 ≡ needed n room most
  unfolding needed
  few_words h = rw (lt-ltb n words h)

  pub little_room : words ≤ n → room < most → most ≡ needed n room most
  unfolding needed
  little_room h g = rw (le-ltb n words h, lt-ltb room most g)

  pub nothing_lacks : words ≤ n → most ≤ room → 0 ≡ needed n room most
  unfolding needed
  nothing_lacks h g = rw (le-ltb n words h, le-ltb room most g)

  pub enough_words : {x : ℕ} → x ≡ needed n room most → x ≡ 0 → words ≤ n
  unfolding needed
  enough_words {x} e z = go (ltb n words) refl (sym z ∙ e)
    where
      go : (t : Bool) → ltb n words ≡ t → 0 ≡ cond t (words * 8) (cond (ltb room most) most 0) → words ≤ n
      go true u e = absurd (omega arith)
      go false u e = ltb-false n words u

  pub word_there : {x : ℕ} → x ≡ needed n room most → x ≡ 0 → (k : ℕ) → k < words → k < n
  word_there e z k h = omega (arith, enough_words e z)

  pub enough_room : {x : ℕ} → x ≡ needed n room most → x ≡ 0 → most ≤ room
  unfolding needed
  enough_room {x} e z = go (ltb n words) (ltb room most) refl (sym z ∙ e)
    where
      go : (t u : Bool) → ltb room most ≡ u → 0 ≡ cond t (words * 8) (cond u most 0) → most ≤ room
      go true u v e = absurd (omega arith)
      go false true v e = omega arith
      go false false v e = ltb-false room most v

-- what is lent, from the answer
module _ (n room most : ℕ) where
  abbrev short : ℕ
  short = needed n room most

  pub lent_few : n < words → refused 16 (words * 8) ≡ lent_of short
  lent_few h = rw (← few_words n room most h)

  pub lent_little : words ≤ n → room < most → refused 16 most ≡ lent_of short
  lent_little h g = rw (← little_room n room most h g, ne_eqb most 0 (λ q. omega arith))

  pub lent_enough : words ≤ n → most ≤ room → Ok (tt {0}) ≡ lent_of short
  lent_enough h g = rw (← nothing_lacks n room most h g)

  module _ {r : Fed} (q : r ≡ lent_of short) where
    pub lent_short : {e : Refusal} → r ≡ Err e → (e ≡ refusal_of 16 short) × (short ≡ 0 → ⊥)
    lent_short {e} g = go (eqb short 0) refl (sym g ∙ q)
      where
        go : (t : Bool) → eqb short 0 ≡ t → Err e ≡ cond t (Ok (tt {0})) (refused 16 short) → (e ≡ refusal_of 16 short) × (short ≡ 0 → ⊥)
        go true x q = absurd (let z : ◌≡◌ {A = ℕ} 0 1 = cc in omega arith)
        go false x q = (cc, eqb-false short 0 x)

    pub lent_all : {u : Unit {0}} → r ≡ Ok u → short ≡ 0
    lent_all {u} g = go (eqb short 0) refl (sym g ∙ q)
      where
        go : (t : Bool) → eqb short 0 ≡ t → Ok u ≡ cond t (Ok (tt {0})) (refused 16 short) → short ≡ 0
        go true x q = eqb-true short 0 x
        go false x q = absurd (let z : ◌≡◌ {A = ℕ} 0 1 = cc in omega arith)

    pub words_lent : {u : Unit {0}} → r ≡ Ok u → words ≤ n
    words_lent g = enough_words n room most refl (lent_all g)

    pub room_lent : {u : Unit {0}} → r ≡ Ok u → most ≤ room
    room_lent g = enough_room n room most refl (lent_all g)

-- what stands, from the answer
module _ (ws : List ℕ) {r : Fed} (q : r ≡ kept_in ws) where
  kept_one : {e : Refusal} → r ≡ Err e → (e ≡ refusal_of (word ws 1 % 256) (word ws 2)) × (word ws 1 ≡ 0 → ⊥)
  kept_one {e} g = go (eqb (word ws 1) 0) refl (sym g ∙ q)
    where
      go : (t : Bool) → eqb (word ws 1) 0 ≡ t → Err e ≡ cond t (Ok (tt {0})) (refused (word ws 1 % 256) (word ws 2))
          → (e ≡ refusal_of (word ws 1 % 256) (word ws 2)) × (word ws 1 ≡ 0 → ⊥)
      go true x q = absurd (let z : ◌≡◌ {A = ℕ} 0 1 = cc in omega arith)
      go false x q = (cc, eqb-false (word ws 1) 0 x)

  kept_none : {u : Unit {0}} → r ≡ Ok u → word ws 1 ≡ 0
  kept_none {u} g = go (eqb (word ws 1) 0) refl (sym g ∙ q)
    where
      go : (t : Bool) → eqb (word ws 1) 0 ≡ t → Ok u ≡ cond t (Ok (tt {0})) (refused (word ws 1 % 256) (word ws 2)) → word ws 1 ≡ 0
      go true x q = eqb-true (word ws 1) 0 x
      go false x q = absurd (let z : ◌≡◌ {A = ℕ} 0 1 = cc in omega arith)

-- feed
module _ (m : Limits) (ws room f : List ℕ) {lent : Fed} (e : lent ≡ lent_of (needed (length ws) (length room) m.bytes)) where
  pub feed_short : {x : Refusal} → lent ≡ Err x → Feeds m ws room f (Err x) ws room
  feed_short g = let (h, n) = lent_short (length ws) (length room) m.bytes e g in record { short = λ _. (rw h, refl, refl); behind = λ z. absurd (n z) }

  module _ {u : Unit {0}} (g : lent ≡ Ok u) {kept : Fed} (k : kept ≡ kept_in ws) where
    none_short : (needed (length ws) (length room) m.bytes ≡ 0 → ⊥) → ⊥
    none_short n = n (lent_all (length ws) (length room) m.bytes e g)

    pub feed_stands : {x : Refusal} → kept ≡ Err x → Feeds m ws room f (Err x) ws room
    feed_stands {x} h = let (q, n) = kept_one ws k h in record { short = λ s. absurd (none_short s); behind = λ _ b h. rw q (go n b h) }
      where
        go : (word ws 1 ≡ 0 → ⊥) → (b : List ℕ) → Holds m ws room b → FedBehind m ws room b f (refused (word ws 1 % 256) (word ws 2)) ws room
        go n b (goes g) = absurd (n g.unrefused)
        go n b (stopped s) =
            let st = stands_still m b (word ws 1) (word ws 2) s.standing_is f in
            let r : word ws 1 % 256 ≡ word ws 1 = omega (arith, s.small) in
            record {
              answer = rw (r, st);
              holds = stopped (record { refused = s.refused; small = s.small; standing_is = st });
              kept = fed_stood m b f room s.standing_is;
              still = λ _. refl;
            }

    pub feed_receives : {u : Unit {0}} → kept ≡ Ok u → {y : Fed} {w room' : List ℕ} → Receives m ws room f y w room' → Feeds m ws room f y w room'
    feed_receives h {y} {w} {room'} v = let n = kept_none ws k h in record { short = λ s. absurd (none_short s); behind = λ _ b h. go n b h }
      where
        go : word ws 1 ≡ 0 → (b : List ℕ) → Holds m ws room b → FedBehind m ws room b f y w room'
        go n b (goes g) = let (a, h, k) = v.behind b g in record { answer = a; holds = h; kept = k; still = λ n. absurd (n g.idle) }
        go n b (stopped s) = absurd (s.refused n)

-- what a close answers where a refusal stands, and within the limit
close_stood : (m : Limits) (b out : List ℕ) {r p : ℕ} → standing m b ≡ stands r p → (refused r p ≡ close_of m b out) × (out ≡ closed_room m b out)
unfolding close_of closed_room
close_stood m b out {r} {p} e = let q = stands_closes m b r p e in (rw q, rw q)

pub close_within_limit : (m : Limits) (b out : List ℕ) → length b ≤ m.bytes → (list_of m b out ≡ close_of m b out) × (written_of m b out ≡ closed_room m b out)
unfolding close_of closed_room list_of written_of
close_within_limit m b out l = (rw (within m b l), rw (within m b l))

-- the answer, from the words and the room
module _ (m : Limits) (ws room out : List ℕ) {kept : Fed} (k : kept ≡ kept_in ws) where
  pub answer_stands : {x : Refusal} → kept ≡ Err x → Answers m ws room out (Err x) out
  answer_stands h = let (q, n) = kept_one ws k h in record { after = λ b h. rw q (go n b h) }
    where
      go : (word ws 1 ≡ 0 → ⊥) → (b : List ℕ) → Holds m ws room b → (refused (word ws 1 % 256) (word ws 2) ≡ close_of m b out) × (out ≡ closed_room m b out)
      go n b (goes g) = absurd (n g.unrefused)
      go n b (stopped s) = let r : word ws 1 % 256 ≡ word ws 1 = omega (arith, s.small) in rw r (close_stood m b out s.standing_is)

  pub answer_lists : {u : Unit {0}} → kept ≡ Ok u → {n : ℕ} → n ≡ min (word ws 0) (length room) → m.bytes ≤ length room → {y : Result Listed Refusal} {out' : List ℕ}
      → y ≡ list_of m (part room 0 n) out → out' ≡ written_of m (part room 0 n) out → Answers m ws room out y out'
  answer_lists h {n} e l {y} {out'} ey eo = let u = kept_none ws k h in record { after = λ b h. go u b h }
    where
      go : word ws 1 ≡ 0 → (b : List ℕ) → Holds m ws room b → (y ≡ close_of m b out) × (out' ≡ closed_room m b out)
      go u b (goes g) =
          let z : n ≡ length b = e ∙ (let h : word ws 0 ≤ length room = omega (arith, g.size, g.within) in min-eq_left h) ∙ g.size in
          let k : part room 0 n ≡ b = let x : n - 0 ≡ length b = omega arith in rw x g.held in
          let (p, q) = close_within_limit m b out g.within in
          (ey ∙ rw k p, eo ∙ rw k q)
      go u b (stopped s) = absurd (s.refused u)

module _ (m : Limits) (ws room out : List ℕ) {lent : Fed} (e : lent ≡ lent_of (needed (length ws) (length room) m.bytes)) where
  pub close_short : {x : Refusal} → lent ≡ Err x → Closes m ws room out (Err x) ws out
  close_short g = let (h, n) = lent_short (length ws) (length room) m.bytes e g in record { short = λ _. (rw h, refl, refl); after = λ z. absurd (n z) }

  pub close_ends : {u : Unit {0}} → lent ≡ Ok u → {y : Result Listed Refusal} {out' : List ℕ} → Answers m ws room out y out' → {ws' : List ℕ} → Ends y ws ws' → Closes m ws room out y ws' out'
  close_ends z {y} {out'} a {ws'} g = record {
    short = λ n. absurd (n (lent_all (length ws) (length room) m.bytes e z));
    after = λ _ b h.
        let (r, o) = a.after b h in
        record { answer = r; listed = o; repeats = g.repeats; afresh = λ f room'. fresh_holds m ws' room' (g.afresh f) };
  }

module _ {a : Result Listed Refusal} {t : Bool} (w : t ≡ wants_room a) where
  pub stays_open : t ≡ true → (ws : List ℕ) → Ends a ws ws
  stays_open q ws = record { repeats = λ _. refl; afresh = λ f. absurd (true≢false (sym q ∙ w ∙ f)) }

  pub is_ended : t ≡ false → (ws : List ℕ) {ws' : List ℕ} → Fresh ws' → Ends a ws ws'
  is_ended q ws f = record { repeats = λ g. absurd (true≢false (sym g ∙ sym w ∙ q)); afresh = λ _. f }

pub ruleset closing_ways = (answer_stands, answer_lists, close_short, close_ends, stays_open, is_ended)

-- open
pub open_short : (ws : List ℕ) {r : Fed} → r ≡ lent_of (needed (length ws) 0 0) → {e : Refusal} → r ≡ Err e → Opens ws (Err e) ws
open_short ws q g =
    let (h, n) = lent_short (length ws) 0 0 q g in
    record {
      short = λ k. (let w = few_words (length ws) 0 0 k in rw (h, ← w), refl);
      afresh = λ k. absurd (n (sym (nothing_lacks (length ws) 0 0 k zero-le)));
    }

pub open_ends : (ws : List ℕ) → words ≤ length ws → {ws' : List ℕ} → Fresh ws' → Opens ws (Ok tt) ws'
open_ends ws h {ws'} f = record { short = λ g. absurd (omega arith); afresh = λ _. (refl, λ m room. fresh_holds m ws' room f) }

-- limits that were capped
capped_again : (m : Limits) → capped (capped m) ≡ capped m
capped_again m = rw (min_again m.bytes gate_limits.bytes, min_again m.items gate_limits.items, min_again m.containers gate_limits.containers, min_again m.text gate_limits.text)
  where
    min_again : (a b : ℕ) → min (min a b) b ≡ min a b
    min_again a b = min-eq_left (min-le_right a b)

pub capped_once : (m : Limits) {n : Limits} → n ≡ capped m → capped n ≡ n
capped_once m e = rw e (capped_again m)

module _ {m : Limits} (e : capped m ≡ m) where
  few_bytes : m.bytes ≤ gate_limits.bytes
  few_bytes = let h : min m.bytes gate_limits.bytes ≡ m.bytes = ap (λ (x : Limits). x.bytes) e in omega (arith, min-le_right m.bytes gate_limits.bytes)

  pub small_bytes : m.bytes < 65536
  small_bytes = omega (arith, few_bytes)

  pub small_containers : m.containers ≤ gate_limits.containers
  small_containers = let h : min m.containers gate_limits.containers ≡ m.containers = ap (λ (x : Limits). x.containers) e in omega (arith, min-le_right m.containers gate_limits.containers)

  pub lists_alike : (b out : List ℕ) {y : Result Listed Refusal} → y ≡ list_of (capped m) b out → y ≡ list_of m b out
  lists_alike b out g = rw e at g

  pub writes_alike : (b out : List ℕ) {out' : List ℕ} → out' ≡ written_of (capped m) b out → out' ≡ written_of m b out
  writes_alike b out g = rw e at g

module _ (m : Limits) {n : Limits} (e : n ≡ capped m) where
  pub feeds_alike : {ws room f : List ℕ} {y : Fed} {ws' room' : List ℕ} → Feeds n ws room f y ws' room' → Feeds (capped m) ws room f y ws' room'
  feeds_alike v = rw e at v

  pub closes_alike : {ws room out : List ℕ} {y : Result Listed Refusal} {ws' out' : List ℕ} → Closes n ws room out y ws' out' → Closes (capped m) ws room out y ws' out'
  closes_alike v = rw e at v

pub ruleset caps = (capped_once, small_bytes, small_containers, lists_alike, writes_alike, feeds_alike, closes_alike)
