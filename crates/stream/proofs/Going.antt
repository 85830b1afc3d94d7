-- One turn of the walk over a message that may go on: whatever follows its bytes, the reader goes on from what is due.
use Prim.Native.Nat.{ℕ, zero, suc, pred, ◌+◌, ◌-◌, ◌<◌, ◌≤◌, min}
use mathlib.Core.Path.{◌≡◌, refl, sym, ◌∙◌, ap}
use mathlib.Core.Bool.{Bool, true, false, ◌&&◌, cond, true≢false}
use mathlib.Core.List.{List, [], ◌∷◌, ◌++◌, append-nil}
use native.Mathlib.Omega.{arith}
use native.Mathlib.Nat.{min-le_left}
use lib.ListN.{length, drop, get_or, length-append, length-drop}
use lib.Seq.{drop-append-le, drop-drop, drop-cons, drop-length}
use lib.Dec.{eqb}
use mir.Syntax.{w64}
use mir.Val.{Fits}
use borrow.Author.Tests.{eq-eqb, ne_eqb, eqb-true, le-leb, le-ltb}
use Rattle.ari.specs.Limits.{gate_limits}
use Rattle.buffer.specs.Bytes.{all, is_byte, part, within}
use Rattle.cbor.specs.Head.{Lead, size, string_size, got, get_head, key_of, key_bytes, is_container}
use Rattle.cbor.proofs.HeadLaws.{head_fits}
use Rattle.cbor.specs.Answer.{head_at}
use Rattle.ari.specs.declared.Limits.{Limits}
use Rattle.ari.specs.Table.{Slot, message, ari, done, rule, members}
use Rattle.ari.specs.Reader.{Dues, frame, push, behind, key_after, judge_got, refuse, take_step, visit, run, counted, read}
use Rattle.ari.specs.Reader as reader
use Rattle.ari.proofs.Prefix.{head_stays, lacking, step_number}
use Rattle.grammar.specs.Code.{slot_of, IsSlot, level_of, fits_code, next_code, inside_code}
use Rattle.grammar.specs.declared.Next.{Next}
use Rattle.grammar.specs.declared.Next.TheVariants as next
use Rattle.grammar.proofs.Right.{next_right, inside_right}
use Rattle.reader.specs.declared.Taken.{Taken}
use Rattle.reader.specs.Steps.{taken}
use Rattle.reader.specs.Steps.{key_span, step_answer, step_at}
use Rattle.reader.proofs.Walking.{Took, took, run_frame, run_taken}
use Rattle.reader.proofs.Keys.{ordered_kind}
use Rattle.reader.proofs.Loop.{key_part, key_span_lem}
use Rattle.reader.proofs.Heads.{key_at_lem}
use Rattle.reader.proofs.Bounds.{opens}
use Rattle.stream.specs.declared.Frame.{Frame}
use Rattle.stream.specs.declared.Stop.{Stop}
use Rattle.std.specs.declared.result.Result.{Result}
use Rattle.std.specs.declared.result.Result.TheVariants.{Ok, Err}
use Rattle.ari.specs.declared.Refusal.{Refusal}
use Rattle.ari.specs.Refusals.{number_of, fault_of, refusal_of}
use Rattle.ari.proofs.Numbers.{number_back}
use Rattle.stream.specs.Stream.{open_ended, none, stands, standing_of, standing, closing}
use Rattle.stream.specs.State.{key_in, levels, dues, first, WellFrames, Due, Quiet}
use Rattle.stream.specs.Calls.{words, bottom_frame, due_frame, open_behind, words_behind, open_inside, words_inside, string_until, stop_at, halt_of, step_due, TakenDue, open_after, words_after, Reached, Kept, Advanced}
use Rattle.stream.proofs.Standing as standings
use Rattle.stream.proofs.Levels.{behind_levels, behind_well, behind_size, behind_front, behind_most, inside_levels, inside_well, inside_size, inside_front}

-- what the run answers stands, or not
pub read_is : (m : Limits) (b : List ℕ) → length b ≤ m.bytes → closing m b ≡ counted m.items (run m.items (first m.containers) 0 b)
unfolding read
read_is m b h = standings.within m b h ∙ rw (le-ltb m.bytes (length b) h)

run_stands : (m : Limits) (b : List ℕ) → length b ≤ m.bytes → {r p : ℕ} → run m.items (first m.containers) 0 b ≡ refuse r p → open_ended r ≡ true → standing m b ≡ none
unfolding standing
run_stands m b h e o = rw (read_is m b h, e, o)

pub run_refuses : (m : Limits) (b : List ℕ) → length b ≤ m.bytes → {r p : ℕ} → run m.items (first m.containers) 0 b ≡ refuse r p → open_ended r ≡ false
    → standing m b ≡ stands r p
unfolding standing
run_refuses m b h e o = rw (read_is m b h, e, o)

-- one byte more may end it
next_byte : (m : Limits) (b : List ℕ) → standing m b ≡ none → Quiet m b (length b + 1)
next_byte m b e [] h l = rw append-nil e
next_byte m b e (x ∷ c) h l = absurd (omega (arith, length-append b (x ∷ c)))

-- the frame that is due stands for something
pub record DueFrame (d n o : ℕ) (f : Frame) : Type 0 where
  pub slot_is : IsSlot f.slot
  pub ends : f.from ≤ f.to
  pub key_within : f.to ≤ n
  pub above : o ≤ f.around
  pub allowed : f.around ≤ d

due_frame_lem : (ws : List ℕ) (d n p o : ℕ) → WellFrames ws d n o → DueFrame d n o (due_frame ws p o)
due_frame_lem ws d n p zero w = go (eqb p 0)
  where
    go : (t : Bool) → DueFrame d n 0 (record { slot = cond t 0 2; more = 0; from = 0; to = 0; around = 0 })
    go true = record { slot_is = omega arith; ends = omega arith; key_within = omega arith; above = omega arith; allowed = omega arith }
    go false = record { slot_is = omega arith; ends = omega arith; key_within = omega arith; above = omega arith; allowed = omega arith }
due_frame_lem ws d n p (suc k) w =
    let e : suc k - 1 ≡ k = omega arith in
    let (s, f, t, a, l) = w.0 in
    rw (ne_eqb (suc k) 0 (λ q. omega arith), e) (record { slot_is = s; ends = f; key_within = t; above = omega arith; allowed = l })

fewer : (ws : List ℕ) (d n o : ℕ) → WellFrames ws d n o → WellFrames ws d n (o - 1)
fewer ws d n zero w = tt
fewer ws d n (suc k) w = let e : suc k - 1 ≡ k = omega arith in rw e w.1

-- What is due is a frame, where a byte stands.
abbrev level_frame : List ℕ → ℕ → List ℕ → ℕ → Frame → Dues
level_frame ws d b o f = frame (slot_of f.slot) f.more (key_in b f) (d - f.around) (levels ws d b (o - 1))

sets_run : (left d p : ℕ) (x : ℕ) (r : List ℕ) → run left (reader.sets d) p (x ∷ r) ≡ run left (frame (ari message) 0 [] d (reader.sets d)) p (x ∷ r)
unfolding run visit
sets_run zero d p x r = refl
sets_run (suc left) d p x r = refl

due_run : (ws : List ℕ) (d : ℕ) (b : List ℕ) (p o left : ℕ) (y : List ℕ) → p < length y
    → run left (dues ws d b p o) p (drop p y) ≡ run left (level_frame ws d b o (due_frame ws p o)) p (drop p y)
unfolding key_of get_head
due_run ws d b zero zero left y h = let e : d - 0 ≡ d = omega arith in rw e
due_run ws d b (suc p) zero left y h =
    let e : d - 0 ≡ d = omega arith in
    rw (ne_eqb (suc p) 0 (λ q. omega arith), e, drop-cons y (suc p) 0 h) (sets_run left d (suc p) (get_or y (suc p) 0) (drop (suc (suc p)) y))
due_run ws d b p (suc k) left y h = let e : suc k - 1 ≡ k = omega arith in rw (ne_eqb (suc k) 0 (λ q. omega arith), e)

-- where nothing is left, nothing stands
ended : (ws : List ℕ) (d : ℕ) (b : List ℕ) (left n p o : ℕ) → standing_of (counted n (run left (dues ws d b p o) p [])) ≡ none
unfolding run visit take_step judge_got get_head
ended ws d b zero n zero zero = refl
ended ws d b (suc left) n zero zero = refl
ended ws d b zero n (suc p) zero = rw (ne_eqb (suc p) 0 (λ q. omega arith))
ended ws d b (suc left) n (suc p) zero = rw (ne_eqb (suc p) 0 (λ q. omega arith))
ended ws d b zero n p (suc k) = refl
ended ws d b (suc left) n p (suc k) = refl

pub at_end : (m : Limits) (ws b : List ℕ) (p c o : ℕ) → Due m ws b p c o → length b ≤ p → length b ≤ m.bytes → standing m b ≡ none
unfolding standing
at_end m ws b p c o d h l =
    let i = d.inside in
    let e : p ≡ length b = omega arith in
    let x : drop p b ≡ [] = rw e (drop-length b) in
    let g : run m.items (first m.containers) 0 b ≡ run (m.items - c) (dues ws m.containers b p o) p [] = rw (append-nil, x) at (d.runs []) in
    rw (read_is m b l, g) (ended ws m.containers b (m.items - c) m.items p o)

-- a length at a place where a string lacks bytes
lacking_until : (b : List ℕ) (p most : ℕ) (l : Lead) → get_head (drop p b) ≡ got l → (string_size l ≡ 0 → ⊥)
    → string_until (head_at b p) most (length b) ≤ p + (size l + string_size l)
unfolding head_at string_size
lacking_until b p most l e n = rw e (go (within 2 3 l.kind) n)
  where
    go : (t : Bool) → (cond t l.arg 0 ≡ 0 → ⊥) → p + size l + min l.arg most ≤ p + (size l + cond t l.arg 0)
    go true n = omega (arith, min-le_left l.arg most)
    go false n = absurd (n refl)

module _ (m : Limits) (ws b : List ℕ) (p c o : ℕ) (d : Due m ws b p c o) (more : p < length b) {f : Frame} (ef : f ≡ due_frame ws p o) where
  abbrev depth : ℕ
  depth = m.containers - f.around

  abbrev s : Slot
  s = slot_of f.slot

  abbrev prev : List ℕ
  prev = key_in b f

  pub framed : DueFrame m.containers (length b) o f
  framed = rw ef (due_frame_lem ws m.containers (length b) p o d.frames)

  -- the reader's run, whatever follows
  runs_here : (x : List ℕ) → run m.items (first m.containers) 0 (b ++ x) ≡ run (m.items - c) (level_frame ws m.containers b o f) p (drop p b ++ x)
  runs_here x =
      d.runs x ∙ due_run ws m.containers b p o (m.items - c) (b ++ x) (omega (arith, length-append b x)) ∙ rw (← ef, drop-append-le p b x d.inside)

  -- a head is refused
  module _ {r : ℕ} (j : judge_got (m.items - c) depth s prev (get_head (drop p b)) (drop p b) ≡ reader.no r) where
    refused_now : run m.items (first m.containers) 0 b ≡ refuse r p
    refused_now = rw append-nil at (runs_here [] ∙ run_frame (m.items - c) s f.more prev depth (levels ws m.containers b (o - 1)) p r (drop p b ++ []) (rw append-nil j))

    refused_on : open_ended r ≡ false → (x : List ℕ) → run m.items (first m.containers) 0 (b ++ x) ≡ refuse r p
    refused_on e x =
        runs_here x
        ∙ run_frame (m.items - c) s f.more prev depth (levels ws m.containers b (o - 1)) p r (drop p b ++ x)
        (head_stays x (m.items - c) depth s prev (drop p b) j (λ q. let z : r ≡ 2 = cc in true≢false (rw z at e)) (λ q. let z : r ≡ 9 = cc in true≢false (rw z at e)))

  -- a string lacks bytes
  short_string : (most : ℕ) → judge_got (m.items - c) depth s prev (get_head (drop p b)) (drop p b) ≡ reader.no 9 → Quiet m b (string_until (head_at b p) most (length b))
  short_string most j x h l =
      let k = lacking (m.items - c) depth s prev (drop p b) j in
      let i = d.inside in
      let n : string_size k.lead ≡ 0 → ⊥ = λ z. omega (arith, k.short, head_fits (drop p b) k.head) in
      let u = lacking_until b p most k.lead k.head n in
      let y = k.stays x (omega (arith, length-append b x, length-append (drop p b) x, length-drop p b)) in
      run_stands m (b ++ x) l (runs_here x ∙ run_frame (m.items - c) s f.more prev depth (levels ws m.containers b (o - 1)) p 9 (drop p b ++ x) y) refl

  judged_no : {t : Result Taken Refusal} → t ≡ step_at b p s prev (m.items - c) depth → {e : Refusal} → t ≡ Err e
      → (r : ℕ) × (judge_got (m.items - c) depth s prev (get_head (drop p b)) (drop p b) ≡ reader.no r) × (e ≡ refusal_of r p)
  unfolding step_at
  judged_no {t} q {e} g = go (judge_got (m.items - c) depth s prev (get_head (drop p b)) (drop p b)) refl (sym q ∙ g)
    where
      go : (y : reader.Step) → judge_got (m.items - c) depth s prev (get_head (drop p b)) (drop p b) ≡ y → step_answer p y ≡ Err e
          → (r : ℕ) × (judge_got (m.items - c) depth s prev (get_head (drop p b)) (drop p b) ≡ reader.no r) × (e ≡ refusal_of r p)
      go (reader.no r) j h = (r, j, (let z : refusal_of r p ≡ e = cc in sym z))
      go (reader.yes l str) j h = absurd (let z : ◌≡◌ {A = ℕ} 0 1 = cc in omega arith)

  halt_of_lem : (most r : ℕ) → length b ≤ m.bytes → judge_got (m.items - c) depth s prev (get_head (drop p b)) (drop p b) ≡ reader.no r
      → Reached m b ws (halt_of b most (refusal_of r p) p c o)
  halt_of_lem most r l j = go (eqb (number_of (fault_of r)) 2) refl (eqb (number_of (fault_of r)) 9) refl
    where
      back : number_of (fault_of r) ≡ r
      back = let (h, k) = step_number (m.items - c) depth s prev (drop p b) j in number_back r (omega arith) (omega arith)

      go : (t : Bool) → eqb (number_of (fault_of r)) 2 ≡ t → (u : Bool) → eqb (number_of (fault_of r)) 9 ≡ u
          → Reached m b ws (cond t (Ok (stop_at p c o (length b + 1))) (cond u (Ok (stop_at p c o (string_until (head_at b p) most (length b)))) (Err (refusal_of r p))))
      go true x u y = let q : standing m b ≡ none = run_stands m b l (refused_now j) (rw (rw back at x)) in (q, next_byte m b q, d)
      go false x true y =
          let z : r ≡ 9 = eqb-true r 9 (rw back at y) in
          (run_stands m b l (refused_now j) (rw (rw back at x, rw back at y)), short_string most (rw z at j), d)
      go false x false y =
          let e : open_ended r ≡ false = rw (rw back at x, rw back at y) in
          rw back (refused_on j e, e, let (h, k) = step_number (m.items - c) depth s prev (drop p b) j in omega arith)

  pub halted : (most : ℕ) {t : Result Taken Refusal} → t ≡ step_at b p s prev (m.items - c) depth → length b ≤ m.bytes → {e : Refusal} → t ≡ Err e
      → {y : Result Stop Refusal} → y ≡ halt_of b most e p c o → Reached m b ws y
  halted most q l g z = let (r, j, i) = judged_no q g in rw (z, i) (halt_of_lem most r l j)

  -- a head is taken
  module _ (bs : all is_byte b ≡ true) {k a q : ℕ} (tk : Took b p (m.items - c) depth s prev k a q) (kk : k ≤ 9) (fit : fits_code f.slot k a ≡ true)
      (shallow : (is_container k && eqb depth 0) ≡ false) (few : c < m.items) (on : p < q) (inside : q ≤ length b) (size_is : words ≤ length ws)
      (deep : m.containers ≤ gate_limits.containers) where
    abbrev behind_is : Next
    behind_is = next_code f.slot a f.more

    abbrev inside_is : Next
    inside_is = inside_code f.slot k a

    abbrev o₁ : ℕ
    o₁ = open_behind behind_is o

    abbrev ws₁ : List ℕ
    ws₁ = words_behind behind_is ws o f p q

    abbrev ws₂ : List ℕ
    ws₂ = words_inside inside_is ws₁ o₁ f.around

    size₁ : words ≤ length ws₁
    size₁ = omega (arith, behind_size ws f p q m.containers b size_is o behind_is)

    most : o ≤ gate_limits.containers
    most = omega (arith, framed.above, framed.allowed)

    -- the members, and what is due behind them, by the rules
    members_are : level_of inside_is ≡ members s tk.lead
    members_are = rw (← tk.kind_is, ← tk.arg_is) (inside_right f.slot tk.lead framed.slot_is).level

    next_is : level_of behind_is ≡ (rule s).next tk.lead.arg f.more
    next_is = rw tk.arg_is (next_right f.slot k a f.more framed.slot_is kk fit).level

    key_is : key_after (rule s).extra prev (key_bytes tk.lead tk.str) ≡ key_of (part b (key_span (rule s).extra f.from p) (key_span (rule s).extra f.to q))
    key_is =
        key_span_lem b (rule s).extra f.from f.to p q (key_bytes tk.lead tk.str) λ e.
        key_part b bs (m.items - c) s prev depth p k a q tk (ordered_kind s tk.lead.kind tk.lead.arg e tk.passed.fitting)

    bottom_next : (x a : ℕ) → (rule (slot_of (bottom_frame x).slot)).next a 0 ≡ done
    unfolding rule
    bottom_next x a = go (eqb x 0)
      where
        go : (t : Bool) → (rule (slot_of (cond t 0 2))).next a 0 ≡ done
        go true = refl
        go false = refl

    bottom_done : o ≡ 0 → level_of behind_is ≡ done
    bottom_done e =
        let g : f ≡ bottom_frame p = ef ∙ rw (eq-eqb o 0 e) in
        next_is ∙ rw g (bottom_next p tk.lead.arg)

    free : (j n : ℕ) → inside_is ≡ next.Due j n → (o₁ < gate_limits.containers) × (o₁ ≤ f.around) × (f.around < m.containers)
    free j n e =
        let h : 0 < depth = opens f.slot k a refl depth e shallow in
        let g = behind_most ws f p q m.containers b size_is o behind_is in
        let x = framed.above in
        (omega arith, omega arith, omega arith)

    levels_after : levels ws₂ m.containers b (open_inside inside_is o₁)
        ≡ push (members s tk.lead) [] (pred depth) (behind s tk.lead tk.str f.more prev depth (levels ws m.containers b (o - 1)))
    levels_after =
        inside_levels ws₁ f.around m.containers b size₁ o₁ inside_is (λ j n e. (free j n e).0)
        ∙ rw (members_are, behind_levels ws f p q m.containers b size_is o most behind_is bottom_done, next_is, key_is)

    runs_after : (x : List ℕ) → run m.items (first m.containers) 0 (b ++ x)
        ≡ run (m.items - (c + 1)) (levels ws₂ m.containers b (open_inside inside_is o₁)) q (drop q (b ++ x))
    runs_after x =
        let l = tk.lead in
        let left : m.items - c ≡ suc (m.items - (c + 1)) = omega arith in
        let j : judge_got (suc (m.items - (c + 1))) depth s prev (get_head (drop p b ++ x)) (drop p b ++ x) ≡ reader.yes l tk.str =
        rw left at (head_stays x (m.items - c) depth s prev (drop p b) tk.judge_is not_no not_no) in
        let g : p + (size l + length tk.str) ≡ q = tk.after_is in
        runs_here x
        ∙ rw (left, run_taken (m.items - (c + 1)) s f.more prev depth (levels ws m.containers b (o - 1)) p (drop p b ++ x) l tk.str j, levels_after, ← drop-append-le p b x d.inside, drop-drop (size l + length tk.str) p (b ++ x), g)
      where
        not_no : {l : Lead} {str : List ℕ} {r : ℕ} → reader.yes l str ≡ reader.no r → ⊥
        not_no e = let z : ◌≡◌ {A = ℕ} 0 1 = cc in omega arith

    dues_levels : (o' : ℕ) → dues ws₂ m.containers b q o' ≡ levels ws₂ m.containers b o'
    dues_levels zero = rw (ne_eqb q 0 (λ e. omega arith))
    dues_levels (suc k) = refl

    frames_after : WellFrames ws₂ m.containers (length b) (open_inside inside_is o₁)
    frames_after =
        let v = framed in
        inside_well ws₁ f.around m.containers b size₁ (length b) o₁ inside_is (rw (tk.kind_is, tk.arg_is) at (inside_right f.slot tk.lead v.slot_is).slotted) free
        (behind_well ws f p q m.containers b size_is (length b) o most behind_is (next_right f.slot k a f.more v.slot_is kk fit).slotted
        (fewer ws m.containers (length b) o d.frames) (λ j e. (v.slot_is, v.ends, v.key_within, omega arith, v.allowed)) (omega arith) inside)

    pub after : Due m ws₂ b q (c + 1) (open_inside inside_is o₁)
    after = record { runs = λ x. runs_after x ∙ rw (dues_levels (open_inside inside_is o₁)); inside = inside; frames = frames_after }

-- From where the walk began it has come here: the words before the frames are as they were, and what was due there leads to what is due here.
pub record Leads (m : Limits) (b ws₀ : List ℕ) (at₀ count₀ opened₀ : ℕ) (ws : List ℕ) (p c o : ℕ) : Type 0 where
  pub kept : Kept ws₀ ws
  pub on : Due m ws₀ b at₀ count₀ opened₀ → Due m ws b p c o

pub begins : (m : Limits) (b ws : List ℕ) (at count opened : ℕ) → Leads m b ws at count opened ws at count opened
begins m b ws at count opened = record { kept = record { size = refl; front = λ j h. refl }; on = λ d. d }

module _ {ws₀ ws : List ℕ} (kept : Kept ws₀ ws) (size_is : words ≤ length ws₀) (f : Frame) (p q o k a : ℕ) where
  moved : (o₁ : ℕ) → Kept ws₀ (words_inside (inside_code f.slot k a) (words_behind (next_code f.slot a f.more) ws o f p q) o₁ f.around)
  moved o₁ =
      let x = next_code f.slot a f.more in
      let y = inside_code f.slot k a in
      let w₁ = words_behind x ws o f p q in
      let z : words ≤ length ws = omega (arith, kept.size) in
      let l₁ : length w₁ ≡ length ws = behind_size ws f p q 0 [] z o x in
      let z₁ : words ≤ length w₁ = omega arith in
      record {
        size = inside_size w₁ f.around 0 [] z₁ o₁ y ∙ l₁ ∙ kept.size;
        front = λ j h. inside_front w₁ f.around 0 [] z₁ o₁ y j h ∙ behind_front ws f p q 0 [] z o x j h ∙ kept.front j h;
      }

-- Each way that a turn ends, from the facts that the code leaves.
module _ {m : Limits} {b ws₀ : List ℕ} {at₀ count₀ opened₀ : ℕ} {ws : List ℕ} {p c o : ℕ} (lead : Leads m b ws₀ at₀ count₀ opened₀ ws p c o) (size_is : words ≤ length ws₀) where
  module _ (more : p < length b) {f : Frame} (ef : f ≡ due_frame ws p o) {t : Result Taken Refusal} (et : t ≡ step_due m b f p c o) where
    -- a frame of ours is a level's
    step_is : (d : Due m ws b p c o) → t ≡ step_at b p (slot_of f.slot) (key_in b f) (m.items - c) (m.containers - f.around)
    unfolding step_due
    step_is d =
        let v = framed m ws b p c o d more ef in
        et ∙ rw (le-leb o f.around v.above, le-leb f.around m.containers v.allowed, key_at_lem b f.from f.to v.ends v.key_within)

    pub turned : all is_byte b ≡ true → {k a q : ℕ} → t ≡ taken k a q → TakenDue m b f p c o t → m.containers ≤ gate_limits.containers
        → {o' : ℕ} {w : List ℕ} → o' ≡ open_after f k a o → w ≡ words_after f k a ws o p q → Leads m b ws₀ at₀ count₀ opened₀ w q (c + 1) o'
    turned bs {k} {a} {q} g bound deep eo ew = record {
      kept = rw ew (moved lead.kept size_is f p q o k a (open_behind (next_code f.slot a f.more) o));
      on = λ d₀.
          let d = lead.on d₀ in
          let tk = took b p (m.items - c) (m.containers - f.around) (slot_of f.slot) (key_in b f) k a q (sym (step_is d) ∙ g) in
          let shown = (rw g at bound).0 in
          rw (eo, ew) (after m ws b p c o d more ef bs tk shown.4 shown.5 shown.3 shown.2 shown.0 shown.1 (omega (arith, lead.kept.size)) deep);
    }

    pub halts : {e : Refusal} → t ≡ Err e → (most : ℕ) → length b ≤ m.bytes → {y : Result Stop Refusal} → y ≡ halt_of b most e p c o
        → Advanced m b ws₀ at₀ count₀ opened₀ y ws
    halts g most l z = record { kept = lead.kept; reached = λ h d₀. let d = lead.on d₀ in halted m ws b p c o d more ef most (step_is d) l g z }

  -- no state of ours has more levels than containers
  pub too_deep : m.containers < o → {y : Result Stop Refusal} → Advanced m b ws₀ at₀ count₀ opened₀ y ws
  too_deep h = record {
    kept = lead.kept;
    reached = λ _ d₀.
        let v = due_frame_lem ws m.containers (length b) p o (lead.on d₀).frames in
        absurd (omega (arith, v.above, v.allowed));
  }

  pub ends : length b ≤ p → length b ≤ m.bytes → Advanced m b ws₀ at₀ count₀ opened₀ (Ok (stop_at p c o (length b + 1))) ws
  ends h l = record {
    kept = lead.kept;
    reached = λ _ d₀. let d = lead.on d₀ in let e = at_end m ws b p c o d h l in (e, next_byte m b e, d);
  }

-- the sizes that a turn keeps to
module _ {m : Limits} {b ws₀ : List ℕ} {at₀ count₀ opened₀ : ℕ} {ws : List ℕ} {p c o : ℕ} (lead : Leads m b ws₀ at₀ count₀ opened₀ ws p c o) where
  pub same_size : length ws ≡ length ws₀
  same_size = lead.kept.size

  pub still_room : words ≤ length ws₀ → words ≤ length ws
  still_room h = omega (arith, lead.kept.size)

module _ (m : Limits) (b : List ℕ) (f : Frame) (p c o : ℕ) {t : Result Taken Refusal} (w : TakenDue m b f p c o t) {k a q : ℕ} (g : t ≡ taken k a q) where
  abbrev due_shown : TakenDue m b f p c o (taken k a q)
  due_shown = rw g at w

  pub above : o ≤ f.around
  above = due_shown.1

  pub allowed : f.around ≤ m.containers
  allowed = due_shown.2

  pub shallow : (is_container k && eqb (m.containers - f.around) 0) ≡ false
  shallow = due_shown.0.3

  pub one_more : Fits w64 m.items → Fits w64 (c + 1)
  one_more h = omega (arith, due_shown.0.2)

  pub falls : length b - q < length b - p
  falls = omega (arith, due_shown.0.0, due_shown.0.1)

pub ruleset shown = (same_size, still_room, above, allowed, shallow, one_more, falls)

pub ruleset turns = (begins, turned, halts, too_deep, ends)
