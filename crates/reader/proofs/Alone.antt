-- One head that the walk has taken alone, with no key before it: what it gives after a key. The idea: test 11 is the only one that looks at the key before, and
-- the tests behind it are of other slots.
use Prim.Native.Nat.{ℕ, zero, suc, pred, ◌+◌, ◌-◌, ◌<◌, ◌≤◌, min}
use mathlib.Core.Path.{◌≡◌, refl, sym, ◌∙◌, ap}
use mathlib.Core.Bool.{Bool, true, false, not, ◌&&◌, cond, true≢false}
use mathlib.Core.List.{List, [], ◌∷◌, ◌++◌, append_assoc}
use native.Mathlib.Omega.{arith}
use native.Mathlib.Nat.{min-le_left, min-le_right, min-eq_left, min-eq_right}
use lib.ListN.{length, take, drop, length-append, length-drop}
use lib.Seq.{length-take-le}
use lib.Dec.{ltb, eqb}
use mir.Syntax.{w64}
use mir.Val.{Fits}
use borrow.Author.Tests.{eqb-false, ltb-true, ltb-false, ne_eqb, eq-eqb}
use Rattle.buffer.specs.Bytes.{all, is_byte, part}
use Rattle.cbor.specs.Head.{text, Lead, size, lead_bytes, Got, bad, got, get_head, string_size, is_container, short_bytes, key_bytes, key_of}
use Rattle.cbor.specs.declared.Head.{Head}
use Rattle.cbor.specs.declared.Head.TheVariants.{Bad, Good}
use Rattle.cbor.specs.Answer.{answer, head_at}
use Rattle.cbor.proofs.HeadLaws.{get_head_back, length_lead}
use Rattle.ari.specs.Table.{Slot, ExtraTest, none, one, rising, filled, rule, fits, due, members, ari, message}
use Rattle.ari.specs.Items.{Items, item, encode, heads}
use Rattle.ari.specs.Items as items
use Rattle.ari.specs.Due.{Due}
use Rattle.ari.specs.Reader.{wrong_version, not_greater, is_empty, judge, judge_content, judge_got, Dues, end, sets, frame, push, behind, refuse, take_step, visit, run}
use Rattle.ari.specs.Reader as reader
use Rattle.ari.proofs.Central.{judged}
use Rattle.ari.proofs.Prefix.{taken_fits}
use Rattle.grammar.specs.Code.{slot_of, IsSlot, fits_code}
use Rattle.grammar.proofs.Right.{no_slot}
use Rattle.reader.specs.Steps.{step_answer, step_at, Bounded}
use Rattle.reader.specs.Walks.{end_of_head, first_of, Tables, Held, Walked, after_walk}
use Rattle.reader.proofs.Walking.{Took, took, stopped, runs_in}
use Rattle.reader.proofs.Keys.{ordered_kind}
use Rattle.reader.proofs.Loop.{key_part}
use Rattle.std.specs.declared.result.Result.{Result}
use Rattle.std.specs.declared.result.Result.TheVariants.{Ok, Err}
use Rattle.ari.specs.declared.Refusal.{Refusal}
use Rattle.ari.specs.Refusals.{refused}
use Rattle.reader.specs.declared.Taken.{Taken}
use Rattle.reader.specs.declared.Read.{Read}
use Rattle.reader.specs.Steps.{taken}
use Rattle.reader.specs.Results.{result_of}

-- a key is greater than none
key_greater : (o : ExtraTest) (l : Lead) (str : List ℕ) → not_greater o [] (key_bytes l str) ≡ false
unfolding short_bytes
key_greater none l str = refl
key_greater one l str = refl
key_greater rising l str = refl
key_greater filled l str = refl

-- only keys are ordered, and only parameters ask for members
not_both : (o : ExtraTest) (a : ℕ) (prev kb : List ℕ) → is_empty o a ≡ true → not_greater o prev kb ≡ false
not_both none a prev kb e = refl
not_both one a prev kb e = refl
not_both rising a prev kb e = absurd (true≢false (sym e))
not_both filled a prev kb e = refl

-- a step with no key before it, after one that it falls behind or not
abbrev after_key : Bool → reader.Step → reader.Step
after_key x (reader.no r) = reader.no r
after_key x (reader.yes l str) = cond x (reader.no 11) (reader.yes l str)

judge_after : (left d : ℕ) (s : Slot) (prev : List ℕ) (l : Lead) (r : List ℕ)
    → judge left d s prev l r ≡ after_key (not_greater (rule s).extra prev (key_bytes l (take (string_size l) r))) (judge left d s [] l r)
unfolding judge judge_content
judge_after left d s prev l r =
    rw (key_greater (rule s).extra l str)
    (go (eqb left 0) (is_container l.kind && eqb d 0) (not (fits l.kind l.arg (rule s).rows)) (wrong_version (rule s).extra l.arg) (ltb (length r) (string_size l))
    (eqb l.kind text && not ((rule s).spelling str)) (is_empty (rule s).extra l.arg) (not_greater (rule s).extra prev (key_bytes l str))
    (not_both (rule s).extra l.arg prev (key_bytes l str)))
  where
    str : List ℕ
    str = take (string_size l) r

    go : (t5 t6 t7 t8 t9 t10 t12 x : Bool) → (t12 ≡ true → x ≡ false)
        → cond t5 (reader.no 5) (cond t6 (reader.no 6) (cond t7 (reader.no 7) (cond t8 (reader.no 8) (cond t9 (reader.no 9) (cond t10 (reader.no 10) (cond x (reader.no 11) (cond t12 (reader.no 12) (reader.yes l str))))))))
        ≡ after_key x
        (cond t5 (reader.no 5) (cond t6 (reader.no 6) (cond t7 (reader.no 7) (cond t8 (reader.no 8) (cond t9 (reader.no 9) (cond t10 (reader.no 10) (cond t12 (reader.no 12) (reader.yes l str))))))))
    go true t6 t7 t8 t9 t10 t12 x h = refl
    go false true t7 t8 t9 t10 t12 x h = refl
    go false false true t8 t9 t10 t12 x h = refl
    go false false false true t9 t10 t12 x h = refl
    go false false false false true t10 t12 x h = refl
    go false false false false false true t12 x h = refl
    go false false false false false false true x h = rw (h refl)
    go false false false false false false false x h = refl

not_taken : {k a q : ℕ} {f : Refusal} → taken k a q ≡ Err f → ⊥
not_taken e = let z : ◌≡◌ {A = ℕ} 0 1 = cc in omega arith

-- a refusal's place
place_is : {A : Type 0} {g f : Refusal} → ◌≡◌ {A = Result A Refusal} (Err g) (Err f) → f.place ≡ g.place
place_is {A} {g} {f} e = let z : g ≡ f = cc in ap (λ (x : Refusal). x.place) (sym z)

module _ (b : List ℕ) (p : ℕ) (s : Slot) (prev : List ℕ) (left d : ℕ) where
  -- a refusal is that after any key
  pub refused_after : {f : Refusal} → step_at b p s [] left d ≡ Err f → Err f ≡ step_at b p s prev left d
  unfolding step_at judge_got
  refused_after {f} e = go (get_head (drop p b)) refl e
    where
      go : (y : Got) → get_head (drop p b) ≡ y → step_answer p (judge_got left d s [] y (drop p b)) ≡ Err f → Err f ≡ step_answer p (judge_got left d s prev y (drop p b))
      go (bad r') g e = sym e
      go (got l) g e = by (judge left d s [] l (drop (size l) (drop p b))) refl e
        where
          by : (z : reader.Step) → judge left d s [] l (drop (size l) (drop p b)) ≡ z → step_answer p z ≡ Err f
              → Err f ≡ step_answer p (judge left d s prev l (drop (size l) (drop p b)))
          by (reader.no r') j e = rw (judge_after left d s prev l (drop (size l) (drop p b)), j) (sym e)
          by (reader.yes k str) j e = absurd (not_taken e)

  -- what is taken is taken, or falls behind the key
  module _ {k a q : ℕ} (tk : Took b p left d s [] k a q) where
    after_is : step_at b p s prev left d ≡ step_answer p (cond (not_greater (rule s).extra prev (key_bytes tk.lead tk.str)) (reader.no 11) (reader.yes tk.lead tk.str))
    unfolding step_at judge_got
    after_is =
        let l = tk.lead in
        let r = drop (size l) (drop p b) in
        let j : judge left d s [] l r ≡ reader.yes l tk.str = rw tk.head at tk.judge_is in
        rw (tk.head, judge_after left d s prev l r, j, ← tk.passed.string)

    key_own : all is_byte b ≡ true → (rule s).extra ≡ rising → key_bytes tk.lead tk.str ≡ key_of (part b p q)
    key_own bs e = key_part b bs left s [] d p k a q tk (ordered_kind s tk.lead.kind tk.lead.arg e tk.passed.fitting)

    same_order : all is_byte b ≡ true → not_greater (rule s).extra prev (key_bytes tk.lead tk.str) ≡ not_greater (rule s).extra prev (key_of (part b p q))
    same_order bs = go (rule s).extra refl
      where
        go : (o : ExtraTest) → (rule s).extra ≡ o → not_greater o prev (key_bytes tk.lead tk.str) ≡ not_greater o prev (key_of (part b p q))
        go none e = refl
        go one e = refl
        go rising e = rw (key_own bs e)
        go filled e = refl

    pub fallen : all is_byte b ≡ true → {x : Bool} → x ≡ not_greater (rule s).extra prev (key_of (part b p q)) → x ≡ true → refused 11 p ≡ step_at b p s prev left d
    fallen bs e t = rw (after_is, same_order bs, sym e ∙ t)

    pub risen : all is_byte b ≡ true → {x : Bool} → x ≡ not_greater (rule s).extra prev (key_of (part b p q)) → x ≡ false → taken k a q ≡ step_at b p s prev left d
    risen bs e t = rw (after_is, same_order bs, sym e ∙ t, tk.kind_is, tk.arg_is) (ap (taken k a) (sym tk.after_is))

-- what a head that was taken has shown
module _ (b : List ℕ) (p c items d i : ℕ) (prev : List ℕ) where
  pub taken_bounded : {k a q : ℕ} → Took b p (items - c) d (slot_of i) prev k a q → k ≤ 9 → Bounded b p c items d i (taken k a q)
  unfolding fits_code
  taken_bounded {k} {a} {q} tk kk =
      let n : items - c ≡ 0 → ⊥ = eqb-false (items - c) 0 tk.passed.spare in
      let f = taken_fits (items - c) d (slot_of i) prev (drop p b) tk.judge_is in
      let g : p + (size tk.lead + length tk.str) ≡ q = tk.after_is in (
        omega arith,
        omega (arith, length-drop p b, f, g),
        omega arith,
        rw tk.kind_is at tk.passed.shallow,
        kk,
        rw (tk.kind_is, tk.arg_is) at tk.passed.fitting,
      )

-- The walk over the head alone, and the head looked at again.
module _ (b : List ℕ) (p i count items d : ℕ) {w : Result ℕ Refusal} (e : w ≡ end_of_head (step_at b p (slot_of i) [] (items - count) d)) where
  abbrev left : ℕ
  left = items - count

  taken_at : {q k a nx : ℕ} → w ≡ Ok q → {h : Head} → h ≡ head_at b p → h ≡ Good k a nx → step_at b p (slot_of i) [] left d ≡ taken k a q
  unfolding head_at step_at judge_got
  taken_at {q} {k} {a} {nx} g {h} eh gh = go (get_head (drop p b)) refl (sym gh ∙ eh) (sym e ∙ g)
    where
      go : (y : Got) → get_head (drop p b) ≡ y → Good k a nx ≡ answer p y → end_of_head (step_answer p (judge_got left d (slot_of i) [] y (drop p b))) ≡ Ok q
          → step_answer p (judge_got left d (slot_of i) [] y (drop p b)) ≡ taken k a q
      go (bad r) gy u v = absurd (let z : ◌≡◌ {A = ℕ} 0 1 = cc in omega arith)
      go (got l) gy u v = by (judge left d (slot_of i) [] l (drop (size l) (drop p b))) refl v
        where
          by : (z : reader.Step) → judge left d (slot_of i) [] l (drop (size l) (drop p b)) ≡ z → end_of_head (step_answer p z) ≡ Ok q → step_answer p z ≡ taken k a q
          by (reader.no r) j v = absurd (let z : ◌≡◌ {A = ℕ} 0 1 = cc in omega arith)
          by (reader.yes m str) j v =
              let (x, _) = judged left d (slot_of i) [] l (drop (size l) (drop p b)) j in
              let ek : k ≡ l.kind = cc in
              let ea : a ≡ l.arg = cc in
              let eq : p + (size m + length str) ≡ q = cc in
              rw (ek, ea, x, ← eq)

  pub no_read : {q r : ℕ} → w ≡ Ok q → {h : Head} → h ≡ head_at b p → h ≡ Bad r → ⊥
  unfolding head_at step_at judge_got
  no_read {q} {r} g {h} eh gh = go (get_head (drop p b)) (sym gh ∙ eh) (sym e ∙ g)
    where
      go : (y : Got) → Bad r ≡ answer p y → end_of_head (step_answer p (judge_got left d (slot_of i) [] y (drop p b))) ≡ Ok q → ⊥
      go (bad r') u v = let z : ◌≡◌ {A = ℕ} 0 1 = cc in omega arith
      go (got l) u v = let z : ◌≡◌ {A = ℕ} 0 1 = cc in omega arith

  refused_at : {f : Refusal} → w ≡ Err f → step_at b p (slot_of i) [] left d ≡ Err f
  refused_at {f} g = go (step_at b p (slot_of i) [] left d) (sym e ∙ g)
    where
      go : (y : Result Taken Refusal) → end_of_head y ≡ Err f → y ≡ Err f
      go (Ok t) v = absurd (let z : ◌≡◌ {A = ℕ} 0 1 = cc in omega arith)
      go (Err f') v = cc

  module _ (prev : List ℕ) where
    pub take_refused : {f : Refusal} → w ≡ Err f → Err f ≡ step_at b p (slot_of i) prev left d
    take_refused g = refused_after b p (slot_of i) prev left d (refused_at g)

    module _ {q : ℕ} (g : w ≡ Ok q) {h : Head} (eh : h ≡ head_at b p) where
      pub take_none : {r : ℕ} → h ≡ Bad r → {y z : Result Taken Refusal} → y ≡ z
      take_none gh = absurd (no_read g eh gh)

      module _ {k a nx : ℕ} (gh : h ≡ Good k a nx) (bs : all is_byte b ≡ true) {x : Bool} (ex : x ≡ not_greater (rule (slot_of i)).extra prev (key_of (part b p q))) where
        abbrev tk : Took b p left d (slot_of i) [] k a q
        tk = took b p left d (slot_of i) [] k a q (taken_at g eh gh)

        pub take_falls : x ≡ true → refused 11 p ≡ step_at b p (slot_of i) prev left d
        take_falls t = fallen b p (slot_of i) prev left d tk bs ex t

        pub take_rises : x ≡ false → taken k a q ≡ step_at b p (slot_of i) prev left d
        take_rises t = risen b p (slot_of i) prev left d tk bs ex t

  module _ {q : ℕ} (g : w ≡ Ok q) {h : Head} (eh : h ≡ head_at b p) where
    module _ {k a nx : ℕ} (gh : h ≡ Good k a nx) where
      pub alone_bounded : k ≤ 9 → Bounded b p count items d i (taken k a q)
      alone_bounded kk = taken_bounded b p count items d i [] (took b p left d (slot_of i) [] k a q (taken_at g eh gh)) kk

      shown : k ≤ 9 → (p < q) × (q ≤ length b)
      shown kk = let z = alone_bounded kk in (z.0, z.1)

      pub ends_on : k ≤ 9 → p ≤ q
      ends_on kk = omega (arith, (shown kk).0)

      pub ends_in : k ≤ 9 → q ≤ length b
      ends_in kk = (shown kk).1

pub ruleset alone_ways = (take_refused, take_none, take_falls, take_rises, alone_bounded)

-- the walk's own answer, where it is asked for one head
module _ (b : List ℕ) (p i count items d : ℕ) where
  pub past_end : length b < p → refused 2 p ≡ end_of_head (step_at b p (slot_of i) [] (items - count) d)
  unfolding step_at judge_got get_head
  past_end h = rw (nothing b p (omega arith))
    where
      nothing : (b : List ℕ) (p : ℕ) → length b ≤ p → drop p b ≡ []
      nothing [] zero h = refl
      nothing [] (suc p) h = refl
      nothing (x ∷ b) zero h = absurd (omega arith)
      nothing (x ∷ b) (suc p) h = nothing b p (omega arith)

-- A walk that may take no head more stops where it is.
no_more : (s : Slot) (n : ℕ) (prev : List ℕ) (d : ℕ) (ds : Dues) (q : ℕ) (b : List ℕ) (g : Got) → get_head b ≡ g → (z : reader.Step) → judge_got 0 d s prev g b ≡ z → {f : Refusal}
    → result_of (take_step (λ _ p _. refuse 5 p) s n prev d ds q b z) ≡ Err f → f.place ≡ q
unfolding take_step judge_got
no_more s n prev d ds q b g e (reader.no r') j f = place_is f
no_more s n prev d ds q b (bad r') e (reader.yes l str) j f = absurd (let z : ◌≡◌ {A = ℕ} 0 1 = cc in omega arith)
no_more s n prev d ds q b (got m) e (reader.yes l str) j f =
    absurd (true≢false (judged 0 d s prev m (drop (size m) b) j).1.spare)

stays : (ds : Dues) (q : ℕ) (b : List ℕ) {f : Refusal} → result_of (run 0 ds q b) ≡ Err f → f.place ≡ q
unfolding run visit
stays end q [] e = absurd (let z : ◌≡◌ {A = ℕ} 0 1 = cc in omega arith)
stays end q (x ∷ b) e = place_is e
stays (sets d) q [] e = absurd (let z : ◌≡◌ {A = ℕ} 0 1 = cc in omega arith)
stays (sets d) q (x ∷ b) e = no_more (ari message) 0 [] d (sets d) q (x ∷ b) (get_head (x ∷ b)) refl _ refl e
stays (frame s n prev d ds) q b e = no_more s n prev d ds q b (get_head b) refl _ refl e

headless : (g : Items) → heads g ≡ 0 → encode g ≡ []
headless items.none e = refl
headless (item l str ms rs) e = absurd (omega arith)

-- One that may take one head more tells of the first by where it stops.
module _ (b : List ℕ) (bs : all is_byte b ≡ true) (p d : ℕ) (s : Slot) (c most : ℕ) (few : most ≤ c + 1) where
  beyond : {q n : ℕ} {t t' : Tables} → Held b (due s 0) [] d 0 p c q n t t' → (p < q) × (c < n)
  beyond h = go h.tree h.fit h.place h.count
    where
      go : (g : Items) → Due g (push (due s 0) [] d end) → {q n : ℕ} → q ≡ p + length (encode g) → n ≡ c + heads g → (p < q) × (c < n)
      go items.none f e g = absurd f
      go (item l str ms rs) f e g = (omega (arith, e, length-append (lead_bytes l) (str ++ (encode ms ++ encode rs)), length_lead l), omega arith)

  module _ {k a q₀ : ℕ} (tk : Took b p (most - c) d s [] k a q₀) where
    one_left : most - suc c ≡ 0
    one_left = omega arith

    ahead : p < q₀
    ahead = omega (arith, tk.after_is)

    -- the only item is that head's
    same_end : (g : Items) → Due g (push (due s 0) [] d end) → {q n : ℕ} → drop p b ≡ encode g ++ drop q b → q ≡ p + length (encode g) → n ≡ c + heads g → n ≤ most → q ≡ q₀
    same_end items.none f e h i j = absurd f
    same_end (item l str ms rs) f {q} {n} e h i j =
        let em : encode ms ≡ [] = headless ms (omega arith) in
        let er : encode rs ≡ [] = headless rs (omega arith) in
        let whole : drop p b ≡ lead_bytes l ++ (str ++ drop q b) = e ∙ rw (em, er) (simp append_assoc) in
        let z : got l ≡ got tk.lead = sym (get_head_back (str ++ drop q b) f.0.head) ∙ ap get_head (sym whole) ∙ tk.head in
        let el : l ≡ tk.lead = cc in
        let ls : length str ≡ string_size l = f.0.sized in
        let lt : length tk.str ≡ string_size tk.lead = rw tk.passed.string (length-take-le (string_size tk.lead) (drop (size tk.lead) (drop p b)) tk.passed.there) in
        let u : length (encode (item l str ms rs)) ≡ size l + length str = rw (em, er) (simp length-append (omega (arith, length_lead l))) in
        omega (arith, h, u, ls, ap string_size el, ap size el, lt, tk.after_is)

    took_first : (w : Result Read Refusal) {t t' : Tables} → Walked b most (due s 0) [] d 0 p c w t t' → first_of p w ≡ Ok q₀
    took_first (Ok x) v = let h = v.held.0 in ap (λ (y : ℕ). Ok y) (same_end h.tree h.fit h.bytes h.place h.count v.held.2)
    took_first (Err f) v =
        let e : result_of (run (most - suc c) (push (members s tk.lead) [] (pred d) (behind s tk.lead tk.str 0 [] d end)) q₀ (drop q₀ b)) ≡ Err f
        = ap result_of (sym (runs_in b bs most s 0 [] d 0 p c k a q₀ tk end)) ∙ v.runs end in
        let y : f.place ≡ q₀ = stays _ q₀ (drop q₀ b) (rw one_left at e) in
        let n : f.place ≡ p → ⊥ = λ g. omega (arith, ahead) in
        rw (ne_eqb f.place p n, y)

  refused_first : (w : Result Read Refusal) {t t' : Tables} → Walked b most (due s 0) [] d 0 p c w t t' → {f : Refusal} → step_at b p s [] (most - c) d ≡ Err f → f.place ≡ p → first_of p w ≡ Err f
  refused_first w {t} {t'} v {f} e ex = go w v (sym (v.runs end) ∙ (stopped b most s 0 [] d 0 p c f t t' e).runs end)
    where
      go : (w : Result Read Refusal) {t t' : Tables} → Walked b most (due s 0) [] d 0 p c w t t' → after_walk b most w end ≡ Err f → first_of p w ≡ Err f
      go (Err f') v g = let z : f' ≡ f = cc in rw (z, eq-eqb f.place p ex)
      go (Ok x) v g =
          let h = beyond v.held.0 in
          let z : most - x.count ≡ 0 = omega (arith, h.1) in
          let y : f.place ≡ x.next = stays end x.next (drop x.next b) (rw z at g) in
          absurd (omega (arith, h.0))

  pub first_head : {w : Result Read Refusal} {t t' : Tables} → Walked b most (due s 0) [] d 0 p c w t t' → first_of p w ≡ end_of_head (step_at b p s [] (most - c) d)
  unfolding step_at
  first_head {w} v = go (step_at b p s [] (most - c) d) refl
    where
      placed : (y : reader.Step) {f : Refusal} → step_answer p y ≡ Err f → f.place ≡ p
      placed (reader.no r') e = place_is e
      placed (reader.yes l str) e = absurd (let z : ◌≡◌ {A = ℕ} 0 1 = cc in omega arith)

      go : (y : Result Taken Refusal) → step_at b p s [] (most - c) d ≡ y → first_of p w ≡ end_of_head y
      go (Ok t) e = took_first (took b p (most - c) d s [] t.kind t.arg t.after e) w v
      go (Err f) e = refused_first w v e (placed (judge_got (most - c) d s [] (get_head (drop p b)) (drop p b)) e)

-- test 5 asks only whether one more may come
any_left : (b : List ℕ) (p : ℕ) (s : Slot) (d left left' : ℕ) → eqb left 0 ≡ eqb left' 0 → step_at b p s [] left d ≡ step_at b p s [] left' d
unfolding step_at judge_got judge
any_left b p s d left left' e = ap (step_answer p) (go (get_head (drop p b)))
  where
    go : (g : Got) → judge_got left d s [] g (drop p b) ≡ judge_got left' d s [] g (drop p b)
    go (bad r) = refl
    go (got l) = rw e

pub one_head : (b : List ℕ) → all is_byte b ≡ true → (p i count items d j : ℕ) {c most : ℕ} → slot_of j ≡ slot_of i → c ≡ min count items → {more : ℕ} → more ≡ min (c + 1) 18446744073709551615
    → most ≡ min items more → Fits w64 items → {w : Result Read Refusal} {t t' : Tables} → Walked b most (due (slot_of j) 0) [] d 0 p c w t t' → {r : Result ℕ Refusal} → r ≡ first_of p w
    → r ≡ end_of_head (step_at b p (slot_of i) [] (items - count) d)
one_head b bs p i count items d j {c} {most} ej ec {more} em el fit v er =
    let few : most ≤ c + 1 = omega (arith, el, em, min-le_right items more, min-le_left (c + 1) 18446744073709551615) in
    let e : step_at b p (slot_of j) [] (most - c) d ≡ step_at b p (slot_of i) [] (items - count) d = rw ej (any_left b p (slot_of i) d (most - c) (items - count) same) in
    er ∙ first_head b bs p d (slot_of j) c most few v ∙ ap end_of_head e
  where
    same : eqb (most - c) 0 ≡ eqb (items - count) 0
    same = go (ltb count items) refl
      where
        go : (y : Bool) → ltb count items ≡ y → eqb (most - c) 0 ≡ eqb (items - count) 0
        go true e =
            let h : count < items = ltb-true count items e in
            let a : c ≡ count = ec ∙ min-eq_left (omega arith) in
            let m : more ≡ c + 1 = em ∙ min-eq_left (omega arith) in
            let l : most ≡ c + 1 = el ∙ rw m (min-eq_right (omega arith)) in
            rw (ne_eqb (most - c) 0 (λ z. omega arith), ne_eqb (items - count) 0 (λ z. omega arith))
        go false e =
            let h : items ≤ count = ltb-false count items e in
            let a : c ≡ items = ec ∙ min-eq_right h in
            rw (eq-eqb (most - c) 0 (omega (arith, el, min-le_left items more)), eq-eqb (items - count) 0 (omega arith))

pub few : (count items : ℕ) {c : ℕ} → c ≡ min count items → c ≤ items
few count items e = omega (arith, min-le_right count items)

pub enough : (count items : ℕ) {c more most : ℕ} → c ≡ min count items → more ≡ min (c + 1) 18446744073709551615 → most ≡ min items more → Fits w64 c → c ≤ most
enough count items {c} {more} {most} e f g h = go (ltb items more) refl
  where
    go : (y : Bool) → ltb items more ≡ y → c ≤ most
    go true q = omega (arith, g ∙ min-eq_left (let l = ltb-true items more q in omega arith), few count items e)
    go false q =
        let m : c ≤ more = small (ltb (c + 1) 18446744073709551615) refl in
        omega (arith, g ∙ min-eq_right (ltb-false items more q))
      where
        small : (z : Bool) → ltb (c + 1) 18446744073709551615 ≡ z → c ≤ more
        small true z = omega (arith, f ∙ min-eq_left (let l = ltb-true (c + 1) 18446744073709551615 z in omega arith))
        small false z = omega (arith, f ∙ min-eq_right (ltb-false (c + 1) 18446744073709551615 z))

-- a walk's answer as the head's, way by way
module _ (p : ℕ) {w : Result Read Refusal} where
  pub first_read : {x : Read} → w ≡ Ok x → Ok x.next ≡ first_of p w
  first_read e = rw e

  module _ {f : Refusal} (e : w ≡ Err f) where
    pub first_refused : f.place ≡ p → Err f ≡ first_of p w
    first_refused g = rw (e, eq-eqb f.place p g)

    pub first_behind : (f.place ≡ p → ⊥) → Ok f.place ≡ first_of p w
    first_behind g = rw (e, ne_eqb f.place p g)

pub ruleset first_ways = (first_read, first_refused, first_behind)

-- a number that is no slot's
pub known_slot : (i : ℕ) → i < 72 → IsSlot i × (slot_of i ≡ slot_of i)
known_slot i h = (h, refl)

pub no_slots : (i : ℕ) → 72 ≤ i → IsSlot 0 × (slot_of 0 ≡ slot_of i)
no_slots i h = (omega arith, no_slot i h)
