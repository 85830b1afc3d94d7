-- A message's sets that are cut, part by part: their items, where they are cut, their bytes, heads and depth.
use Prim.Native.Nat.{ℕ, suc, ◌+◌, ◌-◌, ◌≤◌, max}
use mathlib.Core.Path.{◌≡◌, refl, ◌∙◌, ap}
use mathlib.Core.Bool.{Bool, true, false, cond}
use mathlib.Core.List.{List, [], ◌∷◌, ◌++◌, append_assoc, append-nil}
use native.Mathlib.Omega.{arith}
use lib.ListN.{length, length-append}
use borrow.Author.Tests.{eq-eqb}
use Rattle.cbor.specs.Head.{array, Lead, lead_bytes, lead_of, is_container}
use Rattle.cbor.proofs.HeadLaws.{length_lead}
use Rattle.ari.specs.Table.{done}
use Rattle.ari.specs.Items.{Items, none, item, encode, heads, depth, Spot, spot_at, spots}
use Rattle.ari.proofs.Join.{join, encode_join, heads_join}
use Rattle.ari.proofs.Well.{trees}
use Rattle.ari.proofs.Spots.{All, spot_too, all_append, all_map}
use Rattle.ari.proofs.Members.{within}
use Rattle.strike.specs.Strike.{without, shorter, struck_sets, cut, seek}
use Rattle.strike.proofs.Runs.{run, behind, run_join, sets_join, bounds, run_bounds, depth_join}
use Rattle.strike.proofs.Sets.{Set}
use Rattle.strike.proofs.Cutting.{set_count, two_of, set_whole, set_spot, type_spot, inner_spot, frame_spots, body_place, body_spots, Cutting}
use Rattle.strike.proofs.Seeking.{Clear, all_apart, seek_run, seek_set, seek_sets, behind_set, whole_set}

encode_set : (a : Items) (l : Lead) (s : List ℕ) (l₁ : Lead) (s₁ : List ℕ) (m₁ : Items) (h : Lead) (t : List ℕ) (f u r : Items) → t ≡ []
    → encode (join a (item l s (item l₁ s₁ m₁ (item h t (join f u) none)) r))
    ≡ (encode a ++ (lead_bytes l ++ (s ++ (lead_bytes l₁ ++ (s₁ ++ encode m₁))))) ++ (lead_bytes h ++ (encode f ++ (encode u ++ encode r)))
encode_set a l s l₁ s₁ m₁ h t f u r e =
    rw (encode_join a (item l s (item l₁ s₁ m₁ (item h t (join f u) none)) r), e, encode_join f u) (simp (append_assoc, append-nil))

deeper : (f u' u : ℕ) → u' ≤ u → max f u' ≤ max f u
deeper f u' u h = omega arith

inner : (c n' n : ℕ) → n' ≤ n → max c (max (suc n') 0) ≤ max c (max (suc n) 0)
inner c n' n h = omega arith

outer : (a r n' n : ℕ) → n' ≤ n → max a (max (suc n') r) ≤ max a (max (suc n) r)
outer a r n' n h = omega arith

depth_set : (a : Items) (l : Lead) (s : List ℕ) (l₁ : Lead) (s₁ : List ℕ) (m₁ : Items) (h h' : Lead) (t : List ℕ) (f u u' r : Items)
    → h.kind ≡ array → h'.kind ≡ array → depth u' ≤ depth u
    → depth (join a (item l s (item l₁ s₁ m₁ (item h' t (join f u') none)) r)) ≤ depth (join a (item l s (item l₁ s₁ m₁ (item h t (join f u) none)) r))
unfolding is_container
depth_set a l s l₁ s₁ m₁ h h' t f u u' r e e' d =
    rw (depth_join a (item l s (item l₁ s₁ m₁ (item h' t (join f u') none)) r), depth_join a (item l s (item l₁ s₁ m₁ (item h t (join f u) none)) r), e, e', depth_join f u, depth_join f u')
    (go (is_container l.kind) (cond (is_container l₁.kind) (suc (depth m₁)) 0))
  where
    go : (t : Bool) (c : ℕ)
        → max (depth a) (max (cond t (suc (max c (max (suc (max (depth f) (depth u'))) 0))) 0) (depth r))
        ≤ max (depth a) (max (cond t (suc (max c (max (suc (max (depth f) (depth u))) 0))) 0) (depth r))
    go true c = outer (depth a) (depth r) _ _ (inner c _ _ (deeper (depth f) (depth u') (depth u) d))
    go false c = omega arith

module _ {k : ℕ} {g : Items} (c : Cutting k g) where
  abbrev x : Set c.lead c.str c.inside
  x = c.the_set

  abbrev old_head : Lead
  old_head = x.lead

  abbrev new_head : Lead
  new_head = shorter old_head

  abbrev body : Items
  body = x.inner.body

  abbrev front : Items
  front = c.parts.front

  abbrev rest : Items
  rest = c.parts.rest

  abbrev part : Items
  part = item c.parts.lead c.parts.str c.parts.inside none

  -- the bytes
  abbrev pub bytes_before : List ℕ
  bytes_before =
      encode c.before ++ (lead_bytes c.lead ++ (c.str ++ (lead_bytes x.kind ++ (x.kind_str ++ encode x.kind_inside))))

  abbrev pub bytes_between : List ℕ
  bytes_between = encode x.inner.frame ++ encode front

  abbrev pub bytes_struck : List ℕ
  bytes_struck = lead_bytes c.parts.lead ++ (c.parts.str ++ encode c.parts.inside)

  abbrev pub bytes_behind : List ℕ
  bytes_behind = encode rest ++ encode c.behind

  encoded : (h : Lead) (u : Items) → encode (join c.before (item c.lead c.str (two_of x h u) c.behind))
      ≡ bytes_before ++ (lead_bytes h ++ (encode x.inner.frame ++ (encode u ++ encode c.behind)))
  encoded h u =
      encode_set c.before c.lead c.str x.kind x.kind_str x.kind_inside h x.str x.inner.frame u c.behind x.inner.bare

  pub old_bytes : encode g ≡ bytes_before ++ (lead_bytes old_head ++ (bytes_between ++ (bytes_struck ++ bytes_behind)))
  old_bytes =
      ap encode (c.whole ∙ ap (λ (m : Items). join c.before (item c.lead c.str m c.behind)) (set_whole x))
      ∙ (encoded old_head body
      ∙ ap (λ (z : List ℕ). bytes_before ++ (lead_bytes old_head ++ (encode x.inner.frame ++ (z ++ encode c.behind)))) (ap encode c.parts.whole ∙ encode_join front (item c.parts.lead c.parts.str c.parts.inside rest))
      ∙ simp append_assoc)

  pub new_bytes : encode (struck_sets k g) ≡ bytes_before ++ (lead_bytes new_head ++ (bytes_between ++ bytes_behind))
  new_bytes =
      ap encode c.now
      ∙ (encoded new_head (without c.place body)
      ∙ ap (λ (z : List ℕ). bytes_before ++ (lead_bytes new_head ++ (encode x.inner.frame ++ (z ++ encode c.behind)))) (ap encode c.parts.left ∙ encode_join front rest)
      ∙ simp append_assoc)

  -- the heads
  headed : (h : Lead) (u : Items) → heads (join c.before (item c.lead c.str (two_of x h u) c.behind))
      ≡ heads c.before + suc (suc (heads x.kind_inside + suc (heads x.inner.frame + heads u + 0)) + heads c.behind)
  headed h u = rw (heads_join c.before (item c.lead c.str (two_of x h u) c.behind), heads_join x.inner.frame u)

  pub fewer_heads : heads (struck_sets k g) + suc (heads c.parts.inside) ≡ heads g
  fewer_heads =
      let old = ap heads (c.whole ∙ ap (λ (m : Items). join c.before (item c.lead c.str m c.behind)) (set_whole x)) ∙ headed old_head body in
      let new = ap heads c.now ∙ headed new_head (without c.place body) in
      let all = ap heads c.parts.whole ∙ heads_join front (item c.parts.lead c.parts.str c.parts.inside rest) in
      let left = ap heads c.parts.left ∙ heads_join front rest in
      omega (arith, old, new, all, left)

  -- the depth
  pub no_deeper : depth (struck_sets k g) ≤ depth g
  unfolding lead_of
  no_deeper =
      let old = ap depth (c.whole ∙ ap (λ (m : Items). join c.before (item c.lead c.str m c.behind)) (set_whole x)) in
      let new = ap depth c.now in
      let all = ap depth c.parts.whole ∙ depth_join front (item c.parts.lead c.parts.str c.parts.inside rest) in
      let left = ap depth c.parts.left ∙ depth_join front rest in
      let less = depth_set c.before c.lead c.str x.kind x.kind_str x.kind_inside old_head new_head x.str x.inner.frame body (without c.place body) c.behind x.inner.kind_is refl (omega (arith, all, left)) in
      omega (arith, old, new, less)

  -- the items
  module _ (p : ℕ) where
    abbrev pub set_place : ℕ
    set_place = p + length (encode c.before)

    abbrev pub spots_before : List Spot
    spots_before = spots c.before true done p 0

    abbrev pub the_inner : Spot
    the_inner = inner_spot x old_head body set_place

    abbrev pub spots_framing : List Spot
    spots_framing = frame_spots x old_head body set_place

    abbrev pub spots_front : List Spot
    spots_front = run x.inner.slot front (body_place x old_head body set_place) 2

    abbrev pub struck_place : ℕ
    struck_place = body_place x old_head body set_place + length (encode front)

    abbrev pub struck_spot : Spot
    struck_spot = spot_at x.inner.slot struck_place 2 c.parts.lead c.parts.str c.parts.inside

    abbrev pub spots_rest : List Spot
    spots_rest = run x.inner.slot rest struck_spot.after 2

    abbrev pub spots_behind : List Spot
    spots_behind = behind_set x c.behind set_place

    pub old_spots : spots g true done p 0
        ≡ spots_before
        ++ (set_spot x old_head body set_place
        ∷ (type_spot x old_head body set_place ∷ (the_inner ∷ (spots_framing ++ (spots_front ++ (struck_spot ∷ (within struck_spot ++ (spots_rest ++ spots_behind))))))))
    old_spots =
        ap (λ (z : Items). spots z true done p 0) c.whole
        ∙ (sets_join c.before (item c.lead c.str c.inside c.behind) p 0
        ∙ (ap (λ (z : List Spot). spots_before ++ z) (whole_set x c.behind set_place)
        ∙ ap (λ (z : List Spot). spots_before ++ (set_spot x old_head body set_place ∷ (type_spot x old_head body set_place ∷ (the_inner ∷ (spots_framing ++ z))))) inner_spots))
      where
        cut_body : body_spots x old_head body set_place ≡ spots_front ++ (struck_spot ∷ (within struck_spot ++ spots_rest))
        cut_body =
            ap (λ (z : Items). run x.inner.slot z (body_place x old_head body set_place) 2) c.parts.whole
            ∙ run_join x.inner.slot front (item c.parts.lead c.parts.str c.parts.inside rest) (body_place x old_head body set_place) 2

        inner_spots : body_spots x old_head body set_place ++ spots_behind ≡ spots_front ++ (struck_spot ∷ (within struck_spot ++ (spots_rest ++ spots_behind)))
        inner_spots =
            ap (λ (z : List Spot). z ++ spots_behind) cut_body
            ∙ (append_assoc spots_front (struck_spot ∷ (within struck_spot ++ spots_rest)) spots_behind
            ∙ ap (λ (z : List Spot). spots_front ++ (struck_spot ∷ z)) (append_assoc (within struck_spot) spots_rest spots_behind))

    -- the sets behind begin where the set ends
    pub behind_place : struck_spot.after + length (encode rest) ≡ set_place + length (encode (item c.lead c.str (two_of x old_head body) none))
    behind_place =
        let whole = ap length (encode_join x.inner.frame body) ∙ length-append (encode x.inner.frame) (encode body) in
        let cut_body =
        ap length (ap encode c.parts.whole ∙ encode_join front (item c.parts.lead c.parts.str c.parts.inside rest))
        ∙ length-append (encode front) (encode (item c.parts.lead c.parts.str c.parts.inside rest)) in
        let one = behind 0 c.parts.lead c.parts.str c.parts.inside rest in
        simp length-append (omega (arith, whole, cut_body, one, length_lead c.lead, length_lead x.kind, length_lead old_head))

    -- the items behind the struck part begin behind it
    pub all_behind : All (λ y. struck_spot.after ≤ y.first) (spots_rest ++ spots_behind)
    all_behind =
        all_append (all_map (λ y h. h.0) (run_bounds x.inner.slot rest struck_spot.after 2))
        (all_map (λ y h. omega (arith, h.0, behind_place)) (bounds c.behind true done (set_place + length (encode (item c.lead c.str (two_of x old_head body) none))) 0))

    -- where it is cut
    pub seek_cut : (v : Spot) (i : ℕ) → All Clear (spots g true done p 0)
        → seek k 0 v i (spots g true done p 0)
        ≡ cut (record { number = suc (suc (suc (i + length spots_before))) + length spots_framing + length spots_front; inner = the_inner; struck = struck_spot })
    seek_cut v i clear =
        ap (seek k 0 v i) old_spots
        ∙ (before.1
        ∙ (seek_set k x old_head body set_place (spots_front ++ (struck_spot ∷ behind)) (0 + set_count c.before) before.0 (i + length spots_before)
        ∙ (seek_run k x.inner.slot front (body_place x old_head body set_place) (struck_spot ∷ behind) (0 + set_count c.before) the_inner (suc (suc (suc (i + length spots_before))) + length spots_framing) x.inner.is_target_lem parts.1 (omega (arith, c.number, c.parts.before))
        ∙ rw (x.inner.is_target_lem, eq-eqb (0 + set_count c.before + trees front) k (omega (arith, c.number, c.parts.before))))))
      where
        behind : List Spot
        behind = within struck_spot ++ (spots_rest ++ spots_behind)

        inside : List Spot
        inside = set_spot x old_head body set_place ∷ (type_spot x old_head body set_place ∷ (the_inner ∷ (spots_framing ++ (spots_front ++ (struck_spot ∷ behind)))))

        parts : All Clear spots_before × All Clear spots_front
        parts = go (all_apart spots_before (rw old_spots at clear))
          where
            go : All Clear spots_before × All Clear inside → All Clear spots_before × All Clear spots_front
            go (a, spot_too q₁ (spot_too q₂ (spot_too q₃ z))) = (a, (all_apart spots_front (all_apart spots_framing z).1).0)

        before : (u : Spot) × (seek k 0 v i (spots_before ++ inside) ≡ seek k (0 + set_count c.before) u (i + length spots_before) inside)
        before = seek_sets k c.stand_before p inside 0 v i parts.0 (omega (arith, c.number))
