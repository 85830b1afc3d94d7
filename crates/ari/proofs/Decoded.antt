-- Bytes are read back as the items that they encode.
use Prim.Native.Nat.{ℕ, zero, suc, ◌≤◌}
use mathlib.Core.Path.{◌≡◌, refl, sym, ◌∙◌, ap}
use mathlib.Core.List.{List, [], ◌∷◌, ◌++◌, append_assoc, append-nil}
use native.Mathlib.Omega.{arith}
use lib.ListN.{length, length-append}
use lib.Seq.{take_at, drop_at, drop-append-add}
use Rattle.cbor.specs.Head.{size, lead_bytes, get_head, string_size, arity}
use Rattle.cbor.proofs.HeadLaws.{length_lead, get_head_back}
use Rattle.ari.proofs.Join.{join}
use Rattle.ari.specs.Items.{Items, none, item, encode, heads}
use Rattle.ari.proofs.Well.{trees, Well}
use Rattle.ari.specs.Decode.{Headed, trace_got, trace, front, behind_first, build, decode}
use Rattle.ari.proofs.Join.{encode_join, heads_join, join_none}

-- the heads of items, in the order of their bytes
abbrev flat : Items → List Headed
flat none = []
flat (item l s ms rs) = record { lead = l; str = s } ∷ (flat ms ++ flat rs)

flat_join : (g h : Items) → flat (join g h) ≡ flat g ++ flat h
flat_join none h = refl
flat_join (item l s ms rs) h = rw (flat_join rs h) (simp append_assoc)

well_join : (g h : Items) → Well g → Well h → Well (join g h)
well_join none h p q = q
well_join (item l s ms rs) h p q = (p.0, p.1, p.2, p.3, well_join rs h p.4 q)

front_join : (n : ℕ) (g h : Items) → trees g ≡ n → front n (join g h) ≡ g
front_join zero none h e = refl
front_join zero (item l s ms rs) h e = absurd (omega arith)
front_join (suc n) none h e = absurd (omega arith)
front_join (suc n) (item l s ms rs) h e = ap (item l s ms) (front_join n rs h (omega arith))

behind_join : (n : ℕ) (g h : Items) → trees g ≡ n → behind_first n (join g h) ≡ h
behind_join zero none h e = refl
behind_join zero (item l s ms rs) h e = absurd (omega arith)
behind_join (suc n) none h e = absurd (omega arith)
behind_join (suc n) (item l s ms rs) h e = behind_join n rs h (omega arith)

build_flat : (g : Items) (hs : List Headed) → Well g → build (flat g ++ hs) ≡ join g (build hs)
unfolding build
build_flat none hs w = refl
build_flat (item l s ms rs) hs w =
    rw (
      append_assoc (flat ms) (flat rs) hs,
      build_flat ms (flat rs ++ hs) w.3,
      build_flat rs hs w.4,
      front_join (arity l) ms (join rs (build hs)) w.2,
      behind_join (arity l) ms (join rs (build hs)) w.2,
    )

trace_encode : (n : ℕ) (g : Items) → Well g → heads g ≤ n → trace n (encode g) ≡ flat g
unfolding trace trace_got get_head
trace_encode zero none w h = refl
trace_encode zero (item l s ms rs) w h = absurd (omega arith)
trace_encode (suc n) none w h = refl
trace_encode (suc n) (item l s ms rs) w h =
    let r : List ℕ = encode (join ms rs) in
    let j = trace_encode n (join ms rs) (well_join ms rs w.3 w.4) (omega (arith, heads_join ms rs)) in
    rw (
      ← encode_join ms rs,
      ← flat_join ms rs,
      get_head_back (s ++ r) w.0,
      drop_at (lead_bytes l) (s ++ r) (size l) (length_lead l),
      take_at s r (string_size l) w.1,
      ← length_lead l,
      drop-append-add (lead_bytes l) (s ++ r) (string_size l),
      drop_at s r (string_size l) w.1,
      j,
    )

pub heads_encode : (g : Items) → heads g ≤ length (encode g)
heads_encode none = omega arith
heads_encode (item l s ms rs) = simp length-append (omega (arith, length_lead l, heads_encode ms, heads_encode rs))

pub decode_encode : (g : Items) → Well g → decode (encode g) ≡ g
unfolding decode build
decode_encode g w =
    ap build (trace_encode (length (encode g)) g w (heads_encode g) ∙ sym (append-nil (flat g))) ∙ build_flat g [] w ∙ join_none g
