-- Items joined: their bytes and heads.
use Prim.Native.Nat.{◌+◌}
use mathlib.Core.Path.{◌≡◌, refl, ap}
use mathlib.Core.List.{◌++◌, append_assoc}
use native.Mathlib.Omega.{arith}
use Rattle.ari.specs.Items.{Items, none, item, encode, heads}

-- one run behind another
abbrev pub join : Items → Items → Items
join none ys = ys
join (item l s ms rs) ys = item l s ms (join rs ys)

pub encode_join : (f b : Items) → encode (join f b) ≡ encode f ++ encode b
encode_join none b = refl
encode_join (item l str ms rs) b = rw (encode_join rs b) (simp append_assoc)

pub heads_join : (f b : Items) → heads (join f b) ≡ heads f + heads b
heads_join none b = omega arith
heads_join (item l str ms rs) b = omega (arith, heads_join rs b)

pub join_none : (g : Items) → join g none ≡ g
join_none none = refl
join_none (item l str ms rs) = ap (item l str ms) (join_none rs)
