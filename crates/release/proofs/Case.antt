-- Release under lists that differ in the case of letters alone is the same (R141).
use Prim.Native.Nat.{ℕ}
use mathlib.Core.Path.{◌≡◌, refl}
use mathlib.Core.List.{List, [], ◌∷◌, map}
use Rattle.ari.specs.declared.Limits.{Limits}
use Rattle.ari.specs.Listing.{Space, number, name, relative, Entry, listing}
use Rattle.ari.proofs.Case.{Recased}
use Rattle.names.specs.Translated.{stands_for, translate}
use Rattle.names.proofs.Case.{recased_number, recased_check}
use Rattle.release.specs.Release.{release, release_bytes}

module _ {published published' own own' : List ℕ} (p : Recased published published') (o : Recased own own') where
  stands_same : (x : Space) → stands_for published own x ≡ stands_for published' own' x
  stands_same (number z) = refl
  stands_same (name q s) = rw (recased_number p o s)
  stands_same relative = refl

  all_same : (es : List Entry) → map (translate published own) es ≡ map (translate published' own') es
  all_same [] = refl
  all_same (e ∷ es) = rw (stands_same e.space, all_same es)

  pub recased_release : (m : Limits) (b t : List ℕ) (s : ℕ) → release_bytes m b t published own s ≡ release_bytes m b t published' own' s
  unfolding release_bytes release
  recased_release m b t s = rw (recased_check p o, all_same (listing b))
