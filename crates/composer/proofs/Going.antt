-- Targets put one after the other: those so far stand in the room, and with what is gathered from the place on they are all that is gathered.
use Prim.Native.Nat.{ℕ, suc, ◌+◌, ◌-◌, ◌^◌, ◌<◌, ◌≤◌}
use mathlib.Core.Path.{◌≡◌, refl, sym, ◌∙◌, ap}
use mathlib.Core.List.{List}
use native.Mathlib.Omega.{arith}
use native.Mathlib.Numerals.{add-one}
use native.Mathlib.Nat.{zero-add}
use lib.ListN.{length, length-append}
use mir.Syntax.{w64}
use mir.Val.{Fits}
use Rattle.buffer.specs.Bytes.{part}
use Rattle.buffer.specs.Put.{Put}
use Rattle.buffer.specs.Runs.{RunTo}
use Rattle.buffer.proofs.Putting.{put_nothing, put_both}
use Rattle.cbor.specs.Head.{Lead}
use Rattle.ari.specs.declared.Limits.{Limits}
use Rattle.ari.specs.Limits.{gate_limits, capped}
use Rattle.ari.specs.Decode.{decode}
use Rattle.ari.specs.Items.{Items, none, item, encode, heads}
use Rattle.ari.proofs.Decoded.{heads_encode}
use Rattle.ari.proofs.Join.{join, encode_join, heads_join, join_none}
use Rattle.composer.specs.Compose.{nothing, reference, reference_in, reference_by, reference_of, Gathered, wrong, targets, with_first, gather}
use Rattle.composer.specs.Code.{in_text, IsLong, IsTarget, TakesText, PutsText, gather_at, TargetsPut, RestIs}
use Rattle.std.specs.Prelude.{Option, Some, None, Result, Ok, Err}
use Rattle.composer.specs.declared.Target.{Target}
use Rattle.composer.specs.declared.TextError.{TextError}
use Rattle.composer.specs.declared.TextError.TheVariants.{Other, TooLong}
use Rattle.composer.specs.declared.BuildError.TheVariants.{Wrong, Over}
use Rattle.composer.proofs.Texts.{not_ended, ended, none_left}
use Rattle.composer.proofs.Reading.{tree_of}
use Rattle.composer.proofs.Gathering.{firsts, encode_front}

-- targets in front of what is gathered
abbrev pub before : ℕ → Items → Gathered → Gathered
before c us (wrong j) = wrong j
before c us (targets n rs) = targets (c + n) (join us rs)

before_none : (g : Gathered) → g ≡ before 0 none g
before_none (wrong j) = refl
before_none (targets n rs) = rw (zero-add n)

join_one : (us : Items) (l : Lead) (s : List ℕ) (ms rs : Items) → join us (item l s ms rs) ≡ join (join us (item l s ms none)) rs
join_one none l s ms rs = refl
join_one (item k t ns us) l s ms rs = ap (item k t ns) (join_one us l s ms rs)

before_one : (c k : ℕ) (us : Items) (l : Lead) (s : List ℕ) (ms : Items) (g : Gathered)
    → before c us (with_first k (reference l s ms) g) ≡ before (c + 1) (join us (item l s ms none)) g
before_one c k us l s ms (wrong j) = refl
before_one c k us l s ms (targets n rs) = let z : c + suc n ≡ c + 1 + n = omega arith in rw (z, join_one us l s ms rs)

pub record Going (m : Limits) (b room₀ room : List ℕ) (at first p k q n : ℕ) : Type 0 where
  pub items : Items
  pub many : ℕ
  pub inside : p ≤ length b
  pub numbered : k ≤ p
  pub gathers : gather_at m b 0 0 ≡ before many items (gather_at m b p k)
  pub put : Put room₀ room at q (encode items)
  pub place : q ≡ at + length (encode items)
  pub fits : q ≤ length room
  pub sized : length room ≡ length room₀
  pub counted : n ≡ first + heads items
  pub few : n ≤ q

pub going_begins : (m : Limits) (b room : List ℕ) (at first : ℕ) → at ≤ length room → first ≤ at → Going m b room room at first 0 0 at first
going_begins m b room at first h i = record {
  items = none;
  many = 0;
  inside = omega arith;
  numbered = omega arith;
  gathers = before_none (gather_at m b 0 0);
  put = put_nothing room at;
  place = omega arith;
  fits = h;
  sized = refl;
  counted = omega arith;
  few = i;
}

module _ {m : Limits} {b room₀ room : List ℕ} {at first p k q n : ℕ} (g : Going m b room₀ room at first p k q n) where
  pub going_ends : length b ≤ p → TargetsPut m b room₀ room at first (Ok (record { size = q; count = n }))
  going_ends h =
      let z : gather_at m b p k ≡ targets 0 none = ap (gather m k) (none_left b p h) in
      record {
        built = record {
          many = g.many + 0;
          items = join g.items none;
          are = g.gathers ∙ ap (before g.many g.items) z;
          put = rw (join_none g.items) g.put;
          size_is = rw (join_none g.items) g.place;
          fits = omega (arith, g.fits, g.sized);
          count_is = rw (join_none g.items) g.counted;
        };
        sized = g.sized;
      }

  module _ (more : p < length b) {e : ℕ} (r : RunTo in_text b p e) where
    pub last_unended : e ≡ length b → TargetsPut m b room₀ room at first (Err (Wrong k))
    last_unended h =
        let z : gather_at m b p k ≡ wrong k = ap (gather m k) (not_ended b p more r h) in
        record { built = g.gathers ∙ ap (before g.many g.items) z; sized = g.sized }

    module _ (h : e ≡ length b → ⊥) where
      text_is : gather_at m b p k ≡ with_first k (reference_of m (part b p e)) (gather_at m b (e + 1) (k + 1))
      text_is = rw (add-one k) (ap (gather m k) (ended b p more r h))

      module _ {w : Result Target TextError} {room' : List ℕ} (x : PutsText m (part b p e) room room' q w) where
        sized_on : length room' ≡ length room₀
        sized_on = x.sized ∙ g.sized

        pub no_reference : {v : TextError} → w ≡ Err v → v ≡ Other → TargetsPut m b room₀ room' at first (Err (Wrong k))
        no_reference d f =
            let c = d ∙ ap Err f in
            let y : reference_of m (part b p e) ≡ nothing = (rw c at x).taken in
            let z : gather_at m b p k ≡ wrong k = text_is ∙ rw y in
            record { built = g.gathers ∙ ap (before g.many g.items) z; sized = sized_on }

        pub no_room_left : {v : TextError} → w ≡ Err v → v ≡ TooLong → TargetsPut m b room₀ room' at first (Err (Over p k))
        unfolding reference_of
        no_room_left d f =
            let c = d ∙ ap Err f in
            let y : IsLong m (part b p e) (length room - q) = (rw c at x).taken in
            record {
              built = record {
                size = length (encode g.items) + length y.ari;
                over = omega (arith, y.longer, g.place, g.fits, g.sized);
                left_over = record {
                  inside = g.inside;
                  numbered = g.numbered;
                  wrongs = λ j z. g.gathers ∙ ap (before g.many g.items) z;
                  rights = λ z. record {
                    many = g.many + z.many;
                    items = join g.items z.items;
                    are = g.gathers ∙ ap (before g.many g.items) z.are;
                    long = longer y z.many z.items z.are;
                  };
                };
              };
              sized = sized_on;
            }
          where
            longer : (y : IsLong m (part b p e) (length room - q)) (n : ℕ) (ts : Items) → gather_at m b p k ≡ targets n ts
                → length (encode g.items) + length y.ari ≤ length (encode (join g.items ts))
            longer y n ts z =
                let f = firsts k (reference_of m (part b p e)) (gather_at m b (e + 1) (k + 1)) (sym text_is ∙ z) in
                let v : reference_in (decode y.ari) ≡ reference f.lead f.str f.inside = ap reference_by (sym y.is) ∙ f.first_is in
                let u : encode (item f.lead f.str f.inside none) ≡ y.ari = ap encode (sym (tree_of (decode y.ari) v).0) ∙ y.whole in
                omega (
                  arith,
                  ap length (encode_join g.items ts),
                  length-append (encode g.items) (encode ts),
                  ap (λ (i : Items). length (encode i)) f.whole,
                  ap length (encode_front f.lead f.str f.inside f.rest),
                  length-append (encode (item f.lead f.str f.inside none)) (encode f.rest),
                  ap length u,
                )

        pub target_put : {v : Target} → w ≡ Ok v → Going m b room₀ room' at first (e + 1) (k + 1) (q + v.size) (n + v.count)
        target_put {v} c =
            let y : IsTarget m (part b p e) room room' q v.size v.count = (rw c at x).taken in
            let one : Items = item y.lead y.str y.inside none in
            let z : gather_at m b p k ≡ with_first k (reference y.lead y.str y.inside) (gather_at m b (e + 1) (k + 1)) = text_is ∙ rw y.is in
            let i : e < length b = omega (arith, r.inside) in
            let put_one : Put room room' q (q + v.size) (encode one) = record { bytes = y.room_is; place = omega (arith, y.fits, y.size_is) } in
            record {
              items = join g.items one;
              many = g.many + 1;
              inside = omega arith;
              numbered = omega (arith, g.numbered, r.on);
              gathers = g.gathers ∙ ap (before g.many g.items) z ∙ before_one g.many k g.items y.lead y.str y.inside (gather_at m b (e + 1) (k + 1));
              put = rw (encode_join g.items one) (put_both g.put put_one);
              place = omega (arith, g.place, ap length (encode_join g.items one), length-append (encode g.items) (encode one), y.size_is);
              fits = omega (arith, y.fits, x.sized);
              sized = sized_on;
              counted = omega (arith, g.counted, heads_join g.items one, y.count_is);
              few = omega (arith, g.few, heads_encode one, y.count_is, y.size_is);
            }

        module _ {v : Target} (c : w ≡ Ok v) (f : length room₀ < 2 ^ 64) where
          pub place_fits : Fits w64 (q + v.size)
          place_fits =
              let y : IsTarget m (part b p e) room room' q v.size v.count = (rw c at x).taken in
              record { fits = omega (arith, y.fits, g.sized, f) }

          pub count_fits : Fits w64 (n + v.count)
          count_fits =
              let y : IsTarget m (part b p e) room room' q v.size v.count = (rw c at x).taken in
              record { fits = omega (arith, g.few, heads_encode (item y.lead y.str y.inside none), y.count_is, y.size_is, y.fits, g.sized, f) }

pub ruleset going = (going_begins, going_ends, last_unended, no_reference, no_room_left, target_put, place_fits, count_fits)

-- The texts that are left, read for their own sake: what is gathered from where it began is what is gathered from here on behind others.
pub record Onward (m : Limits) (b room₀ room : List ℕ) (at number p k : ℕ) : Type 0 where
  pub items : Items
  pub many : ℕ
  pub inside : p ≤ length b
  pub numbered : k ≤ p
  pub gathers : gather_at m b at number ≡ before many items (gather_at m b p k)
  pub holds : m.bytes ≤ length room
  pub sized : length room ≡ length room₀

module _ (l : Limits) (b room : List ℕ) (at number : ℕ) where
  pub onward_begins : at ≤ length b → number ≤ at → gate_limits.bytes ≤ length room → Onward (capped l) b room room at number at number
  onward_begins h i j = record {
    items = none;
    many = 0;
    inside = h;
    numbered = i;
    gathers = before_none (gather_at (capped l) b at number);
    holds = omega arith;
    sized = refl;
  }

module _ {m : Limits} {b room₀ room : List ℕ} {at number p k : ℕ} (g : Onward m b room₀ room at number p k) where
  pub onward_ends : length b ≤ p → RestIs (gather_at m b at number) None
  onward_ends h =
      let z : gather_at m b p k ≡ targets 0 none = ap (gather m k) (none_left b p h) in
      record { rest = record { many = g.many + 0; items = join g.items none; are = g.gathers ∙ ap (before g.many g.items) z } }

  module _ (more : p < length b) {e : ℕ} (r : RunTo in_text b p e) where
    pub rest_unended : e ≡ length b → RestIs (gather_at m b at number) (Some k)
    rest_unended h =
        let z : gather_at m b p k ≡ wrong k = ap (gather m k) (not_ended b p more r h) in
        record { rest = g.gathers ∙ ap (before g.many g.items) z }

    module _ (h : e ≡ length b → ⊥) where
      next_is : gather_at m b p k ≡ with_first k (reference_of m (part b p e)) (gather_at m b (e + 1) (k + 1))
      next_is = rw (add-one k) (ap (gather m k) (ended b p more r h))

      module _ {w : Result Target TextError} {room' : List ℕ} (x : TakesText m (part b p e) room room' w) where
        pub rest_wrong : (v : TextError) → w ≡ Err v → RestIs (gather_at m b at number) (Some k)
        rest_wrong Other c =
            let y : reference_of m (part b p e) ≡ nothing = (rw c at x).taken in
            let z : gather_at m b p k ≡ wrong k = next_is ∙ rw y in
            record { rest = g.gathers ∙ ap (before g.many g.items) z }
        rest_wrong TooLong c =
            let y : IsLong m (part b p e) (length room) = (rw c at x).taken in
            absurd (omega (arith, y.longer, y.short, g.holds))

        pub onward_on : {v : Target} → w ≡ Ok v → Onward m b room₀ room' at number (e + 1) (k + 1)
        onward_on {v} c =
            let y : IsTarget m (part b p e) room room' 0 v.size v.count = (rw c at x).taken in
            let z : gather_at m b p k ≡ with_first k (reference y.lead y.str y.inside) (gather_at m b (e + 1) (k + 1)) = next_is ∙ rw y.is in
            let i : e < length b = omega (arith, r.inside) in
            record {
              items = join g.items (item y.lead y.str y.inside none);
              many = g.many + 1;
              inside = omega arith;
              numbered = omega (arith, g.numbered, r.on);
              gathers = g.gathers ∙ ap (before g.many g.items) z ∙ before_one g.many k g.items y.lead y.str y.inside (gather_at m b (e + 1) (k + 1));
              holds = omega (arith, g.holds, x.sized);
              sized = x.sized ∙ g.sized;
            }

pub ruleset onward = (onward_begins, onward_ends, rest_unended, rest_wrong, onward_on)
