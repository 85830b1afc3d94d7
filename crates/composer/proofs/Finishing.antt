-- A finished order judged: its bytes and items are counted, and the gate's check refuses what is left only for its containers, since it stands by the rules.
use Prim.Native.Nat.{ℕ, ◌<◌, ◌≤◌}
use mathlib.Core.Path.{◌≡◌, refl, sym, ◌∙◌, ap}
use mathlib.Core.Bool.{Bool, true, false}
use mathlib.Core.List.{List}
use native.Mathlib.Omega.{arith}
use lib.ListN.{length, get_or}
use lib.Dec.{leb}
use borrow.Author.Tests.{lt-ltb, le-ltb, leb-true, leb-false}
use mir.Syntax.{w8}
use mir.Val.{Fits}
use Rattle.buffer.proofs.ByteLaws.{all_bytes}
use Rattle.ari.specs.declared.Limits.{Limits}
use Rattle.ari.specs.declared.Input.TheVariants.{Message}
use Rattle.ari.specs.Reader.{read}
use Rattle.ari.specs.Items.{encode, heads, depth}
use Rattle.ari.specs.Decode.{decode}
use Rattle.ari.specs.Rules.{Is}
use Rattle.ari.proofs.Demand.{demand_two, is_read}
use Rattle.std.specs.Prelude.{Result, Ok, Err}
use Rattle.ari.specs.declared.Refusal.{Refusal}
use Rattle.ari.specs.Refusals as refusals
use Rattle.reader.specs.Results.{result_of}
use Rattle.reader.proofs.Results.{is_accepted}
use Rattle.text.specs.Answer.{refused, output, lent}
use Rattle.text_write.specs.declared.Written.{Written}
use Rattle.text_write.specs.Written.{written_of, room_after}
use Rattle.composer.specs.Compose.{finished}
use Rattle.composer.specs.Code.{Order}
use Rattle.composer.proofs.Order.{its_tree}

module _ {m m' : Limits} (c : m ≡ m') (b : List ℕ) {count : ℕ} (o : Order b count) where
  tree : o.items ≡ decode b
  tree = its_tree o.stands ∙ ap decode o.bytes

  bytes_are : encode (decode b) ≡ b
  bytes_are = ap encode (sym tree) ∙ o.bytes

  heads_are : heads (decode b) ≡ count
  heads_are = ap heads (sym tree) ∙ o.count_is

  module _ (h : m.bytes < length b) where
    long : finished m' (decode b) ≡ refused 1 0
    unfolding finished
    long = rw (← c, bytes_are, lt-ltb m.bytes (length b) h)

    pub over_bytes : (k : ℕ) → refusals.refused 1 0 ≡ written_of (lent k (finished m' (decode b)))
    over_bytes k = rw long

    pub over_bytes_kept : (k : ℕ) (room : List ℕ) → room ≡ room_after room (lent k (finished m' (decode b)))
    over_bytes_kept k room = rw long

  module _ (h : length b ≤ m.bytes) where
    module _ (i : m.items < count) where
      many : finished m' (decode b) ≡ refused 5 0
      unfolding finished
      many = rw (← c, bytes_are, le-ltb m.bytes (length b) h, heads_are, lt-ltb m.items count i)

      pub over_items : (k : ℕ) → refusals.refused 5 0 ≡ written_of (lent k (finished m' (decode b)))
      over_items k = rw many

      pub over_items_kept : (k : ℕ) (room : List ℕ) → room ≡ room_after room (lent k (finished m' (decode b)))
      over_items_kept k room = rw many

    module _ (i : count ≤ m.items) {a : Result ℕ Refusal} (q : a ≡ result_of (read m Message b)) where
      module _ {r : Refusal} (g : a ≡ Err r) where
        deep : m.containers < depth (decode b)
        deep = go (leb (depth (decode b)) m.containers) refl
          where
            go : (x : Bool) → leb (depth (decode b)) m.containers ≡ x → m.containers < depth (decode b)
            go true z =
                let d : depth (decode b) ≤ m.containers = leb-true (depth (decode b)) m.containers z in
                let y : Is m Message b (decode b) count
                = record { stands = rw tree at o.stands; bytes = bytes_are; count = heads_are; short = h; few = i; shallow = d } in
                let x = is_read m Message b y in
                let u : a ≡ Ok count = q ∙ ap result_of x in
                absurd (let v : ◌≡◌ {A = ℕ} 0 1 = cc in omega arith)
            go false z = leb-false (depth (decode b)) m.containers z

        too_deep : finished m' (decode b) ≡ refused 6 0
        unfolding finished
        too_deep =
            rw (← c, bytes_are, le-ltb m.bytes (length b) h, heads_are, le-ltb m.items count i, lt-ltb m.containers (depth (decode b)) deep)

        pub over_containers : (k : ℕ) → refusals.refused 6 0 ≡ written_of (lent k (finished m' (decode b)))
        over_containers k = rw too_deep

        pub over_containers_kept : (k : ℕ) (room : List ℕ) → room ≡ room_after room (lent k (finished m' (decode b)))
        over_containers_kept k room = rw too_deep

      module _ {n : ℕ} (g : a ≡ Ok n) (bytes : (j : ℕ) → Fits w8 (get_or b j 0)) where
        is : Is m Message b (decode b) n
        is = (demand_two m Message b n (all_bytes b bytes)).0 (is_accepted m Message b q g)

        done : finished m' (decode b) ≡ output b n
        unfolding finished
        done =
            let z : heads (decode b) ≡ n = is.count in
            rw (
              ← c,
              bytes_are,
              le-ltb m.bytes (length b) h,
              z,
              le-ltb m.items n is.few,
              le-ltb m.containers (depth (decode b)) is.shallow,
            )

        pub handed : (k : ℕ) {w : Result Written Refusal} → w ≡ written_of (lent k (output b n)) → w ≡ written_of (lent k (finished m' (decode b)))
        handed k e = rw done e

        pub handed_room : (k : ℕ) (room : List ℕ) {room' : List ℕ} → room' ≡ room_after room (lent k (output b n))
            → room' ≡ room_after room (lent k (finished m' (decode b)))
        handed_room k room e = rw done e

pub ruleset answered = (over_bytes, over_items, over_containers, handed)

pub ruleset left = (over_bytes_kept, over_items_kept, over_containers_kept, handed_room)
