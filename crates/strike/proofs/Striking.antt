-- The struck message: where it is cut, its bytes, and that it is accepted (R202, R203, R204).
use Prim.Native.Nat.{ℕ, suc, ◌+◌, ◌-◌, ◌≤◌, ◌<◌}
use mathlib.Core.Path.{◌≡◌, refl, sym, ◌∙◌, ap, subst}
use mathlib.Core.Bool.{true}
use mathlib.Core.List.{List, [], ◌∷◌, ◌++◌, append_assoc, append-nil}
use native.Mathlib.Omega.{arith}
use lib.ListN.{length, take, drop, length-append}
use lib.Seq.{take_at, drop_at}
use Rattle.buffer.specs.Bytes as bytes
use Rattle.cbor.specs.Head.{Lead, size, lead_bytes}
use Rattle.cbor.proofs.HeadLaws.{length_lead}
use Rattle.ari.specs.Table.{version, done, rule}
use Rattle.ari.specs.declared.Limits.{Limits}
use Rattle.ari.specs.declared.Input.TheVariants.{Message}
use Rattle.ari.specs.Items.{Items, none, item, encode, heads, depth, Spot, inside_at, spot_at, spots, spots_of}
use Rattle.ari.specs.Decode.{decode}
use Rattle.ari.specs.Rules.{Is, Sets, Stands, a_message}
use Rattle.ari.specs.Targets.{targets}
use Rattle.ari.proofs.Spots.{All, spot_too}
use Rattle.item_table.specs.Entries.{no_spot}
use Rattle.strike.specs.Strike.{shorter, struck_sets, struck, struck_bytes, target_count, Cut, cut, missing, seek, cut_of, head_end, cut_bytes}
use Rattle.strike.proofs.Sets.{shorter_size}
use Rattle.strike.proofs.Cutting.{Cutting, cutting, set_count}
use Rattle.strike.proofs.Seeking.{Clear, targets_sets, seek_sets}
use Rattle.strike.proofs.Clearing.{all_clear}
use Rattle.strike.proofs.Parts.{bytes_before, bytes_between, bytes_struck, bytes_behind, old_bytes, new_bytes, fewer_heads, no_deeper, spots_before, the_inner, spots_framing, spots_front, struck_spot, seek_cut}

-- A message: its version, and its sets.
pub record Sent (g : Items) : Type 0 where
  pub lead : Lead
  pub str : List ℕ
  pub sets : Items
  pub whole : g ≡ item lead str none sets
  pub stand : Sets sets
  pub again : (rs : Items) → Sets rs → Stands Message (item lead str none rs)

pub sent : {g : Items} → Stands Message g → Sent g
sent (a_message {l = l} {s = s} {ms = ms} {rs = rs} v r) =
    record { lead = l; str = s; sets = rs; whole = ap (λ (m : Items). item l s m rs) v.bare; stand = r; again = λ u q. subst (λ (m : Items). Stands Message (item l s m u)) v.bare (a_message v q) }

-- its sets begin behind the version
abbrev pub sets_place : {g : Items} → Sent g → ℕ
sets_place x = size x.lead + length x.str

pub sent_spots : (l : Lead) (s : List ℕ) (rs : Items) → spots_of Message (item l s none rs) ≡ spot_at version 0 0 l s none ∷ spots rs true done (size l + length s) 0
unfolding rule
sent_spots l s rs =
    let e : inside_at 0 l s + 0 ≡ size l + length s = omega arith in
    ap (λ (q : ℕ). spot_at version 0 0 l s none ∷ spots rs true done q 0) e

-- bytes in five runs, by the places where these end
module _ {b : List ℕ} (u h v w z : List ℕ) (e : b ≡ u ++ (h ++ (v ++ (w ++ z)))) where
  five_first : (i : ℕ) → length u ≡ i → take i b ≡ u
  five_first i l = ap (take i) e ∙ take_at u (h ++ (v ++ (w ++ z))) i l

  five_head : (i : ℕ) → length u ≡ i → drop i b ≡ h ++ (v ++ (w ++ z))
  five_head i l = ap (drop i) e ∙ drop_at u (h ++ (v ++ (w ++ z))) i l

  five_between : (i j : ℕ) → length u + length h ≡ i → i + length v ≡ j → bytes.part b i j ≡ v
  five_between i j l k =
      let d : drop i b ≡ v ++ (w ++ z) = ap (drop i) (e ∙ sym (append_assoc u h (v ++ (w ++ z)))) ∙ drop_at (u ++ h) (v ++ (w ++ z)) i (length-append u h ∙ l) in
      let n : j - i ≡ length v = omega arith in
      rw (d, n) (take_at v (w ++ z) (length v) refl)

  five_last : (i : ℕ) → length u + length h + length v + length w ≡ i → drop i b ≡ z
  five_last i l =
      ap (drop i) (e ∙ simp append_assoc) ∙ drop_at (u ++ (h ++ (v ++ w))) z i (simp length-append (omega arith))

  five_all : length b ≡ length u + length h + length v + length w + length z
  five_all = ap length e ∙ simp length-append (omega arith)

-- An accepted message.
module _ {m : Limits} {b : List ℕ} {n : ℕ} (c : Is m Message b (decode b) n) where
  abbrev x : Sent (decode b)
  x = sent c.stands

  pub its_spots : spots_of Message (decode b) ≡ spot_at version 0 0 x.lead x.str none ∷ spots x.sets true done (sets_place x) 0
  its_spots = ap (spots_of Message) x.whole ∙ sent_spots x.lead x.str x.sets

  pub sets_clear : All Clear (spots x.sets true done (sets_place x) 0)
  sets_clear = go (rw its_spots at (all_clear c))
    where
      go : All Clear (spot_at version 0 0 x.lead x.str none ∷ spots x.sets true done (sets_place x) 0) → All Clear (spots x.sets true done (sets_place x) 0)
      go (spot_too q a) = a

  pub counted : target_count b ≡ set_count x.sets
  unfolding target_count
  counted = ap (λ (xs : List Spot). length (targets xs)) its_spots ∙ targets_sets x.stand (sets_place x) sets_clear

  -- no such target or report
  pub missed : (k : ℕ) → target_count b ≤ k → cut_of k b ≡ missing (target_count b)
  unfolding cut_of
  missed k h =
      let s : List Spot = spots x.sets true done (sets_place x) 0 in
      ap (seek k 0 no_spot 0) its_spots
      ∙ (ap (seek k 0 no_spot 1) (sym (append-nil s))
      ∙ ((seek_sets k x.stand (sets_place x) [] 0 no_spot 1 sets_clear (omega (arith, counted))).1 ∙ ap missing (let z : 0 + set_count x.sets ≡ target_count b = omega (arith, counted) in z)))

  -- target or report k
  module _ (k : ℕ) (below : k < target_count b) where
    pub parts : Cutting k x.sets
    parts = cutting x.stand k (omega (arith, counted))

    abbrev p : ℕ
    p = sets_place x

    abbrev pub the_cut : Cut
    the_cut = record {
      number = suc (suc (suc (1 + length (spots_before parts p)))) + length (spots_framing parts p) + length (spots_front parts p);
      inner = the_inner parts p;
      struck = struck_spot parts p;
    }

    pub its_cut : cut_of k b ≡ cut the_cut
    unfolding cut_of
    its_cut = ap (seek k 0 no_spot 0) its_spots ∙ seek_cut parts p no_spot 1 sets_clear

    -- the tree
    pub struck_is : struck k (decode b) ≡ item x.lead x.str none (struck_sets k x.sets)
    struck_is = ap (struck k) x.whole

    pub struck_stands : Stands Message (struck k (decode b))
    struck_stands = rw struck_is (x.again (struck_sets k x.sets) parts.stand_now)

    -- the bytes
    abbrev ahead : List ℕ
    ahead = lead_bytes x.lead ++ (x.str ++ bytes_before parts)

    abbrev old_head : Lead
    old_head = parts.the_set.lead

    whole_bytes : b ≡ ahead ++ (lead_bytes old_head ++ (bytes_between parts ++ (bytes_struck parts ++ bytes_behind parts)))
    whole_bytes =
        sym c.bytes
        ∙ (ap encode x.whole
        ∙ (ap (λ (z : List ℕ). lead_bytes x.lead ++ (x.str ++ z)) (old_bytes parts) ∙ simp append_assoc))

    struck_bytes_lem : struck_bytes k b ≡ ahead ++ (lead_bytes (shorter old_head) ++ (bytes_between parts ++ bytes_behind parts))
    unfolding struck_bytes
    struck_bytes_lem =
        ap encode struck_is ∙ (ap (λ (z : List ℕ). lead_bytes x.lead ++ (x.str ++ z)) (new_bytes parts) ∙ simp append_assoc)

    at_inner : length ahead ≡ (the_inner parts p).first
    at_inner = simp length-append (omega (arith, length_lead x.lead, length_lead parts.lead, length_lead parts.the_set.kind))

    at_head : length ahead + length (lead_bytes old_head) ≡ head_end the_cut
    at_head = omega (arith, at_inner, length_lead old_head)

    at_struck : head_end the_cut + length (bytes_between parts) ≡ (struck_spot parts p).first
    at_struck = simp length-append (omega (arith, ap length parts.the_set.inner.bare))

    at_end : (struck_spot parts p).first + length (bytes_struck parts) ≡ (struck_spot parts p).after
    at_end = simp length-append (omega (arith, length_lead parts.parts.lead))

    abbrev first : ℕ
    first = (struck_spot parts p).first

    abbrev after : ℕ
    after = (struck_spot parts p).after

    abbrev between : List ℕ
    between = bytes_between parts

    abbrev cut_out : List ℕ
    cut_out = bytes_struck parts

    abbrev tail : List ℕ
    tail = bytes_behind parts

    pub in_order : (head_end the_cut ≤ first) × (first < after) × (after + length tail ≡ length b)
    in_order = (
      omega (arith, at_struck),
      omega arith,
      omega (arith, at_head, at_struck, at_end, five_all ahead (lead_bytes old_head) between cut_out tail whole_bytes),
    )

    pub head_there : drop (the_inner parts p).first b ≡ lead_bytes old_head ++ (between ++ (cut_out ++ tail))
    head_there = five_head ahead (lead_bytes old_head) between cut_out tail whole_bytes (the_inner parts p).first at_inner

    pub three_copies : struck_bytes k b ≡ cut_bytes b the_cut
    unfolding cut_bytes
    three_copies =
        struck_bytes_lem
        ∙ sym
        (rw (
          five_first ahead (lead_bytes old_head) between cut_out tail whole_bytes (the_inner parts p).first at_inner,
          five_between ahead (lead_bytes old_head) between cut_out tail whole_bytes (head_end the_cut) first at_head at_struck,
          five_last ahead (lead_bytes old_head) between cut_out tail whole_bytes after (omega (arith, at_head, at_struck, at_end)),
        ))

    pub struck_length : length (struck_bytes k b) ≡ (the_inner parts p).first + size (shorter old_head) + (first - head_end the_cut) + (length b - after)
    struck_length =
        ap length struck_bytes_lem
        ∙ simp length-append (omega (arith, simp length-append at at_inner, simp length-append at at_struck, length_lead (shorter old_head), simp length-append at in_order.2))

    pub fewer_items : heads (struck k (decode b)) + suc (heads parts.parts.inside) ≡ n
    fewer_items = omega (arith, ap heads struck_is, fewer_heads parts, ap heads x.whole, c.count)

    -- R204: it is a message, within the same limits
    pub struck_is_one : Is m Message (struck_bytes k b) (struck k (decode b)) (heads (struck k (decode b)))
    unfolding struck_bytes
    struck_is_one = record {
      stands = struck_stands;
      bytes = refl;
      count = refl;
      short = omega (arith, struck_length, in_order, shorter_size parts.the_set.inner.head, c.short);
      few = omega (arith, fewer_items, c.few);
      shallow = omega (arith, ap depth struck_is, ap depth x.whole, no_deeper parts, c.shallow);
    }
