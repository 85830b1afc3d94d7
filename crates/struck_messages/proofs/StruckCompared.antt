-- R204 as request (xii) shows it: a message beside the one that was struck from it. What is compared of a target or report does not depend on where it stands,
-- so the forms of the shorter message are those of the old one without the struck one's.
use Prim.Native.Nat.{ℕ, zero, suc, ◌<◌}
use mathlib.Core.Logic.{◌↔◌}
use mathlib.Core.Path.{◌≡◌, refl, sym, ◌∙◌, ap}
use mathlib.Core.Bool.{true}
use mathlib.Core.List.{List, [], ◌∷◌, ◌++◌, map}
use native.Mathlib.Omega.{arith}
use lib.ListN.{length, get_or, take, drop, length-map, get_or-map}
use borrow.Author.Tests.{eq-eqb}
use Rattle.buffer.specs.Bytes.{all, is_byte, same as sameBytes}
use Rattle.buffer.proofs.ByteLaws.{same_self}
use Rattle.ari.specs.Table.{due}
use Rattle.ari.specs.declared.Limits.{Limits}
use Rattle.ari.specs.declared.Input.TheVariants.{Message}
use Rattle.ari.specs.Reader.{accept, read}
use Rattle.ari.specs.Items.{none, item, encode, Spot, spots_of}
use Rattle.ari.specs.Decode.{decode}
use Rattle.ari.specs.Same.{folded}
use Rattle.ari.specs.Targets.{targets}
use Rattle.grammar.specs.Code.{slot_number}
use Rattle.strike.specs.Strike.{struck_bytes, target_count}
use Rattle.comparison.specs.Comparison.{Part, parts, folded_part, is_same_part, Entry, same, only_first, entry_of, comparison, different}
use Rattle.comparison.proofs.Demand.{Form, form_of, forms, those_are_the_targets, no_difference_exactly_if_same, an_entry_each, no_part, each_position}
use Rattle.struck_messages.specs.Moved.{Unplaced, unplaced, left_out}
use Rattle.struck_messages.proofs.StruckDemand.{others_stay, one_target_fewer}

-- what is compared of a target or report, wherever it stands
abbrev form_anywhere : Unplaced → Form
form_anywhere u = record { slot = u.slot; bytes = encode (folded (item u.lead u.str u.inside none) (due u.slot 0)) }

by_parts : (ps : List Part) → map form_of ps ≡ map form_anywhere (map unplaced (map (λ (p : Part). p.spot) ps))
by_parts [] = refl
by_parts (p ∷ ps) = ap (λ (fs : List Form). form_of p ∷ fs) (by_parts ps)

by_targets : (b : List ℕ) → forms b ≡ map form_anywhere (map unplaced (targets (spots_of Message (decode b))))
by_targets b = by_parts (parts b) ∙ ap (λ (xs : List Spot). map form_anywhere (map unplaced xs)) (those_are_the_targets b)

without_one : (k : ℕ) (us : List Unplaced) → map form_anywhere (left_out k us) ≡ take k (map form_anywhere us) ++ drop (suc k) (map form_anywhere us)
without_one zero [] = refl
without_one (suc k) [] = refl
without_one zero (u ∷ us) = refl
without_one (suc k) (u ∷ us) = ap (λ (fs : List Form). form_anywhere u ∷ fs) (without_one k us)

before_one : (k i : ℕ) (fs : List Form) (d : Form) → i < k → k < length fs → get_or (take k fs ++ drop (suc k) fs) i d ≡ get_or fs i d
before_one k i [] d h g = absurd (omega arith)
before_one zero i (f ∷ fs) d h g = absurd (omega arith)
before_one (suc k) zero (f ∷ fs) d h g = refl
before_one (suc k) (suc i) (f ∷ fs) d h g = before_one k i fs d (omega arith) (omega arith)

other_default : (es : List Entry) (i : ℕ) (d d' : Entry) → i < length es → get_or es i d ≡ get_or es i d'
other_default [] i d d' h = absurd (omega arith)
other_default (e ∷ es) zero d d' h = refl
other_default (e ∷ es) (suc i) d d' h = other_default es i d d' (omega arith)

form_same : (p q : Part) → form_of p ≡ form_of q → is_same_part p.spot q.spot ≡ true
unfolding is_same_part
form_same p q e =
    let s : p.spot.slot ≡ q.spot.slot = ap (λ (f : Form). f.slot) e in
    let b : encode (folded_part p.spot) ≡ encode (folded_part q.spot) = ap (λ (f : Form). f.bytes) e in
    rw (eq-eqb (slot_number p.spot.slot) (slot_number q.spot.slot) (ap slot_number s)) (ap (λ (u : List ℕ). sameBytes u (encode (folded_part q.spot))) b ∙ same_self (encode (folded_part q.spot)))

shows_same : (p q : Part) → form_of p ≡ form_of q → entry_of p q ≡ same
shows_same p q e = rw (form_same p q e)

module _ (m : Limits) (b : List ℕ) (bytes : all is_byte b ≡ true) {n : ℕ} (a : read m Message b ≡ accept n) (k : ℕ) (below : k < target_count b) where
  -- The shorter message has what is compared of the old one's targets and reports, but for the one that was struck: so another message shows no difference
  -- from it exactly if it has just these.
  pub struck_forms : forms (struck_bytes k b) ≡ take k (forms b) ++ drop (suc k) (forms b)
  struck_forms =
      by_targets (struck_bytes k b)
      ∙ (ap (map form_anywhere) (others_stay m b bytes a k below)
      ∙ (without_one k (map unplaced (targets (spots_of Message (decode b))))
      ∙ ap (λ (fs : List Form). take k fs ++ drop (suc k) fs) (sym (by_targets b))))

  pub no_difference_exactly_if_struck : (c : List ℕ) → (different (comparison c (struck_bytes k b)) ≡ 0) ↔ (forms c ≡ take k (forms b) ++ drop (suc k) (forms b))
  no_difference_exactly_if_struck c = let (to, back) = no_difference_exactly_if_same c (struck_bytes k b) in (λ e. to e ∙ struck_forms, λ e. back (e ∙ sym struck_forms))

  many_parts : length (parts b) ≡ target_count b
  unfolding target_count
  many_parts = sym (length-map (parts b) (λ (p : Part). p.spot)) ∙ ap length (those_are_the_targets b)

  fewer_parts : suc (length (parts (struck_bytes k b))) ≡ target_count b
  unfolding target_count
  fewer_parts =
      ap suc (sym (length-map (parts (struck_bytes k b)) (λ (p : Part). p.spot)) ∙ ap length (those_are_the_targets (struck_bytes k b)))
      ∙ one_target_fewer m b bytes a k below

  both_there : (i : ℕ) → i < length (parts b) → i < length (parts (struck_bytes k b))
      → get_or (comparison b (struck_bytes k b)) i same ≡ entry_of (get_or (parts b) i no_part) (get_or (parts (struck_bytes k b)) i no_part)
  unfolding comparison
  both_there i h g = (each_position b (struck_bytes k b) i).both h g

  -- Beside the old message: what stands before the struck one is the same, and at the last position the old one stands alone.
  pub same_before : (i : ℕ) → i < k → get_or (comparison b (struck_bytes k b)) i only_first ≡ same
  same_before i h =
      let e : form_of (get_or (parts b) i no_part) ≡ form_of (get_or (parts (struck_bytes k b)) i no_part) =
      sym (get_or-map form_of (parts b) i no_part)
      ∙ (sym (before_one k i (forms b) (form_of no_part) h (omega (arith, many_parts, below, length-map (parts b) form_of)))
      ∙ (ap (λ (fs : List Form). get_or fs i (form_of no_part)) (sym struck_forms) ∙ get_or-map form_of (parts (struck_bytes k b)) i no_part)) in
      other_default (comparison b (struck_bytes k b)) i only_first same (omega (arith, an_entry_each b (struck_bytes k b), many_parts, below))
      ∙ (both_there i (omega (arith, many_parts, below)) (omega (arith, fewer_parts, below)) ∙ shows_same (get_or (parts b) i no_part) (get_or (parts (struck_bytes k b)) i no_part) e)

  pub alone_at_the_end : (i : ℕ) → suc i ≡ target_count b → get_or (comparison b (struck_bytes k b)) i same ≡ only_first
  unfolding comparison
  alone_at_the_end i e = (each_position b (struck_bytes k b) i).first_only (omega (arith, many_parts)) (omega (arith, fewer_parts))
