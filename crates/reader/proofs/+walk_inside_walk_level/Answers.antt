-- `reader::walk_inside` and `reader::walk_level` meet their contracts.
use mathlib.Core.Path.{◌≡◌, refl}
use Rattle.std.specs.declared.result.Result.TheVariants.{Err}
use native.Mathlib.Omega.{arith}
use native.Mathlib.Nat.{le_of_lt}
use borrow.Author.Rules.{rules}
use Rattle.buffer.specs.Bytes.{part}
use Rattle.cbor.specs.Head.{key_of}
use Rattle.ari.specs.Table.{rule}
use Rattle.grammar.specs.Code.{slot_of}
use Rattle.reader.specs.Walks.{both}
use Rattle.reader.proofs.Bounds.{by_level, inner_slot, inner_opens, taken_on, taken_in, taken_more, taken_shallow, taken_kind, taken_fits, read_in, read_few, shallower, one_in, one_fits, span_order, span_within}
use Rattle.reader.proofs.Loop.{breaks, ends, again, next_slotted, turns}
use Rattle.reader.proofs.Plain.{plain_ends, plain_slotted, plain_again}
use Rattle.reader.proofs.Quick.{number_step, number_shown, number_plain}
use Rattle.reader.proofs.Last.{last_due, last_opens, goes_inside, goes_waiting, waits_behind, fewer}
use Rattle.item_table.proofs.References.{none_waits}
use Rattle.reader.proofs.+walk_inside_walk_level.Goals as goal

pub walk_level-loop-entries-init : goal.walk_level-loop-entries-init
walk_level-loop-entries-init t c =
    (search turns, search rules, search rules, search rules, search rules, search rules, search rules, search rules, search rules, search rules, search rules, none_waits _)

-- numbers of one byte
pub walk_level-returns-in_default : goal.walk_level-returns-in_default
walk_level-returns-in_default t c =
    let l = c.loop-entries.invariant in
    let sp = c.loop-entries.prev in
    let h = c.is_quick.ensures c.if-is_quick.true in
    let w = c.wide.ensures in
    let step = number_step _ l.7 _ _ _ _ h w (key_of (part _ sp.from sp.to)) c.loop-entries.allowed in
    let shown = number_shown _ l.7 _ _ _ _ h w c.loop-entries.allowed in
    let plain = number_plain _ l.7 _ _ _ _ h w in
    plain_ends _ l.7 _ _ _ _ _ _ _ _ _ _ _ sp.from sp.to _ _ _ _ _ _ _ l.1 l.0 step shown refl plain refl c.put_plain.ensures c.next_at-n.ensures (search rules) c.end_all.ensures

pub walk_level-loop-entries-preserved-then-is_quick : goal.walk_level-loop-entries-preserved-then-is_quick
walk_level-loop-entries-preserved-then-is_quick t c =
    let l = c.loop-entries.invariant in
    let sp = c.loop-entries.prev in
    let h = c.is_quick.ensures c.if-is_quick.true in
    let w = c.wide.ensures in
    let step = number_step _ l.7 _ _ _ _ h w (key_of (part _ sp.from sp.to)) c.loop-entries.allowed in
    let shown = number_shown _ l.7 _ _ _ _ h w c.loop-entries.allowed in
    let plain = number_plain _ l.7 _ _ _ _ h w in
    let put = c.put_plain.ensures in
    let nn = c.next_at-n.ensures in
    let z = c.in-Due.is in (
      plain_again _ l.7 _ _ _ _ _ _ _ _ _ _ _ sp.from sp.to _ _ _ _ _ _ _ l.1 l.0 step shown refl plain refl put nn z,
      plain_slotted _ l.7 _ _ _ _ _ _ _ _ _ _ _ sp.from sp.to _ _ _ _ _ _ _ l.1 l.0 step shown refl plain refl put nn z,
      l.2,
      l.3,
      shown.1,
      (let few = h.few in omega arith),
      omega (arith, c.put_plain.auto.entries, l.6),
      l.7,
      l.8,
      l.9,
      l.10,
      l.11,
    )

pub walk_level-returns-in_err-kind : goal.walk_level-returns-in_err-kind
walk_level-returns-in_err-kind t c = search (turns, rules)

-- heads with nothing inside and no test of their own
pub walk_level-returns-in_default-n : goal.walk_level-returns-in_default-n
walk_level-returns-in_default-n t c =
    let l = c.loop-entries.invariant in
    let sp = c.loop-entries.prev in
    let h = c.take_head.ensures in
    let q = c.in_ok-kind.was in
    plain_ends _ l.7 _ _ _ _ _ _ _ _ _ _ _ sp.from sp.to _ _ _ _ _ _ _ l.1 l.0 h.value h.bounded q c.is_plain.ensures c.if-is_plain.true c.put_plain-then-is_plain.ensures c.next_at-n-then-is_plain.ensures (search rules) c.end_all-in_default-n.ensures

pub walk_level-loop-entries-preserved-then-is_plain : goal.walk_level-loop-entries-preserved-then-is_plain
walk_level-loop-entries-preserved-then-is_plain t c =
    let l = c.loop-entries.invariant in
    let sp = c.loop-entries.prev in
    let h = c.take_head.ensures in
    let q = c.in_ok-kind.was in
    let plain = c.is_plain.ensures in
    let taken = c.if-is_plain.true in
    let put = c.put_plain-then-is_plain.ensures in
    let nn = c.next_at-n-then-is_plain.ensures in
    let z = c.in-Due-n.is in (
      plain_again _ l.7 _ _ _ _ _ _ _ _ _ _ _ sp.from sp.to _ _ _ _ _ _ _ l.1 l.0 h.value h.bounded q plain taken put nn z,
      plain_slotted _ l.7 _ _ _ _ _ _ _ _ _ _ _ sp.from sp.to _ _ _ _ _ _ _ l.1 l.0 h.value h.bounded q plain taken put nn z,
      l.2,
      l.3,
      taken_in _ _ _ _ _ _ h.bounded q,
      taken_more _ _ _ _ _ _ h.bounded q,
      omega (arith, c.put_plain-then-is_plain.auto.entries, l.6),
      l.7,
      l.8,
      l.9,
      l.10,
      l.11,
    )

-- a container that is the last of its level
pub walk_level-overflow_sub-allowed : goal.walk_level-overflow_sub-allowed
walk_level-overflow_sub-allowed t c =
    last_opens _ _ _ c.walk_members-inner.ensures _ _ _ _ c.last_inside-last.ensures c.in-Due-last.is _ (taken_shallow _ _ _ _ _ _ c.take_head.ensures.bounded c.in_ok-kind.was)

pub walk_level-overflow_add-opened : goal.walk_level-overflow_add-opened
walk_level-overflow_add-opened t c =
    one_fits _ _ (last_opens _ _ _ c.walk_members-inner.ensures _ _ _ _ c.last_inside-last.ensures c.in-Due-last.is _ (taken_shallow _ _ _ _ _ _ c.take_head.ensures.bounded c.in_ok-kind.was))
    c.loop-entries.invariant.8

pub walk_level-loop-entries-preserved-in-Due-last : goal.walk_level-loop-entries-preserved-in-Due-last
walk_level-loop-entries-preserved-in-Due-last t c =
    let l = c.loop-entries.invariant in
    let sp = c.loop-entries.prev in
    let h = c.take_head.ensures in
    let q = c.in_ok-kind.was in
    let i = c.walk_members-inner.ensures in
    let y = c.reserve-taken.ensures in
    let shown = c.last_inside-last.ensures in
    let z = c.in-Due-last.is in
    let deep = last_opens _ _ _ i _ _ _ _ shown z _ (taken_shallow _ _ _ _ _ _ h.bounded q) in (
      goes_inside _ l.7 _ _ _ _ _ _ _ _ _ _ _ sp.from sp.to _ _ _ _ _ _ _ l.1 l.0 l.11 h.value h.bounded q i y.value y.references_after shown z c.wait-pending.ensures.references_after c.wait-pending.ensures.value,
      inner_slot _ _ _ i l.1 (last_due _ _ _ _ _ _ shown z),
      search rules,
      search rules,
      taken_in _ _ _ _ _ _ h.bounded q,
      taken_more _ _ _ _ _ _ h.bounded q,
      l.6,
      l.7,
      one_in _ _ deep l.8,
      fewer _ _ l.9,
      omega (arith, c.wait-pending.auto.references, c.reserve-taken.auto.references, l.10),
      goes_waiting _ l.7 _ _ _ _ _ _ _ _ _ _ _ sp.from sp.to _ _ _ _ _ _ _ l.1 l.0 l.11 h.value h.bounded q i y.value y.references_after shown z c.wait-pending.ensures.references_after c.wait-pending.ensures.value,
    )

-- a container with something behind it
pub walk_level-walk_inside-requires : goal.walk_level-walk_inside-requires
walk_level-walk_inside-requires t c =
    let l = c.loop-entries.invariant in
    let h = c.take_head.ensures in
    let q = c.in_ok-kind.was in
    (shallower _ _ _ l.9 c.decreases, (l.7, l.8, inner_opens _ _ _ c.walk_members-inner.ensures l.1 _ (taken_shallow _ _ _ _ _ _ h.bounded q), taken_in _ _ _ _ _ _ h.bounded q, taken_more _ _ _ _ _ _ h.bounded q))

pub walk_level-returns-in_err-q : goal.walk_level-returns-in_err-q
walk_level-returns-in_err-q t c =
    let l = c.loop-entries.invariant in
    let sp = c.loop-entries.prev in
    let h = c.take_head.ensures in
    let q = c.in_ok-kind.was in
    let m = by_level _ _ _ c.walk_members-inner.ensures _ _ c.loop-entries.allowed c.loop-entries.opened _ _ l.1 c.walk_inside.ensures in
    let e : c.from_residual-in_err-q.result ≡ Err c.in_err-q.field-0.0 = search rules in
    rw e (breaks _ l.7 _ _ _ _ _ _ _ _ _ _ _ sp.from sp.to _ _ _ _ _ _ l.1 l.0 h.value q m c.in_err-q.was)

pub walk_level-returns-in_default-n-2 : goal.walk_level-returns-in_default-n-2
walk_level-returns-in_default-n-2 t c =
    let l = c.loop-entries.invariant in
    let sp = c.loop-entries.prev in
    let h = c.take_head.ensures in
    let q = c.in_ok-kind.was in
    let y = c.reserve-taken.ensures in
    let m = by_level _ _ _ c.walk_members-inner.ensures _ _ c.loop-entries.allowed c.loop-entries.opened _ _ l.1 c.walk_inside.ensures in
    let g = c.in_ok-q.was in
    let kk = taken_kind _ _ _ _ _ _ h.bounded q in
    let fit = taken_fits _ _ _ _ _ _ h.bounded q in
    ends _ l.7 _ _ _ _ _ _ _ _ _ _ _ sp.from sp.to _ _ _ _ _ _ l.1 l.0 h.value q m g y.references_after y.value c.put.ensures c.fill.ensures kk fit c.next_at-n-in-loop-entries.ensures (search rules) (read_in _ _ _ _ _ _ _ _ m g) (read_few _ _ _ _ _ _ _ _ m g) c.end_all-in_default-n-2.ensures

pub walk_level-loop-entries-preserved : goal.walk_level-loop-entries-preserved
walk_level-loop-entries-preserved t c =
    let l = c.loop-entries.invariant in
    let sp = c.loop-entries.prev in
    let h = c.take_head.ensures in
    let q = c.in_ok-kind.was in
    let y = c.reserve-taken.ensures in
    let m = by_level _ _ _ c.walk_members-inner.ensures _ _ c.loop-entries.allowed c.loop-entries.opened _ _ l.1 c.walk_inside.ensures in
    let g = c.in_ok-q.was in
    let kk = taken_kind _ _ _ _ _ _ h.bounded q in
    let fit = taken_fits _ _ _ _ _ _ h.bounded q in
    let put = c.put.ensures in
    let fill = c.fill.ensures in
    let k = c.key_by-prev.ensures in
    let nn = c.next_at-n-in-loop-entries.ensures in
    let z = c.in-Due-n-2.is in
    let extra = (rule (slot_of c.loop-entries.place)).extra in (
      again _ l.7 _ _ _ _ _ _ _ _ _ _ _ sp.from sp.to _ _ _ _ _ _ l.1 l.0 h.value q m g y.references_after y.value put fill kk fit nn z k.0 k.1,
      next_slotted _ l.7 _ _ _ _ _ _ _ _ _ _ _ sp.from sp.to _ _ _ _ _ _ l.1 l.0 h.value q m g {tab₂ = both _ _} y.references_after y.value put fill kk fit nn z,
      rw (k.0, k.1) (span_order extra _ _ _ _ l.2 (le_of_lt (taken_on _ _ _ _ _ _ h.bounded q))),
      rw k.1 (span_within extra _ _ _ l.3 (taken_in _ _ _ _ _ _ h.bounded q)),
      read_in _ _ _ _ _ _ _ _ m g,
      read_few _ _ _ _ _ _ _ _ m g,
      omega (arith, c.put.auto.entries, c.walk_inside.auto.entries, l.6),
      l.7,
      l.8,
      l.9,
      omega (arith, c.fill.auto.references, c.walk_inside.auto.references, c.reserve-taken.auto.references, l.10),
      waits_behind c.loop-entries.place q _ y.value y.references_after l.11 _ _ _ _ _ _ _ _ m g _ fill,
    )
