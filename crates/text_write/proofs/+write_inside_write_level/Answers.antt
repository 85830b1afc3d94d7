-- `text_write::write_inside` and `write_level` meet their contracts, together: one law for each way that a turn ends.
use mathlib.Core.Path.{◌∙◌}
use Rattle.reader.proofs.Bounds.{opens, less_deep, inner_slot}
use Rattle.buffer.proofs.Putting.{put_size}
use Rattle.text_write.proofs.Writing.{ends, again, halts, next_slotted, nothing_inside, opened}
use Rattle.text_write.proofs.+write_inside_write_level.Goals as goal

pub write_inside-overflow_sub-depth : goal.write_inside-overflow_sub-depth
write_inside-overflow_sub-depth t c = opens _ _ _ c.inside-inner.ensures _ c.in-Due.is c.requires.2

pub write_inside-write_level-requires : goal.write_inside-write_level-requires
write_inside-write_level-requires t c = (
  less_deep _ _ (opens _ _ _ c.inside-inner.ensures _ c.in-Due.is c.requires.2) c.decreases,
  (inner_slot _ _ _ c.inside-inner.ensures c.requires.0 c.in-Due.is, c.requires.1),
)

pub write_inside-returns-in-Done : goal.write_inside-returns-in-Done
write_inside-returns-in-Done t c = nothing_inside _ _ _ c.inside-inner.ensures c.requires.0 _ c.args.depth _ _ c.in-Done.is c.requires.1

pub write_inside-returns-in-Due : goal.write_inside-returns-in-Due
write_inside-returns-in-Due t c = opened _ _ _ c.inside-inner.ensures c.requires.0 _ c.args.depth _ _ c.in-Due.is c.write_level.ensures

pub write_level-returns-in_default : goal.write_level-returns-in_default
write_level-returns-in_default t c =
    let l = c.loop-kind.invariant in
    halts _ _ _ _ _ _ _ _ _ _ _ l.0 c.take_item-t.ensures c.in_default.is l.2

pub write_level-returns-in_default-n : goal.write_level-returns-in_default-n
write_level-returns-in_default-n t c =
    let l = c.loop-kind.invariant in
    ends _ _ _ _ _ _ _ _ _ _ _ l.0 c.take_item-t.ensures c.in-Some.is l.1 c.next_slot-n.ensures c.write_before-q.ensures c.write_inside-w.ensures
    c.in_default-n.is c.write_after-e.ensures

pub write_level-loop-kind-preserved : goal.write_level-loop-kind-preserved
write_level-loop-kind-preserved t c =
    let l = c.loop-kind.invariant in
    let y = c.take_item-t.ensures in
    let e = c.in-Some.is in
    let p = c.write_before-q.ensures in
    let m = c.write_inside-w.ensures in
    let n = c.next_slot-n.ensures in
    let z = c.in-Due.is in
    let q = c.write_after-r.ensures in (
      again _ _ _ _ _ _ _ _ _ _ _ l.0 y e l.1 n p m z q,
      next_slotted _ _ _ _ _ 0 y e l.1 n z,
      m.within,
      put_size q ∙ c.write_inside-w.auto.out ∙ put_size p ∙ l.3,
    )
