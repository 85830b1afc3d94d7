-- `text_read::read_inside` and `read_level` meet their contracts, together: one law for each way that a turn ends.
use Rattle.text_read.proofs.Walking.{no_depth, nothing_inside, opened, inner_slot, filled, spent, ends, again, next_slotted}
use native.Mathlib.Omega.{arith}
use Prim.Native.Nat.{◌+◌, ◌-◌}
use mathlib.Core.Path.{◌≡◌}
use borrow.Author.Rules.{rules}
use Rattle.text_read.proofs.+read_inside_read_level.Goals as goal

pub read_inside-returns-then-depth-eq0 : goal.read_inside-returns-then-depth-eq0
read_inside-returns-then-depth-eq0 t c =
    no_depth _ c.args.at c.args.items c.args.slot c.args.kind c.args.arg c.args.end c.args.depth c.requires.1 c.if-depth-eq0.true

pub read_inside-read_level-requires : goal.read_inside-read_level-requires
read_inside-read_level-requires t c = (search rules, (inner_slot _ _ _ c.inside-inner.ensures c.requires.0 c.in-Due.is, c.requires.1))

pub read_inside-returns-in-Done : goal.read_inside-returns-in-Done
read_inside-returns-in-Done t c =
    nothing_inside _ c.args.at c.args.items _ _ _ c.args.end c.args.depth c.inside-inner.ensures c.requires.0 c.requires.1 c.in-Done.is

pub read_inside-returns-in-Due : goal.read_inside-returns-in-Due
read_inside-returns-in-Due t c =
    opened _ c.args.at c.args.items _ _ _ c.args.end c.args.depth c.inside-inner.ensures c.requires.0 c.in-Due.is c.if-depth-eq0.false c.read_level.ensures

pub read_level-returns-then-out-r : goal.read_level-returns-then-out-r
read_level-returns-then-out-r t c =
    let l = c.loop-turn.invariant in
    filled _ _ _ c.loop-turn.place c.loop-turn.left _ _ _ l.0 (omega arith) c.if-out-r.true l.2

pub read_level-returns-in_default : goal.read_level-returns-in_default
read_level-returns-in_default t c =
    let l = c.loop-turn.invariant in
    let y = c.take_item-x.ensures in
    ends _ _ _ c.loop-turn.place c.loop-turn.left _ _ _ l.0 (omega arith) y.read l.1 c.next_slot-n.ensures c.read_inside-w.ensures c.in_default.is y.spelling_value c.skip_after-e.ensures

pub read_level-loop-turn-preserved : goal.read_level-loop-turn-preserved
read_level-loop-turn-preserved t c =
    let l = c.loop-turn.invariant in
    let y = c.take_item-x.ensures in
    let left : c.args.items - (c.loop-turn._turn + 1) ≡ c.args.items - c.loop-turn._turn - 1 = omega arith in (
      rw left (again _ _ _ c.loop-turn.place c.loop-turn.left _ _ _ l.0 (omega arith) y.read l.1 c.next_slot-n.ensures c.read_inside-w.ensures c.in-Due.is y.spelling_value c.skip_after-p.ensures),
      next_slotted _ c.args.items c.args.depth _ _ _ _ 0 y.read l.1 c.next_slot-n.ensures c.in-Due.is,
      c.skip_after-p.ensures.inside,
      search rules,
    )

pub read_level-returns : goal.read_level-returns
read_level-returns t c =
    let l = c.loop-turn.invariant in
    spent _ _ _ c.loop-turn.place c.loop-turn.left _ _ _ l.0 (omega arith) l.2
