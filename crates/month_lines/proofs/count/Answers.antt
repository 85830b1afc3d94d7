use Rattle.std.proofs.Common.{◌≤◌, ◌<◌, length, arith}
use lib.Seq.{length-take-le}
use Rattle.month_lines.proofs.Counting.{found_at, splits, count_beyond, count_there, count_full, count_new}
use Rattle.month_lines.proofs.count.Goals as goal

pub returns-then-lines-gt-LINES : goal.returns-then-lines-gt-LINES
returns-then-lines-gt-LINES c = count_beyond c.args.places.now c.args.amounts.now c.args.lines c.args.place c.if-lines-gt-LINES.true

pub returns-in-Ok : goal.returns-in-Ok
returns-in-Ok c =
    let long : c.args.lines ≤ length c.args.places.now = omega (arith, c.if-lines-gt-LINES.false, c.if-places-lt-LINES.false) in
    let h : c.in-Ok.at < c.args.lines = omega (arith, c.in-Ok.ensures.bound, length-take-le c.args.lines c.args.places.now long) in
    count_there c.args.places.now c.args.amounts.now c.args.lines c.args.place c.if-lines-gt-LINES.false c.if-places-lt-LINES.false c.if-amounts-lt-LINES.false h
    (found_at c.args.places.now c.args.lines c.args.place long c.in-Ok.at h (c.in-Ok.ensures.position 0)) c.more.ensures

pub returns-in-Err : goal.returns-in-Err
returns-in-Err c =
    let long : c.args.lines ≤ length c.args.places.now = omega (arith, c.if-lines-gt-LINES.false, c.if-places-lt-LINES.false) in
    let le : c.in-Err.field-0 ≤ c.args.lines = omega (arith, c.in-Err.ensures.bound, length-take-le c.args.lines c.args.places.now long) in
    count_full c.args.places.now c.args.amounts.now c.args.lines c.args.place c.if-lines-gt-LINES.false c.if-places-lt-LINES.false c.if-amounts-lt-LINES.false
    (splits c.args.places.now c.args.lines c.args.place long c.in-Err.field-0 c.in-Err.ensures.position) le c.if-lines-eq-LINES.true

pub returns-in-Err-2 : goal.returns-in-Err-2
returns-in-Err-2 c =
    let long : c.args.lines ≤ length c.args.places.now = omega (arith, c.if-lines-gt-LINES.false, c.if-places-lt-LINES.false) in
    let le : c.in-Err.field-0 ≤ c.args.lines = omega (arith, c.in-Err.ensures.bound, length-take-le c.args.lines c.args.places.now long) in
    count_new c.args.places.now c.args.amounts.now c.args.lines c.args.place c.if-lines-gt-LINES.false c.if-places-lt-LINES.false c.if-amounts-lt-LINES.false
    (splits c.args.places.now c.args.lines c.args.place long c.in-Err.field-0 c.in-Err.ensures.position) le (omega (arith, c.if-lines-gt-LINES.false, c.if-lines-eq-LINES.false)) c.insert.ensures c.insert-in-Err-2.ensures
