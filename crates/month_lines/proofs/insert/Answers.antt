use Rattle.std.proofs.Common.{ℕ, subst, ◌≡◌, ◌≤◌, ◌<◌, length, arith, ◌∙◌}
use lib.ListN.{set, length-set}
use Rattle.month_lines.specs.Code.{shifted}
use Rattle.month_lines.proofs.Words.{shift_on, shift_done}
use Rattle.month_lines.proofs.insert.Goals as goal

pub loop-i-preserved : goal.loop-i-preserved
loop-i-preserved c =
    let (size, whole) = c.loop-i.invariant in
    let h : c.args.lines < length c.loop-i.words = omega (arith, size, c.requires.1) in
    (length-set c.loop-i.words c.loop-i.i c.loop-i.carried ∙ size, shift_on c.loop-i.words c.args.lines c.loop-i.i c.loop-i.carried _ whole c.loop-i-test.true h)

pub returns : goal.returns
returns c =
    let (size, whole) = c.loop-i.invariant in
    let h : c.args.lines < length c.loop-i.words = omega (arith, size, c.requires.1) in
    let e : c.loop-i.i ≡ c.args.lines = omega (arith, c.loop-i-test.false, c.loop-i.auto.i-end, c.requires.0) in
    subst (λ (j : ℕ). set c.loop-i.words j c.loop-i.carried ≡ shifted c.args.lines c.args.at c.args.word c.args.words.now) e
    (shift_done c.loop-i.words c.args.lines c.loop-i.i c.loop-i.carried _ whole (omega (arith, e)) (omega (arith, e)) h)
