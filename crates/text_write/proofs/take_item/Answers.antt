use Rattle.text_write.proofs.Taking.{taking, too_short, is_taken}
use mathlib.Core.Path.{◌≡◌}
use Rattle.std.specs.Prelude.{None}
use borrow.Author.Rules.{rules}
use Rattle.text_write.proofs.take_item.Goals as goal

pub returns-in_default : goal.returns-in_default
returns-in_default c = search (taking, rules)

pub returns-then-is_too_deep : goal.returns-then-is_too_deep
returns-then-is_too_deep c = search (taking, rules)

pub returns-in_err-end : goal.returns-in_err-end
returns-in_err-end c =
    let e : c.from_residual.result ≡ None = search rules in
    rw e (too_short _ _ _ _ c.head_again-h.ensures.value c.in-Good.is c.head_again-h.ensures.passed c.string_end.ensures c.in_err-end.was)

pub returns : goal.returns
returns c =
    is_taken _ _ _ _ c.head_again-h.ensures.value c.in-Good.is c.head_again-h.ensures.passed c.is_too_deep.ensures c.if-is_too_deep.false c.string_end.ensures c.in_ok-end.was
