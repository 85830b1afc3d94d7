-- `reader::take_head` meets its contract: a law for each test.
use borrow.Author.Rules.{rules}
use Rattle.reader.proofs.Heads.{head_ways, head_shown, fit_shown, content_bounded}
use Rattle.cbor.proofs.HeadWays.{bounds, advances, kind_known}
use mathlib.Core.Path.{sym, ◌∙◌, ap}
use mathlib.Core.Bool.{not}
use Rattle.reader.proofs.take_head.Statement.{statement}
use Rattle.reader.proofs.take_head.Tie as tie

pub take_head_spec : {M : Type 1} → statement M
take_head_spec = tie.close (tie.spec (λ c κs. search rules) (λ c. search rules) (λ c. search rules) (λ c κs. search rules)
    (λ c. (search (head_ways, head_shown, bounds, rules), search (head_ways, head_shown, bounds, rules)))
    (λ c. (search (head_ways, head_shown, bounds, rules), tt)) (λ c κs. search rules) (λ c. (search (head_ways, head_shown, bounds, rules), tt))
    (λ c κs. search rules) (λ c. (search (head_ways, head_shown, bounds, rules), tt)) (λ c κs. search rules)
    (λ c κs. ((search rules, search rules, search rules, search rules, search rules), (search (head_ways, head_shown, bounds, rules), search (head_ways, head_shown, bounds, rules), search (head_ways, head_shown, bounds, rules), fit_shown _ _ _ c.fits_at.ensures (ap not c.if-not-fits_at.false), search (head_ways, head_shown, bounds, rules))))
    (λ c. let fit = fit_shown _ _ _ c.fits_at.ensures (ap not c.if-not-fits_at.false) in
    (search (head_ways, head_shown, bounds, rules), content_bounded c.args.s.now _ _ _ c.args.depth _ _ _ _ (advances _ _ c.head_at-h.ensures.1 c.in-Good.is) c.if-items-count.false (sym c.is_too_deep.ensures ∙ c.if-is_too_deep.false) (kind_known _ _ c.head_at-h.ensures.1 c.in-Good.is) fit c.judge_content.result c.judge_content.ensures.1)))
