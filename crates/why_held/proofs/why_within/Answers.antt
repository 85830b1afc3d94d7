-- `why_held::why_within` meets its contract: by what release says.
use mathlib.Core.Path.{◌∙◌, ap}
use Rattle.std.specs.declared.result.Result.TheVariants.{Ok}
use Rattle.std.proofs.lemmas.Result.{err_from_is_err_and}
use Rattle.ari.specs.Limits.{capped}
use Rattle.why_held.proofs.Answered.{why_released, why_refused, why_held, held_needs}
use Rattle.why_held.proofs.why_within.Goals as goal

pub returns-in_err-release_within-clause-value : goal.returns-in_err-release_within-clause-value
returns-in_err-release_within-clause-value c =
    let a = c.args in
    let p = err_from_is_err_and c.from_residual.result c.from_residual.ensures.1 in
    rw (p.1, p.2)
    (why_refused (capped a.limits) a.s.now a.grants.now a.published.now a.own.now a.subscriber c.release_within.ensures c.in_err-release_within.was)

pub held-requires-clause-held : goal.held-requires-clause-held
held-requires-clause-held c =
    let a = c.args in
    held_needs (capped a.limits) a.s.now a.grants.now a.published.now a.own.now a.subscriber c.release_within.ensures c.cap.ensures.value
    (c.in_ok-release_within.was ∙ ap Ok c.in-No.is)

pub returns-in-Yes-clause-value : goal.returns-in-Yes-clause-value
returns-in-Yes-clause-value c =
    let a = c.args in
    why_released (capped a.limits) a.s.now a.grants.now a.published.now a.own.now a.subscriber c.release_within.ensures
    (c.in_ok-release_within.was ∙ ap Ok c.in-Yes.is) c.without_links.ensures.outcome_value c.without_links.ensures.links_value

pub returns-in-No-clause-value : goal.returns-in-No-clause-value
returns-in-No-clause-value c =
    let a = c.args in
    why_held (capped a.limits) a.s.now a.grants.now a.published.now a.own.now a.subscriber c.release_within.ensures
    (c.in_ok-release_within.was ∙ ap Ok c.in-No.is) c.held.ensures.value
