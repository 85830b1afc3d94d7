use Rattle.std.proofs.lemmas.Result.{err_from_is_err_and}
use Rattle.month.proofs.Keeping.{settle_refused}
use Rattle.month.proofs.settle.Goals as goal

pub returns-in_err-judge : goal.returns-in_err-judge
returns-in_err-judge c =
    let p = err_from_is_err_and c.from_residual.result c.from_residual.ensures.1 in
    rw (p.1, p.2) (settle_refused _ _ _ _ c.judge.ensures c.in_err-judge.was)
