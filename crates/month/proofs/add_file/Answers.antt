use Rattle.std.proofs.lemmas.Result.{err_from_is_err_and}
use Rattle.day_file.proofs.Ways.{sized_few, sized_long}
use Rattle.month.proofs.Adding.{messages_refused, messages_settled, file_refused, file_went}
use Rattle.month.proofs.add_file.Goals as goal

pub returns-in_err-count : goal.returns-in_err-count
returns-in_err-count c =
    let p = err_from_is_err_and c.from_residual.result c.from_residual.ensures.1 in
    rw (p.1, p.2) (file_refused _ _ _ _ _ _ c.outline.ensures.value c.in_err-count.was)

pub count_file-requires-clause-limits_le_gate_limits : goal.count_file-requires-clause-limits_le_gate_limits
count_file-requires-clause-limits_le_gate_limits c =
    let given = c.requires.limits_le_gate_limits in
    (given.0, given.1, given.2, given.3, sized_few _ _ c.outline.ensures.sized c.in_ok-count.was, sized_long _ _ c.outline.ensures.sized c.in_ok-count.was)

pub returns-in-Ok : goal.returns-in-Ok
returns-in-Ok c =
    file_went _ _ _ _ _ _ c.outline.ensures.value c.outline.ensures.sized c.in_ok-count.was (messages_settled _ _ _ _ _ _ _ c.count_file.ensures c.in-Ok.is c.settle.ensures)

pub returns-in-Err : goal.returns-in-Err
returns-in-Err c =
    file_went _ _ _ _ _ _ c.outline.ensures.value c.outline.ensures.sized c.in_ok-count.was (messages_refused _ _ _ _ _ _ _ c.count_file.ensures c.in-Err.is)
