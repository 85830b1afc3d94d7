-- The refusal that stands, or the listing.
use Rattle.std.proofs.lemmas.Result.{err_from_is_err_and}
use Rattle.stream.proofs.Calling.{answer_stands, answer_lists, lists_alike, writes_alike}
use Rattle.stream.proofs.answer.Goals as goal

pub returns-in_err-unrefused : goal.returns-in_err-unrefused
returns-in_err-unrefused c =
    let p = err_from_is_err_and c.from_residual.result c.from_residual.ensures.1 in
    rw (p.1, p.2) (answer_stands c.args.limits c.args.state.now c.args.message.now c.args.out.now c.unrefused.ensures c.in_err-unrefused.was)

pub returns : goal.returns
returns c =
    answer_lists c.args.limits c.args.state.now c.args.message.now c.args.out.now c.unrefused.ensures c.in_ok-unrefused.was c.least-n.ensures c.requires.2
    (lists_alike c.requires.1 _ _ c.list_within.ensures.value) (writes_alike c.requires.1 _ _ c.list_within.ensures.out_after)
