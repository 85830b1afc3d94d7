-- A fresh state has received nothing.
use Rattle.std.proofs.Common.{length}
use Rattle.std.proofs.lemmas.Result.{err_from_is_err_and}
use Rattle.stream.proofs.Calling.{open_short, open_ends, words_lent}
use Rattle.stream.proofs.open.Goals as goal

pub returns-in_err-lent : goal.returns-in_err-lent
returns-in_err-lent c =
    let p = err_from_is_err_and c.from_residual.result c.from_residual.ensures.1 in
    rw (p.1, p.2) (open_short c.args.state.now c.lent.ensures c.in_err-lent.was)

pub clear-requires : goal.clear-requires
clear-requires c = words_lent (length c.args.state.now) 0 0 c.lent.ensures c.in_ok-lent.was

pub returns : goal.returns
returns c = open_ends c.args.state.now (words_lent (length c.args.state.now) 0 0 c.lent.ensures c.in_ok-lent.was) c.clear.ensures
