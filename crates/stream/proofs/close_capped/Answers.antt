-- The bytes that are needed, or the answer, and the state that it leaves.
use Rattle.std.proofs.Common.{length}
use Rattle.stream.proofs.Calling.{close_ends, words_lent, room_lent}
use Rattle.stream.proofs.close_capped.Goals as goal

pub answer-r-requires : goal.answer-r-requires
answer-r-requires c =
    let n = length c.args.state.now in
    let room = length c.args.message.now in
    (words_lent n room c.args.limits.bytes c.lent.ensures c.in_ok-lent.was, c.requires, room_lent n room c.args.limits.bytes c.lent.ensures c.in_ok-lent.was)

pub end-requires : goal.end-requires
end-requires c = words_lent (length c.args.state.now) (length c.args.message.now) c.args.limits.bytes c.lent.ensures c.in_ok-lent.was

pub returns : goal.returns
returns c = close_ends c.args.limits c.args.state.now c.args.message.now c.args.out.now c.lent.ensures c.in_ok-lent.was c.answer-r.ensures c.end.ensures
