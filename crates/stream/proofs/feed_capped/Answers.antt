-- The bytes that are needed, the refusal that stands, or what the fragment does.
use Rattle.std.proofs.Common.{length}
use Rattle.std.proofs.lemmas.Result.{err_from_is_err_and}
use Rattle.stream.proofs.Calling.{feed_stands, feed_receives, words_lent, room_lent, small_bytes, small_containers}
use Rattle.stream.proofs.feed_capped.Goals as goal

pub unrefused-requires : goal.unrefused-requires
unrefused-requires c = words_lent (length c.args.state.now) (length c.args.message.now) c.args.limits.bytes c.lent.ensures c.in_ok-lent.was

pub returns-in_err-unrefused : goal.returns-in_err-unrefused
returns-in_err-unrefused c =
    let p = err_from_is_err_and c.from_residual-in_err-unrefused.result c.from_residual-in_err-unrefused.ensures.1 in
    rw (p.1, p.2)
    (feed_stands c.args.limits c.args.state.now c.args.message.now c.args.fragment.now c.lent.ensures c.in_ok-lent.was c.unrefused.ensures c.in_err-unrefused.was)

pub receive-requires : goal.receive-requires
receive-requires c =
    let n = length c.args.state.now in
    let room = length c.args.message.now in (
      words_lent n room c.args.limits.bytes c.lent.ensures c.in_ok-lent.was,
      room_lent n room c.args.limits.bytes c.lent.ensures c.in_ok-lent.was,
      small_bytes c.requires,
      small_containers c.requires,
    )

pub returns : goal.returns
returns c =
    feed_receives c.args.limits c.args.state.now c.args.message.now c.args.fragment.now c.lent.ensures c.in_ok-lent.was c.unrefused.ensures c.in_ok-unrefused.was
    c.receive.ensures
