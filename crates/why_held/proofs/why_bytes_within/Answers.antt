-- `why_held::why_bytes_within` meets its contract: the answer, written into the room.
use Rattle.ari.specs.Limits.{capped}
use Rattle.why_held.proofs.Answered.{no_room, same_room}
use Rattle.why_held.proofs.why_bytes_within.Goals as goal

pub returns-in_err-w-clause-out_after : goal.returns-in_err-w-clause-out_after
returns-in_err-w-clause-out_after c =
    let a = c.args in
    no_room (capped a.limits) a.s.now a.grants.now a.published.now a.own.now a.subscriber c.why_within.ensures.value a.out.now c.in_err-w.was

pub returns-clause-out_after : goal.returns-clause-out_after
returns-clause-out_after c =
    let a = c.args in
    same_room (capped a.limits) a.s.now a.grants.now a.published.now a.own.now a.subscriber c.why_within.ensures.value a.out.now c.in_ok-w.was
    c.write_why.ensures.value c.write_why.ensures.out_after
