-- Where a frame has too few or too many containers around it, the message waits.
use Rattle.stream.proofs.Words.{low_level, deep_level, own_level}
use Rattle.stream.proofs.take_due.Goals as goal
use Rattle.stream.proofs.take_due.Goals.{then-f-place-via-then-f-place, then-f-place-via-else-f-place+then-limits-f}

pub returns-then-f-place-clause-value : goal.returns-then-f-place-clause-value
returns-then-f-place-clause-value c =
    let a = c.args in
    elim c.then-f-place.branch [
      | then-f-place-via-then-f-place w ↦ low_level a.limits a.s.now a.f a.place.at a.place.count a.place.opened w.if-f-place.true
      | then-f-place-via-else-f-place+then-limits-f w ↦
          deep_level a.limits a.s.now a.f a.place.at a.place.count a.place.opened w.if-f-place.false w.if-limits-f.true
    ]

pub returns-clause-value : goal.returns-clause-value
returns-clause-value c =
    let a = c.args in
    own_level a.limits a.s.now a.f a.place.at a.place.count a.place.opened c.if-f-place.false c.if-limits-f.false c.take.ensures.value
