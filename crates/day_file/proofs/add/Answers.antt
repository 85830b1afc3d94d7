use Rattle.day_file.proofs.Adding.{add-room}
use Rattle.day_file.proofs.add.Goals as goal

pub returns-clause-out_after : goal.returns-clause-out_after
returns-clause-out_after c =
    add-room _ _ _ c.args.message.now 0 c.checked.ensures.value c.in_ok-count.was c.type_inv.file c.add_accepted.result c.args.out.now c.add_accepted.ensures.out_after
