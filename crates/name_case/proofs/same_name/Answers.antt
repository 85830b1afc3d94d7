use Rattle.name_case.proofs.CaseWays.{same_names}
use Rattle.name_case.proofs.same_name.Goals as goal

pub returns : goal.returns
returns c = same_names c.args.a.now c.args.b.now c.eq_ignore_ascii_case.result c.eq_ignore_ascii_case.ensures.test
