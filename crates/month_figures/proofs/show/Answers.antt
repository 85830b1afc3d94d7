use native.Mathlib.Omega.{arith}
use Rattle.month_figures.proofs.Words.{show_done}
use Rattle.month_figures.proofs.show.Goals as goal

pub returns : goal.returns
returns c = show_done _ _ (omega arith) c.min-lines.ensures (omega arith) c.put_figures.ensures
