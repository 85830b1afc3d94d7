-- `print::fresh_line` meets its contract: by what is left.
use borrow.Author.Rules.{rules}
use Rattle.print.proofs.Lines.{lines}
use Rattle.print.proofs.fresh_line.Statement.{statement}
use Rattle.print.proofs.fresh_line.Tie as tie

pub fresh_line_spec : {M : Type 1} → statement M
fresh_line_spec = tie.close (tie.spec (λ c κs. search rules) (λ c. search (lines, rules)) (λ c κs. search rules) (λ c. search (lines, rules)))
