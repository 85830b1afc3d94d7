-- The candidate's bytes come to the text's own answer, whole or cut.
use Rattle.text_read.proofs.Settled.{read_answers, read_fills}
use borrow.Author.Rules.{rules}
use Rattle.text_read.proofs.read_in.Goals as goal

pub returns-clause-value : goal.returns-clause-value
returns-clause-value c = search (read_answers, rules)

pub returns-clause-out_after : goal.returns-clause-out_after
returns-clause-out_after c = search (read_fills, rules)
