-- A refusal is handed on, and what was put is the front of the text.
use Rattle.text_write.proofs.Handing.{none_put, none_kept, text_put, text_stands}
use borrow.Author.Rules.{rules}
use Rattle.text_write.proofs.put_text.Goals as goal

pub returns-in_err-relative-clause-value : goal.returns-in_err-relative-clause-value
returns-in_err-relative-clause-value c = search (none_put, rules)

pub returns-in_err-relative-clause-out_after : goal.returns-in_err-relative-clause-out_after
returns-in_err-relative-clause-out_after c = search (none_kept, rules)

pub returns-clause-value : goal.returns-clause-value
returns-clause-value c = search (text_put, rules)

pub returns-clause-out_after : goal.returns-clause-out_after
returns-clause-out_after c = search (text_stands, rules)
