-- The reading's refusal, or the form of an accepted ARI.
use borrow.Author.Rules.{rules}
use Rattle.text_write.proofs.Forming.{forming, is_accepted}
use Rattle.buffer.proofs.ByteLaws.{all_bytes}
use Rattle.text_write.proofs.judge.Goals as goal

pub returns-in_err-count : goal.returns-in_err-count
returns-in_err-count c = search (forming, rules)

pub form_of-requires : goal.form_of-requires
form_of-requires c = let b = all_bytes c.args.s.now c.type_inv.s in (b, is_accepted _ _ c.check.ensures b c.in_ok-count.was)
