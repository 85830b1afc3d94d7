-- `reader::first_head` meets its contract: the walk over the head alone.
use Rattle.buffer.proofs.ByteLaws.{all_bytes}
use Rattle.reader.proofs.Alone.{past_end, one_head, few, enough}
use borrow.Author.Rules.{rules}
use Rattle.reader.proofs.first_head.Statement.{statement}
use Rattle.reader.proofs.first_head.Tie as tie

pub first_head_spec : {M : Type 1} → statement M
first_head_spec = tie.close (tie.spec (λ c. search (past_end, one_head, all_bytes, rules)) (λ c κs. search rules) (λ c κs. search rules)
    (λ c κs. search rules) (λ c κs. search rules) (λ c. search rules) (λ c. search rules) (λ c. search rules) (λ c. search rules)
    (λ c. search rules) (λ c. search rules)
    (λ c κs. (all_bytes c.before.before.before.before.before.before.before.before.args.s.now c.before.before.before.before.before.before.before.shared_slice_known-1.given, search rules, search rules, search rules, search (few, enough, rules)))
    (λ c κs. search rules) (λ c. search (past_end, one_head, all_bytes, rules)))
