-- `comparison::is_target_word` meets its contract.
use Rattle.comparison.proofs.Words.{word_ways}
use borrow.Author.Rules.{rules}
use Rattle.comparison.proofs.is_target_word.Statement.{statement}
use Rattle.comparison.proofs.is_target_word.Tie as tie

pub is_target_word_spec : {M : Type 1} → statement M
is_target_word_spec = tie.close (tie.spec (λ c κs. search rules) (λ c κs. search rules) (λ c. search (word_ways, rules)))
