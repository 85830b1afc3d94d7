-- `grant_structs::number_of` meets its contract: below 2^63 a word is its number, and from there on -1 less what it lacks of 2^64 - 1.
use borrow.Author.Rules.{rules}
use Rattle.grant_structs.proofs.Decided.{low_word, high_fits, high_word}
use Rattle.grant_structs.proofs.number_of.Statement.{statement}
use Rattle.grant_structs.proofs.number_of.Tie as tie

pub number_of_spec : {M : Type 1} → statement M
number_of_spec = tie.close (tie.spec (λ c. search rules) (λ c. search (low_word, rules)) (λ c. search rules) (λ c. search rules)
    (λ c. search (high_fits, rules)) (λ c. search (high_word, rules)))
