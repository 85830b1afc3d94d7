-- `reader::is_misspelt` meets its contract: only text strings are spelled.
use borrow.Author.Rules.{rules}
use Rattle.reader.proofs.Heads.{text_spelt, no_text}
use Rattle.reader.proofs.is_misspelt.Statement.{statement}
use Rattle.reader.proofs.is_misspelt.Tie as tie

pub is_misspelt_spec : {M : Type 1} → statement M
is_misspelt_spec = tie.close (tie.spec (λ c. search rules) (λ c. search rules) (λ c. search rules) (λ c κs. search rules)
    (λ c. search (text_spelt, rules)) (λ c. search (no_text, rules)))
