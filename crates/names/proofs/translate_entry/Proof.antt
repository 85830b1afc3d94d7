-- `names::translate_entry` meets its contract: an entry with a name, or another.
use Rattle.names.proofs.Translation.{translations}
use borrow.Author.Rules.{rules}
use Rattle.names.proofs.translate_entry.Statement.{statement}
use Rattle.names.proofs.translate_entry.Tie as tie

pub translate_entry_spec : {M : Type 1} → statement M
translate_entry_spec = tie.close (tie.spec (λ c. search rules) (λ c κs. search rules) (λ c. search rules) (λ c κs. search rules)
    (λ c κs. search rules) (λ c κs. search rules) (λ c κs. search rules) (λ c. search rules) (λ c. search (translations, rules)) (λ c. search rules)
    (λ c. search (translations, rules)))
