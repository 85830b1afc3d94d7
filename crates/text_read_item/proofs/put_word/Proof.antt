-- `text_read_item::put_word` meets its contract: the head, then the string.
use Rattle.text_read_item.proofs.WordWays.{reading}
use borrow.Author.Rules.{rules}
use Rattle.text_read_item.proofs.put_word.Statement.{statement}
use Rattle.text_read_item.proofs.put_word.Tie as tie

pub put_word_spec : {M : Type 1} → statement M
put_word_spec = tie.close (tie.spec (λ c κs. search rules) (λ c. search rules) (λ c. search rules) (λ c. search rules) (λ c κs. search rules)
    (λ c. search rules) (λ c. search (reading, rules)))
