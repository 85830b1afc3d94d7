-- `grammar::inside_word`: at each number the word means what the rule says, which antt computes arm by arm; beyond them all is as the version.
use mathlib.Core.Path.{refl, ap}
use Rattle.ari.specs.Table.{Slot, rule}
use Rattle.grammar.specs.Words.{inner_means, inner_for}
use Rattle.grammar.proofs.Hits.{arm, left_over}
use Rattle.grammar.proofs.InnerArms.{word, keys, key}
use Rattle.grammar.proofs.Right.{no_slot}
use Rattle.grammar.proofs.inside_word.Statement.{statement}
use Rattle.grammar.proofs.inside_word.Tie as tie

pub inside_word_spec : {M : Type 1} → statement M
unfolding inner_means inner_for rule
inside_word_spec = tie.close (tie.spec (λ c. arm word _ (key 0) _ refl c.in-0.is) (λ c. arm word _ (key 1) _ refl c.in-6.is)
    (λ c. arm word _ (key 2) _ refl c.in-1.is) (λ c. arm word _ (key 3) _ refl c.in-2.is)
    (λ c. arm word _ (key 4) _ refl c.in-3.is) (λ c. arm word _ (key 5) _ refl c.in-4.is)
    (λ c. arm word _ (key 6) _ refl c.in-24.is) (λ c. arm word _ (key 7) _ refl c.in-25.is)
    (λ c. arm word _ (key 8) _ refl c.in-28.is) (λ c. arm word _ (key 9) _ refl c.in-29.is)
    (λ c. arm word _ (key 10) _ refl c.in-48.is) (λ c. arm word _ (key 11) _ refl c.in-49.is)
    (λ c. arm word _ (key 12) _ refl c.in-16.is) (λ c. arm word _ (key 13) _ refl c.in-51.is)
    (λ c. arm word _ (key 14) _ refl c.in-70.is) (λ c. arm word _ (key 15) _ refl c.in-71.is)
    (λ c. ap (λ (s : Slot). inner_for (rule s)) (no_slot _ (left_over 72 keys _ refl c.in_default.in_default-own.rest))))
