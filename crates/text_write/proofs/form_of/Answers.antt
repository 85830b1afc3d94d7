-- The heads show a set, a float, or neither.
use mathlib.Core.Bool.{true, false}
use Rattle.text_write.proofs.Forming.{forming, has_float, has_form}
use Rattle.text_write.proofs.form_of.Goals.{in-Relative, in-Other}
use borrow.Author.Rules.{rules}
use Rattle.text_write.proofs.form_of.Goals as goal

pub returns-in-Set : goal.returns-in-Set
returns-in-Set c = search (forming, rules)

pub returns-in-Some : goal.returns-in-Some
returns-in-Some c =
    elim c.match-outermost.branch [
      | in-Relative w ↦ has_float _ _ _ c.requires.1 c.requires.0 c.outermost.ensures true w.in-Relative.is c.first_float.ensures c.in-Some.is
      | in-Other w ↦ has_float _ _ _ c.requires.1 c.requires.0 c.outermost.ensures false w.in-Other.is c.first_float.ensures c.in-Some.is
    ]

pub returns-in-None : goal.returns-in-None
returns-in-None c =
    elim c.match-outermost.branch [
      | in-Relative w ↦ rw w.relative-is (has_form _ _ _ c.requires.1 c.requires.0 c.outermost.ensures true w.in-Relative.is c.first_float.ensures c.in-None.is)
      | in-Other w ↦ rw w.relative-is (has_form _ _ _ c.requires.1 c.requires.0 c.outermost.ensures false w.in-Other.is c.first_float.ensures c.in-None.is)
    ]
