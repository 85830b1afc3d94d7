-- `surfbodkin::surfbodkin_release` meets its contract: the answer's code, and its count.
use mathlib.Core.Path.{◌∙◌, ap}
use borrow.Author.Rules.{rules}
use Rattle.ari.specs.Limits.{gate_limits}
use Rattle.std.specs.declared.result.Result.{Result}
use Rattle.ari.specs.declared.Refusal.{Refusal}
use Rattle.release.specs.declared.Released.{Released}
use Rattle.release.specs.Release.{answer_of}
use Rattle.release.specs.Compared.{count_after}
use Rattle.release.proofs.Compared.{bytes_without_count}
use Rattle.answer_codes.specs.Code.{release_code}
use Rattle.surfbodkin.proofs.surfbodkin_release.Statement.{statement}
use Rattle.surfbodkin.proofs.surfbodkin_release.Tie as tie

returns : tie.Need-returns
returns c =
    let a = c.before.before.before.before.before.before.before.before.args in
    let is = c.before.before.before.release_message-a.ensures in (
      c.release_code.ensures ∙ ap (λ (x : Result Released Refusal). release_code (answer_of x)) is
          ∙ ap release_code (bytes_without_count gate_limits a.message.now a.published.now a.own.now a.subscriber a.table.now),
      c.before.put_compared.ensures ∙ ap (λ (x : Result Released Refusal). count_after x a.compared.now) is,
    )

pub surfbodkin_release_spec : {M : Type 1} → statement M
surfbodkin_release_spec = tie.close (tie.spec (λ c κs. search rules) (λ c κs. search rules) (λ c κs. search rules) returns)
