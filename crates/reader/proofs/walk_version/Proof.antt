-- `reader::walk_version` meets its contract: the byte 01, or the walk's own answer.
use borrow.Author.Rules.{rules}
use Rattle.reader.proofs.Bounds.{bounds}
use Rattle.reader.proofs.Fixed.{fixed_heads}
use Rattle.reader.proofs.walk_version.Statement.{statement}
use Rattle.reader.proofs.walk_version.Tie as tie

pub walk_version_spec : {M : Type 1} → statement M
walk_version_spec = tie.close (tie.spec (λ c κs. search rules) (λ c κs. search rules) (λ c. search rules) (λ c. search rules) (λ c. search rules)
    (λ c κs. search rules) (λ c. search rules) (λ c. search (fixed_heads, bounds, rules)))
