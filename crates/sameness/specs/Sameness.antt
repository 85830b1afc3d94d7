-- Whether two single ARIs are the same, or a refusal: R187. Interface: all of it.
use Rattle.std.specs.Prelude.{ℕ, Bool, List}
use Rattle.std.specs.declared.result.Result.{Result}
use Rattle.std.specs.declared.result.Result.TheVariants.{Ok}
use Rattle.ari.specs.declared.Refusal.{Refusal}
use Rattle.ari.specs.Refusals.{refused}
use Rattle.ari.specs.declared.Limits.{Limits}
use Rattle.ari.specs.declared.Input.TheVariants.{Single}
use Rattle.ari.specs.Reader.{Answer, refuse, accept, read}
use Rattle.ari.specs.Same.{is_same}

-- the first's refusal, then the second's
abbrev pub sameness_by : Answer → Answer → Bool → Result Bool Refusal
sameness_by (refuse r p) second is = refused r p
sameness_by (accept n) (refuse r p) is = refused r p
sameness_by (accept n) (accept k) is = Ok is

unfoldable pub sameness : Limits → List ℕ → List ℕ → Result Bool Refusal
sameness m a b = sameness_by (read m Single a) (read m Single b) (is_same a b)
