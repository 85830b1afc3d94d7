-- `buffer::put_digits` meets its contract: a hundredth's digits, then two more. The measure is how many digits may stand before the last.
use Rattle.buffer.proofs.Decimals.{decimals, two_down}
use borrow.Author.Rules.{rules}
use Prim.Native.Nat.{ℕ, ◌<◌}
use borrow.Fn.Kinds.{In}
use borrow.Fn.PlainCycle.{Measures, is, falls, and}
use Rattle.buffer.proofs.put_digits.Reads as put-digits
use Rattle.buffer.proofs.put_digits.Kinds as put-digits-kinds
use Rattle.buffer.proofs.+put_digits.Lts-put_digits as put-digits-lts
use Rattle.buffer.proofs.put_few.Reads as put-few-reads
use Rattle.buffer.proofs.put_two.Reads as put-two-reads
use Rattle.buffer.proofs.+put_digits.{statement}
use Rattle.buffer.proofs.+put_digits.Tie.{close}

abbrev μ_put_digits : Measures 1 put-digits-kinds.ps ℕ
μ_put_digits κs a = a.1.1.0

abbrev put_digits_at : ℕ → In 1 put-digits-kinds.ps
put_digits_at t =
    and 1 put-digits-kinds.ps (is 1 put-digits-kinds.ps μ_put_digits t) put-digits.Pre

abbrev put_digits_below : ℕ → In 1 put-digits-kinds.ps
put_digits_below t =
    and 1 put-digits-kinds.ps (falls 1 put-digits-kinds.ps ◌<◌ μ_put_digits t) put-digits.Pre

pub +put_digits_spec : {M : Type 1} → statement M
+put_digits_spec = close μ_put_digits λ t. put-digits-lts.spec (
  put-few-reads.Asked,
  put-few-reads.Learnt,
  put_digits_below t,
  put-digits.Post,
  put-two-reads.Asked,
  put-two-reads.Learnt,
)
    (put_digits_at t)
    put-digits.Post
    (λ c κs. search (decimals, rules))
    (λ c. search (decimals, rules))
    (λ c. search (decimals, rules))
    (λ c. search (decimals, rules))
    (λ c κs. (search (two_down, decimals, rules), search (decimals, rules)))
    (λ c κs. search (decimals, rules))
    (λ c. search (decimals, rules))
    (λ c. search (decimals, rules))
