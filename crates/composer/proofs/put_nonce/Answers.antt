-- `composer::put_nonce` meets its contract: one head, and the string's bytes.
use Rattle.composer.proofs.Ways.{nonces}
use borrow.Author.Rules.{rules}
use Rattle.composer.proofs.put_nonce.Goals as goal

pub returns-then-kind-eq-NUMBER : goal.returns-then-kind-eq-NUMBER
returns-then-kind-eq-NUMBER c = search (nonces, rules)

pub returns-then-kind-eq-STRING : goal.returns-then-kind-eq-STRING
returns-then-kind-eq-STRING c = search (nonces, rules)

pub returns : goal.returns
returns c = search (nonces, rules)
