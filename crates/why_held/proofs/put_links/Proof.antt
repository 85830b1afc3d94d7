-- `why_held::put_links` meets its contract. The invariant: the bytes of the first i links are put.
use Prim.Native.Nat.{◌-◌, ◌≤◌}
use mathlib.Core.Path.{◌≡◌}
use lib.ListN.{length, take}
use borrow.Author.Rules.{rules}
use Rattle.buffer.specs.Put.{Put}
use Rattle.why_held.specs.Why.{links_bytes}
use Rattle.why_held.proofs.Writing.{link_bytes_lem, one_link_more}
use Rattle.why_held.proofs.put_links.Statement.{statement}
use Rattle.why_held.proofs.put_links.Tie as tie

abbrev invariant-loop-i : tie.invariant-loop-i
invariant-loop-i out₀ count links at₀ i₀ out at i = (i ≤ count) × (length out ≡ length out₀) × Put out₀ out 0 at (links_bytes (take i links))

abbrev decreases-loop-i : tie.decreases-loop-i
decreases-loop-i out₀ count links at₀ i₀ out at i = count - i

loop-again : tie.Need-loop-i-preserved invariant-loop-i decreases-loop-i
loop-again c =
    (search rules, search rules, one_link_more c.args.links {i = c.loop-i.i} _ c.loop-i.invariant.2 (search rules) c.put_link-at.ensures)

pub put_links_spec : {M : Type 1} → statement M
put_links_spec = tie.close (tie.spec invariant-loop-i decreases-loop-i (λ c. search (link_bytes_lem, rules)) (λ c. search rules) (λ c. search rules) (λ c κs. search rules)
    (λ c. search rules) (λ c. search rules) loop-again (λ c. search rules) (λ c. search (link_bytes_lem, rules)))
