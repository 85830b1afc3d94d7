-- Private to src/: the cut as the code has it, and the shorter message by the parts that are copied.
use Rattle.std.specs.Prelude.{ℕ, suc, ◌+◌, ◌-◌, ◌≤◌, ◌<◌, ◌≡◌, cond, List, [], ◌∷◌, ◌++◌, length, take, drop, ltb, eqb}
use Rattle.buffer.specs.Bytes.{part}
use Rattle.cbor.specs.Head.{array, Lead, size, lead_bytes, head_bytes}
use Rattle.cbor.specs.declared.Head.TheVariants.{Good}
use Rattle.cbor.specs.Answer.{head_at}
use Rattle.ari.specs.declared.Limits.{Limits}
use Rattle.ari.specs.declared.Input.TheVariants.{Message}
use Rattle.ari.specs.Items.{heads, Spot, spots_of}
use Rattle.ari.specs.Decode.{decode}
use Rattle.item_table.specs.Entries.{Tabled}
use Rattle.strike.specs.declared.Found.{Found}
use Rattle.std.specs.declared.result.Result.{Result}
use Rattle.std.specs.declared.result.Result.TheVariants.{Ok}
use Rattle.ari.specs.declared.Refusal.{Refusal}
use Rattle.ari.specs.Refusals.{refused}
use Rattle.strike.specs.Strike.{shorter, struck, struck_bytes, target_count, Sought, cut, missing}

abbrev pub found_of : Sought → Result Found Refusal
found_of (cut c) = Ok (record { index = c.number; inner = c.inner.first; first = c.struck.first; after = c.struck.after })
found_of (missing n) = refused 27 n

-- the place of the last item that lies directly in a set
abbrev pub inner_after : ℕ → ℕ → ℕ → ℕ
inner_after v around first = cond (eqb around 1) first v

-- how many items begin before a place, up to the first that does not
abbrev pub below : ℕ → List Spot → ℕ
below p [] = 0
below p (x ∷ xs) = cond (ltb x.first p) (suc (below p xs)) 0

-- what is copied, with the new head between
unfoldable pub copied : List ℕ → ℕ → ℕ → ℕ → ℕ → ℕ → List ℕ
copied b inner next members first after = ((part b 0 inner ++ head_bytes array members) ++ part b next first) ++ part b after (length b)

pub record Ordered (b : List ℕ) (inner next first after : ℕ) : Type 0 where
  pub head : inner ≤ next
  pub between : next ≤ first
  pub part : first ≤ after
  pub within : after ≤ length b

-- A target or report that was found in the item table of a message, and what is known of it.
pub record Known (m : Limits) (b t : List ℕ) (k n index inner first after : ℕ) : Type 0 where
  pub table : Tabled m Message b n t
  pub lead : Lead
  pub under : k < target_count b
  pub head_there : head_at b inner ≡ Good array lead.arg (inner + size lead)
  pub some : 1 ≤ lead.arg
  pub between : inner + size lead ≤ first
  pub part_there : first < after
  pub inside : after ≤ length b
  pub long : length (struck_bytes k b) ≡ inner + size (shorter lead) + (first - (inner + size lead)) + (length b - after)
  pub bytes : struck_bytes k b ≡ take inner b ++ (lead_bytes (shorter lead) ++ (part b (inner + size lead) first ++ drop after b))
  pub items : heads (struck k (decode b)) + suc (below after (drop (suc index) (spots_of Message (decode b)))) ≡ n
  pub there : index < n
  pub short : length b < 65536
