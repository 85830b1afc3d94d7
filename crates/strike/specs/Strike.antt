-- A message without one of its targets or reports: R202, R203, R207. Interface: all of it. Over the tree it is `struck`; over the bytes it is `cut_bytes`, and
-- that both say the same is a theorem (crate `struck_messages`).
use Rattle.std.specs.Prelude.{ℕ, zero, suc, ◌+◌, ◌-◌, cond, List, [], ◌∷◌, ◌++◌, length, take, drop, ltb, eqb}
use Rattle.buffer.specs.Bytes.{part}
use Rattle.cbor.specs.Head.{array, Lead, size, lead_bytes, lead_of}
use Rattle.ari.specs.declared.Limits.{Limits}
use Rattle.ari.specs.declared.Input.TheVariants.{Message}
use Rattle.ari.specs.Reader.{refuse, accept, read}
use Rattle.ari.specs.Reader as reader
use Rattle.ari.specs.Items.{Items, none, item, encode, heads, Spot, spots_of}
use Rattle.ari.specs.Decode.{decode}
use Rattle.ari.specs.Targets.{is_target, targets}
use Rattle.item_table.specs.Entries.{no_spot}
use Rattle.strike.specs.declared.Struck.{Struck}
use Rattle.std.specs.declared.result.Result.{Result}
use Rattle.std.specs.declared.result.Result.TheVariants.{Ok, Err}
use Rattle.ari.specs.declared.Refusal.{Refusal}
use Rattle.ari.specs.Refusals.{refused}

-- a run of items without one of them
abbrev pub without : ℕ → Items → Items
without k none = none
without zero (item l s ms rs) = rs
without (suc k) (item l s ms rs) = item l s ms (without k rs)

-- the members of a set's inner array before its targets or reports, by the set's type: a nonce, and an RPTSET's time
abbrev pub framing : ℕ → ℕ
framing t = cond (eqb t 21) 2 1

-- R202: the head of an array with a member fewer, the shortest there is
abbrev pub shorter : Lead → Lead
shorter l = lead_of array (l.arg - 1)

-- of a set's two members, its type and its inner array: how many targets or reports there are
abbrev pub count_in : Items → ℕ
count_in none = 0
count_in (item l s ms none) = 0
count_in (item l s ms (item h t us rs)) = h.arg - framing l.arg

-- R202: the same without one of them
abbrev pub struck_set : ℕ → Items → Items
struck_set k none = none
struck_set k (item l s ms none) = item l s ms none
struck_set k (item l s ms (item h t us rs)) = item l s ms (item (shorter h) t (without (framing l.arg + k) us) rs)

-- R168: targets and reports are counted on from set to set
abbrev pub struck_sets : ℕ → Items → Items
struck_sets k none = none
struck_sets k (item l s ms rs) = cond (ltb k (count_in ms)) (item l s (struck_set k ms) rs) (item l s ms (struck_sets (k - count_in ms) rs))

-- the version stays
abbrev pub struck : ℕ → Items → Items
struck k none = none
struck k (item l s ms rs) = item l s ms (struck_sets k rs)

-- R202: the bytes of a message without its target or report number k
unfoldable pub struck_bytes : ℕ → List ℕ → List ℕ
struck_bytes k b = encode (struck k (decode b))

-- how many targets and reports a message has
unfoldable pub target_count : List ℕ → ℕ
target_count b = length (targets (spots_of Message (decode b)))

-- R203: where it is cut: the inner array, the target or report that is struck, and the number of its item
pub record Cut : Type 0 where
  pub number : ℕ
  pub inner : Spot
  pub struck : Spot

pub data Sought : Type 0 where
  cut : Cut → Sought
  missing : ℕ → Sought  -- how many targets and reports there are

-- Target or report k among the items from number i on, with so many passed; v is the last item before them that lies directly in a set: before a
-- target that is the inner array around it.
abbrev pub seek : ℕ → ℕ → Spot → ℕ → List Spot → Sought
seek k passed v i [] = missing passed
seek k passed v i (x ∷ xs) =
    cond (is_target x.slot) (cond (eqb passed k) (cut (record { number = i; inner = v; struck = x })) (seek k (suc passed) v (suc i) xs))
    (seek k passed (cond (eqb x.around 1) x v) (suc i) xs)

unfoldable pub cut_of : ℕ → List ℕ → Sought
cut_of k b = seek k 0 no_spot 0 (spots_of Message (decode b))

-- the byte behind the inner array's head
abbrev pub head_end : Cut → ℕ
head_end c = c.inner.first + size c.inner.lead

-- R203: what stands before the inner array's head, the new head, what stands between the old head and the struck part, and what stands behind it
unfoldable pub cut_bytes : List ℕ → Cut → List ℕ
cut_bytes b c = take c.inner.first b ++ (lead_bytes (shorter c.inner.lead) ++ (part b (head_end c) c.struck.first ++ drop c.struck.after b))

-- R207: the message's refusal, 27 with the count of targets and reports, 16 with the bytes needed, or the items and bytes of the shorter message
abbrev pub strike_by : reader.Answer → ℕ → List ℕ → ℕ → Result Struck Refusal
strike_by (refuse r p) k b room = refused r p
strike_by (accept n) k b room =
    cond (ltb k (target_count b))
    (cond (ltb room (length (struck_bytes k b))) (refused 16 (length (struck_bytes k b)))
    (Ok (record { items = heads (struck k (decode b)); bytes = length (struck_bytes k b) })))
    (refused 27 (target_count b))

unfoldable pub strike : Limits → ℕ → List ℕ → ℕ → Result Struck Refusal
strike m k b room = strike_by (read m Message b) k b room

-- R48, R49: a refusal leaves the room as it was; an answer leaves what is behind it
abbrev pub room_after : Result Struck Refusal → List ℕ → List ℕ → List ℕ
room_after (Err e) new out = out
room_after (Ok x) new out = new ++ drop x.bytes out
