-- Private to src/, and inside_level to the walks over texts: what the walk answers and keeps. Its contract says that the reader's run from here is its run from there, whatever is due afterwards.
use Rattle.std.specs.Prelude.{ℕ, ◌+◌, ◌-◌, ◌≤◌, ◌<◌, ◌≡◌, true, false, cond, List, ◌++◌, map, length, drop, eqb}
use Rattle.std.proofs.lemmas.List.Edits.{sets as stored}
use Rattle.ari.specs.Table.{Slot, Level, done, members}
use Rattle.ari.specs.Reader.{Dues, end, sets, push, run}
use Rattle.ari.specs.Items.{Items, encode, heads, Spot, spots}
use Rattle.ari.specs.Listing.{referring}
use Rattle.ari.specs.Due.{Due}
use Rattle.grammar.specs.declared.Next.{Next}
use Rattle.grammar.specs.declared.Next.TheVariants as next
use Rattle.grammar.specs.Code.{IsSlot, next_code}
use Rattle.item_table.specs.Entries.{entry_of}
use Rattle.item_table.specs.References.{noted}
use Rattle.std.specs.declared.result.Result.{Result}
use Rattle.std.specs.declared.result.Result.TheVariants.{Ok, Err}
use Rattle.ari.specs.declared.Refusal.{Refusal}
use Rattle.reader.specs.declared.Taken.{Taken}
use Rattle.reader.specs.declared.Read.{Read}
use Rattle.reader.specs.Results.{result_of}

-- the two tables that a walk may keep
pub record Tables : Type 0 where
  pub items : List ℕ
  pub references : List ℕ

abbrev pub both : List ℕ → List ℕ → Tables
both t u = record { items = t; references = u }

-- the tables with these items more, the first of them with this number
abbrev pub kept_in : Tables → ℕ → List Spot → Tables
kept_in t c xs = both (stored t.items c (map entry_of xs)) (noted t.references (map entry_of (referring xs)))

-- the members of a head with this kind and argument at a slot
abbrev pub inside_level : Slot → ℕ → ℕ → Level
inside_level s k a = members s (record { info = 0; kind = k; arg = a })

-- so many items were read, up to a place
abbrev pub read_to : ℕ → ℕ → Result Read Refusal
read_to q c = Ok (record { next = q; count = c })

-- the reader's answer, from what a walk gave
abbrev pub after_walk : List ℕ → ℕ → Result Read Refusal → Dues → Result ℕ Refusal
after_walk b items (Ok x) ds = result_of (run (items - x.count) ds x.next (drop x.next b))
after_walk b items (Err e) ds = Err e

-- The items of a level that were read from p to q, with the count before and after, and the tables before and after.
pub record Held (b : List ℕ) (v : Level) (prev : List ℕ) (d around p c q c' : ℕ) (t t' : Tables) : Type 0 where
  pub tree : Items
  pub fit : Due tree (push v prev d end)
  pub bytes : drop p b ≡ encode tree ++ drop q b
  pub place : q ≡ p + length (encode tree)
  pub count : c' ≡ c + heads tree
  pub table : t' ≡ kept_in t c (spots tree false v p around)

abbrev pub OnRead : List ℕ → ℕ → Level → List ℕ → ℕ → ℕ → ℕ → ℕ → Result Read Refusal → Tables → Tables → Type 0
OnRead b items v prev d around p c (Ok x) t t' = Held b v prev d around p c x.next x.count t t' × (x.next ≤ length b) × (x.count ≤ items)
OnRead b items v prev d around p c (Err e) t t' = Unit {0}

-- A walk over a level: v is due at p after the key before, d containers may still be opened and around are open, c of the items are read; it
-- ends as w and takes the tables t to t'. On a refusal nothing is said of t' but its lengths.
pub record Walked (b : List ℕ) (items : ℕ) (v : Level) (prev : List ℕ) (d around p c : ℕ) (w : Result Read Refusal) (t t' : Tables) : Type 0 where
  pub runs : (ds : Dues) → result_of (run (items - c) (push v prev d ds) p (drop p b)) ≡ after_walk b items w ds
  pub held : OnRead b items v prev d around p c w t t'

-- what is due inside a head can be walked: it names a slot, and a container more may be opened
abbrev pub Opens : Next → ℕ → Type 0
Opens next.Done d = Unit {0}
Opens (next.Due i n) d = IsSlot i × (0 < d)

-- what is due inside a head behind which nothing is due at the slot, where the table of items has no room for its entry; its place in that of references,
-- if it takes one, fits a word
abbrev pub LastShown : ℕ → ℕ → ℕ → ℕ → ℕ → ℕ → Next → Next → Type 0
LastShown i a n room c taken inner next.Done = Unit {0}
LastShown i a n room c taken inner (next.Due j m) = (inner ≡ next.Due j m) × (next_code i a n ≡ next.Done) × (room ≤ c) × (taken < 65536)

-- where a head that was taken ends
abbrev pub end_of_head : Result Taken Refusal → Result ℕ Refusal
end_of_head (Ok t) = Ok t.after
end_of_head (Err e) = Err e

-- the same from a walk that began at p and could take one head: a refusal elsewhere is that of the next, so it stands where the first one ends
abbrev pub first_of : ℕ → Result Read Refusal → Result ℕ Refusal
first_of p (Ok x) = Ok x.next
first_of p (Err e) = cond (eqb e.place p) (Err e) (Ok e.place)

-- the reader's answer behind the sets
abbrev pub after_sets : ℕ → Result Read Refusal → Result ℕ Refusal
after_sets items (Ok x) = Ok (items - x.count)
after_sets items (Err e) = Err e

-- The sets of a message that were read from p to the end.
pub record SetsHeld (b : List ℕ) (d p c c' : ℕ) (t t' : Tables) : Type 0 where
  pub tree : Items
  pub fit : Due tree (sets d)
  pub bytes : drop p b ≡ encode tree
  pub count : c' ≡ c + heads tree
  pub table : t' ≡ kept_in t c (spots tree true done p 0)

abbrev pub OnSets : List ℕ → ℕ → ℕ → ℕ → ℕ → Result Read Refusal → Tables → Tables → Type 0
OnSets b items d p c (Ok x) t t' = SetsHeld b d p c x.count t t' × (x.count ≤ items)
OnSets b items d p c (Err e) t t' = Unit {0}

pub record SetsWalked (b : List ℕ) (items d p c : ℕ) (w : Result Read Refusal) (t t' : Tables) : Type 0 where
  pub runs : result_of (run (items - c) (sets d) p (drop p b)) ≡ after_sets items w
  pub held : OnSets b items d p c w t t'
