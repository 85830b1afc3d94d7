-- Private to src/: what the functions that gather targets and put the order's bytes leave behind.
use Rattle.std.specs.Prelude.{Option, Some, None, Result, Ok, Err, ℕ, suc, ◌+◌, ◌-◌, ◌≤◌, ◌<◌, ◌≡◌, Bool, false, not, ◌&&◌, cond, List, [], ◌∷◌, ◌++◌, length, drop, take, eqb}
use Rattle.std.proofs.lemmas.List.Edits.{sets}
use Rattle.buffer.specs.Bytes.{within}
use Rattle.buffer.specs.Put.{Put}
use Rattle.cbor.specs.Head.{unsigned, array, Lead, lead_of, lead_bytes}
use Rattle.cbor.specs.declared.Head.{Head}
use Rattle.cbor.specs.declared.Head.TheVariants.{Bad, Good}
use Rattle.cbor.specs.Answer.{head_at}
use Rattle.ari.specs.Table.{max64}
use Rattle.ari.specs.declared.Limits.{Limits}
use Rattle.ari.specs.declared.Input.TheVariants.{Message}
use Rattle.ari.specs.Items.{Items, none, item, encode, heads}
use Rattle.ari.specs.Decode.{decode}
use Rattle.ari.specs.Rules.{Stands}
use Rattle.text.specs.Answer.{output, read_text}
use Rattle.composer.specs.Compose.{Nonce, nonce_of, in_range, nonce_lead, nonce_string, texts_in, nothing, reference, reference_of, Gathered, wrong, targets, gather, order_of}
use Rattle.composer.specs.declared.Target.{Target}
use Rattle.composer.specs.declared.TextError.{TextError}
use Rattle.composer.specs.declared.TextError.TheVariants.{Other, TooLong}
use Rattle.composer.specs.declared.Built.{Built}
use Rattle.composer.specs.declared.BuildError.{BuildError}
use Rattle.composer.specs.declared.BuildError.TheVariants.{Wrong, Over}

-- up to a line feed
unfoldable pub in_text : ℕ → Bool
in_text x = not (eqb x 10)

-- how many texts are ended
abbrev pub feed_of : ℕ → ℕ
feed_of x = cond (eqb x 10) 1 0

abbrev pub feeds : List ℕ → ℕ
feeds [] = 0
feeds (x ∷ b) = feed_of x + feeds b

-- whether a nonce is in range, whatever its string
pub record InRange (kind n : ℕ) (r : Bool) : Type 0 where
  pub is : (s : List ℕ) → r ≡ in_range (nonce_of kind n s)

-- bytes that begin with the head of an object reference
abbrev pub object_head : Head → Bool
object_head (Good k a n) = eqb k array && within 3 4 a
object_head (Bad r) = false

unfoldable pub is_object_at : List ℕ → Bool
is_object_at b = object_head (head_at b 0)

-- the bytes before the targets: the version with the EXECSET's own head and type, the head of the nonce and the targets, the nonce
abbrev pub opening : List ℕ
opening = lead_bytes (lead_of unsigned 1) ++ (lead_bytes (lead_of array 2) ++ lead_bytes (lead_of unsigned 20))

abbrev pub nonce_bytes : Nonce → List ℕ
nonce_bytes z = lead_bytes (nonce_lead z) ++ nonce_string z

abbrev pub front_bytes : Nonce → ℕ → List ℕ
front_bytes z n = opening ++ (lead_bytes (lead_of array (suc n)) ++ nonce_bytes z)

-- a text that was read into a room: its ARI stands at the front, if it is an object reference
pub record IsLong (m : Limits) (t : List ℕ) (room : ℕ) : Type 0 where
  pub ari : List ℕ
  pub count : ℕ
  pub is : read_text m t ≡ output ari count
  pub whole : encode (decode ari) ≡ ari
  pub short : length ari ≤ m.bytes
  pub longer : room < length ari

-- from a place in the room on
pub record IsTarget (m : Limits) (t room room' : List ℕ) (at size count : ℕ) : Type 0 where
  pub lead : Lead
  pub str : List ℕ
  pub inside : Items
  pub is : reference_of m t ≡ reference lead str inside
  pub size_is : length (encode (item lead str inside none)) ≡ size
  pub count_is : heads (item lead str inside none) ≡ count
  pub fits : at + size ≤ length room
  pub room_is : room' ≡ sets room at (encode (item lead str inside none))

abbrev pub TakenBy : Limits → List ℕ → List ℕ → List ℕ → Result Target TextError → Type 0
TakenBy m t room room' (Err Other) = reference_of m t ≡ nothing
TakenBy m t room room' (Err TooLong) = IsLong m t (length room)
TakenBy m t room room' (Ok x) = IsTarget m t room room' 0 x.size x.count

pub record TakesText (m : Limits) (t room room' : List ℕ) (r : Result Target TextError) : Type 0 where
  pub taken : TakenBy m t room room' r
  pub sized : length room' ≡ length room

-- the same in a room from a place on
abbrev pub PutBy : Limits → List ℕ → List ℕ → List ℕ → ℕ → Result Target TextError → Type 0
PutBy m t room room' at (Err Other) = reference_of m t ≡ nothing
PutBy m t room room' at (Err TooLong) = IsLong m t (length room - at)
PutBy m t room room' at (Ok x) = IsTarget m t room room' at x.size x.count

pub record PutsText (m : Limits) (t room room' : List ℕ) (at : ℕ) (r : Result Target TextError) : Type 0 where
  pub taken : PutBy m t room room' at r
  pub sized : length room' ≡ length room

-- the texts from a place on, of which the first has this number
abbrev pub gather_at : Limits → List ℕ → ℕ → ℕ → Gathered
gather_at m b p k = gather m k (texts_in (drop p b))

-- all of them are targets
pub record AreTargets (g : Gathered) : Type 0 where
  pub many : ℕ
  pub items : Items
  pub are : g ≡ targets many items

-- the first that is no object reference, if there is one
abbrev pub RestBy : Gathered → Option ℕ → Type 0
RestBy g (Some k) = g ≡ wrong k
RestBy g None = AreTargets g

pub record RestIs (g : Gathered) (r : Option ℕ) : Type 0 where
  pub rest : RestBy g r

-- What is left to be judged decides the whole: the texts from a place on are right or wrong as all are. If they are right, then all have `size` bytes at least.
pub record LongTargets (g : Gathered) (size : ℕ) : Type 0 where
  pub many : ℕ
  pub items : Items
  pub are : g ≡ targets many items
  pub long : size ≤ length (encode items)

pub record LeftOver (m : Limits) (b : List ℕ) (p k size : ℕ) : Type 0 where
  pub inside : p ≤ length b
  pub numbered : k ≤ p
  pub wrongs : (j : ℕ) → gather_at m b p k ≡ wrong j → gather_at m b 0 0 ≡ wrong j
  pub rights : AreTargets (gather_at m b p k) → LongTargets (gather_at m b 0 0) size

-- the room from `at` on is shorter than all targets
pub record RoomOver (m : Limits) (b : List ℕ) (room at p k : ℕ) : Type 0 where
  pub size : ℕ
  pub over : room ≤ at + size
  pub left_over : LeftOver m b p k size

-- all targets were put, from `at` on
pub record AllPut (m : Limits) (b room room' : List ℕ) (at before size count : ℕ) : Type 0 where
  pub many : ℕ
  pub items : Items
  pub are : gather_at m b 0 0 ≡ targets many items
  pub put : Put room room' at size (encode items)
  pub size_is : size ≡ at + length (encode items)
  pub fits : size ≤ length room
  pub count_is : count ≡ before + heads items

-- the targets put from `at` on, with so many items before them
abbrev pub TargetsBy : Limits → List ℕ → List ℕ → List ℕ → ℕ → ℕ → Result Built BuildError → Type 0
TargetsBy m b room room' at before (Err (Wrong k)) = gather_at m b 0 0 ≡ wrong k
TargetsBy m b room room' at before (Err (Over p k)) = RoomOver m b (length room) at p k
TargetsBy m b room room' at before (Ok x) = AllPut m b room room' at before x.size x.count

pub record TargetsPut (m : Limits) (b room room' : List ℕ) (at before : ℕ) (r : Result Built BuildError) : Type 0 where
  pub built : TargetsBy m b room room' at before r
  pub sized : length room' ≡ length room

-- the whole order stands at the front of the room
pub record AllBuilt (m : Limits) (z : Nonce) (b room' : List ℕ) (size count : ℕ) : Type 0 where
  pub many : ℕ
  pub items : Items
  pub are : gather_at m b 0 0 ≡ targets many items
  pub few : many < max64
  pub nonce_fits : length (nonce_string z) ≤ max64
  pub bytes : take size room' ≡ encode (order_of z many items)
  pub fits : size ≤ length room'
  pub count_is : count ≡ heads (order_of z many items)

-- What is left to be judged decides the whole, which has no fewer bytes than the room.
pub record LongOrder (z : Nonce) (g : Gathered) (room : ℕ) : Type 0 where
  pub many : ℕ
  pub items : Items
  pub are : g ≡ targets many items
  pub long : room ≤ length (encode (order_of z many items))

pub record OrderOver (m : Limits) (z : Nonce) (b : List ℕ) (room p k : ℕ) : Type 0 where
  pub inside : p ≤ length b
  pub numbered : k ≤ p
  pub wrongs : (j : ℕ) → gather_at m b p k ≡ wrong j → gather_at m b 0 0 ≡ wrong j
  pub rights : AreTargets (gather_at m b p k) → LongOrder z (gather_at m b 0 0) room

abbrev pub OrderBy : Limits → Nonce → List ℕ → List ℕ → Result Built BuildError → Type 0
OrderBy m z b room' (Err (Wrong k)) = gather_at m b 0 0 ≡ wrong k
OrderBy m z b room' (Err (Over p k)) = OrderOver m z b (length room') p k
OrderBy m z b room' (Ok x) = AllBuilt m z b room' x.size x.count

pub record OrderBuilt (m : Limits) (z : Nonce) (b room room' : List ℕ) (r : Result Built BuildError) : Type 0 where
  pub built : OrderBy m z b room' r
  pub sized : length room' ≡ length room

-- bytes that are a message but for the limits, and their items
pub record Order (b : List ℕ) (count : ℕ) : Type 0 where
  pub items : Items
  pub stands : Stands Message items
  pub bytes : encode items ≡ b
  pub count_is : heads items ≡ count
