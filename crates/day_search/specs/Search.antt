-- Search of a day file by a namespace number: R162 to R164. Interface: all of it.
use Rattle.std.specs.Prelude.{ℕ, zero, suc, ◌+◌, ◌*◌, Bool, false, cond, List, [], ◌∷◌, ◌++◌, length, drop, eqb, ltb}
use Rattle.buffer.specs.Bytes.{be}
use Rattle.std.specs.declared.result.Result.{Result}
use Rattle.std.specs.declared.result.Result.TheVariants.{Ok, Err}
use Rattle.ari.specs.declared.Limits.{Limits}
use Rattle.ari.specs.declared.Refusal.{Refusal}
use Rattle.ari.specs.Refusals.{refused}
use Rattle.ari.specs.Signed.{word}
use Rattle.ari.specs.Listing.{Space, number, name, relative, Entry}
use Rattle.names.specs.declared.Names.{Names}
use Rattle.names.specs.declared.Names.TheVariants as lists
use Rattle.names.specs.Names.{check_names}
use Rattle.names.specs.Translated.{translated}
use Rattle.day_file.specs.declared.Format.{Format}
use Rattle.day_file.specs.Day.{count_in, offset_in, message_in, check_day}

-- R162: a reference that was found: the message's number, its first byte in the file, the byte after
pub record Hit : Type 0 where
  pub message : ℕ
  pub first : ℕ
  pub after : ℕ

-- the number is asked for in two's complement
abbrev pub is_word : ℕ → Space → Bool
is_word w (number z) = eqb (word z) w
is_word w (name p n) = false
is_word w relative = false

-- those of one message, which stands at a place of the file; its listing is with what its namespaces stand for
abbrev pub hits_in : ℕ → ℕ → ℕ → List Entry → List Hit
hits_in w k at [] = []
hits_in w k at (e ∷ es) = let r = hits_in w k at es in cond (is_word w e.space) (record { message = k; first = at + e.first; after = at + e.after } ∷ r) r

-- R163: of n messages from k on, in order
abbrev pub hits_from : Format → List ℕ → List ℕ → List ℕ → ℕ → ℕ → ℕ → List Hit
hits_from f b published own w k zero = []
hits_from f b published own w k (suc n) = hits_in w k (offset_in f b k) (translated published own (message_in f b k)) ++ hits_from f b published own w (suc k) n

unfoldable pub hits : Format → List ℕ → List ℕ → List ℕ → ℕ → List Hit
hits f b published own w = hits_from f b published own w 0 (count_in b)

-- as bytes, 24 each
abbrev pub hit_bytes : Hit → List ℕ
hit_bytes h = be 8 h.message ++ (be 8 h.first ++ be 8 h.after)

abbrev pub hits_bytes : List Hit → List ℕ
hits_bytes [] = []
hits_bytes (h ∷ hs) = hit_bytes h ++ hits_bytes hs

-- R164: the file's refusals, 19, then 16 in entries
abbrev pub searched_by : Result ℕ Refusal → Names → List Hit → ℕ → Result ℕ Refusal
searched_by (Err e) c hs room = Err e
searched_by (Ok n) (lists.Refused p) hs room = refused 19 p
searched_by (Ok n) lists.Passes hs room = cond (ltb room (length hs)) (refused 16 (length hs)) (Ok (length hs))

unfoldable pub search_day : Format → Limits → List ℕ → List ℕ → List ℕ → ℕ → ℕ → Result ℕ Refusal
search_day f m b published own w room = searched_by (check_day f m b) (check_names published own) (hits f b published own w) room

abbrev pub room_after : Result ℕ Refusal → List Hit → List ℕ → List ℕ
room_after (Err e) hs out = out
room_after (Ok k) hs out = hits_bytes hs ++ drop (24 * k) out
