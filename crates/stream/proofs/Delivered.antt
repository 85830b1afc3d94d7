-- However the link cuts a message: what a state that began empty and went through these calls only answers is the answer to all bytes received.
use Prim.Native.Nat.{ℕ, ◌≤◌}
use mathlib.Core.Logic.{◌↔◌}
use mathlib.Core.Path.{◌≡◌, refl, sym, ◌∙◌, ap}
use mathlib.Core.Bool.{Bool, true, false, cond}
use mathlib.Core.List.{List, [], ◌++◌}
use native.Mathlib.Omega.{arith}
use lib.ListN.{length, take}
use lib.Dec.{ltb}
use Rattle.ari.specs.declared.Limits.{Limits}
use Rattle.ari.specs.declared.Input.TheVariants.{Message}
use Rattle.ari.specs.Reader.{Answer, refuse, accept, read}
use Rattle.listing.specs.declared.Listed.{Listed}
use Rattle.listing.specs.Answers.{list_of, written_of}
use Rattle.std.specs.declared.result.Result.{Result}
use Rattle.std.specs.declared.result.Result.TheVariants.{Err}
use Rattle.ari.specs.declared.Refusal.{Refusal}
use Rattle.ari.specs.Refusals.{number_of, fault_of, refusal_of, refused}
use Rattle.ari.proofs.Numbers.{fault_back, read_number}
use Rattle.stream.specs.Stream.{open_ended, beyond, closing, Standing, none, stands, standing, close_of, closed_room}
use Rattle.stream.specs.State.{word, Holds}
use Rattle.stream.specs.Calls.{words, need, Fed, fed_of, wants_room, Opens, Feeds, Closes}
use Rattle.stream.proofs.Standing.{stands_exactly_if, stands_still, stands_closes}
use Rattle.stream.proofs.Calling.{fresh_holds, nothing_lacks, close_within_limit, fed_stood}

-- a refusal that stands has a number of the rules
beyond_number : (a : Answer) {n p : ℕ} → ((r q : ℕ) → a ≡ refuse r q → number_of (fault_of r) ≡ r) → beyond a ≡ refuse n p → number_of (fault_of n) ≡ n
beyond_number (accept k) {n} f g = let z : 1 ≡ n = cc in rw (← z) refl
beyond_number (refuse r q) {n} {p} f g = go (open_ended r) g
  where
    go : (t : Bool) → cond t (refuse 1 0) (refuse r q) ≡ refuse n p → number_of (fault_of n) ≡ n
    go true g = let z : 1 ≡ n = cc in rw (← z) refl
    go false g = let z : r ≡ n = cc in rw (← z) (f r q refl)

-- The numbers of refusals are the rules' own: where the code gives one, it has this number.
pub closing_number : (m : Limits) (b : List ℕ) {n p : ℕ} → closing m b ≡ refuse n p → number_of (fault_of n) ≡ n
unfolding closing
closing_number m b {n} {p} g = go (ltb m.bytes (length b)) g
  where
    go : (t : Bool) → cond t (beyond (read m Message (take m.bytes b))) (read m Message b) ≡ refuse n p → number_of (fault_of n) ≡ n
    go true g = beyond_number (read m Message (take m.bytes b)) (λ r q h. read_number m Message (take m.bytes b) h) g
    go false g = read_number m Message b g

pub standing_number : (m : Limits) (b : List ℕ) {n p : ℕ} → standing m b ≡ stands n p → number_of (fault_of n) ≡ n
standing_number m b {n} {p} e = closing_number m b (stands_closes m b n p e)

-- The state ws began as zeros or was opened, and went through these calls only; since a fresh message began it was fed the bytes b, and the room holds
-- the message. A call keeps the sizes of what it is lent.
pub data Went (m : Limits) : List ℕ → List ℕ → List ℕ → Type 0 where
  zeros : {ws room : List ℕ} → words ≤ length ws → m.bytes ≤ length room → ((j : ℕ) → word ws j ≡ 0) → Went m ws room []
  opened : {ws room ws' : List ℕ} {r : Fed} → words ≤ length ws → m.bytes ≤ length room → Opens ws r ws' → length ws' ≡ length ws → Went m ws' room []
  fed : {ws room b f ws' room' : List ℕ} {r : Fed} → Went m ws room b → Feeds m ws room f r ws' room' → length ws' ≡ length ws → length room' ≡ length room
      → Went m ws' room' (b ++ f)
  -- a close that answers 16 closes nothing
  unclosed : {ws room b out ws' out' : List ℕ} {r : Result Listed Refusal} → Went m ws room b → Closes m ws room out r ws' out' → wants_room r ≡ true → length ws' ≡ length ws
      → Went m ws' room b
  -- after any other a fresh message begins
  closed : {ws room b out ws' out' : List ℕ} {r : Result Listed Refusal} → Went m ws room b → Closes m ws room out r ws' out' → wants_room r ≡ false → length ws' ≡ length ws
      → Went m ws' room []

record Keeps (m : Limits) (ws room b : List ℕ) : Type 0 where
  holds : Holds m ws room b
  state : words ≤ length ws
  lent : m.bytes ≤ length room

lacks_nothing : {m : Limits} {ws room b : List ℕ} → Keeps m ws room b → need m ws room ≡ 0
lacks_nothing {m} {ws} {room} k = sym (nothing_lacks (length ws) (length room) m.bytes k.state k.lent)

-- each call keeps which bytes the state has received
keeps : {m : Limits} {ws room b : List ℕ} → Went m ws room b → Keeps m ws room b
keeps {m} {ws} {room} (zeros h l z) = record {
  holds = fresh_holds m ws room (record { none_received = z 0; unrefused = z 1; until = z 3; next = z 4; count = z 5; levels = z 6 });
  state = h;
  lent = l;
}
keeps {m} {ws} {room} (opened h l o e) = record { holds = (o.afresh h).1 m room; state = omega (arith, e); lent = l }
keeps (fed {b = b} w f e g) =
    let k = keeps w in
    record { holds = (f.behind (lacks_nothing k) b k.holds).holds; state = omega (arith, k.state); lent = omega (arith, k.lent) }
keeps {m} {ws} {room} {b} (unclosed w c t e) =
    let k = keeps w in
    record { holds = rw ((c.after (lacks_nothing k) b k.holds).repeats t) k.holds; state = omega (arith, k.state); lent = k.lent }
keeps {m} {ws} {room} (closed {b = b} w c t e) =
    let k = keeps w in
    record { holds = (c.after (lacks_nothing k) b k.holds).afresh t room; state = omega (arith, k.state); lent = k.lent }

module _ {m : Limits} {ws room b : List ℕ} (w : Went m ws room b) where
  -- R130, R131, R133: however they were cut, with fragments of no bytes among them, a close answers what all bytes received make it answer
  pub closes_as_received : {out ws' out' : List ℕ} {r : Result Listed Refusal} → Closes m ws room out r ws' out' → (r ≡ close_of m b out) × (out' ≡ closed_room m b out)
  closes_as_received c = let k = keeps w in let a = c.after (lacks_nothing k) b k.holds in (a.answer, a.listed)

  -- R130: within the limit that is the whole message's item count and listing, or its refusal
  pub closes_as_the_whole : length b ≤ m.bytes → {out ws' out' : List ℕ} {r : Result Listed Refusal} → Closes m ws room out r ws' out' → (r ≡ list_of m b out) × (out' ≡ written_of m b out)
  closes_as_the_whole l {out} c =
      let (p, q) = closes_as_received c in
      let (x, y) = close_within_limit m b out l in
      (p ∙ sym x, q ∙ sym y)

  refuses_by : {f ws' room' : List ℕ} {r : Fed} → Feeds m ws room f r ws' room' → (e : Refusal)
      → (r ≡ Err e) ↔ ((c : List ℕ) → closing m ((b ++ f) ++ c) ≡ refuse (number_of e.fault) e.place)
  refuses_by {f} {r = r} v e =
      let k = keeps w in
      let n = number_of e.fault in
      let a : r ≡ fed_of (standing m (b ++ f)) = (v.behind (lacks_nothing k) b k.holds).answer in
      let (to, from) = stands_exactly_if m (b ++ f) n e.place in
      (λ q. to (was (standing m (b ++ f)) refl (sym q ∙ a)), λ g. a ∙ ap fed_of (from g) ∙ rw (fault_back e.fault))
    where
      was : (s : Standing) → standing m (b ++ f) ≡ s → Err e ≡ fed_of s → s ≡ stands (number_of e.fault) e.place
      was none h q = absurd (let z : ◌≡◌ {A = ℕ} 0 1 = cc in omega arith)
      was (stands n p) h q =
          let back : number_of (fault_of n) ≡ n = standing_number m (b ++ f) h in
          let x : e.fault ≡ fault_of n = ap (λ (y : Refusal). y.fault) (let z : e ≡ refusal_of n p = cc in z) in
          let y : e.place ≡ p = ap (λ (y : Refusal). y.place) (let z : e ≡ refusal_of n p = cc in z) in
          rw (x, y, back)

  refuses_if : {f ws' room' : List ℕ} {r : Fed} → Feeds m ws room f r ws' room' → (n p : ℕ) → ((c : List ℕ) → closing m ((b ++ f) ++ c) ≡ refuse n p) → r ≡ refused n p
  refuses_if {f} v n p g =
      let k = keeps w in
      (v.behind (lacks_nothing k) b k.holds).answer ∙ ap fed_of ((stands_exactly_if m (b ++ f) n p).1 g)

  -- R132: a feed refuses exactly when every continuation, closing at once included, gives that refusal; and where all give one number and place, with these
  pub refuses_exactly_if : {f ws' room' : List ℕ} {r : Fed} → Feeds m ws room f r ws' room'
      → ((e : Refusal) → (r ≡ Err e) ↔ ((c : List ℕ) → closing m ((b ++ f) ++ c) ≡ refuse (number_of e.fault) e.place))
      × ((n p : ℕ) → ((c : List ℕ) → closing m ((b ++ f) ++ c) ≡ refuse n p) → r ≡ refused n p)
  refuses_exactly_if v = (refuses_by v, refuses_if v)

  -- R132: once one stands, later fragments change nothing
  pub later_change_nothing : {f ws' room' : List ℕ} {r : Fed} → Feeds m ws room f r ws' room' → (n p : ℕ) → standing m b ≡ stands n p → (r ≡ refused n p) × (ws' ≡ ws) × (room' ≡ room)
  later_change_nothing {f} {r = r} v n p e =
      let k = keeps w in
      let a = v.behind (lacks_nothing k) b k.holds in (
        a.answer ∙ ap fed_of (stands_still m b n p e f),
        a.still (λ z. let y : ◌≡◌ {A = ℕ} 0 1 = cc in omega arith),
        a.kept ∙ sym (fed_stood m b f room e),
      )
