-- The shortened form of an accepted input: accepted, with the same count, no longer, and its own shortened form.
use Prim.Native.Nat.{ℕ, ◌≤◌}
use mathlib.Core.Path.{◌≡◌, refl, ◌∙◌}
use mathlib.Core.Bool.{Bool, true, false, cond}
use mathlib.Core.List.{List, []}
use native.Mathlib.Omega.{arith}
use lib.ListN.{length, length-append}
use lib.Dec.{leb}
use borrow.Author.Tests.{leb-true}
use Rattle.cbor.specs.Head.{map, Lead, Sound, counted, a_simple, a_float, size, lead_of, string_size}
use Rattle.cbor.proofs.HeadLaws.{length_lead, shortest_carries, shortest_least, sound_64}
use Rattle.ari.specs.Table.{message, Slot, ari, Level, done, due, rule, members}
use Rattle.ari.specs.declared.Limits.{Limits}
use Rattle.ari.specs.declared.Input.{Input}
use Rattle.ari.specs.Reader.{first_slot}
use Rattle.ari.specs.Items.{Items, none, item, encode, heads, depth, open_ended}
use Rattle.ari.specs.Due.{Good}
use Rattle.ari.specs.Rules.{Is}
use Rattle.ari.specs.Shortened.{short_lead, shortened}
use Rattle.ari.proofs.Due.{Fit, prev_after}
use Rattle.ari.proofs.Demand.{stands_fit, fit_stands}

-- one head: the same kind and argument, and no more bytes
pub short_kind : (l : Lead) → (short_lead l).kind ≡ l.kind
unfolding lead_of
short_kind l = go (leb l.kind map)
  where
    go : (c : Bool) → (cond c (lead_of l.kind l.arg) l).kind ≡ l.kind
    go true = refl
    go false = refl

pub short_arg : (l : Lead) → (short_lead l).arg ≡ l.arg
unfolding lead_of
short_arg l = go (leb l.kind map)
  where
    go : (c : Bool) → (cond c (lead_of l.kind l.arg) l).arg ≡ l.arg
    go true = refl
    go false = refl

pub short_members : (t : Slot) (l : Lead) → members t (short_lead l) ≡ members t l
unfolding members
short_members t l = rw (short_kind l, short_arg l)

pub short_sound : (l : Lead) → Sound l → Sound (short_lead l)
unfolding lead_of
short_sound l s = go (leb l.kind map) refl
  where
    go : (c : Bool) → leb l.kind map ≡ c → Sound (cond c (lead_of l.kind l.arg) l)
    go true e = counted (leb-true l.kind map e) (rw e (shortest_carries l.arg (sound_64 s)))
    go false e = s

pub short_size : (l : Lead) → Sound l → size (short_lead l) ≤ size l
unfolding lead_of
short_size l s = go (leb l.kind map) refl s
  where
    go : (c : Bool) → leb l.kind map ≡ c → Sound l → size (cond c (lead_of l.kind l.arg) l) ≤ size l
    go true e (counted h c) = rw e (let z = shortest_least c in omega arith)
    go true e (a_simple k a b i) = absurd (omega (arith, leb-true l.kind map e))
    go true e (a_float h g i a b) = absurd (omega (arith, leb-true l.kind map e))
    go false e x = omega arith

pub short_again : (l : Lead) → short_lead (short_lead l) ≡ short_lead l
short_again l = rw (short_kind l, short_arg l) (go (leb l.kind map))
  where
    go : (c : Bool) → cond c (lead_of l.kind l.arg) (cond c (lead_of l.kind l.arg) l) ≡ cond c (lead_of l.kind l.arg) l
    go true = refl
    go false = refl

short_good : {s : Slot} {prev : List ℕ} {l : Lead} {str : List ℕ} → Good s prev l str → Good s prev (short_lead l) str
unfolding string_size
short_good {s} {prev} {l} {str} g =
    let k = short_kind l in
    let a = short_arg l in
    record {
      head = short_sound l g.head;
      fitting = rw (k, a) g.fitting;
      versioned = rw a g.versioned;
      sized = rw (k, a) g.sized;
      spelled = rw k g.spelled;
      rising = rw (k, a) g.rising;
      filled = rw a g.filled;
    }

-- the tree: laid out as before
pub short_fit : (g : Items) (more : Bool) (v : Level) (prev : List ℕ) → Fit g more v prev → Fit (shortened g) more v prev
short_fit none more v prev f = f
short_fit (item l str ms rs) false done prev f = f
short_fit (item l str ms rs) true done prev f =
    let s : Slot = ari message in (
      short_good f.0,
      rw (short_members s l) (short_fit ms false (members s l) [] f.1),
      rw (short_kind l, short_arg l) (short_fit rs true ((rule s).next l.arg 0) (prev_after s [] l str) f.2),
    )
short_fit (item l str ms rs) more (due s n) prev f = (
  short_good f.0,
  rw (short_members s l) (short_fit ms false (members s l) [] f.1),
  rw (short_kind l, short_arg l) (short_fit rs more ((rule s).next l.arg n) (prev_after s prev l str) f.2),
)

pub short_heads : (g : Items) → heads (shortened g) ≡ heads g
short_heads none = refl
short_heads (item l s ms rs) = rw (short_heads ms, short_heads rs)

pub short_depth : (g : Items) → depth (shortened g) ≡ depth g
short_depth none = refl
short_depth (item l s ms rs) = rw (short_kind l, short_depth ms, short_depth rs)

pub shortened_again : (g : Items) → shortened (shortened g) ≡ shortened g
shortened_again none = refl
shortened_again (item l s ms rs) = rw (short_again l, shortened_again ms, shortened_again rs)

pub short_length : (g : Items) (more : Bool) (v : Level) (prev : List ℕ) → Fit g more v prev → length (encode (shortened g)) ≤ length (encode g)
short_length none more v prev f = omega arith
short_length (item l str ms rs) false done prev f = absurd f
short_length (item l str ms rs) true done prev f =
    simp length-append
    (omega (arith, length_lead l, length_lead (short_lead l), short_size l f.0.head, short_length ms false (members (ari message) l) [] f.1, short_length rs true ((rule (ari message)).next l.arg 0) _ f.2))
short_length (item l str ms rs) more (due s n) prev f =
    simp length-append
    (omega (arith, length_lead l, length_lead (short_lead l), short_size l f.0.head, short_length ms false (members s l) [] f.1, short_length rs more ((rule s).next l.arg n) _ f.2))

-- An accepted input's shortened form is accepted, with the same count, and no longer.
module _ {m : Limits} {i : Input} {b : List ℕ} {g : Items} {n : ℕ} (c : Is m i b g n) where
  fit : Fit g (open_ended i) (due (first_slot i) 0) []
  fit = stands_fit c.stands

  pub no_longer : length (encode (shortened g)) ≤ length b
  no_longer = rw (← c.bytes) (short_length g (open_ended i) (due (first_slot i) 0) [] fit)

  pub shortened_is : Is m i (encode (shortened g)) (shortened g) n
  shortened_is = record {
    stands = fit_stands i (shortened g) (short_fit g (open_ended i) (due (first_slot i) 0) [] fit);
    bytes = refl;
    count = short_heads g ∙ c.count;
    short = omega (arith, no_longer, c.short);
    few = c.few;
    shallow = rw (short_depth g) c.shallow;
  }
