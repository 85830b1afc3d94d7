-- R47: accepted exactly if the rules make it one, in these bytes, with this count, within the limits.
use Prim.Native.Nat.{ℕ}
use mathlib.Core.Logic.{◌↔◌}
use mathlib.Core.Path.{◌≡◌, refl, sym, ◌∙◌, ap, subst}
use mathlib.Core.Bool.{true}
use mathlib.Core.List.{List, [], ◌∷◌}
use native.Mathlib.Omega.{arith}
use lib.Dec.{eqb}
use borrow.Author.Tests.{eqb-true}
use Rattle.buffer.specs.Bytes.{all, is_byte, within}
use Rattle.cbor.specs.Head.{unsigned, Lead, is_container}
use Rattle.cbor.specs.Utf8.{utf8}
use Rattle.buffer.proofs.ByteLaws.{and-true, or_nil, not-false, within_true}
use Rattle.ari.specs.Table.{version, row, due, done, rule, fits}
use Rattle.ari.specs.declared.Limits.{Limits}
use Rattle.ari.specs.declared.Input.{Input}
use Rattle.ari.specs.declared.Input.TheVariants.{Single, Message}
use Rattle.ari.specs.Reader.{accept, first_slot, bottom, read}
use Rattle.ari.specs.Items.{Items, none, item, open_ended}
use Rattle.ari.specs.Decode.{decode}
use Rattle.ari.specs.Rules.{Plain, Sets, no_more, set, Stands, single_ari, a_message, Is}
use Rattle.ari.proofs.Due.{Fit, bottom_of, split, unsplit}
use Rattle.ari.proofs.Central.{accepts, to_read}
use Rattle.ari.proofs.Decoded.{decode_encode}
use Rattle.ari.proofs.Rows.{one_kind}
use Rattle.ari.proofs.Weight.{well_fit}
use Rattle.ari.proofs.RulesFit.{Here, is_one, here_plain, here_ari}
use Rattle.ari.proofs.FitRules.{here, of_plain, of_ari, of_array}

abbrev pub Grammar : Input → Items → Type 0
Grammar i g = Fit g (open_ended i) (due (first_slot i) 0) []

-- the unsigned 1
one_row : (k a : ℕ) → fits k a (row unsigned 1 1 ∷ []) ≡ true → (k ≡ unsigned) × (a ≡ 1)
one_row k a e =
    let (p, q) = and-true (eqb k unsigned) (within 1 1 a) (or_nil _ e) in
    let (l, h) = within_true 1 1 a q in
    (eqb-true k unsigned p, omega arith)

here_version : {l : Lead} {s : List ℕ} {ms : Items} → Plain (row unsigned 1 1 ∷ []) utf8 l s ms → Here version [] l s ms
unfolding rule is_container
here_version {l} p =
    let (k, a) = one_row l.kind l.arg p.fitting in
    here_plain version [] (is_one a)
    (record { head = p.head; fitting = rw (k, a); sized = p.sized; spelling = p.spelling; bare = p.bare }) refl

of_version : {l : Lead} {s : List ℕ} {ms : Items} → Here version [] l s ms → Plain (row unsigned 1 1 ∷ []) utf8 l s ms
unfolding rule is_container
of_version {l} h =
    let p = of_plain h refl in
    let k : l.kind ≡ unsigned = one_kind unsigned l.kind l.arg (rule version).rows refl p.fitting in
    let a : l.arg ≡ 1 = eqb-true l.arg 1 (not-false _ h.good.versioned) in
    record { head = p.head; fitting = rw (k, a); sized = p.sized; spelling = p.spelling; bare = p.bare }

sets_fit : {g : Items} → Sets g → Fit g true done []
unfolding rule
sets_fit no_more = tt
sets_fit (set a l) = let h = here_ari [] a in (h.good, h.holds, sets_fit l)

fit_sets : (g : Items) → Fit g true done [] → Sets g
unfolding rule
fit_sets none f = no_more
fit_sets (item l s ms rs) f = set (of_ari (here {prev = []} f.0 f.1) (λ w l s x. of_array ms w l s x)) (fit_sets rs f.2)

pub stands_fit : {i : Input} {g : Items} → Stands i g → Grammar i g
unfolding rule
stands_fit (single_ari r) = let h = here_ari [] r in (h.good, h.holds, tt)
stands_fit (a_message p l) = let h = here_version p in (h.good, h.holds, sets_fit l)

pub fit_stands : (i : Input) (g : Items) → Grammar i g → Stands i g
unfolding rule
fit_stands Single none f = absurd f
fit_stands Single (item l s ms none) f = single_ari (of_ari (here {prev = []} f.0 f.1) (λ w l s x. of_array ms w l s x))
fit_stands Single (item l s ms (item l₁ s₁ m₁ r)) f = absurd f.2
fit_stands Message none f = absurd f
fit_stands Message (item l s ms rs) f = a_message (of_version (here f.0 f.1)) (fit_sets rs f.2)

bottom_is : (i : Input) (d : ℕ) → bottom i d ≡ bottom_of (open_ended i) d
bottom_is Single d = refl
bottom_is Message d = refl

module _ (m : Limits) (i : Input) (b : List ℕ) where
  -- whatever tree it is, it is the decoded one
  pub unique : {g : Items} {n : ℕ} → Is m i b g n → g ≡ decode b
  unique {g} c = sym (decode_encode g (well_fit g (open_ended i) (due (first_slot i) 0) [] (stands_fit c.stands))) ∙ ap decode c.bytes

  -- what the rules make one is accepted, whatever its bytes are
  pub is_read : {g : Items} {n : ℕ} → Is m i b g n → read m i b ≡ accept n
  is_read {g} {n} c =
      to_read m i b n
      (record {
        items = g;
        fit = rw (bottom_is i m.containers) (unsplit g (open_ended i) (due (first_slot i) 0) [] m.containers (stands_fit c.stands) c.shallow);
        bytes = c.bytes;
        count = c.count;
        short = c.short;
        few = c.few;
      })

  read_is : (n : ℕ) → all is_byte b ≡ true → read m i b ≡ accept n → Is m i b (decode b) n
  read_is n e a =
      let r = (accepts m i b n e).0 a in
      let (f, d) = split r.items (open_ended i) (due (first_slot i) 0) [] m.containers (rw (bottom_is i m.containers) at r.fit) in
      let c : Is m i b r.items n
      = record { stands = fit_stands i r.items f; bytes = r.bytes; count = r.count; short = r.short; few = r.few; shallow = d } in
      subst (λ (g : Items). Is m i b g n) (unique c) c

  pub demand_two : (n : ℕ) → all is_byte b ≡ true → (read m i b ≡ accept n) ↔ Is m i b (decode b) n
  demand_two n e = (read_is n e, is_read)
