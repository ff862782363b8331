-- A changed card is proper where what is new keeps to the ranges. Assumes nothing.
use mathlib.Core.Bool.{true, false, false≢true}
use mathlib.Core.List.{◌∷◌}
use mathlib.Core.Logic.{◌⊎◌, inl, inr}
use mathlib.Core.Path.{◌≡◌, sym, subst, ◌∙◌}
use Prim.Native.Nat.{ℕ, zero, suc, ◌-◌, ◌≤◌, ◌<◌}
use native.Mathlib.Decide.{dec_le}
use native.Mathlib.Nat.{lt_of_not-le}
use native.Mathlib.Omega.{arith}
use lib.ListN.{length, get_or, take, get_or-eq_default}
use lib.Seq.{get_or-take, length-take-le}
use Rattle.octets.specs.Bytes.{Octets}
use Rattle.card.specs.declared.head.Pin.{Pin}
use Rattle.card.specs.declared.head.State.{State}
use Rattle.card.specs.declared.head.Head.{Head}
use Rattle.card.specs.declared.log.Record.{Record}
use Rattle.card.specs.Log.{void}
use Rattle.card.specs.Card.{Card}
use Rattle.card.specs.Changes.{cold_change, changed, log_after}
use Rattle.card.specs.Proper.{bank_ok, agent_ok, pin_ok, SizedHead, SizedRecord, HasKeySet, Proper}
use Rattle.card.proofs.Ranges.{size_range}
use Rattle.commands_spec.proofs.SameElse.{head_reached}
use Rattle.commands_spec.proofs.Facts.{Facts, facts, facts_tests}

-- ---- balance, state and PIN

-- balance and state within the maxima of a head
pub record Fair (h : Head) (n : ℕ) (s : State) : Type 0 where
  pub tries : s.tries ≤ h.fixed.maxtries
  pub balance : n ≤ h.purse.parameters.maxbalance
  pub number : s.number ≤ h.shared.maxnumber

-- a head with another balance, PIN and state
abbrev pub over : Head → ℕ → Pin → State → Head
over h n p s =
    let q = h.purse in
    record {
      fixed = h.fixed;
      shared = h.shared;
      purse = record { aid = q.aid; parameters = q.parameters; debit = q.debit; credit = q.credit; balance = n };
      pin = p;
      state = s;
    }

-- sizes and ranges of a head that a card may have
pub record Fine (h : Head) : Type 0 where
  pub sized : SizedHead h
  pub facts : Facts h

-- those of a proper card's
pub card_fine : (c : Card) → Proper c → Fine c.head
card_fine c p = record { sized = p.sized; facts = facts c.head p.tests }

pub over_fine : (h : Head) (n : ℕ) (p : Pin) (s : State) → Fine h → Octets 8 p.block → pin_ok p ≡ true → Fair h n s → Fine (over h n p s)
over_fine h n p s fine b k g =
    let z = fine.sized in
    let q = z.purse in
    let f = fine.facts in
    record {
      sized =
          record {
            maxnumber = z.maxnumber;
            admin = z.admin;
            purse =
                record {
                  aid = q.aid;
                  identifier = q.identifier;
                  currency = q.currency;
                  bank = q.bank;
                  agent = q.agent;
                  debit = q.debit;
                  credit = q.credit;
                };
            pin = b;
          };
      facts =
          record {
            fixed = f.fixed;
            aid = f.aid;
            maxbalance = f.maxbalance;
            maxdebit = f.maxdebit;
            bank = f.bank;
            agent = f.agent;
            blank = f.blank;
            debit = f.debit;
            credit = f.credit;
            keyed = f.keyed;
            pin = k;
            tries = g.tries;
            balance = g.balance;
            number = g.number;
            bare = f.bare;
          };
    }

-- ---- the card

-- another head, personalized if the card was
pub head_proper : (c : Card) (next : Head) → Proper c → Fine next → next.fixed ≡ c.head.fixed
    → (next.purse.parameters.personalized ≡ false → c.head.purse.parameters.personalized ≡ false) → Proper (record { head = next; log = c.log })
head_proper c next p f e u =
    record {
      sized = f.sized;
      tests = facts_tests next f.facts;
      records = rw e p.records;
      each = p.each;
      unused = λ q. p.unused (u q);
      keysets = p.keysets;
    }

-- block C written too
pub cold_proper : (c : Card) (next : Head) → Proper c → Fine next → next.fixed ≡ c.head.fixed → next.purse.aid ≡ c.head.purse.aid
    → (next.purse.parameters.personalized ≡ false → c.head.purse.parameters.personalized ≡ false) → Proper (changed (cold_change next) c)
unfolding changed log_after
cold_proper c next p f e a u =
    subst (λ (h : Head). Proper (record { head = h; log = c.log })) (sym (head_reached c.head next e a)) (head_proper c next p f e u)

-- another head of a personalized card, and a record more, with its key set
pub logged_proper : (c : Card) (next : Head) (r : Record) → Proper c → Fine next → next.fixed ≡ c.head.fixed → SizedRecord r → HasKeySet r
    → next.purse.parameters.personalized ≡ true → Proper (record { head = next; log = r ∷ take (length c.log - 1) c.log })
logged_proper c next r p f e b y t =
    record {
      sized = f.sized;
      tests = facts_tests next f.facts;
      records = rw e long;
      each = sized;
      unused = λ q. absurd (false≢true (sym q ∙ t));
      keysets = keyed;
    }
  where
    n : ℕ
    n = length c.log - 1

    rest : length (take n c.log) ≡ n
    rest = length-take-le n c.log (omega arith)

    long : length (r ∷ take n c.log) ≡ c.head.fixed.logsize
    long =
        let x = (size_range c.head p.tests).some in
        let y = rest in
        let z = p.records in
        omega arith

    sized : (k : ℕ) → k < length (r ∷ take n c.log) → SizedRecord (get_or (r ∷ take n c.log) k void)
    sized zero k = b
    sized (suc i) k =
        let x = rest in
        rw (get_or-take n c.log i void (omega arith)) (p.each i (omega arith))

    keyed : (k : ℕ) → (get_or (r ∷ take n c.log) k void ≡ void) ⊎ HasKeySet (get_or (r ∷ take n c.log) k void)
    keyed zero = inr y
    keyed (suc i) =
        elim (dec_le n i) [
          | yes q ↦ inl (get_or-eq_default (take n c.log) void (let x = rest in omega arith))
          | no q ↦ rw (get_or-take n c.log i void (lt_of_not-le q)) (p.keysets i)
        ]

-- ---- parameters

-- sizes and ranges of a head's parameters
pub record Settled (h : Head) : Type 0 where
  pub sized : SizedHead h
  pub maxbalance : h.purse.parameters.maxbalance ≤ 32767
  pub maxdebit : h.purse.parameters.maxdebit ≤ 32767
  pub bank : bank_ok h.purse.parameters.bank ≡ true
  pub agent : agent_ok h.purse.parameters.agent ≡ true

-- what a proper card has
pub card_settled : (c : Card) → Proper c → Settled c.head
card_settled c p =
    let f = facts c.head p.tests in
    record { sized = p.sized; maxbalance = f.maxbalance; maxdebit = f.maxdebit; bank = f.bank; agent = f.agent }
