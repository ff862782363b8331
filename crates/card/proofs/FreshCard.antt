-- The fresh card of what installation takes is proper. Assumes nothing.
use mathlib.Core.Path.{◌≡◌, refl, sym, subst}
use mathlib.Core.Bool.{true}
use mathlib.Core.Logic.{inl}
use Prim.Native.Nat.{ℕ, zero, suc}
use native.Mathlib.Omega.{arith}
use borrow.Author.Tests.{le-leb}
use lib.ListN.{get_or, replicate, length-replicate}
use Rattle.octets.specs.Tests.{all_true}
use Rattle.octets.specs.Bytes.{Octets}
use Rattle.octets.proofs.Conditions.{all_true_lem}
use Rattle.octets.proofs.Octets.{zeros_octets}
use Rattle.card.specs.declared.head.Aid.{Aid}
use Rattle.card.specs.declared.head.Fixed.{Fixed}
use Rattle.card.specs.declared.head.Keys.{Keys}
use Rattle.card.specs.declared.log.Record.{Record}
use Rattle.card.specs.Log.{void}
use Rattle.card.specs.Card.{no_keys, no_key_set, no_parameters, no_purse, fresh_head, fresh}
use Rattle.card.specs.Proper.{fixed_tests, aid_ok, keys_ok, bank_ok, agent_ok, unset, parameter_tests, purse_tests, pin_ok, state_tests, proper_tests, SizedKeys, SizedHead, SizedRecord, Proper}

-- what installation asks of its data
pub record Installable (fixed : Fixed) (aid : Aid) (admin : Keys) : Type 0 where
  pub bytes : Octets 16 aid.bytes
  pub keys : SizedKeys admin
  pub named : aid_ok aid ≡ true
  pub tests : all_true (fixed_tests fixed) ≡ true

pub void-sized : SizedRecord void
void-sized =
    record {
      number = omega arith;
      currency = omega arith;
      amount = omega arith;
      balance = omega arith;
      context = zeros_octets 16;
      keyset = omega arith;
    }

no_keys-sized : SizedKeys no_keys
no_keys-sized = record { enc = zeros_octets 16; mac = zeros_octets 16; dek = zeros_octets 16 }

same-void : (n k : ℕ) → get_or (replicate n void) k void ≡ void
same-void zero k = refl
same-void (suc n) zero = refl
same-void (suc n) (suc k) = same-void n k

pub fresh-sized : (fixed : Fixed) (aid : Aid) (admin : Keys) → Octets 16 aid.bytes → SizedKeys admin → SizedHead (fresh_head fixed aid admin)
unfolding fresh_head
fresh-sized fixed aid admin a k =
    record {
      maxnumber = omega arith;
      admin = k;
      purse =
          record {
            aid = a;
            identifier = zeros_octets 4;
            currency = omega arith;
            bank = zeros_octets 16;
            agent = zeros_octets 16;
            debit = no_keys-sized;
            credit = no_keys-sized;
          };
      pin = zeros_octets 8;
    }

module _ (fixed : Fixed) (aid : Aid) (admin : Keys) (q : Installable fixed aid admin) where
  parameters_true : all_true (parameter_tests no_parameters) ≡ true
  unfolding parameter_tests bank_ok agent_ok unset
  parameters_true = refl

  keys_true : keys_ok no_key_set ≡ true
  unfolding keys_ok
  keys_true = refl

  purse_true : all_true (purse_tests (no_purse aid)) ≡ true
  unfolding purse_tests
  purse_true = all_true_lem (purse_tests (no_purse aid)) (q.named, (parameters_true, (keys_true, (keys_true, (refl, (refl, tt))))))

  pin_true : pin_ok (fresh_head fixed aid admin).pin ≡ true
  unfolding fresh_head pin_ok
  pin_true = refl

  state_true : all_true (state_tests (fresh_head fixed aid admin)) ≡ true
  unfolding state_tests fresh_head
  state_true = rw (le-leb fixed.maxtries fixed.maxtries (omega arith))

  fresh_true : all_true (proper_tests (fresh_head fixed aid admin)) ≡ true
  unfolding proper_tests fresh_head
  fresh_true = all_true_lem (proper_tests (fresh_head fixed aid admin)) (q.tests, (purse_true, (pin_true, (state_true, tt))))

  -- the fresh card of such data is proper
  pub fresh_proper : Proper (fresh fixed aid admin)
  unfolding fresh fresh_head
  fresh_proper =
      record {
        sized = fresh-sized fixed aid admin q.bytes q.keys;
        tests = fresh_true;
        records = length-replicate fixed.logsize void;
        each = λ k l. subst (λ (x : Record). SizedRecord x) (sym (same-void fixed.logsize k)) void-sized;
        unused = λ e k. same-void fixed.logsize k;
        keysets = λ k. inl (same-void fixed.logsize k);
      }
