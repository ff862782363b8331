-- The card of document 01, "What the card keeps": the head, and the log, record 1 first, as many records as the log's size.
-- Assumes nothing.
use Rattle.std.specs.Prelude.{false, List, replicate}
use Rattle.octets.specs.Bytes.{zeros}
use Rattle.card.specs.declared.head.Aid.{Aid}
use Rattle.card.specs.declared.head.Fixed.{Fixed}
use Rattle.card.specs.declared.head.Keys.{Keys}
use Rattle.card.specs.declared.head.KeySet.{KeySet}
use Rattle.card.specs.declared.head.Parameters.{Parameters}
use Rattle.card.specs.declared.head.Purse.{Purse}
use Rattle.card.specs.declared.head.Head.{Head}
use Rattle.card.specs.declared.log.Record.{Record}
use Rattle.card.specs.Log.{void}

-- the head, and the log
pub record Card : Type 0 where
  pub head : Head
  pub log : List Record

-- ---- 01: "All else starts undefined and zero, tries full."

-- keys of zeros
abbrev pub no_keys : Keys
no_keys = record { enc = zeros 16; mac = zeros 16; dek = zeros 16 }

-- an undefined key set
abbrev pub no_key_set : KeySet
no_key_set = record { defined = false; keys = no_keys }

-- an undefined AID
abbrev pub no_aid : Aid
no_aid = record { size = 0; bytes = zeros 16 }

-- parameters before personalization
abbrev pub no_parameters : Parameters
no_parameters =
    record {
      personalized = false;
      identifier = zeros 4;
      currency = 0;
      maxbalance = 0;
      maxdebit = 0;
      bank = record { defined = false; value = zeros 16 };
      agent = no_aid;
    }

-- a purse before personalization
abbrev pub no_purse : Aid → Purse
no_purse aid = record { aid = aid; parameters = no_parameters; debit = no_key_set; credit = no_key_set; balance = 0 }

-- a fixed part of zeros, which no card has
abbrev pub no_fixed : Fixed
no_fixed = record { logsize = 0; maxtries = 0 }

-- the fresh card of what installation gives: the fixed part, the AID and key set 3
unfoldable pub fresh_head : Fixed → Aid → Keys → Head
fresh_head fixed aid admin =
    record {
      fixed = fixed;
      shared = record { maxnumber = 0; admin = admin };
      purse = no_purse aid;
      pin = record { defined = false; block = zeros 8 };
      state = record { number = 0; tries = fixed.maxtries };
    }

-- and every record void
unfoldable pub fresh : Fixed → Aid → Keys → Card
fresh fixed aid admin = record { head = fresh_head fixed aid admin; log = replicate fixed.logsize void }
