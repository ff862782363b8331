-- STORE DATA 84 E2 80 00: "TLVs, any order; signed; ADMIN. Personalized, or set 1 or 2 undefined: 6985. First, a TLV past the end
-- anywhere: 6A85. Then a tag outside 01 to 07 or repeated, 01–05 missing, wrong length or range: 6A80." Assumes nothing.
use Rattle.std.specs.Prelude.{Bool, true, false, not, ◌&&◌, ◌||◌, List, [], ◌∷◌, ℕ, zero, suc, ltb, leb, eqb, length, get_or, take, drop, set}
use Rattle.octets.specs.Choice.{pick, refuse}
use Rattle.octets.specs.Bytes.{zeros}
use Rattle.card.specs.declared.head.Head.{Head}
use Rattle.session.specs.declared.Session.{Session}
use Rattle.session.specs.Transitions.{ended}
use Rattle.session.specs.Access.{access, ADMIN}
use Rattle.commands_spec.specs.declared.outcome.Commits.TheVariants.{HotAndCold}
use Rattle.commands_spec.specs.declared.outcome.Outcome.{Outcome}
use Rattle.commands_spec.specs.declared.store.Stored.{Stored}
use Rattle.commands_spec.specs.Outcomes.{done, decided}
use Rattle.card.specs.Updates.{with_parameters}
use Rattle.commands_spec.specs.KeySets.{dek_of}
use Rattle.commands_spec.specs.Data.{value_ok, datum_set}

-- every TLV ends within the data; n bounds how many there are
unfoldable pub within : ℕ → List ℕ → Bool
within zero l = true
within (suc n) [] = true
within (suc n) (tag ∷ []) = false
within (suc n) (tag ∷ size ∷ l) = leb size (length l) && within n (drop size l)

-- a TLV was refused
unfoldable pub rejected : Stored → Stored
rejected st = record { good = false; seen = st.seen; head = st.head }

-- before the first TLV
abbrev pub unread : Head → Stored
unread h = record { good = true; seen = zeros 8; head = h }

-- a tag of 01 to 07 that hasn't come before, with a value of its length and range
unfoldable pub acceptable : List ℕ → ℕ → List ℕ → Bool
acceptable seen tag v = leb 0x01 tag && leb tag 0x07 && eqb (get_or seen tag 0) 0 && value_ok tag v

-- one TLV more
unfoldable pub stored : List ℕ → Stored → ℕ → List ℕ → Stored
stored dek st tag v =
    pick (acceptable st.seen tag v)
    (record { good = st.good; seen = set st.seen tag 1; head = datum_set dek tag v st.head })
    (rejected st)

-- all of them, of which every one ends within the data
unfoldable pub stored_all : ℕ → List ℕ → List ℕ → Stored → Stored
stored_all zero dek l st = st
stored_all (suc n) dek [] st = st
stored_all (suc n) dek (tag ∷ []) st = st
stored_all (suc n) dek (tag ∷ size ∷ l) st = stored_all n dek (drop size l) (stored dek st tag (take size l))

-- tags 01 to 05 have come
unfoldable pub complete : List ℕ → Bool
complete seen =
    eqb (get_or seen 1 0) 1 && eqb (get_or seen 2 0) 1 && eqb (get_or seen 3 0) 1 && eqb (get_or seen 4 0) 1 && eqb (get_or seen 5 0) 1

-- steps 7, 9 and 11; `keyed`: sets 1 and 2 are defined, `inside`: no TLV past the end, `good`: the rest of the data
unfoldable pub store_status : Bool → Bool → ℕ → Bool → Bool → ℕ
store_status personalized keyed held inside good =
    refuse (personalized || not keyed) 0x6985
    (refuse (ltb held ADMIN) 0x6982
    (refuse (not inside) 0x6A85
    (refuse (not good) 0x6A80
    0x9000)))

-- the personalized head
unfoldable pub personalized : Head → Head
personalized h =
    let p = h.purse.parameters in
    with_parameters
    (record {
      personalized = true;
      identifier = p.identifier;
      currency = p.currency;
      maxbalance = p.maxbalance;
      maxdebit = p.maxdebit;
      bank = p.bank;
      agent = p.agent;
    })
    h

-- the command past step 6
unfoldable pub store_data_of : Head → Session → List ℕ → Outcome
store_data_of h s body =
    let st = stored_all (length body) (dek_of s.channel.level h) body (unread h) in
    decided
    (store_status h.purse.parameters.personalized (h.purse.debit.defined && h.purse.credit.defined)
    (access s.channel.level) (within (length body) body) (st.good && complete st.seen))
    h (ended s)
    (done HotAndCold (personalized st.head) (ended s) [])
