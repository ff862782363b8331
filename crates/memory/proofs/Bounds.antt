-- How many stores a change and an installation have, and that memory stays a list of bytes. Assumes nothing.
use mathlib.Core.Path.{◌≡◌, refl, sym, ◌∙◌, subst}
use mathlib.Core.Bool.{Bool, true, false, false≢true}
use mathlib.Core.List.{List, [], ◌∷◌, ◌++◌}
use mathlib.Core.Option.{some}
use Rattle.std.specs.Prelude.{Option, Some, None, is_some, unwrap_or, option_map}
use Prim.Native.Nat.{ℕ, ◌+◌, ◌-◌, ◌<◌}
use native.Mathlib.Omega.{arith}
use lib.ListN.{length, length-append}
use Rattle.octets.specs.Choice.{pick}
use Rattle.octets.specs.Bytes.{AreBytes, Octets}
use Rattle.octets.proofs.Octets.{byte_octets, append_octets}
use Rattle.octets.proofs.Ranges.{none-bytes}
use Rattle.stores.specs.Stores.{Store, writes, leaves}
use Rattle.stores.proofs.Plans.{writes-length, writes_bytes}
use Rattle.stores.proofs.Sequence.{leaves-append}
use Rattle.card.specs.declared.head.Aid.{Aid}
use Rattle.card.specs.declared.head.Fixed.{Fixed}
use Rattle.card.specs.declared.head.Keys.{Keys}
use Rattle.card.specs.declared.log.Record.{Record}
use Rattle.card.specs.declared.change.Change.{Change}
use Rattle.card.specs.Log.{record_size, record_bytes}
use Rattle.card.specs.Card.{Card, fresh_head, fresh}
use Rattle.card.specs.Updates.{with_state, with_purse, with_balance}
use Rattle.card.specs.Changes.{purse_after, head_after, changed}
use Rattle.card.specs.Proper.{SizedKeys, SizedHead, Proper}
use Rattle.card.proofs.Bytes.{record_octets}
use Rattle.card.proofs.FreshCard.{Installable, fresh-sized, fresh_proper}
use Rattle.card.proofs.Ranges.{Numbers, numbers}
use Rattle.memory.specs.Layout.{magic, fixed_at, hot_at, cold_at, ring_at, next_root, slot_at}
use Rattle.memory.specs.Structs.{fixed_size, fixed_bytes, hot_size, hot_bytes, newest_in, filled_in, cold_size, cold_bytes}
use Rattle.memory.specs.Reading.{root_of, hot_of, size_in, read_card}
use Rattle.memory.specs.Changes.{spare, newest_after, filled_after, hot_after, hot_piece, record_piece, cold_piece, Fills, plan, store_count, image_plan, head_plan, install_plan, install_count}
use Rattle.memory.proofs.RoundTrip.{fixed_length, fixed_octets, hot_length, hot_octets, cold-length, cold_octets}
use Rattle.memory.proofs.Ring.{slot_in}
use Rattle.memory.proofs.Seen.{reads}
use Rattle.memory.proofs.Live.{next_root_small, piece_length, logged_length, hot_fits, Bounded, sound}
use Rattle.memory.proofs.Done.{logged-sized, grown-most}

-- ---- how many stores

-- H, the record, C and the root
pub plan_count : (x : Change) (m : List ℕ) → length (plan x m) ≡ hot_size + length (record_piece x) + length (cold_piece x) + 1
unfolding plan
plan_count x m = let h = hot_fits x m in simp (length-append, writes-length, h)

pub plan-length : (x : Change) (m : List ℕ) → Fills x → length (plan x m) ≡ store_count x
plan-length x m w =
    let b : length (record_piece x) ≡ pick (is_some x.logged) record_size 0 = logged_length x.logged record_size w.logged in
    let c : length (cold_piece x) ≡ pick x.cold cold_size 0 = piece_length x.cold (cold_bytes x.head) cold_size w.cold in
    plan_count x m ∙ (λ i. hot_size + b i + c i + 1)

-- those of an installation whose blocks have their sizes
pub install_stores : (fixed : Fixed) (aid : Aid) (admin : Keys) → length (fixed_bytes aid fixed) ≡ fixed_size
    → length (cold_bytes (fresh_head fixed aid admin)) ≡ cold_size → length (install_plan fixed aid admin) ≡ install_count
unfolding install_plan head_plan image_plan writes fresh_head
install_stores fixed aid admin x z = let y = hot_length (fresh_head fixed aid admin).state 0 0 0 in simp (length-append, writes-length, x, y, z)

pub install-length : (fixed : Fixed) (aid : Aid) (admin : Keys) → Octets 16 aid.bytes → SizedKeys admin
    → length (install_plan fixed aid admin) ≡ install_count
install-length fixed aid admin a k =
    install_stores fixed aid admin (fixed_length aid fixed a.size) (cold-length (fresh_head fixed aid admin) (fresh-sized fixed aid admin a k))

-- ---- its bytes

-- some bytes more
then_bytes : (p : List Store) (a : ℕ) (bytes : List ℕ) (m : List ℕ) → ((L : ℕ) → AreBytes (leaves p L m)) → AreBytes bytes
    → (L : ℕ) → AreBytes (leaves (p ++ writes a bytes) L m)
then_bytes p a bytes m f g L =
    subst AreBytes (sym (leaves-append p (writes a bytes) L m)) (writes_bytes a bytes (L - length p) (leaves p L m) g (f L))

-- a piece that is written or not
piece_bytes : (b : Bool) (bytes : List ℕ) → (b ≡ true → AreBytes bytes) → AreBytes (pick b bytes [])
piece_bytes true bytes f = f refl
piece_bytes false bytes f = none-bytes

logged_octets : (o : Option Record) → ((r : Record) → o ≡ Some r → AreBytes (record_bytes r)) → AreBytes (unwrap_or (option_map record_bytes o) [])
logged_octets (Some r) f = f r refl
logged_octets None f = none-bytes

module _ (x : Change) (m : List ℕ) (c : Card) (f : AreBytes m) (e : read_card m ≡ some c) (p : Proper (changed x c)) where
  abbrev r : ℕ
  r = root_of m

  facts : Bounded m
  facts = sound m c (reads m c e)

  newest_byte : (b : Bool) → newest_after b m < 256
  newest_byte true = let a = slot_in (size_in m) (newest_in (hot_of m)) (size_in m) facts.newest (omega arith) in let b = facts.most in omega arith
  newest_byte false = let a = facts.newest in let b = facts.most in omega arith

  filled_byte : (b : Bool) → filled_after b m < 256
  filled_byte true = let a = grown-most (size_in m) (filled_in (hot_of m)) facts.filled in let b = facts.most in omega arith
  filled_byte false = let a = facts.filled in let b = facts.most in omega arith

  after : Numbers (head_after x.cold x.head c.head)
  unfolding changed
  after = numbers (head_after x.cold x.head c.head) p.tests p.sized.maxnumber

  -- state and balance afterwards are those of the change
  hot_bytes_lem : (b : Bool) → Numbers (head_after b x.head c.head) → AreBytes (hot_piece x m)
  unfolding head_after purse_after with_state with_purse with_balance hot_after
  hot_bytes_lem true n = (hot_octets _ _ _ _ n.number n.tries (newest_byte (is_some x.logged)) (filled_byte (is_some x.logged)) n.balance).each
  hot_bytes_lem false n = (hot_octets _ _ _ _ n.number n.tries (newest_byte (is_some x.logged)) (filled_byte (is_some x.logged)) n.balance).each

  cold-bytes : (b : Bool) → SizedHead (head_after b x.head c.head) → Numbers (head_after b x.head c.head) → b ≡ true → AreBytes (cold_bytes x.head)
  unfolding head_after purse_after cold_bytes
  cold-bytes true z n q = (cold_octets (head_after true x.head c.head) z n).each
  cold-bytes false z n q = absurd (false≢true q)

  stores_bytes : (L : ℕ) → AreBytes (leaves (plan x m) L m)
  unfolding plan writes changed
  stores_bytes =
      then_bytes _ 1 (next_root x.cold r ∷ []) m
      (then_bytes _ (cold_at (next_root x.cold r)) (cold_piece x) m
      (then_bytes _ (slot_at (spare m)) (record_piece x) m
      (λ K. writes_bytes (hot_at (next_root x.cold r)) (hot_piece x m) K m (hot_bytes_lem x.cold after) f)
      (logged_octets x.logged (λ y q. (record_octets y (logged-sized x c p y q)).each)))
      (piece_bytes x.cold (cold_bytes x.head) (cold-bytes x.cold p.sized after)))
      (byte_octets (let t = next_root_small x.cold r in omega arith)).each

-- a change to a proper card stores bytes
pub change_bytes : (x : Change) (m : List ℕ) (c : Card) → AreBytes m → read_card m ≡ some c → Proper (changed x c) → (L : ℕ)
    → AreBytes (leaves (plan x m) L m)
change_bytes x m c f e p = stores_bytes x m c f e p

image-bytes : (fixed hot cold m : List ℕ) → AreBytes m → AreBytes fixed → AreBytes hot → AreBytes cold
    → (L : ℕ) → AreBytes (leaves (image_plan fixed hot cold []) L m)
unfolding image_plan writes
image-bytes fixed hot cold m f a b c =
    then_bytes _ 0 (magic ∷ []) m
    (then_bytes _ ring_at [] m
    (then_bytes _ (cold_at 0) cold m
    (then_bytes _ (hot_at 0) hot m
    (then_bytes (writes 0 (0 ∷ 0 ∷ [])) fixed_at fixed m
    (λ K. writes_bytes 0 (0 ∷ 0 ∷ []) K m (append_octets (byte_octets (omega arith)) (byte_octets (omega arith))).each f) a) b) c) none-bytes)
    (byte_octets (omega arith)).each

-- and so does an installation
pub install-bytes : (fixed : Fixed) (aid : Aid) (admin : Keys) (m : List ℕ) → AreBytes m → Installable fixed aid admin → (L : ℕ)
    → AreBytes (leaves (install_plan fixed aid admin) L m)
unfolding install_plan head_plan fresh fresh_head
install-bytes fixed aid admin m f q =
    let p = fresh_proper fixed aid admin q in
    let h = fresh_head fixed aid admin in
    let n = numbers h p.tests p.sized.maxnumber in
    image-bytes (fixed_bytes aid fixed) (hot_bytes h.state 0 0 0) (cold_bytes h) m f
    (fixed_octets aid fixed q.bytes n.aid n.logsize n.maxtries).each
    (hot_octets h.state 0 0 0 n.number n.tries (omega arith) (omega arith) n.balance).each (cold_octets h p.sized n).each
