-- Demand 2 on memory: what a command on the card that memory reads as answers, hands back and leaves, each as `respond` has it of that
-- card. Assumes nothing.
use mathlib.Core.Bool.{false≢true}
use mathlib.Core.List.{List, ◌++◌}
use mathlib.Core.Option.{some, some-ne-none}
use mathlib.Core.Path.{◌≡◌, sym, ap, ◌∙◌}
use Prim.Native.Nat.{ℕ, ◌+◌, ◌-◌, ◌*◌, ◌≤◌}
use native.Mathlib.Omega.{arith}
use lib.ListN.{length, drop}
use Rattle.octets.specs.Bytes.{byte_at}
use Rattle.octets.specs.Buffers.{content}
use Rattle.card.specs.Card.{Card}
use Rattle.memory.specs.Reading.{read_card}
use Rattle.memory.proofs.Seen.{reads}
use Rattle.memory.proofs.Live.{sound}
use Rattle.session.specs.declared.Session.{Session}
use Rattle.commands_spec.specs.Order.{passes}
use Rattle.commands_spec.specs.Respond.{respond, card_after}
use Rattle.commands_spec.proofs.Sizes.{reply_short}
use Rattle.purse_spec.specs.Calls.{Run, awaits}
use Rattle.purse_spec.specs.History.{Call, send, Situation, OfBytes, run, limit_of}
use Rattle.purse_spec.specs.Ledger.{status_word}
use Rattle.purse_spec.specs.Reasons.{reasons, stores_of, Ends, finished, Due}
use Rattle.purse_spec.proofs.Promised.{Typed, sound_of}
use Rattle.purse_spec.proofs.Tearing.{command_left}
use Rattle.purse_spec.proofs.Responses.{responds}
use Rattle.purse_spec.proofs.Answered.{exactly, few_stores}

-- of a command on the card c in the session s, by what `respond` says of it
pub record Meets (c : Card) (s : Session) (bytes random area : List ℕ) (r : Run) : Type 0 where
  -- "0: done; a command's response leads the response area, the rest untouched"
  pub answer : r.answer ≡ 0
  pub long : r.length ≡ length (content (respond c s bytes random).reply)
  pub response : r.response ≡ content (respond c s bytes random).reply ++ drop (length (content (respond c s bytes random).reply)) area
  -- the response's last two bytes are the status word
  pub status : 256 * byte_at r.response (r.length - 2) + byte_at r.response (r.length - 1) ≡ (respond c s bytes random).status
  -- the session that is handed back
  pub session : r.session ≡ (respond c s bytes random).session
  -- and the card that memory reads as afterwards
  pub card : read_card r.memory ≡ some (card_after c s bytes random)

module _ (st : Situation) (c : Card) (bytes random area : List ℕ) (limit : ℕ) (t : Typed st) (f : OfBytes (send bytes random area limit))
    (e : read_card st.memory ≡ some c) (a : 32 ≤ length area) (b : length random ≡ 8) where
  abbrev x : Call
  x = send bytes random area limit

  -- no reason holds: 7 or 0 is due
  pub no_reason : (n : ℕ) → Ends x st n → Due x st n
  unfolding Due reasons awaits
  no_reason n z =
      let size = (sound st.memory c (reads st.memory c e)).size in
      passes (λ w. w size)
      (passes (λ w. omega arith) (passes (λ w. w b) (passes (λ w. some-ne-none c (sym e ∙ w)) (passes (λ w. false≢true w) z))))

  -- at every limit that reaches the last store
  pub demand_two_uncut : stores_of x st ≤ limit → Meets c st.session bytes random area (run x st)
  unfolding OfBytes status_word limit_of run
  demand_two_uncut k =
      let m = st.memory in
      let s = st.session in
      let z = exactly x st t f 0 (no_reason 0 (finished k)) in
      let r = responds st c bytes random area limit t f e z in
      let i = sound_of m c s bytes random t.memory e t.session f.0 f.1 b in
      let l = command_left m c s bytes random area limit e (λ n. i) in
      let h = (reply_short c s bytes random i).0 in
      let g = r.length in
      let q : (run x st).length - 2 + 1 ≡ (run x st).length - 1 = omega arith in
      record {
        answer = z;
        long = r.length;
        response = rw r.length at r.response;
        status = (let w = ap (byte_at (run x st).response) q in let u = r.status in omega arith);
        session = r.session;
        card = l.1 ∙ ap some (l.2.finished z);
      }

-- DEMAND 2: so at limit 65,535 or above
pub demand_two : (st : Situation) (c : Card) (bytes random area : List ℕ) (limit : ℕ) → (typed : Typed st) → (given : OfBytes (send bytes random area limit))
    → (reads : read_card st.memory ≡ some c) → (room : 32 ≤ length area) → (drawn : length random ≡ 8) → (uncut : 65535 ≤ limit)
    → Meets c st.session bytes random area (run (send bytes random area limit) st)
demand_two st c bytes random area limit t f e a b k =
    demand_two_uncut st c bytes random area limit t f e a b (let n = few_stores (send bytes random area limit) st t f in omega arith)
