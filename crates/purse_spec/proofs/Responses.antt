-- A finished command's response: it leads the response area, the rest of which is untouched, and ends in the outcome's status word.
-- Assumes nothing.
use mathlib.Core.List.{List, ◌++◌, append_assoc}
use mathlib.Core.Option.{some}
use mathlib.Core.Path.{◌≡◌, refl, sym, ap, ◌∙◌}
use Prim.Native.Nat.{ℕ, ◌-◌, ◌≤◌}
use native.Mathlib.Omega.{arith}
use lib.ListN.{length, take, drop, take-append-drop}
use lib.Seq.{length-take-le}
use Rattle.octets.specs.Bytes.{paste}
use Rattle.octets.specs.Words.{word, word_at}
use Rattle.octets.specs.Buffers.{content}
use Rattle.octets.proofs.Pasting.{paste_front}
use Rattle.octets.proofs.Numbers.{word-between}
use Rattle.card.specs.Card.{Card}
use Rattle.memory.specs.Reading.{read_card}
use Rattle.session.specs.declared.Session.{Session}
use Rattle.commands_spec.specs.declared.outcome.Outcome.{Outcome}
use Rattle.commands_spec.specs.Respond.{respond}
use Rattle.commands_spec.proofs.Words.{status_listed}
use Rattle.commands_spec.proofs.Sizes.{Sound, reply_short}
use Rattle.purse_spec.specs.Calls.{Run, refusal, performed}
use Rattle.purse_spec.specs.Commands.{least_area, outcome_run}
use Rattle.purse_spec.specs.History.{send, Situation, OfBytes, run}
use Rattle.purse_spec.specs.Ledger.{status_word}
use Rattle.purse_spec.proofs.Performed.{by_limit}
use Rattle.purse_spec.proofs.Runs.{command-on}
use Rattle.purse_spec.proofs.Promised.{Typed, sound_of}

-- an answer that ends in a word, laid over the front of an area that it fits
pub last_word : (answer area : List ℕ) (w : ℕ) → 2 ≤ length answer → length answer ≤ length area → drop (length answer - 2) answer ≡ word w
    → word_at (paste area 0 answer) (length answer - 2) ≡ w
last_word answer area w a b e =
    let n = length answer - 2 in
    let rest = drop (length answer) area in
    let k : answer ≡ take n answer ++ word w = sym (take-append-drop n answer) ∙ ap (λ (l : List ℕ). take n answer ++ l) e in
    let t : length (take n answer) ≡ n = length-take-le n answer (omega arith) in
    let j : answer ++ rest ≡ take n answer ++ (word w ++ rest) = ap (λ (l : List ℕ). l ++ rest) k ∙ append_assoc (take n answer) (word w) rest in
    ap (λ (l : List ℕ). word_at l n) (paste_front area answer b ∙ j) ∙ word-between (take n answer) w rest n t

-- what a finished command gives, by its outcome o on the card that memory reads as
pub record Responds (o : Outcome) (area : List ℕ) (r : Run) : Type 0 where
  -- "a command's response leads the response area, the rest untouched"
  pub response : r.response ≡ content o.reply ++ drop r.length area
  pub length : r.length ≡ length (content o.reply)
  -- it has at most 32 bytes, so that it fits, and ends in the status word
  pub short : r.length ≤ least_area
  pub status : status_word r ≡ o.status
  pub session : r.session ≡ o.session

-- past its refusals
pub performed_responds : (m : List ℕ) (c : Card) (s : Session) (bytes random area : List ℕ) (limit : ℕ) → least_area ≤ length area → Sound c s bytes random
    → (outcome_run (respond c s bytes random) m area limit).answer ≡ 0 → Responds (respond c s bytes random) area (outcome_run (respond c s bytes random) m area limit)
unfolding performed status_word
performed_responds m c s bytes random area limit a i =
    let o = respond c s bytes random in
    let y = reply_short c s bytes random i in
    let n : length (content o.reply) ≤ 32 = y.1 in
    by_limit (λ (r : Run). r.answer ≡ 0 → Responds o area r) limit _ _ _
    (λ t z. absurd (omega arith))
    (λ t z. record {
      response = paste_front area (content o.reply) (omega arith);
      length = refl;
      short = n;
      status = last_word (content o.reply) area o.status y.0 (omega arith) (status_listed c s bytes random).last;
      session = refl;
    })

-- every finished command
pub responds : (st : Situation) (c : Card) (bytes random area : List ℕ) (limit : ℕ) → (typed : Typed st) → (given : OfBytes (send bytes random area limit))
    → (reads : read_card st.memory ≡ some c) → (finished : (run (send bytes random area limit) st).answer ≡ 0)
    → Responds (respond c st.session bytes random) area (run (send bytes random area limit) st)
unfolding run OfBytes refusal
responds st c bytes random area limit t f e =
    command-on st.memory (λ (r : ℕ → Run). (r limit).answer ≡ 0 → Responds (respond c st.session bytes random) area (r limit)) st.session bytes random area c e
    (λ n k l z. absurd (omega arith))
    (λ a u. performed_responds st.memory c st.session bytes random area limit a
    (sound_of st.memory c st.session bytes random t.memory e t.session f.0 f.1 u))
