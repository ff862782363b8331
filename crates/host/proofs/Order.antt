-- The calls of a C host: "Order: 1, 3, 4, 8, 2, 5, 6", where each refusal changes no area; and past 1, 3, 4 and 8 a call hands over what
-- the purse gives, whose session the area then reads as. Assumes nothing.
use mathlib.Core.List.{List, []}
use mathlib.Core.Logic.{◌⊎◌, inl, inr}
use mathlib.Core.Option.{Option, none, some}
use mathlib.Core.Path.{◌≡◌, refl, ap, ◌∙◌}
use Prim.Native.Nat.{ℕ, ◌+◌, ◌*◌, ◌≤◌, ◌<◌}
use native.Mathlib.Decide.{dec_le, ℕ_discrete}
use native.Mathlib.Nat.{lt_of_not-le}
use native.Mathlib.Omega.{arith}
use borrow.Author.Tests.{eq-eqb, ne_eqb, le-ltb, lt-ltb}
use lib.ListN.{length}
use Rattle.octets.specs.Bytes.{AreBytes, zeros}
use Rattle.memory.specs.Layout.{memory_size}
use Rattle.session.specs.declared.Session.{Session}
use Rattle.session.specs.Packing.{unpacked}
use Rattle.session.proofs.Sizes.{Sized}
use Rattle.session.proofs.Reading.{reads_back, reads_octets, reads_sized}
use Rattle.commands_spec.specs.Order.{refuses, passes}
use Rattle.purse_spec.specs.Calls.{Run}
use Rattle.purse_spec.specs.Installation.{installation}
use Rattle.purse_spec.specs.Startup.{startup}
use Rattle.purse_spec.specs.Commands.{least_area, command}
use Rattle.purse_spec.specs.History.{Call, install, start, send, Situation, OfBytes, run, next, area_for}
use Rattle.purse_spec.specs.Reasons.{FirstReason, NoReason, reasons}
use Rattle.purse_spec.proofs.Typed.{Typed, typed_next}
use Rattle.purse_spec.proofs.Answered.{refusal-number, refused-whole}
use Rattle.host.specs.Host.{session_size, Handed, handed, number, area_after, outcome, length_tested, install_call, start_call, in_session, command_call}
use Rattle.host.specs.Reasons.{hosted, area_reasons, card_reasons, host_reasons}
use Rattle.host.proofs.Bounds.{situated, alone, alone_typed}

-- ---- past 1, 3, 4 and 8

module _ (m area : List ℕ) (e : length m ≡ memory_size) where
  install-runs : (d : List ℕ) (limit : ℕ) → length area ≡ session_size → install_call m area d limit ≡ outcome (installation m d limit) area
  unfolding install_call length_tested
  install-runs d limit f = rw (eq-eqb (length m) memory_size e, eq-eqb (length area) session_size f)

  start-runs : (limit : ℕ) → length area ≡ session_size → start_call m area limit ≡ outcome (startup m limit) area
  unfolding start_call length_tested
  start-runs limit f = rw (eq-eqb (length m) memory_size e, eq-eqb (length area) session_size f)

  command-runs : (bytes random response : List ℕ) (limit : ℕ) (s : Session) → least_area ≤ length response → length random ≡ 8 → unpacked area ≡ some s
      → command_call m area bytes random response limit ≡ outcome (command m s bytes random response limit) area
  unfolding command_call in_session
  command-runs bytes random response limit s f g u = rw (eq-eqb (length m) memory_size e, le-ltb (length response) least_area f, eq-eqb (length random) 8 g, u)

-- ---- the order

stable : (a b : ℕ) → ((a ≡ b → ⊥) → ⊥) → a ≡ b
stable a b h = elim (ℕ_discrete a b) [ yes e ↦ e | no e ↦ absurd (h e) ]

not_less : (a b : ℕ) → (a < b → ⊥) → b ≤ a
not_less a b h = elim (dec_le b a) [ yes e ↦ e | no e ↦ absurd (h (lt_of_not-le e)) ]

module _ (m area : List ℕ) where
  -- installation and start-up: 1, then 8
  tested_one : (r : Run) → (length m ≡ memory_size → ⊥) → length_tested m area r ≡ handed 1 m area []
  unfolding length_tested number
  tested_one r e = rw (ne_eqb (length m) memory_size e)

  tested_eight : (r : Run) → length m ≡ memory_size → (length area ≡ session_size → ⊥) → length_tested m area r ≡ handed 8 m area []
  unfolding length_tested number
  tested_eight r e f = rw (eq-eqb (length m) memory_size e, ne_eqb (length area) session_size f)

  -- a command: 1, 3, 4, then 8
  module _ (bytes random response : List ℕ) (limit : ℕ) where
    command_one : (length m ≡ memory_size → ⊥) → command_call m area bytes random response limit ≡ handed 1 m area response
    unfolding command_call number
    command_one e = rw (ne_eqb (length m) memory_size e)

    command_three : length m ≡ memory_size → length response < least_area → command_call m area bytes random response limit ≡ handed 3 m area response
    unfolding command_call number
    command_three e f = rw (eq-eqb (length m) memory_size e, lt-ltb (length response) least_area f)

    command_four : length m ≡ memory_size → least_area ≤ length response → (length random ≡ 8 → ⊥)
        → command_call m area bytes random response limit ≡ handed 4 m area response
    unfolding command_call number
    command_four e f g = rw (eq-eqb (length m) memory_size e, le-ltb (length response) least_area f, ne_eqb (length random) 8 g)

    command_eight : length m ≡ memory_size → least_area ≤ length response → length random ≡ 8 → unpacked area ≡ none
        → command_call m area bytes random response limit ≡ handed 8 m area response
    unfolding command_call in_session number
    command_eight e f g u = rw (eq-eqb (length m) memory_size e, le-ltb (length response) least_area f, eq-eqb (length random) 8 g, u)

-- a refusal of the purse
purse-refuses : (x : Call) (st : Situation) (area : List ℕ) (n : ℕ) → Typed st → OfBytes x → FirstReason (reasons x st) n
    → outcome (run x st) area ≡ handed n st.memory area (area_for x)
unfolding outcome number area_after
purse-refuses x st area n t f h =
    let b = refusal-number x st n h in
    let k : n + 256 * 0 + 65536 * 0 ≡ n = omega arith in
    ap (λ (r : Run). outcome r area) (refused-whole x st t f n h) ∙ rw (ne_eqb n 0 (λ z. omega arith), ne_eqb n 7 (λ z. omega arith), k)

-- an area of another length reads as no session
other_length : (area : List ℕ) → AreBytes area → (length area ≡ 128 → ⊥) ⊎ (unpacked area ≡ none) → unpacked area ≡ none
other_length area g (inr e) = e
other_length area g (inl w) = by (unpacked area) refl
  where
    by : (o : Option Session) → unpacked area ≡ o → o ≡ none
    by none e = refl
    by (some s) e = absurd (w (reads_octets area s e g).size)

-- past 8 an area reads as a session
session_read : (area : List ℕ) → ((length area ≡ 128 → ⊥) ⊎ (unpacked area ≡ none) → ⊥) → (s : Session) × (unpacked area ≡ some s)
session_read area w = by (unpacked area) refl
  where
    by : (o : Option Session) → unpacked area ≡ o → (s : Session) × (unpacked area ≡ some s)
    by none e = absurd (w (inr e))
    by (some s) e = (s, e)

-- "Order: 1, 3, 4, 8, 2, 5, 6": the first reason that holds is answered, and no area is changed
pub order : (x : Call) (m area : List ℕ) (n : ℕ) → (memory : AreBytes m) → (session : AreBytes area) → (given : OfBytes x)
    → (first : FirstReason (host_reasons x m area) n) → hosted x m area ≡ handed n m area (area_for x)
unfolding host_reasons area_reasons card_reasons reasons hosted install_call start_call area_for run
order (install d limit) m area n f g k (refuses w) = tested_one m area (installation m d limit) w
order (install d limit) m area n f g k (passes a (refuses w)) = tested_eight m area (installation m d limit) (stable _ _ a) w
order (install d limit) m area n f g k (passes a (passes b h)) =
    install-runs m area (stable _ _ a) d limit (stable _ _ b) ∙ purse-refuses (install d limit) (alone m) area n (alone_typed m f) k (passes a h)
order (start limit) m area n f g k (refuses w) = tested_one m area (startup m limit) w
order (start limit) m area n f g k (passes a (refuses w)) = tested_eight m area (startup m limit) (stable _ _ a) w
order (start limit) m area n f g k (passes a (passes b h)) =
    start-runs m area (stable _ _ a) limit (stable _ _ b) ∙ purse-refuses (start limit) (alone m) area n (alone_typed m f) k (passes a h)
order (send bytes random response limit) m area n f g k (refuses w) = command_one m area bytes random response limit w
order (send bytes random response limit) m area n f g k (passes a (refuses w)) = command_three m area bytes random response limit (stable _ _ a) w
order (send bytes random response limit) m area n f g k (passes a (passes b (refuses w))) =
    command_four m area bytes random response limit (stable _ _ a) (not_less _ _ b) w
order (send bytes random response limit) m area n f g k (passes a (passes b (passes c (refuses w)))) =
    command_eight m area bytes random response limit (stable _ _ a) (not_less _ _ b) (stable _ _ c) (other_length area g w)
order (send bytes random response limit) m area n f g k (passes a (passes b (passes c (passes d h)))) =
    let r = session_read area d in
    command-runs m area (stable _ _ a) bytes random response limit r.0 (not_less _ _ b) (stable _ _ c) r.1
    ∙ purse-refuses (send bytes random response limit) (situated m r.0) area n (record { memory = f; session = reads_sized area r.0 r.1 g }) k
    (passes a (passes b (passes c h)))

-- ---- what is handed over

-- of a run r of the purse, with the session area before it
pub record Hands (r : Run) (area : List ℕ) (h : Handed) : Type 0 where
  -- the number has the answer in its lowest byte, the response's length in the next, the reported stores above
  pub number : h.number ≡ r.answer + 256 * r.length + 65536 * r.count
  pub memory : h.memory ≡ r.memory
  pub response : h.response ≡ r.response
  -- "every session handed out reads back as itself": as the one that the purse gave
  pub done : r.answer ≡ 0 → unpacked h.session ≡ some r.session
  -- after 7 "the C host's session area is then all zeros"
  pub cut : r.answer ≡ 7 → h.session ≡ zeros 128
  pub refused : (r.answer ≡ 0 → ⊥) → (r.answer ≡ 7 → ⊥) → h.session ≡ area

-- the session of a finished call has the sizes of its type
sized-done : (x : Call) (st : Situation) → Typed st → OfBytes x → (run x st).answer ≡ 0 → Sized (run x st).session
unfolding next
sized-done x st t f e =
    let z = (typed_next x st t f).session in
    rw (eq-eqb (run x st).answer 0 e) at z

run_hands : (x : Call) (st : Situation) (area : List ℕ) → Typed st → OfBytes x → Hands (run x st) area (outcome (run x st) area)
unfolding outcome number area_after
run_hands x st area t f =
    record {
      number = refl;
      memory = refl;
      response = refl;
      done = λ e. rw (eq-eqb (run x st).answer 0 e) (reads_back (sized-done x st t f e));
      cut = λ e. rw (ne_eqb (run x st).answer 0 (omega arith), eq-eqb (run x st).answer 7 e);
      refused = λ y z. rw (ne_eqb (run x st).answer 0 y, ne_eqb (run x st).answer 7 z);
    }

-- the session area reads as the session s, as far as a call takes one
unfoldable pub ReadsAs : Call → List ℕ → Session → Type 0
ReadsAs (install d limit) area s = Unit {0}
ReadsAs (start limit) area s = Unit {0}
ReadsAs (send bytes random response limit) area s = unpacked area ≡ some s

-- past 1, 3, 4 and 8 a call hands over what the purse gives in that session
pub hands : (x : Call) (m area : List ℕ) (s : Session) → (memory : AreBytes m) → (session : AreBytes area) → (given : OfBytes x)
    → (no_reason : NoReason (area_reasons x m area)) → (reads : ReadsAs x area s)
    → Hands (run x (situated m s)) area (hosted x m area)
unfolding area_reasons ReadsAs hosted run
hands (install d limit) m area s f g k n u =
    let one : (length m ≡ 4096 → ⊥) → ⊥ = λ w. n 1 (refuses w) in
    rw (install-runs m area (stable _ _ one) d limit (stable _ _ (λ w. n 8 (passes one (refuses w)))))
    (run_hands (install d limit) (alone m) area (alone_typed m f) k)
hands (start limit) m area s f g k n u =
    let one : (length m ≡ 4096 → ⊥) → ⊥ = λ w. n 1 (refuses w) in
    rw (start-runs m area (stable _ _ one) limit (stable _ _ (λ w. n 8 (passes one (refuses w)))))
    (run_hands (start limit) (alone m) area (alone_typed m f) k)
hands (send bytes random response limit) m area s f g k n u =
    let one : (length m ≡ 4096 → ⊥) → ⊥ = λ w. n 1 (refuses w) in
    let three : length response < 32 → ⊥ = λ w. n 3 (passes one (refuses w)) in
    let four : (length random ≡ 8 → ⊥) → ⊥ = λ w. n 4 (passes one (passes three (refuses w))) in
    rw (command-runs m area (stable _ _ one) bytes random response limit s (not_less _ _ three) (stable _ _ four) u)
    (run_hands (send bytes random response limit) (situated m s) area (record { memory = f; session = reads_sized area s u g }) k)
