-- Every digit is the character of the table "0123456789ABCDEF", and every line is spelled out by its characters. Assumes nothing.
use Prim.Native.Nat.{ℕ, zero, suc, ◌+◌, ◌*◌, ◌/◌, ◌%◌, ◌≤◌, ◌<◌}
use mathlib.Core.List.{List, [], ◌∷◌, ◌++◌}
use mathlib.Core.Path.{◌≡◌, refl, sym, ap, ◌∙◌}
use native.Mathlib.Omega.{arith}
use native.Mathlib.Nat.{add-zero, zero-add}
use borrow.Author.Tests.{lt-ltb, eq-eqb, ne_eqb}
use lib.ListN.{length, get_or, take, length-append, get_or-append}
use lib.Seq.{get_or-append-add}
use Rattle.octets.specs.Bytes.{byte_at}
use Rattle.purse_spec.specs.History.{install, start, send}
use Rattle.bench_file.specs.Lines.{Bench, ran, digit, hex, answer_line, response_line, line}
use Rattle.bench_file.specs.Letters.{upper_case, answer_text, ResponseText}
use Rattle.bench_file.proofs.Digits.{length-hex}
use Rattle.bench_file.proofs.Answers.{most}

-- ---- digits

-- the values of f at n numbers in a row
abbrev pub counted : (ℕ → ℕ) → ℕ → ℕ → List ℕ
counted f at zero = []
counted f at (suc n) = f at ∷ counted f (suc at) n

counted_at : (f : ℕ → ℕ) (at n i : ℕ) → i < n → get_or (counted f at n) i 0 ≡ f (at + i)
counted_at f at zero i h = omega arith
counted_at f at (suc n) zero h = ap f (sym (add-zero at))
counted_at f at (suc n) (suc i) h = let e : suc at + i ≡ at + suc i = omega arith in counted_at f (suc at) n i (omega arith) ∙ ap f e

-- the sixteen digits in a row
pub digit-table : counted digit 0 16 ≡ upper_case
unfolding digit upper_case
digit-table = refl

-- the digit of a number below 16
pub digit-is : (n : ℕ) → n < 16 → digit n ≡ byte_at upper_case n
digit-is n h = ap digit (sym (zero-add n)) ∙ sym (counted_at digit 0 16 n h) ∙ ap (λ (s : List ℕ). byte_at s n) digit-table

-- ---- bytes in hex

hex-high : (x : List ℕ) (i : ℕ) → i < length x → byte_at (hex x) (2 * i) ≡ digit (byte_at x i / 16)
unfolding hex
hex-high [] i h = omega arith
hex-high (y ∷ x) zero h = refl
hex-high (y ∷ x) (suc i) h = let e : 2 * suc i ≡ suc (suc (2 * i)) = omega arith in rw e (hex-high x i (omega arith))

hex-low : (x : List ℕ) (i : ℕ) → i < length x → byte_at (hex x) (suc (2 * i)) ≡ digit (byte_at x i % 16)
unfolding hex
hex-low [] i h = omega arith
hex-low (y ∷ x) zero h = refl
hex-low (y ∷ x) (suc i) h = let e : 2 * suc i ≡ suc (suc (2 * i)) = omega arith in rw e (hex-low x i (omega arith))

-- ---- lines

-- "C 0" and the response
module _ (x : List ℕ) where
  abbrev front : List ℕ
  front = 0x43 ∷ 0x20 ∷ 0x30 ∷ 0x20 ∷ []

  -- a digit of the response
  digit_at : (j : ℕ) → j < 2 * length x → byte_at (response_line x) (4 + j) ≡ byte_at (hex x) j
  unfolding response_line
  digit_at j h = get_or-append-add front (hex x ++ (0x0A ∷ [])) j 0 ∙ get_or-append (hex x) (0x0A ∷ []) 0 j (rw length-hex h)

  last : byte_at (response_line x) (4 + 2 * length x) ≡ 0x0A
  unfolding response_line
  last =
      get_or-append-add front (hex x ++ (0x0A ∷ [])) (2 * length x) 0
      ∙ rw (← length-hex x, ← add-zero (length (hex x))) (get_or-append-add (hex x) (0x0A ∷ []) 0 0)

  pub response-text : ResponseText x (response_line x)
  unfolding response_line
  response-text =
      record {
        size = rw (length-append, length-hex) (omega arith);
        letter = refl;
        space = refl;
        answer = refl;
        gap = refl;
        high = λ i h g. digit_at (2 * i) (omega arith) ∙ hex-high x i h ∙ digit-is (byte_at x i / 16) (omega arith);
        low = λ i h. ap (λ (j : ℕ). byte_at (response_line x) j) (next i) ∙ digit_at (suc (2 * i)) (omega arith) ∙ hex-low x i h ∙ digit-is (byte_at x i % 16) (omega arith);
        feed = last;
      }
    where
      next : (i : ℕ) → 5 + 2 * i ≡ 4 + suc (2 * i)
      next i = omega arith

-- a letter and an answer of 01's list
answer-text : (letter n : ℕ) → n ≤ 8 → answer_line letter n ≡ answer_text letter n
unfolding answer_line digit
answer-text letter n h = rw (← digit-is n (omega arith), lt-ltb n 10 (omega arith))

-- the line of an installation
pub install-text : (b : Bench) (d : List ℕ) (limit : ℕ) → let c = install d limit in line c (ran c b) ≡ answer_text 0x49 (ran c b).answer
unfolding line ran
install-text b d limit = answer-text 0x49 _ (omega (arith, most (install d limit) b.memory b.session))

-- of a start-up
pub start-text : (b : Bench) (limit : ℕ) → let c = start limit in line c (ran c b) ≡ answer_text 0x53 (ran c b).answer
unfolding line ran
start-text b limit = answer-text 0x53 _ (omega (arith, most (start limit) b.memory b.session))

-- of a command with another answer than 0
pub refusal-text : (b : Bench) (bytes random area : List ℕ) (limit : ℕ)
    → let c = send bytes random area limit in ((ran c b).answer ≡ 0 → ⊥) → line c (ran c b) ≡ answer_text 0x43 (ran c b).answer
unfolding line ran
refusal-text b bytes random area limit h =
    rw (ne_eqb _ 0 h) (answer-text 0x43 _ (omega (arith, most (send bytes random area limit) b.memory b.session)))

-- of a command with answer 0: the response leads the response area
pub command-text : (b : Bench) (bytes random area : List ℕ) (limit : ℕ)
    → let c = send bytes random area limit in
    let x = take (ran c b).length (ran c b).response in (ran c b).answer ≡ 0 → ResponseText x (line c (ran c b))
unfolding line
command-text b bytes random area limit e = rw (eq-eqb _ 0 e) (response-text _)
