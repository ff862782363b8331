-- No line is longer than the longest, so the bench's lines fit. Assumes nothing.
use Prim.Native.Nat.{ℕ, ◌≤◌}
use mathlib.Core.Bool.{Bool, true, false}
use mathlib.Core.List.{List}
use native.Mathlib.Omega.{arith}
use lib.Dec.{eqb}
use lib.ListN.{length, take, drop, length-append, length-take, length-replicate}
use Rattle.octets.specs.Choice.{pick}
use Rattle.octets.specs.Bytes.{byte_at, part, zeros}
use Rattle.octets.specs.Words.{word_at}
use Rattle.framing.specs.Frames.{frame_data}
use Rattle.framing.specs.Step.{Fitting}
use Rattle.purse_spec.specs.Calls.{Run}
use Rattle.purse_spec.specs.History.{install, start, send, run}
use Rattle.bench_file.specs.Kinds.{area_size, call_of, first_call}
use Rattle.bench_file.specs.Lines.{Bench, ran, line, answer_line, response_line, malformed_line}
use Rattle.bench_file.specs.Stream.{longest_line, bench}
use Rattle.bench_file.proofs.Digits.{length-hex}
use Rattle.bench_file.proofs.Answers.{area-kept}

response_fits : (x : List ℕ) → length x ≤ area_size → length (response_line x) ≤ longest_line
unfolding response_line
response_fits x h = rw (length-append, length-append) (omega (arith, length-hex x))

answer_fits : (letter n : ℕ) → length (answer_line letter n) ≤ longest_line
unfolding answer_line
answer_fits letter n = omega arith

send_fits : (bytes random : List ℕ) (limit : ℕ) (b : Bench)
    → length (line (send bytes random (zeros area_size) limit) (ran (send bytes random (zeros area_size) limit) b)) ≤ longest_line
unfolding line ran run
send_fits bytes random limit b = by command-run.answer (eqb command-run.answer 0)
  where
    command-run : Run
    command-run = ran (send bytes random (zeros area_size) limit) b

    by : (n : ℕ) (t : Bool) → length (pick t (response_line (take command-run.length command-run.response)) (answer_line 0x43 n)) ≤ longest_line
    by n true =
        let e = area-kept b.memory b.session bytes random (zeros area_size) limit in
        response_fits _ (rw length-take (omega (arith, e, length-replicate {A = ℕ} area_size 0)))
    by n false = answer_fits 0x43 n

pub line_fits : (s : List ℕ) (b : Bench) → length (line (first_call s) (ran (first_call s) b)) ≤ longest_line
unfolding call_of line
line_fits s b = by (eqb (byte_at s 2) 0x01) (eqb (byte_at s 2) 0x02) (frame_data s)
  where
    by : (t u : Bool) (d : List ℕ)
        → (let c = pick t (install (drop 2 d) (word_at d 0)) (pick u (start (word_at d 0)) (send (drop 10 d) (part d 2 8) (zeros area_size) (word_at d 0))) in
        length (line c (ran c b)) ≤ longest_line)
    by true u d = answer_fits 0x49 _
    by false true d = answer_fits 0x53 _
    by false false d = send_fits (drop 10 d) (part d 2 8) (word_at d 0) b

-- X and a line feed
pub malformed_fits : length malformed_line ≤ longest_line
unfolding malformed_line
malformed_fits = omega arith

-- whatever memory and session are
abbrev pub fitting : Fitting bench
fitting =
    record {
      Good = λ b n. Unit {0};
      good_next = λ b s n g e l. tt;
      line_fits = λ b s n g. line_fits s b;
      refusal_fits = λ b n g. malformed_fits;
    }
