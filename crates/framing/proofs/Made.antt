-- A frame that is made of a kind and its data is read as what it was made of. Assumes nothing.
use Prim.Native.Nat.{ℕ, ◌+◌}
use mathlib.Core.Bool.{Bool, true}
use mathlib.Core.List.{List, ◌∷◌, ◌++◌}
use mathlib.Core.Path.{◌≡◌, refl, ◌∙◌}
use native.Mathlib.Omega.{arith}
use lib.ListN.{length, drop, length-append}
use lib.Seq.{drop_at}
use Rattle.octets.specs.Words.{word}
use Rattle.octets.proofs.Numbers.{word_read}
use Rattle.octets.proofs.Parts.{part-between}
use Rattle.framing.specs.Frames.{header_size, frame_of, frame_kind, data_size, frame_data, frame_size, marked, header_ok, whole}
use Rattle.framing.specs.Formats.{Format, taken, next_of, line_of, lines_from}
use Rattle.framing.proofs.Fronts.{is_whole}
use Rattle.framing.proofs.Files.{lines-taken}

pub frame_length : (kind : ℕ) (d : List ℕ) → length (frame_of kind d) ≡ header_size + length d
unfolding frame_of
frame_length kind d = omega arith

module _ (kind : ℕ) (d t : List ℕ) where
  size_read : data_size (frame_of kind d ++ t) ≡ length d
  unfolding frame_of
  size_read = word_read (length d)

  kind_read : frame_kind (frame_of kind d ++ t) ≡ kind
  unfolding frame_of
  kind_read = refl

  data_read : frame_data (frame_of kind d ++ t) ≡ d
  unfolding frame_of
  data_read = rw size_read (part-between (0xB5 ∷ 0xC3 ∷ kind ∷ word (length d)) d t header_size (length d) refl refl)

  pub rest_read : drop (frame_size (frame_of kind d ++ t)) (frame_of kind d ++ t) ≡ t
  unfolding frame_size
  rest_read = rw size_read (drop_at (frame_of kind d) t (header_size + length d) (frame_length kind d))

  -- it is whole where its kind may have so much data
  pub frame_whole : (ok : ℕ → ℕ → Bool) → ok kind (length d) ≡ true → whole ok (frame_of kind d ++ t) ≡ true
  unfolding frame_of header_ok marked frame_size
  frame_whole ok e =
      is_whole ok (frame_of kind d ++ t)
      (record {
        header = rw length-append (omega arith);
        right = rw size_read e;
        long = rw (size_read, length-append) (omega arith);
      })

  -- and prints its line where it is taken
  pub frame_line : (F : Format) (st : F.Carried) → F.ok kind (length d) ≡ true → F.takes st kind d ≡ true
      → lines_from F st (frame_of kind d ++ t) ≡ F.line st kind d ++ lines_from F (F.next st kind d) t
  unfolding taken
  frame_line F st e h =
      let s = frame_of kind d ++ t in
      let k = kind_read in
      let x = data_read in
      let took : F.takes st (frame_kind s) (frame_data s) ≡ true = (λ i. F.takes st (k i) (x i)) ∙ h in
      let line : line_of F st s ≡ F.line st kind d = λ i. F.line st (k i) (x i) in
      let next : next_of F st s ≡ F.next st kind d = λ i. F.next st (k i) (x i) in
      lines-taken F st s (rw (frame_whole F.ok e) took) ∙ rw (rest_read, line, next)
