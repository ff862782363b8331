-- Blocks of fields of fixed widths: each field lies at its offset. Assumes nothing.
use mathlib.Core.Path.{◌≡◌, sym, ap, ◌∙◌}
use mathlib.Core.List.{List, []}
use Prim.Native.Nat.{ℕ, ◌≤◌, ◌<◌}
use native.Mathlib.Omega.{arith}
use native.Mathlib.Nat.{add-zero}
use lib.ListN.{length, get_or}
use Rattle.octets.specs.Bytes.{byte_at, part, field}
use Rattle.octets.specs.Words.{word_at}
use Rattle.octets.proofs.Parts.{part_at, field-part}
use Rattle.octets.proofs.Numbers.{word_in_part}
use Rattle.stores.specs.Fields.{offset, joined, Fit}
use Rattle.stores.proofs.Fields.{joined_length, fields-joined, fields_at, offset_fits}

module _ (ws : List ℕ) (fs : List (List ℕ)) (fit : Fit ws fs) (k : ℕ) (h : k < length ws) where
  pub part_of : part (joined fs) (offset ws k) (get_or ws k 0) ≡ get_or fs k []
  part_of = sym (fields_at ws (joined fs) k h) ∙ ap (λ (l : List (List ℕ)). get_or l k []) (fields-joined ws fs fit)

  pub field_of : field (joined fs) (offset ws k) (get_or ws k 0) ≡ get_or fs k []
  field_of =
      field-part (joined fs) (offset ws k) (get_or ws k 0) (let o = offset_fits ws k in let l = joined_length ws fs fit in omega arith)
      ∙ part_of

  -- the byte and the number that a field starts with
  pub byte_of : 0 < get_or ws k 0 → byte_at (joined fs) (offset ws k) ≡ byte_at (get_or fs k []) 0
  byte_of w =
      ap (byte_at (joined fs)) (sym (add-zero (offset ws k)))
      ∙ sym (part_at (joined fs) (offset ws k) (get_or ws k 0) 0 w)
      ∙ ap (λ (l : List ℕ). byte_at l 0) part_of

  pub word_of : 2 ≤ get_or ws k 0 → word_at (joined fs) (offset ws k) ≡ word_at (get_or fs k []) 0
  word_of w =
      ap (word_at (joined fs)) (sym (add-zero (offset ws k)))
      ∙ sym (word_in_part (joined fs) (offset ws k) (get_or ws k 0) 0 w)
      ∙ ap (λ (l : List ℕ). word_at l 0) part_of
