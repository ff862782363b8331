-- However a bench file is split into pieces, and however large the output area is, what is written in all are its lines. Assumes nothing.
use Prim.Native.Nat.{ℕ, ◌≤◌}
use mathlib.Core.Bool.{false}
use mathlib.Core.List.{List, [], ◌∷◌, ◌++◌}
use mathlib.Core.Path.{◌≡◌, ◌∙◌}
use Rattle.framing.specs.declared.next.Next.TheVariants.{Over}
use Rattle.framing.specs.Formats.{taken}
use Rattle.framing.specs.Stream.{Event, arrived, together, batch, turn, first, behind_all, prints_all, closes, on_pieces}
use Rattle.framing.proofs.StreamLines as framing
use Rattle.framing.proofs.PieceLines as framing-pieces
use Rattle.framing.proofs.Silence.{over-writes}
use Rattle.bench_file.specs.Lines.{Bench, begun, malformed_line, lines}
use Rattle.bench_file.specs.Stream.{longest_line, bench}
use Rattle.bench_file.proofs.Format.{bench_format}

-- the pieces that arrived, and turns among them such that no whole frame is left at the end
pub settled_lines : (es : List Event) → taken bench (behind_all bench es (first bench begun)).state (behind_all bench es (first bench begun)).rest ≡ false
    → prints_all bench es (first bench begun) ++ closes bench (behind_all bench es (first bench begun)) ≡ lines (arrived es)
unfolding lines
settled_lines es h = framing.settled_lines bench begun es h ∙ bench_format begun (arrived es)

-- THE PIECES: what is written for the pieces and at the end
pub pieces_lines : (room : ℕ) → longest_line ≤ room → (ps : List (List ℕ))
    → (let r = first bench begun in prints_all bench (on_pieces bench room ps r) r ++ closes bench (behind_all bench (on_pieces bench room ps r) r))
    ≡ lines (together ps)
unfolding lines
pieces_lines room l ps = framing-pieces.pieces_lines bench begun room l ps ∙ bench_format begun (together ps)

-- a turn that finds no frame prints X and a line feed last; after that nothing is written (`over_silent` of framing)
pub over-prints : (room : ℕ) (b : Bench) (s : List ℕ) → (turn bench room b s).next ≡ Over
    → (turn bench room b s).text ≡ (batch bench room b s).text ++ (0x58 ∷ 0x0A ∷ [])
unfolding malformed_line
over-prints room b s e = over-writes bench room b s e
