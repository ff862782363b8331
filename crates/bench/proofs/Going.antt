-- A bench file goes on behind every turn but one that prints X, and a turn follows at once exactly where the turn before was full; lines
-- that weren't written end it. Assumes nothing.
use Prim.Native.Nat.{ℕ}
use mathlib.Core.Bool.{Bool, true, false}
use mathlib.Core.List.{List}
use mathlib.Core.Path.{◌≡◌, refl}
use Rattle.framing.specs.declared.next.Next.{Next}
use Rattle.framing.specs.declared.next.Next.TheVariants.{Full, More, Over}
use Rattle.framing.specs.Stream.{turn, is_over, is_full, again}
use Rattle.bench_file.specs.Lines.{Bench}
use Rattle.bench_file.specs.Stream.{bench}
use Rattle.bench.specs.Going.{turns_again, file_goes_on}

-- ---- the file

-- X ends it
pub x_ends : (done : Bool) → file_goes_on Over done ≡ false
unfolding file_goes_on is_over is_full
x_ends true = refl
x_ends false = refl

-- lines that weren't written end it
pub unwritten_ends : (next : Next) → (file_goes_on next false ≡ false) × (turns_again next false ≡ false)
unfolding file_goes_on turns_again
unwritten_ends next = (refl, refl)

-- any other turn lets it go on
pub full_goes-on : file_goes_on Full true ≡ true
unfolding file_goes_on is_over is_full
full_goes-on = refl

pub more-goes-on : file_goes_on More true ≡ true
unfolding file_goes_on is_over is_full
more-goes-on = refl

-- ---- the bytes in hand

-- where the lines are written, a turn follows exactly where one follows in `on_pieces`, whose lines are the file's
pub again_in_pieces : (room : ℕ) (b : Bench) (s : List ℕ)
    → turns_again (turn bench room b s).next true ≡ again bench room (record { rest = s; state = b; over = false })
unfolding turns_again again
again_in_pieces room b s = refl
