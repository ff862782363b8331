-- How a bench file goes on behind a turn, whose lines were written or not. Assumes nothing.
use Rattle.std.specs.Prelude.{Bool, not, ◌&&◌}
use Rattle.framing.specs.declared.next.Next.{Next}
use Rattle.framing.specs.Stream.{is_over, is_full}

-- whether another turn follows at once on the bytes in hand: the lines are written, and a line had no room
unfoldable pub turns_again : Next → Bool → Bool
turns_again next done = done && is_full next

-- whether the file goes on: the lines are written, and X is not among them
unfoldable pub file_goes_on : Next → Bool → Bool
file_goes_on next done = done && not (is_over next)
