-- 01, "Stores": "the least limit that doesn't answer 7", of a run's answers at each limit. Assumes nothing.
use Rattle.std.specs.Prelude.{ℕ, zero, suc, eqb}
use Rattle.octets.specs.Choice.{pick}

-- the first of n limits from a limit on that doesn't answer 7, else the one after them
unfoldable pub first_from : (ℕ → ℕ) → ℕ → ℕ → ℕ
first_from answer limit zero = limit
first_from answer limit (suc n) = pick (eqb (answer limit) 7) (first_from answer (suc limit) n) limit

-- the least limit that doesn't answer 7; 01: no run answers 7 at limit 65,535
unfoldable pub least_limit : (ℕ → ℕ) → ℕ
least_limit answer = first_from answer 0 65535
