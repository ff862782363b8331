-- The least limit that doesn't answer 7: what characterizes it, for any answers, and what it is for a plan. Assumes nothing.
use Prim.Native.Nat.{ℕ, zero, suc, ◌+◌, ◌≤◌, ◌<◌}
use mathlib.Core.Path.{◌≡◌, sym, ap, ◌∙◌}
use mathlib.Core.Logic.{◌≢◌}
use mathlib.Core.List.{List}
use native.Mathlib.Decide.{dec_le, ℕ_discrete}
use native.Mathlib.Nat.{lt_of_not-le}
use native.Mathlib.Omega.{arith}
use borrow.Author.Tests.{eq-eqb, ne_eqb}
use lib.ListN.{length}
use Rattle.stores.specs.Stores.{Store, answers, reports}
use Rattle.stores.specs.Limits.{first_from, least_limit}
use Rattle.stores.proofs.Limits.{answers-done, answers-cut, not_seven_done, reports-count}

-- K is the least limit from J on that doesn't answer 7
pub record Least (f : ℕ → ℕ) (J K : ℕ) : Type 0 where
  pub from : J ≤ K
  pub not_seven : f K ≢ 7
  pub below : (I : ℕ) → J ≤ I → I < K → f I ≡ 7

-- there is at most one
pub least_unique : (f : ℕ → ℕ) (J K L : ℕ) → Least f J K → Least f J L → K ≡ L
least_unique f J K L a b =
    elim (dec_le K L) [
      | yes h ↦ elim (dec_le L K) [
        | yes g ↦ omega arith
        | no g ↦ absurd (a.not_seven (b.below K a.from (lt_of_not-le g)))
      ]
      | no h ↦ absurd (b.not_seven (a.below L b.from (lt_of_not-le h)))
    ]

-- the search finds it, where a limit that it reaches doesn't answer 7
first-least : (f : ℕ → ℕ) (J n L : ℕ) → J ≤ L → L ≤ J + n → f L ≢ 7 → Least f J (first_from f J n)
unfolding first_from
first-least f J zero L h k e =
    let j : L ≡ J = omega arith in
    record { from = omega arith; not_seven = λ z. e (ap f j ∙ z); below = λ I p q. absurd (omega arith) }
first-least f J (suc n) L h k e =
    elim (ℕ_discrete (f J) 7) [
      | yes z ↦
          rw (eq-eqb (f J) 7 z)
          (more z (first-least f (suc J) n L (elim (ℕ_discrete L J) [ yes j ↦ absurd (e (ap f j ∙ z)) | no j ↦ omega arith ]) (omega arith) e))
      | no z ↦ rw (ne_eqb (f J) 7 z) (record { from = omega arith; not_seven = z; below = λ I p q. absurd (omega arith) })
    ]
  where
    more : {K : ℕ} → f J ≡ 7 → Least f (suc J) K → Least f J K
    more {K} z l =
        let g = l.from in
        record {
          from = omega arith;
          not_seven = l.not_seven;
          below = λ I p q. elim (ℕ_discrete I J) [ yes i ↦ ap f i ∙ z | no i ↦ l.below I (omega arith) q ];
        }

-- where some limit up to 65,535 doesn't answer 7, `least_limit` is the least of those
pub least_limit_lem : (f : ℕ → ℕ) (L : ℕ) → L ≤ 65535 → f L ≢ 7 → Least f 0 (least_limit f)
unfolding least_limit
least_limit_lem f L h e = first-least f 0 65535 L (omega arith) (omega arith) e

-- and what is the least of those is `least_limit`
pub least-is : (f : ℕ → ℕ) (K : ℕ) → K ≤ 65535 → f K ≢ 7 → ((I : ℕ) → I < K → f I ≡ 7) → least_limit f ≡ K
least-is f K h e b =
    least_unique f 0 (least_limit f) K (least_limit_lem f K h e) (record { from = omega arith; not_seven = e; below = λ I p q. b I q })

-- it goes by the answers alone
pub least-same : (f g : ℕ → ℕ) → ((L : ℕ) → f L ≡ g L) → least_limit f ≡ least_limit g
least-same f g e = ap least_limit (λ i L. e L i)

-- a plan's least limit is the number of its stores
pub least-plan : (p : List Store) → length p ≤ 65535 → least_limit (answers p) ≡ length p
least-plan p h =
    least-is (answers p) (length p) h
    (λ e. let z : answers p (length p) ≡ 0 = answers-done p (length p) (omega arith) in omega arith)
    (λ I k. answers-cut p I k)

-- the reported count of a finished run is the least limit that doesn't answer 7
pub count-least : (p : List Store) (L : ℕ) → length p ≤ 65535 → answers p L ≢ 7 → reports p L ≡ least_limit (answers p)
count-least p L h e =
    reports-count p L (answers-done p L (not_seven_done p L e)) ∙ sym (least-plan p h)
