-- What a test that holds, or fails, leaves of a choice, of a row of rules and of a Bool: `search rules depth 24` proves each return of a
-- function that is one `if test { return word; }` a rule. Assumes nothing.
use Prim.Native.Nat.{ℕ}
use mathlib.Core.Bool.{Bool, true, false, not, ◌&&◌, ◌||◌}
use mathlib.Core.Path.{◌≡◌, refl, sym}
use borrow.Author.Tests.{lt-ltb, le-ltb, le-leb, lt-leb, eq-eqb, ne_eqb, not-true, not-false}
use Rattle.octets.specs.Choice.{pick, refuse}

-- the rule refuses
pub stop : (b : Bool) (w rest : ℕ) → b ≡ true → w ≡ refuse b w rest
stop b w rest e = rw e

-- the rule lets pass
pub go : (b : Bool) (w rest r : ℕ) → b ≡ false → r ≡ rest → r ≡ refuse b w rest
go b w rest r e p = rw e p

pub first : {A : Type 0} (b : Bool) (x y r : A) → b ≡ true → r ≡ x → r ≡ pick b x y
first b x y r e p = rw e p

pub second : {A : Type 0} (b : Bool) (x y r : A) → b ≡ false → r ≡ y → r ≡ pick b x y
second b x y r e p = rw e p

-- a Bool that is returned
pub true_is : (b : Bool) → b ≡ true → true ≡ b
true_is b e = sym e

pub false_is : (b : Bool) → b ≡ false → false ≡ b
false_is b e = sym e

pub and_rest : (a b r : Bool) → a ≡ true → r ≡ b → r ≡ (a && b)
and_rest a b r e p = rw e p

pub or_rest : (a b r : Bool) → a ≡ false → r ≡ b → r ≡ (a || b)
or_rest a b r e p = rw e p

-- what the tests joined by `not`, `&&` and `||` come to
pub not_yes : (b : Bool) → b ≡ true → not b ≡ false
not_yes b e = rw e

pub not_no : (b : Bool) → b ≡ false → not b ≡ true
not_no b e = rw e

pub and_yes : (a b : Bool) → a ≡ true → b ≡ true → (a && b) ≡ true
and_yes a b p q = rw (p, q)

pub and_left : (a b : Bool) → a ≡ false → (a && b) ≡ false
and_left a b p = rw p

pub and_right : (a b : Bool) → b ≡ false → (a && b) ≡ false
and_right true b p = p
and_right false b p = refl

pub or_no : (a b : Bool) → a ≡ false → b ≡ false → (a || b) ≡ false
or_no a b p q = rw (p, q)

pub or_left : (a b : Bool) → a ≡ true → (a || b) ≡ true
or_left a b p = rw p

pub or_right : (a b : Bool) → b ≡ true → (a || b) ≡ true
or_right true b p = refl
or_right false b p = p

-- what holds of both branches holds of the choice
pub pick_holds : {A : Type 0} (P : A → Type 0) (b : Bool) (x y : A) → (b ≡ true → P x) → (b ≡ false → P y) → P (pick b x y)
pick_holds P true x y f g = f refl
pick_holds P false x y f g = g refl

-- a row that ends in x passed a rule of another word
pub passed : (b : Bool) (w rest x : ℕ) → refuse b w rest ≡ x → (w ≡ x → ⊥) → (b ≡ false) × (rest ≡ x)
passed true w rest x e n = absurd (n e)
passed false w rest x e n = (refl, e)

pub ruleset choices = (stop, go, first, second)

pub ruleset bools = (true_is, false_is, and_rest, or_rest, not_yes, not_no, and_yes, and_left, and_right, or_no, or_left, or_right)

pub ruleset tests = (lt-ltb, le-ltb, le-leb, lt-leb, eq-eqb, ne_eqb)

pub ruleset rules = (choices, bools, tests)

-- the same where the code tests `!b` and the definition `b`; it searches longer
pub ruleset rules-not = (rules, not-true, not-false)
