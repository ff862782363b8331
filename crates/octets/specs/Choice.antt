-- A choice by a test, and a row of rules of which the first that refuses decides. Assumes nothing.
use Rattle.std.specs.Prelude.{ℕ, Bool, true, false}

-- a where the test holds, else b
abbrev pub pick : {A : Type 0} → Bool → A → A → A
pick true a b = a
pick false a b = b

-- the status word where the test refuses, else what the later rules say
abbrev pub refuse : Bool → ℕ → ℕ → ℕ
refuse true word rest = word
refuse false word rest = rest
