-- What arguments ask for, in other words: switches and then names run these names; a dash that no switch has refuses, and so does a switch
-- behind a name; what decides first decides, whatever comes behind. Assumes nothing.
use Prim.Native.Nat.{ℕ, zero, suc, ◌+◌, ◌-◌, ◌≤◌}
use mathlib.Core.Bool.{Bool, true, false, false≢true}
use mathlib.Core.List.{List, [], ◌∷◌, ◌++◌}
use mathlib.Core.Path.{◌≡◌, refl, sym, ap, ◌∙◌}
use native.Mathlib.Omega.{arith}
use borrow.Author.Tests.{ne_eqb}
use lib.ListN.{length, drop, replicate}
use Rattle.octets.proofs.Equality.{differ_same}
use Rattle.tdes.specs.declared.engine.Engine.{Engine}
use Rattle.tdes.specs.declared.engine.Engine.TheVariants as engine
use Rattle.bench.specs.declared.arguments.Word.{Word}
use Rattle.bench.specs.declared.arguments.Word.TheVariants.{Plain, Help, Unknown, Name}
use Rattle.bench.specs.declared.arguments.Order.{Order}
use Rattle.bench.specs.declared.arguments.Asked.{Asked}
use Rattle.bench.specs.declared.arguments.Asked.TheVariants.{Input, Files, Usage, Refused}
use Rattle.bench.specs.Arguments.{dash, plain_switch, help_switch, dashed, word_of, nothing, after_switches, after_files}
use Rattle.bench.specs.Arguments.{after, after_all, asked, files_run, runs}

-- ---- one argument

-- "--plain" and "--help" are the switches
pub plain-is_switch : word_of plain_switch ≡ Plain
unfolding word_of
plain-is_switch = refl

pub help_is_switch : word_of help_switch ≡ Help
unfolding word_of
help_is_switch = refl

-- "-" alone is no file's name
pub dash_alone : word_of (dash ∷ []) ≡ Unknown
unfolding word_of dashed
dash_alone = refl

-- an empty argument is a name, which no file has
pub empty-is_name : word_of [] ≡ Name
unfolding word_of dashed
empty-is_name = refl

-- what no dash leads is a name
pub no_dash-is_name : (x : ℕ) (s : List ℕ) → (x ≡ dash → ⊥) → word_of (x ∷ s) ≡ Name
unfolding word_of dashed
no_dash-is_name x s h = rw (ne_eqb x dash h)

-- one that a dash leads and that is no switch is unknown
pub dash-is_unknown : (s : List ℕ) → (dash ∷ s ≡ plain_switch → ⊥) → (dash ∷ s ≡ help_switch → ⊥) → word_of (dash ∷ s) ≡ Unknown
unfolding word_of dashed
dash-is_unknown s h k = rw (differ_same (dash ∷ s) plain_switch h, differ_same (dash ∷ s) help_switch k)

-- ---- more arguments

-- arguments in two lots
pub after_join : (a : Asked) (at : ℕ) (ss ts : List (List ℕ)) → after_all a at (ss ++ ts) ≡ after_all (after_all a at ss) (at + length ss) ts
unfolding after_all
after_join a at [] ts = ap (λ (n : ℕ). after_all a n ts) (omega arith)
after_join a at (s ∷ ss) ts =
    after_join (after a (word_of s) at) (suc at) ss ts
    ∙ ap (λ (n : ℕ). after_all (after_all (after a (word_of s) at) (suc at) ss) n ts) (omega arith)

-- usage is final
pub usage_stays : (at : ℕ) (ss : List (List ℕ)) → after_all Usage at ss ≡ Usage
unfolding after_all after
usage_stays at [] = refl
usage_stays at (s ∷ ss) = usage_stays (suc at) ss

-- a refusal is final, and the argument that it names
pub refused_stays : (first at : ℕ) (ss : List (List ℕ)) → after_all (Refused first) at ss ≡ Refused first
unfolding after_all after
refused_stays first at [] = refl
refused_stays first at (s ∷ ss) = refused_stays first (suc at) ss

-- what is decided stays so, whatever comes behind
pub decided_stays : (ss ts : List (List ℕ)) → runs (asked ss) ≡ false → asked (ss ++ ts) ≡ asked ss
unfolding asked runs
decided_stays ss ts h = after_join nothing 1 ss ts ∙ stays (after_all nothing 1 ss) (1 + length ss) h
  where
    stays : (a : Asked) (at : ℕ) → runs a ≡ false → after_all a at ts ≡ a
    stays (Input e) at k = absurd (false≢true (sym k))
    stays (Files o) at k = absurd (false≢true (sym k))
    stays Usage at k = usage_stays at ts
    stays (Refused first) at k = refused_stays first at ts

-- behind arguments that run something, one that a dash leads and that is no switch refuses, though help be asked for behind it
pub dash-refuses : (ss : List (List ℕ)) (s : List ℕ) (ts : List (List ℕ)) → runs (asked ss) ≡ true
    → (dash ∷ s ≡ plain_switch → ⊥) → (dash ∷ s ≡ help_switch → ⊥) → asked (ss ++ (dash ∷ s) ∷ ts) ≡ Refused (1 + length ss)
unfolding asked runs after_all after after_switches after_files
dash-refuses ss s ts h p q = after_join nothing 1 ss ((dash ∷ s) ∷ ts) ∙ by (after_all nothing 1 ss) (1 + length ss) h
  where
    by : (a : Asked) (at : ℕ) → runs a ≡ true → after_all a at ((dash ∷ s) ∷ ts) ≡ Refused at
    by (Input g) at k = rw (dash-is_unknown s p q) (refused_stays at (suc at) ts)
    by (Files o) at k = rw (dash-is_unknown s p q) (refused_stays at (suc at) ts)
    by Usage at k = absurd (false≢true k)
    by (Refused first) at k = absurd (false≢true k)

-- help is given, though a refused one come behind it
pub help_is_given : (ss : List (List ℕ)) (ts : List (List ℕ)) → runs (asked ss) ≡ true → asked (ss ++ help_switch ∷ ts) ≡ Usage
unfolding asked runs after_all after after_switches after_files
help_is_given ss ts h = after_join nothing 1 ss (help_switch ∷ ts) ∙ by (after_all nothing 1 ss) (1 + length ss) h
  where
    by : (a : Asked) (at : ℕ) → runs a ≡ true → after_all a at (help_switch ∷ ts) ≡ Usage
    by (Input g) at k = rw help_is_switch (usage_stays (suc at) ts)
    by (Files o) at k = rw help_is_switch (usage_stays (suc at) ts)
    by Usage at k = absurd (false≢true k)
    by (Refused first) at k = absurd (false≢true k)

-- a switch behind a file's name refuses
pub late_switch_refuses : (ss : List (List ℕ)) (o : Order) (ts : List (List ℕ)) → asked ss ≡ Files o
    → asked (ss ++ plain_switch ∷ ts) ≡ Refused (1 + length ss)
unfolding asked after_all after after_files
late_switch_refuses ss o ts e =
    after_join nothing 1 ss (plain_switch ∷ ts)
    ∙ rw (e, plain-is_switch) (refused_stays (1 + length ss) (suc (1 + length ss)) ts)

-- ---- switches, and then names

-- each is a name
abbrev pub Names : List (List ℕ) → Type 0
Names [] = Unit {0}
Names (s ∷ ss) = (word_of s ≡ Name) × Names ss

-- the engine behind so many switches
abbrev pub chosen : ℕ → Engine
chosen zero = engine.Quick
chosen (suc n) = engine.Plain

-- names behind a name change nothing
names_kept : (o : Order) (at : ℕ) (ss : List (List ℕ)) → Names ss → after_all (Files o) at ss ≡ Files o
unfolding after_all after after_files
names_kept o at [] h = refl
names_kept o at (s ∷ ss) h = rw h.0 (names_kept o (suc at) ss h.1)

-- switches behind a switch change nothing
plains_read : (n at : ℕ) → after_all (Input engine.Plain) at (replicate n plain_switch) ≡ Input engine.Plain
unfolding after_all after after_switches
plains_read zero at = refl
plains_read (suc n) at =
    ap (λ (w : Word). after_all (after (Input engine.Plain) w at) (suc at) (replicate n plain_switch)) plain-is_switch
    ∙ plains_read n (suc at)

-- switches alone: standard input, by the engine they say
pub switches_alone : (n : ℕ) → asked (replicate n plain_switch) ≡ Input (chosen n)
unfolding asked nothing after_all after after_switches
switches_alone zero = refl
switches_alone (suc n) =
    ap (λ (w : Word). after_all (after nothing w 1) 2 (replicate n plain_switch)) plain-is_switch ∙ plains_read n 2

-- so many switches
length_plains : (n : ℕ) → length (replicate n plain_switch) ≡ n
length_plains zero = refl
length_plains (suc n) = ap suc (length_plains n)

-- what stands behind so many switches
drop_plains : (n : ℕ) (ss : List (List ℕ)) → drop n (replicate n plain_switch ++ ss) ≡ ss
drop_plains zero ss = refl
drop_plains (suc n) ss = drop_plains n ss

-- switches and then names: by the engine they say, from the first name on
pub switches_and_names : (n : ℕ) (s : List ℕ) (ss : List (List ℕ)) → Names (s ∷ ss)
    → asked (replicate n plain_switch ++ s ∷ ss) ≡ Files (record { engine = chosen n; first = 1 + n })
unfolding asked after_all after after_switches
switches_and_names n s ss h =
    after_join nothing 1 (replicate n plain_switch) (s ∷ ss)
    ∙ rw (switches_alone n, length_plains n, h.0) (names_kept (record { engine = chosen n; first = 1 + n }) (suc (1 + n)) ss h.1)

-- exactly these names are run
pub runs_the_names : (n : ℕ) (ss : List (List ℕ)) → Names ss
    → files_run (asked (replicate n plain_switch ++ ss)) (replicate n plain_switch ++ ss) ≡ ss
unfolding files_run asked after_all
runs_the_names n [] h = rw (after_join nothing 1 (replicate n plain_switch) [], switches_alone n)
runs_the_names n (s ∷ ss) h =
    let e : 1 + n - 1 ≡ n = omega arith in
    rw (switches_and_names n s ss h, e) (drop_plains n (s ∷ ss))

-- ---- only names are run

-- where the usage is printed, no file is run
usage_runs-none : (o : Order) (at : ℕ) (ss : List (List ℕ)) → (after_all Usage at ss ≡ Files o → ⊥)
unfolding runs
usage_runs-none o at ss e = false≢true (ap runs (sym (usage_stays at ss) ∙ e))

-- where an argument is refused, no file is run
refused-runs-none : (o : Order) (first at : ℕ) (ss : List (List ℕ)) → (after_all (Refused first) at ss ≡ Files o → ⊥)
unfolding runs
refused-runs-none o first at ss e = false≢true (ap runs (sym (refused_stays first at ss) ∙ e))

-- behind a name only names run something, and it is the same
names_behind : (o p : Order) (at : ℕ) (ss : List (List ℕ)) → after_all (Files o) at ss ≡ Files p → Names ss × (Files o ≡ Files p)
unfolding after_all after after_files
names_behind o p at [] e = (tt, e)
names_behind o p at (s ∷ ss) e = by (word_of s) refl (λ k. names_behind o p (suc at) ss k) e
  where
    by : (w : Word) → word_of s ≡ w → (after_all (Files o) (suc at) ss ≡ Files p → Names ss × (Files o ≡ Files p))
        → after_all (after_files o w at) (suc at) ss ≡ Files p → Names (s ∷ ss) × (Files o ≡ Files p)
    by Plain h f k = absurd (refused-runs-none p at (suc at) ss k)
    by Help h f k = absurd (usage_runs-none p (suc at) ss k)
    by Unknown h f k = absurd (refused-runs-none p at (suc at) ss k)
    by Name h f k = ((h, (f k).0), (f k).1)

-- the number of the first file
first_of : Asked → ℕ
first_of (Input e) = 0
first_of (Files o) = o.first
first_of Usage = 0
first_of (Refused first) = 0

-- from the first file on there are names
From : ℕ → List (List ℕ) → Order → Type 0
From at ss o = (at ≤ o.first) × Names (drop (o.first - at) ss)

-- standard input is no file that is named
input_is_no_file : (g : Engine) (o : Order) → (Input g ≡ Files o → ⊥)
input_is_no_file g o e = false≢true (ap is_files e)
  where
    is_files : Asked → Bool
    is_files (Input g) = false
    is_files (Files o) = true
    is_files Usage = false
    is_files (Refused first) = false

-- one argument before them
later : (at : ℕ) (s : List ℕ) (ss : List (List ℕ)) (o : Order) → From (suc at) ss o → From at (s ∷ ss) o
unfolding From
later at s ss o r =
    let e : o.first - at ≡ suc (o.first - suc at) = omega (arith, r.0) in
    (omega (arith, r.0), rw e r.1)

-- the first of them leads
here : (at : ℕ) (s : List ℕ) (ss : List (List ℕ)) (o : Order) → o.first ≡ at → Names (s ∷ ss) → From at (s ∷ ss) o
unfolding From
here at s ss o h n =
    let e : o.first - at ≡ 0 = omega (arith, h) in
    (omega (arith, h), rw e n)

-- behind switches, only names are run, and all of them from the first on
names_from : (g : Engine) (o : Order) (at : ℕ) (ss : List (List ℕ)) → after_all (Input g) at ss ≡ Files o → From at ss o
unfolding after_all after after_switches first_of
names_from g o at [] e = absurd (input_is_no_file g o e)
names_from g o at (s ∷ ss) e = by (word_of s) refl (λ k. names_from engine.Plain o (suc at) ss k) e
  where
    by : (w : Word) → word_of s ≡ w → (after_all (Input engine.Plain) (suc at) ss ≡ Files o → From (suc at) ss o)
        → after_all (after_switches g w at) (suc at) ss ≡ Files o → From at (s ∷ ss) o
    by Plain h f k = later at s ss o (f k)
    by Help h f k = absurd (usage_runs-none o (suc at) ss k)
    by Unknown h f k = absurd (refused-runs-none o at (suc at) ss k)
    by Name h f k =
        let r = names_behind (record { engine = g; first = at }) o (suc at) ss k in
        here at s ss o (sym (ap first_of r.1)) (h, r.0)

-- where files are run, each is a name: nothing that a dash leads is opened
pub only_names_run : (o : Order) (ss : List (List ℕ)) → asked ss ≡ Files o → Names (files_run (asked ss) ss)
unfolding asked nothing files_run From
only_names_run o ss e = rw e (names_from engine.Quick o 1 ss e).1
