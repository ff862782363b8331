-- The program's arguments: what the bytes of one are, and what is asked for behind each, from left to right. Assumes nothing.
use Rattle.std.specs.Prelude.{ℕ, suc, ◌-◌, Bool, true, false, List, [], ◌∷◌, eqb, drop}
use Rattle.octets.specs.Choice.{pick}
use Rattle.octets.specs.Bytes.{byte_at, same}
use Rattle.tdes.specs.declared.engine.Engine.{Engine}
use Rattle.tdes.specs.declared.engine.Engine.TheVariants as engine
use Rattle.bench.specs.declared.arguments.Word.{Word}
use Rattle.bench.specs.declared.arguments.Word.TheVariants.{Plain, Help, Unknown, Name}
use Rattle.bench.specs.declared.arguments.Order.{Order}
use Rattle.bench.specs.declared.arguments.Asked.{Asked}
use Rattle.bench.specs.declared.arguments.Asked.TheVariants.{Input, Files, Usage, Refused}

-- "-"
abbrev pub dash : ℕ
dash = 0x2D

-- "--plain"
abbrev pub plain_switch : List ℕ
plain_switch = dash ∷ dash ∷ 0x70 ∷ 0x6C ∷ 0x61 ∷ 0x69 ∷ 0x6E ∷ []

-- "--help"
abbrev pub help_switch : List ℕ
help_switch = dash ∷ dash ∷ 0x68 ∷ 0x65 ∷ 0x6C ∷ 0x70 ∷ []

-- whether a dash leads the bytes
unfoldable pub dashed : List ℕ → Bool
dashed s = eqb (byte_at s 0) dash

-- what an argument's bytes are
unfoldable pub word_of : List ℕ → Word
word_of s =
    pick (same s plain_switch) Plain
    (pick (same s help_switch) Help
    (pick (dashed s) Unknown
    Name))

-- what is asked for before the first argument: standard input, by the quick engine
unfoldable pub nothing : Asked
nothing = Input engine.Quick

-- one argument more behind switches alone: the engine so far, the argument, its number
unfoldable pub after_switches : Engine → Word → ℕ → Asked
after_switches e Plain at = Input engine.Plain
after_switches e Help at = Usage
after_switches e Unknown at = Refused at
after_switches e Name at = Files (record { engine = e; first = at })

-- one argument more behind a file's name: no switch is taken there
unfoldable pub after_files : Order → Word → ℕ → Asked
after_files o Plain at = Refused at
after_files o Help at = Usage
after_files o Unknown at = Refused at
after_files o Name at = Files o

-- one argument more: usage and refusal are final
unfoldable pub after : Asked → Word → ℕ → Asked
after (Input e) w at = after_switches e w at
after (Files o) w at = after_files o w at
after Usage w at = Usage
after (Refused first) w at = Refused first

-- many arguments more, the first of them of this number
unfoldable pub after_all : Asked → ℕ → List (List ℕ) → Asked
after_all a at [] = a
after_all a at (s ∷ ss) = after_all (after a (word_of s) at) (suc at) ss

-- what arguments ask for; they are counted from 1
unfoldable pub asked : List (List ℕ) → Asked
asked ss = after_all nothing 1 ss

-- the files that are run, of these arguments
unfoldable pub files_run : Asked → List (List ℕ) → List (List ℕ)
files_run (Input e) ss = []
files_run (Files o) ss = drop (o.first - 1) ss
files_run Usage ss = []
files_run (Refused at) ss = []

-- whether something is run
unfoldable pub runs : Asked → Bool
runs (Input e) = true
runs (Files o) = true
runs Usage = false
runs (Refused at) = false
