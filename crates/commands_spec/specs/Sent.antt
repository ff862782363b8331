-- A command as a terminal sends it, byte by byte. The laws on what is never refused are stated with it, so that they speak of bytes and
-- not of the definitions by which a command is read. Assumes nothing.
use Rattle.std.specs.Prelude.{List, ◌∷◌, ◌++◌, ℕ, ◌+◌, length}
use Rattle.octets.specs.Words.{word}
use Rattle.des_spec.specs.Modes.{signature}
use Rattle.session.specs.declared.Session.{Session}

-- header, Lc, data, and Le if there is one
unfoldable pub plain_command : ℕ → ℕ → ℕ → ℕ → List ℕ → List ℕ → List ℕ
plain_command cla ins p1 p2 body le = cla ∷ ins ∷ p1 ∷ p2 ∷ length body ∷ body ++ le

-- header, and Le if there is one
unfoldable pub bare_command : ℕ → ℕ → ℕ → ℕ → List ℕ → List ℕ
bare_command cla ins p1 p2 le = cla ∷ ins ∷ p1 ∷ p2 ∷ le

-- what a C-MAC covers: "the five header bytes (Lc counting the MAC) and the data before it"
unfoldable pub signed_text : ℕ → ℕ → ℕ → ℕ → List ℕ → List ℕ
signed_text cla ins p1 p2 body = cla ∷ ins ∷ p1 ∷ p2 ∷ (length body + 8) ∷ body

-- a command with the C-MAC that a key and a start value give: the text, the C-MAC, and Le if there is one
unfoldable pub signed_by : List ℕ → List ℕ → ℕ → ℕ → ℕ → ℕ → List ℕ → List ℕ → List ℕ
signed_by key start cla ins p1 p2 body le =
    let text = signed_text cla ins p1 p2 body in
    text ++ signature key start text ++ le

-- a rightly signed command in a session: "MAC key", "then the last accepted C-MAC"
unfoldable pub signed_command : Session → ℕ → ℕ → ℕ → ℕ → List ℕ → List ℕ → List ℕ
signed_command s cla ins p1 p2 body le = signed_by s.channel.mac s.channel.cmac cla ins p1 p2 body le

-- its C-MAC
unfoldable pub next_mac : Session → List ℕ → List ℕ
next_mac s text = signature s.channel.mac s.channel.cmac text

-- INITIALIZE TRANSACTION: 94 44, P1, 00; currency, amount
abbrev pub initialization : Session → ℕ → ℕ → ℕ → List ℕ → List ℕ
initialization s p1 currency amount le = signed_command s 0x94 0x44 p1 0x00 (word currency ++ word amount) le

-- COMPLETE TRANSACTION: 94 46 00 00; context
abbrev pub completion : Session → List ℕ → List ℕ → List ℕ
completion s context le = signed_command s 0x94 0x46 0x00 0x00 context le
