-- What the calls answer and leave in their area. An engine is 0, plain, or 1, quick; no result depends on which. Assumes nothing.
use Rattle.std.specs.Prelude.{not, List, ℕ, ◌*◌, ltb, eqb, length}
use Rattle.octets.specs.Choice.{pick}
use Rattle.octets.specs.Bytes.{paste}
use Rattle.des_spec.specs.Des.{encipher}
use Rattle.des_spec.specs.Modes.{blocks, cbc_text, signature}
use Rattle.tdes.specs.Single.{des_text, des_each}

-- the answer, and the area afterwards
pub record Called : Type 0 where
  pub answer : ℕ
  pub area : List ℕ

-- of an answer and an area
abbrev pub called : ℕ → List ℕ → Called
called answer area = record { answer = answer; area = area }

-- an engine, a key of 16 bytes and a start value of 8
unfoldable pub cbc_call : ℕ → List ℕ → List ℕ → List ℕ → Called
cbc_call engine key start text =
    pick (ltb 1 engine) (called 0 text)
    (pick (not (eqb (length key) 16)) (called 0 text)
    (pick (not (eqb (length start) 8)) (called 0 text)
    (called (blocks text) (cbc_text encipher key start text))))

-- and an area of 8 bytes or more
unfoldable pub signature_call : ℕ → List ℕ → List ℕ → List ℕ → List ℕ → Called
signature_call engine key start text out =
    pick (ltb 1 engine) (called 0 out)
    (pick (not (eqb (length key) 16)) (called 0 out)
    (pick (not (eqb (length start) 8)) (called 0 out)
    (pick (ltb (length out) 8) (called 0 out)
    (called 8 (paste out 0 (signature key start text))))))

-- an engine and a key of 8 bytes
unfoldable pub des_call : ℕ → List ℕ → List ℕ → Called
des_call engine key text =
    pick (ltb 1 engine) (called 0 text)
    (pick (not (eqb (length key) 8)) (called 0 text)
    (called (blocks text) (des_text encipher key text)))

-- an engine and 8 bytes of keys a block
unfoldable pub des_each_call : ℕ → List ℕ → List ℕ → Called
des_each_call engine keys text =
    pick (ltb 1 engine) (called 0 text)
    (pick (not (eqb (length keys) (8 * blocks text))) (called 0 text)
    (called (blocks text) (des_each encipher keys text)))
