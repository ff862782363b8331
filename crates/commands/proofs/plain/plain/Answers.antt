-- `plain`: by the command; its data are as long as its length test says. Assumes nothing.
use Rattle.commands.proofs.Bodies.{plain_size, plain_body}
use Rattle.commands_spec.specs.Respond.{plain_of}
use Rattle.apdu.specs.declared.instructions.Plain.TheVariants.{InitializeUpdate, ExternalAuthenticate, VerifyPin}
use Rattle.apdu.specs.Lengths.{plain_length}
use native.Mathlib.Omega.{arith}
use mathlib.Core.Path.{◌≡◌}
use mathlib.Core.Bool.{true}
use Rattle.commands.proofs.plain.plain.Goals as goal

pub returns-in-InitializeUpdate : goal.returns-in-InitializeUpdate
unfolding plain_of
returns-in-InitializeUpdate c =
    let q = c.args.request.now in
    let t = c.in-InitializeUpdate.is in
    let n : plain_length InitializeUpdate q.header.lc ≡ true = rw (← t) c.requires in
    rw (t, ← plain_body _ _ q.parsed 8 (omega arith) (plain_size InitializeUpdate _ n), ← c.data.ensures) c.initialize_update.ensures

pub returns-in-ExternalAuthenticate : goal.returns-in-ExternalAuthenticate
unfolding plain_of
returns-in-ExternalAuthenticate c =
    let q = c.args.request.now in
    let t = c.in-ExternalAuthenticate.is in
    let n : plain_length ExternalAuthenticate q.header.lc ≡ true = rw (← t) c.requires in
    rw (t, ← plain_body _ _ q.parsed 16 (omega arith) (plain_size ExternalAuthenticate _ n), ← c.data-in-ExternalAuthenticate.ensures) c.external_authenticate.ensures

pub returns-in-VerifyPin : goal.returns-in-VerifyPin
unfolding plain_of
returns-in-VerifyPin c =
    let q = c.args.request.now in
    let t = c.in-VerifyPin.is in
    let n : plain_length VerifyPin q.header.lc ≡ true = rw (← t) c.requires in
    rw (t, ← plain_body _ _ q.parsed 8 (omega arith) (plain_size VerifyPin _ n), ← c.data-in-VerifyPin.ensures) c.verify_pin.ensures
