-- `pin_data`: by the length of the data. Assumes nothing.
use Rattle.commands.proofs.Bodies.{signed-size, signed_body}
use Rattle.apdu.specs.declared.instructions.Signed.TheVariants.{PinChange}
use Rattle.commands.proofs.signed.pin_data.Goals as goal

pub returns : goal.returns
returns c =
    let q = c.args.request.now in
    rw (← signed_body _ _ q.parsed 8 (signed-size PinChange _ c.requires c.if-request-eq-MAC_SIZE.false), ← c.data.ensures) c.change_pin.ensures
