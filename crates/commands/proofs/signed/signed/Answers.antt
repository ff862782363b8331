-- `signed`: by the command; its data lie before the C-MAC, and are as long as its length test says. Assumes nothing.
use Rattle.commands.proofs.Bodies.{signed-size, signed-least, signed_body, mac-within}
use Rattle.commands_spec.specs.Respond.{signed_of}
use Rattle.apdu.specs.declared.instructions.Signed.TheVariants.{PutKey, InitializeTransaction, CompleteTransaction}
use Rattle.apdu.specs.Lengths.{signed_length}
use native.Mathlib.Omega.{arith}
use mathlib.Core.Path.{◌≡◌}
use mathlib.Core.Bool.{true}
use Rattle.commands.proofs.signed.signed.Goals as goal

pub overflow_add-n : goal.overflow_add-n
overflow_add-n c =
    omega (arith, c.requires.data, mac-within _ _ c.args.request.now.parsed (signed-least _ _ c.requires.length))

pub slice_bounds-store_data-end : goal.slice_bounds-store_data-end
slice_bounds-store_data-end c =
    omega (arith, c.requires.data, mac-within _ _ c.args.request.now.parsed (signed-least _ _ c.requires.length))

pub overflow_add-n-in-PutData : goal.overflow_add-n-in-PutData
overflow_add-n-in-PutData c =
    omega (arith, c.requires.data, mac-within _ _ c.args.request.now.parsed (signed-least _ _ c.requires.length))

pub slice_bounds-put_data-end : goal.slice_bounds-put_data-end
slice_bounds-put_data-end c =
    omega (arith, c.requires.data, mac-within _ _ c.args.request.now.parsed (signed-least _ _ c.requires.length))

pub returns-in-PutKey : goal.returns-in-PutKey
unfolding signed_of
returns-in-PutKey c =
    let q = c.args.request.now in
    let t = c.in-PutKey.is in
    let n : signed_length PutKey q.header.lc ≡ true = rw (← t) c.requires.length in
    rw (t, ← signed_body _ _ q.parsed 48 (signed-size PutKey _ n), ← c.data.ensures) c.put_key.ensures

pub returns-in-InitializeTransaction : goal.returns-in-InitializeTransaction
unfolding signed_of
returns-in-InitializeTransaction c =
    let q = c.args.request.now in
    let t = c.in-InitializeTransaction.is in
    let n : signed_length InitializeTransaction q.header.lc ≡ true = rw (← t) c.requires.length in
    rw (t, ← signed_body _ _ q.parsed 4 (signed-size InitializeTransaction _ n), ← c.data-in-InitializeTransaction.ensures) c.initialize_transaction.ensures

pub returns-in-CompleteTransaction : goal.returns-in-CompleteTransaction
unfolding signed_of
returns-in-CompleteTransaction c =
    let q = c.args.request.now in
    let t = c.in-CompleteTransaction.is in
    let n : signed_length CompleteTransaction q.header.lc ≡ true = rw (← t) c.requires.length in
    rw (t, ← signed_body _ _ q.parsed 16 (signed-size CompleteTransaction _ n), ← c.data-in-CompleteTransaction.ensures) c.complete_transaction.ensures
