-- `key_words`: sixteen round keys, each with all the shifts up to its own. Assumes nothing.
use Prim.Native.Nat.{ℕ, ◌/◌, ◌%◌, ◌^◌}
use mathlib.Core.Path.{ap, ◌∙◌}
use lib.Dec.{lit<}
use Rattle.des_spec.specs.Des.{keys_from}
use Rattle.des_spec.specs.Tables.{shifts}
use Rattle.quick.proofs.Keys.{scheduled, halves, ready}
use Rattle.quick.proofs.schedule.key_words.Goals as goal

pub key_word-requires : goal.key_word-requires
key_word-requires c = ready c.ranges.z.fits (lit< tt)

pub key_word-requires-2 : goal.key_word-requires-2
key_word-requires-2 c = ready c.ranges.z.fits (lit< tt)

pub key_word-requires-3 : goal.key_word-requires-3
key_word-requires-3 c = ready c.ranges.z.fits (lit< tt)

pub key_word-requires-4 : goal.key_word-requires-4
key_word-requires-4 c = ready c.ranges.z.fits (lit< tt)

pub key_word-requires-5 : goal.key_word-requires-5
key_word-requires-5 c = ready c.ranges.z.fits (lit< tt)

pub key_word-requires-6 : goal.key_word-requires-6
key_word-requires-6 c = ready c.ranges.z.fits (lit< tt)

pub key_word-requires-7 : goal.key_word-requires-7
key_word-requires-7 c = ready c.ranges.z.fits (lit< tt)

pub key_word-requires-8 : goal.key_word-requires-8
key_word-requires-8 c = ready c.ranges.z.fits (lit< tt)

pub key_word-requires-9 : goal.key_word-requires-9
key_word-requires-9 c = ready c.ranges.z.fits (lit< tt)

pub key_word-requires-10 : goal.key_word-requires-10
key_word-requires-10 c = ready c.ranges.z.fits (lit< tt)

pub key_word-requires-11 : goal.key_word-requires-11
key_word-requires-11 c = ready c.ranges.z.fits (lit< tt)

pub key_word-requires-12 : goal.key_word-requires-12
key_word-requires-12 c = ready c.ranges.z.fits (lit< tt)

pub key_word-requires-13 : goal.key_word-requires-13
key_word-requires-13 c = ready c.ranges.z.fits (lit< tt)

pub key_word-requires-14 : goal.key_word-requires-14
key_word-requires-14 c = ready c.ranges.z.fits (lit< tt)

pub key_word-requires-15 : goal.key_word-requires-15
key_word-requires-15 c = ready c.ranges.z.fits (lit< tt)

pub key_word-requires-16 : goal.key_word-requires-16
key_word-requires-16 c = ready c.ranges.z.fits (lit< tt)

pub returns : goal.returns
returns c =
    let z : ℕ = c.args.z in
    scheduled (z / 2 ^ 36) (z / 2 ^ 4 % 2 ^ 28)
    c.key_word.result c.key_word-2.result c.key_word-3.result c.key_word-4.result c.key_word-5.result
    c.key_word-6.result c.key_word-7.result c.key_word-8.result c.key_word-9.result c.key_word-10.result
    c.key_word-11.result c.key_word-12.result c.key_word-13.result c.key_word-14.result c.key_word-15.result c.key_word-16.result
    c.key_word.ensures c.key_word-2.ensures c.key_word-3.ensures c.key_word-4.ensures c.key_word-5.ensures
    c.key_word-6.ensures c.key_word-7.ensures c.key_word-8.ensures c.key_word-9.ensures c.key_word-10.ensures
    c.key_word-11.ensures c.key_word-12.ensures c.key_word-13.ensures c.key_word-14.ensures c.key_word-15.ensures c.key_word-16.ensures
    ∙ ap (keys_from shifts) (halves z)
