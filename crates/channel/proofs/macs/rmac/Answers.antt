-- `rmac`: the text's front is signed. Assumes nothing.
use Prim.Native.Nat.{ℕ, ◌+◌}
use mathlib.Core.List.{List, ◌++◌}
use mathlib.Core.Path.{◌≡◌, refl, sym, ap, ◌∙◌}
use native.Mathlib.Omega.{arith}
use lib.ListN.{length, length-take}
use Rattle.octets.specs.declared.buffer.Buffer.{Buffer}
use Rattle.octets.specs.Bytes.{zeros, paste}
use Rattle.octets.specs.Words.{word}
use Rattle.octets.specs.Buffers.{content}
use Rattle.channel.specs.Channel.{rmac_of}
use Rattle.channel.proofs.Laying.{Laid, front, laid_long, answer_laid}
use borrow.Author.Rules.{rules}
use Rattle.channel.proofs.macs.rmac.Goals as goal

-- what the text says, by what each piece's laying ensures
laid : (cmac x a1 a2 a3 : List ℕ) (body : Buffer) → length cmac ≡ 8 → length body.bytes ≡ 128 → x ≡ content body
    → a1 ≡ paste (zeros 138) 0 cmac → a2 ≡ paste a1 8 x → a3 ≡ paste a2 (8 + length x) (word 0x9000)
    → Laid (zeros 138) a3 (cmac ++ x ++ word 0x9000) (8 + length x + 2)
laid cmac x a1 a2 a3 body h k e = answer_laid (zeros 138) cmac x a1 a2 a3 refl h (rw e (simp length-take (omega arith)))

pub slice_bounds-text-end : goal.slice_bounds-text-end
slice_bounds-text-end c =
    let t = laid c.args.cmac _ _ _ _ c.args.body (search rules) (search rules) c.as_slice-bytes.ensures c.paste.ensures c.paste-2.ensures c.paste-3.ensures in
    omega (arith, t.fits, laid_long t)

pub slice_bounds-signature-end : goal.slice_bounds-signature-end
slice_bounds-signature-end c =
    let t = laid c.args.cmac _ _ _ _ c.args.body (search rules) (search rules) c.as_slice-bytes.ensures c.paste.ensures c.paste-2.ensures c.paste-3.ensures in
    sym (ap length (front t) ∙ t.size)

pub returns : goal.returns
unfolding rmac_of
returns c =
    let t = laid c.args.cmac _ _ _ _ c.args.body (search rules) (search rules) c.as_slice-bytes.ensures c.paste.ensures c.paste-2.ensures c.paste-3.ensures in
    rw (← c.as_slice-bytes.ensures, ← front t) c.signature.ensures
