-- `cipher` is the composition of its parts; what is selected from is a list of bits, as a sum modulo 2 is. Assumes nothing.
use Rattle.std.proofs.Common.{ℕ, rules, List, ap, ◌∙◌}
use Rattle.des_spec.specs.Bits.{binaries, xor}
use Rattle.des_spec.specs.Tables.{E, P, S}
use Rattle.des_spec.specs.Des.{permute, selects, cipher}
use Rattle.des_spec.proofs.Ranges.{bits-xor}
use Rattle.des_spec.proofs.Permutations.{names}
use Rattle.des.proofs.selection.cipher.Goals as goal

pub permute-expanded-requires : goal.permute-expanded-requires
permute-expanded-requires c = (search rules, (search rules, names 32 _ _ tt (search rules)))

pub selects-entries-requires : goal.selects-entries-requires
selects-entries-requires c = rw c.xor.ensures (bits-xor _ _)

pub permute-requires : goal.permute-requires
permute-requires c = (search rules, (search rules, names 32 _ _ tt (search rules)))

pub returns : goal.returns
unfolding cipher E P
returns c =
    let sum = c.xor.ensures ∙ ap (λ (e : List ℕ). xor e c.args.key) c.permute-expanded.ensures in
    let entries = c.selects-entries.ensures ∙ ap (selects S) sum in
    c.permute.ensures ∙ ap (permute P) (c.binaries.ensures ∙ ap (binaries 4) entries)
