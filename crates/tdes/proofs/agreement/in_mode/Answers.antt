-- `in_mode`: what each mode says of a text. Assumes nothing.
use Rattle.tdes.specs.Turns.{mode_text}
use Rattle.tdes.proofs.agreement.in_mode.Goals as goal

pub returns-in-Ecb : goal.returns-in-Ecb
unfolding mode_text
returns-in-Ecb c = rw c.in-Ecb.is c.ecb.ensures

pub returns-in-CbcEncipher : goal.returns-in-CbcEncipher
unfolding mode_text
returns-in-CbcEncipher c = rw c.in-CbcEncipher.is c.cbc_encipher.ensures

pub returns-in-CbcDecipher : goal.returns-in-CbcDecipher
unfolding mode_text
returns-in-CbcDecipher c = rw c.in-CbcDecipher.is c.cbc_decipher.ensures
