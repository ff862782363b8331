-- `pack`: eight pieces in a buffer. Assumes nothing.
use mathlib.Core.Path.{◌≡◌, refl, ap, ◌∙◌}
use lib.ListN.{length}
use Rattle.octets.specs.declared.buffer.Buffer.{Buffer}
use Rattle.octets.proofs.Holding.{none, step}
use Rattle.session.specs.Packing.{packed}
use borrow.Author.Rules.{rules}
use Rattle.session.proofs.Session.pack.Goals as goal

pub returns : goal.returns
unfolding packed
returns c =
    let s = c.args.self.now in
    let enc_size : length s.channel.enc ≡ 16 = search rules in
    let mac_size : length s.channel.mac ≡ 16 = search rules in
    let cmac_size : length s.channel.cmac ≡ 8 = search rules in
    let rmac_size : length s.channel.rmac ≡ 8 = search rules in
    let offer_enc_size : length s.offer.enc ≡ 16 = search rules in
    let offer_mac_size : length s.offer.mac ≡ 16 = search rules in
    let expected_size : length s.offer.expected ≡ 8 = search rules in
    let h1 = step c.heading.result 8 c.of-buffer.ensures (none _ refl) (ap length c.heading.ensures) tt in
    let h2 = step s.channel.enc 16 c.append.ensures h1 enc_size tt in
    let h3 = step s.channel.mac 16 c.append-2.ensures h2 mac_size tt in
    let h4 = step s.channel.cmac 8 c.append-3.ensures h3 cmac_size tt in
    let h5 = step s.channel.rmac 8 c.append-4.ensures h4 rmac_size tt in
    let h6 = step s.offer.enc 16 c.append-5.ensures h5 offer_enc_size tt in
    let h7 = step s.offer.mac 16 c.append-6.ensures h6 offer_mac_size tt in
    let h8 = step s.offer.expected 8 c.append-7.ensures h7 expected_size tt in
    ap (λ (b : Buffer). b.bytes) h8.is ∙ rw (h8.size, c.heading.ensures)
