use Rattle.std.proofs.Common.{◌/◌, ◌%◌, ◌≡◌, ◌∙◌, refl, sym, arith}
use Rattle.counts.specs.Counts.{uniform_bits}
use Rattle.literals.specs.Words.{raw_bits}
use Rattle.literals.proofs.Words.{bits_most}
use Rattle.listing.proofs.raw_bits.Goals as goal

pub returns-in-2 : goal.returns-in-2
unfolding raw_bits
returns-in-2 c =
    let w = c.args.word in
    let sent : c.uniform_bits.result ≡ uniform_bits (w % 65536) (w / 65536 % 256) = c.uniform_bits.ensures in
    let e : c.uniform_bits.result ≡ raw_bits w = sent ∙ sym (rw c.in-2.is refl) in
    (e, omega (arith, e, bits_most w))
