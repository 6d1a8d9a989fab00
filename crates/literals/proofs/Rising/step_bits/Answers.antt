use mathlib.Core.Path.{◌≡◌, refl}
use Rattle.literals.specs.Literals.{step_bits}
use Rattle.literals.proofs.Widths.{step_bits_least, step_bits_most}
use Rattle.literals.proofs.Rising.step_bits.Goals as goal

pub returns : goal.returns
unfolding step_bits
returns c =
    let s = c.args.self.now in
    let bits : c.max.result ≡ step_bits s.bd s.first.0 s.rest.now =
    rw (c.max.ensures, c.ceil_log2.ensures, c.largest_step.ensures) refl in
    (bits, rw bits (step_bits_least s.bd s.first.0 s.rest.now), rw bits (step_bits_most s.bd s.first.0 s.rest.now s.levels))
