use native.Mathlib.Omega.{arith}
use Rattle.counts.proofs.Uniform.{uniform_any}
use Rattle.cells.proofs.uniform.Goals as goal

pub overflow_cast-result : goal.overflow_cast-result
overflow_cast-result c =
    omega (arith, c.uniform_bits.ensures, c.from-2.ensures, uniform_any c.from.result c.from-2.result 4 (omega (arith, c.from-2.ensures, c.requires)))
