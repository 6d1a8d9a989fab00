use Rattle.reader.proofs.Steps.{passed_on}
use Rattle.read_colors.proofs.Bits.{bit_fault, bit_one, bit_none}
use Rattle.read_colors.proofs.read_bit.Goals as goal

pub returns-in_err-bit-clause-reads : goal.returns-in_err-bit-clause-reads
returns-in_err-bit-clause-reads c = passed_on _ _ _ _ _ c.from_residual.ensures.1 (bit_fault _ _ _ _ c.in_err-bit.ensures.reads)

pub returns-then-bit-eq1-clause-reads : goal.returns-then-bit-eq1-clause-reads
returns-then-bit-eq1-clause-reads c =
    rw c.insert.ensures.inserted (bit_one _ _ _ _ _ c.in_ok-bit.ensures.reads c.if-bit-eq1.true)

pub returns-else-bit-eq1-clause-reads : goal.returns-else-bit-eq1-clause-reads
returns-else-bit-eq1-clause-reads c = bit_none _ _ _ _ _ c.in_ok-bit.ensures.reads c.if-bit-eq1.false
