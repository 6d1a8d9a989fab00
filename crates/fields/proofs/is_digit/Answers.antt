use Rattle.fields.specs.Fields.{is_digit}
use Rattle.fields.proofs.is_digit.Goals as goal

pub returns : goal.returns
unfolding is_digit
returns c = c.is_ascii_digit.ensures.value
