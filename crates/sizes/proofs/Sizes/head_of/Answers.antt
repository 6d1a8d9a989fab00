use mathlib.Core.Path.{◌≡◌, refl, ap, ◌∙◌}
use mathlib.Core.Bool.{Bool, true, false}
use lib.Ieee.{binary32}
use mir.Val.{bool_byte}
use Rattle.lists.specs.Counted.{bit}
use Rattle.ieee.specs.Numbers.{nat}
use Rattle.sizes.proofs.Parts.{head_is}
use Rattle.sizes.proofs.Sizes.head_of.Goals as goal

byte_is : (t : Bool) → bool_byte t ≡ bit t
byte_is true = refl
byte_is false = refl

pub returns : goal.returns
returns c =
    let a = c.args in
    let s = a.self.now in
    head_is s.costs.now s.block a.colors.now _ _ c.literal_bits-literal.ensures.0
    (ap (nat binary32) (c.from-sent.ensures ∙ byte_is c.orient_sent.result ∙ ap bit c.orient_sent.ensures))
