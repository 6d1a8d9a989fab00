use native.Mathlib.Omega.{arith}
use mathlib.Core.Path.{sym, ◌∙◌}
use Rattle.near.proofs.Keys.{key_none, key_top, key_side, key_three}
use Rattle.near.proofs.key_at.Goals as goal

pub returns-in-0-eq0 : goal.returns-in-0-eq0
returns-in-0-eq0 c =
    c.edge_key.ensures ∙ sym (key_none c.args.map.now c.args.w c.args.y c.args.x c.in-0-eq0.is-0 c.in-0-eq0.is-1)

pub returns-in-0-default : goal.returns-in-0-default
returns-in-0-default c =
    c.edge_key-in-0-default.ensures ∙ sym (key_top c.args.map.now c.args.w c.args.y c.args.x c.in-0-default.is-0 (omega arith))

pub returns-in_default-eq0 : goal.returns-in_default-eq0
returns-in_default-eq0 c =
    c.edge_key-in_default-eq0.ensures ∙ sym (key_side c.args.map.now c.args.w c.args.y c.args.x (omega arith) c.in_default-eq0.is-1)

pub returns-in_default : goal.returns-in_default
returns-in_default c =
    c.three_key.ensures ∙ sym (key_three c.args.map.now c.args.w c.args.y c.args.x (omega arith) (omega arith))
