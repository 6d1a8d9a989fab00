use Rattle.std.proofs.Common.{ℕ, List, ◌≡◌, ◌≤◌, refl, length, take, replicate}
use Rattle.std.proofs.Math.Seq.{take-length}
use Rattle.lists.specs.Written.{written}
use Rattle.lists.proofs.Written.{written_take}
use Rattle.emit.proofs.Left.new.Goals as goal

-- what was copied stands in front
kept : (cs out : List ℕ) → length cs ≤ 8 → out ≡ written (replicate 8 0) 0 (take (length cs) cs) → take (length cs) out ≡ cs
kept cs out h e = rw (e, take-length cs) (written_take (replicate 8 0) cs h)

pub invariant_of-result : goal.invariant_of-result
invariant_of-result c =
    record { few = c.requires.0; rising = rw (kept c.args.colors.now _ c.requires.0 c.copy_front.ensures) c.requires.1 }

pub returns : goal.returns
returns c = (refl, kept c.args.colors.now _ c.requires.0 c.copy_front.ensures)
