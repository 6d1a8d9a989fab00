-- Colours put among ascending ones, and the eight places that hold them. Assumes nothing.
use mathlib.Core.Path.{◌≡◌, refl, sym, ap, ◌∙◌}
use mathlib.Core.List.{List, [], ◌∷◌}
use Prim.Native.Nat.{ℕ, suc, ◌≤◌, max}
use native.Mathlib.Omega.{arith}
use lib.ListN.{length, take, replicate, length-take}
use lib.Seq.{length-take-le, take_at}
use Rattle.lists.specs.Written.{front}
use Rattle.lists.proofs.Written.{length_written, written_front}
use Rattle.read_colors.specs.Colors.{insert, in_eight}
use Rattle.read_colors.specs.Held.{colors_in}
use Rattle.read_colors.specs.declared.held.Held.{Held}

pub length_insert : (e : ℕ) (cs : List ℕ) → length (insert e cs) ≡ suc (length cs)
unfolding insert
length_insert e [] = refl
length_insert e (c ∷ cs) = ap suc (length_insert (max e c) cs)

-- ---- eight places

eight_long : (cs : List ℕ) → length cs ≤ 8 → length (in_eight cs) ≡ 8
eight_long cs h = ap length (sym (written_front (replicate 8 0) cs h)) ∙ length_written (replicate 8 0) 0 cs

pub eight_front : (cs : List ℕ) (n : ℕ) → length cs ≡ n → take n (in_eight cs) ≡ cs
unfolding front
eight_front cs n e = take_at cs _ n e

pub none_eight : replicate 8 0 ≡ in_eight []
unfolding front
none_eight = refl

module _ (h : Held) where
  pub length_eight : length h.colors ≡ 8
  length_eight = ap length h.eight ∙ eight_long (colors_in h) (omega (arith, length-take h.count h.colors, h.few))

  pub length_held : length (colors_in h) ≡ h.count
  length_held = length-take-le h.count h.colors (omega (arith, h.few, length_eight))
