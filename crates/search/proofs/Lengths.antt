-- A walk keeps the lengths of its map and of its flags.
use mathlib.Core.Path.{◌≡◌, refl, ◌∙◌}
use mathlib.Core.List.{List}
use Prim.Native.Nat.{ℕ, zero, suc, ◌+◌}
use lib.ListN.{length, length-set}
use lib.Ieee.{Float}
use Rattle.lists.proofs.Choice.{either_way}
use Rattle.map_search.specs.Lines.{Walk, Ended, line_of, next, reached, rest_of}
use Rattle.scan.specs.declared.Scan.{Scan}
use Rattle.std.specs.Prelude.{None}
use Rattle.map_search.proofs.PutLine.{length_put}

-- as long as those of the walk
abbrev pub AsLong : Walk → Ended → Type 0
AsLong t e = (length e.map ≡ length t.map) × (length e.flags ≡ length t.flags)

module _ (samples costs colours : List Float) (n : ℕ) (lambda : Float) (s : Scan) (head bound : Float) where
  pub rest_long : (k l : ℕ) (t : Walk) → AsLong t (rest_of samples costs colours n lambda s head bound k l t)
  unfolding rest_of
  rest_long zero l t = (refl, refl)
  rest_long (suc k) l t =
      let line = line_of samples costs colours n lambda s t.map l t.ctx in
      let u = next samples costs colours n lambda s t l in
      let cells = length_put samples costs colours n lambda s t.map l t.ctx line in
      let signs = length-set t.flags l line.flag in
      let rest = rest_long k (l + 1) u in
      either_way (AsLong t) (reached samples costs colours n lambda s head bound u)
      (record { map = u.map; flags = u.flags; result = None }) _ (cells, signs) (rest.0 ∙ cells, rest.1 ∙ signs)
