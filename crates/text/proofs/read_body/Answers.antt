use native.Mathlib.Omega.{arith}
use mathlib.Core.Path.{refl, ap, ◌∙◌}
use mathlib.Core.List.{List}
use Prim.Native.Nat.{ℕ, ◌≤◌, ◌*◌}
use Rattle.lists.specs.Written.{written}
use Rattle.text.specs.Text.{cache_at, palette_at}
use Rattle.fields.proofs.Laws.{map_cut}
use Rattle.text.proofs.Sound.{cells_small}
use Rattle.text.proofs.read_body.Goals as goal

pub read_rows-requires : goal.read_rows-requires
read_rows-requires c =
    let small = c.requires.0 in
    let room : c.args.h.height * c.args.h.width ≤ 4096 = cells_small c.args.h small in
    (small.width, small.height, omega (arith, c.places_of-p.ensures.colors_bound.3, c.requires.1), omega (arith, room))

pub returns : goal.returns
unfolding cache_at palette_at
returns c =
    let p = c.places_of-p.ensures.value in record {
      colors = c.read_line.ensures ∙ ap (λ (vs : List ℕ). written c.args.numbers.now.colors 0 vs) (map_cut _ _) ∙ rw p refl;
      cache = c.read_line-2.ensures ∙ ap (λ (vs : List ℕ). written c.args.numbers.now.cache 0 vs) (map_cut _ _) ∙ rw p refl;
      flags = c.read_line-3.ensures ∙ ap (λ (vs : List ℕ). written c.args.numbers.now.flags 0 vs) (map_cut _ _) ∙ rw (p, c.lines_in.ensures.0) refl;
      map = c.read_rows.ensures ∙ rw p refl;
    }
