-- The lines of an accepted palette lie in its map. Assumes nothing.
use Prim.Native.Nat.{ℕ, ◌<◌, ◌≤◌}
use native.Mathlib.Omega.{arith}
use lib.ListN.{length}
use Rattle.lists.proofs.Choice.{either_way}
use Rattle.context.specs.Map.{lines_of, length_of}
use Rattle.accept.specs.Palette.{Palette}
use Rattle.accept.proofs.Accepted.{Facts, lines_pos}
use Rattle.accept.proofs.Lines.{in_block}
use Rattle.emit.specs.Map.{LinesInside}

module _ (w h bd : ℕ) (p : Palette) (f : Facts w h bd p) where
  pub long : 1 ≤ length_of p.transposed w h
  long = either_way (λ k. 1 ≤ k) p.transposed h w f.high f.wide

  pub inside : LinesInside p.map w (length p.colors) p.transposed (lines_of p.transposed w h) (length_of p.transposed w h)
  inside =
      let block = in_block p.transposed w h in
      record {
        two = f.enough;
        eight = f.few;
        column = λ l a p q. (block l a p q).column;
        place = λ l a p q. omega (arith, (block l a p q).place, f.map_length);
        below = λ i p. f.index i (omega (arith, f.map_length));
      }

  -- cell (0,0) is there
  pub some_cell : 0 < length p.map
  some_cell = omega (arith, inside.place 0 0 (lines_pos w h bd p f) long)
