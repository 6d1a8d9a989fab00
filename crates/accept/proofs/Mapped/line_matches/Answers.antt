use mathlib.Core.Bool.{and_comm}
use native.Mathlib.Nat.{mul-le-mul_left}
use Rattle.std.proofs.Common.{Bool, ◌&&◌, List, ◌≡◌, refl, ℕ, ◌+◌, ◌*◌, ◌≤◌, ◌<◌, add-one, arith, length}
use Rattle.lists.specs.Counted.{all_below}
use Rattle.context.specs.Map.{row_at, col_at, lines_of, length_of}
use Rattle.accept.proofs.Lines.{in_block}
use Rattle.accept.proofs.Mapped.line_matches.Goals as goal

-- one place more
more : (f : ℕ → Bool) (n : ℕ) (same t : Bool) → same ≡ all_below f n → t ≡ f n → same && t ≡ all_below f (n + 1)
unfolding all_below
more f n same t p q = rw (add-one, p, q) (and_comm (all_below f n) (f n))

-- a place of a line is in the map
placed : (t : Bool) (w h len m k : ℕ) (map : List ℕ) → length map ≡ w * h → len ≡ length_of t w h → m < lines_of t w h → k < len
    → row_at t m k * w + col_at t m k < length map
placed t w h len m k map e f p q = rw e (in_block t w h m k p (rw f at q)).place

-- a step of 0 or 1 stays on the line
short : (a step len : ℕ) → a < len → step ≤ 1 → a * step < len
short a step len h g = omega (arith, mul-le-mul_left a g)

pub loop-a-init : goal.loop-a-init
unfolding all_below
loop-a-init c = refl

pub index_at-requires-in-loop-a : goal.index_at-requires-in-loop-a
index_at-requires-in-loop-a c =
    let m = c.args.self.now in
    placed m.transposed m.width m.height _ _ _ _ c.requires.map_len c.length_of-a-end.ensures c.requires.l_bound.1
    (short _ c.args.step _ c.loop-a-test.true c.requires.l_bound.2)

pub loop-a-preserved : goal.loop-a-preserved
loop-a-preserved c =
    more _ c.loop-a.a c.loop-a.same _ c.loop-a.invariant (rw (c.index_at.ensures, c.index_at-in-loop-a.ensures) refl)
