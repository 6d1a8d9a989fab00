use Prim.Native.Nat.{ℕ, ◌≤◌}
use mathlib.Core.Path.{◌≡◌, ◌∙◌}
use mathlib.Core.List.{List}
use native.Mathlib.Omega.{arith}
use lib.ListN.{length, take, replicate, length-replicate}
use Rattle.lists.proofs.Zeros.{zeros_below, take_zeros}
use Rattle.near.specs.Near.{Below}
use Rattle.guess_map.proofs.Guess.cells.Goals as goal

zeros_front : (n : ℕ) → n ≤ 64 → let front : List ℕ = take n (replicate 64 0) in (length front ≡ n) × Below front 1024
zeros_front n h = rw (take_zeros n 64 h) (length-replicate {A = ℕ} n 0, λ i. zeros_below n 1024 i (omega arith))

pub fill_rows-requires : goal.fill_rows-requires
fill_rows-requires c =
    let front = zeros_front (length c.args.words.now) (omega (arith, c.requires.1, c.requires.0.0.short)) in
    (c.requires.0, omega (arith, c.if-l-eq0.false), c.requires.1, front.0 ∙ c.requires.1, front.1)
