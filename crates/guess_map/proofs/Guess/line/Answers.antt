use Prim.Native.Nat.{◌-◌}
use Rattle.scan.specs.Scan.{place_at, cell_in}
use Rattle.scan.proofs.Fill.{fill_below}
use Rattle.guess_map.proofs.Guess.line.Goals as goal

pub returns-in_ok-word-in-1 : goal.returns-in_ok-word-in-1
returns-in_ok-word-in-1 c =
    let a = c.args in
    let index = c.first_cell-index in
    rw c.fill_line.ensures
    (fill_below a.self.now.s a.l 8 (λ b. index.result.0) a.map.now a.self.now.s.len (λ b. index.ensures) c.requires.2)

pub returns-in-2 : goal.returns-in-2
returns-in-2 c =
    let a = c.args in
    rw c.copy_line.ensures
    (fill_below a.self.now.s a.l 8 (λ b. cell_in a.map.now a.self.now.s (a.l - 1) b) a.map.now a.self.now.s.len
    (λ b. c.requires.2 (place_at a.self.now.s (a.l - 1) b)) c.requires.2)
