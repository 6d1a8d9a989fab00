use Prim.Native.Nat.{◌≤◌, ◌*◌}
use borrow.Author.Rules.{rules}
use native.Mathlib.Omega.{arith}
use lib.ListN.{length}
use Rattle.scan.proofs.Scans.{lines_most}
use Rattle.search.proofs.Aside.{written_found}
use Rattle.search.proofs.BestMap.hand_over.Goals as goal

pub copy_front-requires-2 : goal.copy_front-requires-2
copy_front-requires-2 c =
    let a = c.args in
    let p = c.requires in
    let count = c.lines_of-lines.ensures in
    let most : c.lines_of-lines.result ≤ 64 = lines_most a.self.now.best.transposed a.b.width a.b.height 64 count p.2 p.3 in
    (search rules, lines_most _ _ _ _ count p.4 p.5)

pub returns : goal.returns
returns c = λ s S W.
    let a = c.args in
    let p = c.requires in
    let count = c.lines_of-lines.ensures in
    let most : c.lines_of-lines.result ≤ 64 = lines_most a.self.now.best.transposed a.b.width a.b.height 64 count p.2 p.3 in
    let cells : a.b.width * a.b.height ≤ length a.self.now.cells = omega arith in
    let lines : c.lines_of-lines.result ≤ length a.self.now.lines = omega arith in
    written_found a.b s a.self.now S W _ _ _ _ _ count (cells, p.1) (lines, lines_most _ _ _ _ count p.4 p.5)
    c.copy_front.ensures c.copy_front-2.ensures
