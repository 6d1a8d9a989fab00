use Rattle.std.proofs.Common.{◌≡◌, ◌-◌, ◌≤◌, length}
use Rattle.window.specs.Window.{Inside}
use Rattle.reporting.specs.Steps.{Fits}
use Rattle.report.proofs.walk.Given as goal

abbrev pub invariant-loop-r : goal.invariant-loop-r
invariant-loop-r g l =
    Inside l.w l.buf × (length l.buf ≡ length l.initial.buf) × (length l.line ≡ 90) × Fits l.page × (l.page.lines ≤ 9999)

abbrev pub decreases-loop-r : goal.decreases-loop-r
decreases-loop-r g l = 9999 - l.page.lines
