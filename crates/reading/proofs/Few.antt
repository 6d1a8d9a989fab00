-- What is read has at most eight colours. Assumes nothing.
use mathlib.Core.Path.{◌≡◌, refl}
use mathlib.Core.List.{List}
use Prim.Native.Nat.{ℕ, ◌≤◌}
use native.Mathlib.Omega.{arith}
use Rattle.accept.proofs.Accepted.{facts}
use Rattle.reading.specs.Reading.{Outcome, back, refused, reading, answer, Reads}
use Rattle.accept.specs.declared.Palette.{Palette}
use Rattle.reading.proofs.Undo.{list_of_read}

pub few_read : (w h bd : ℕ) (cache : List ℕ) (cells lines : ℕ) (ws map₀ map flags₀ flags : List ℕ) (r : Palette)
    → Reads (reading w h bd cache cells lines ws) map₀ map flags₀ flags r → r.n ≤ 8
few_read w h bd cache cells lines ws map₀ map flags₀ flags r x = go (reading w h bd cache cells lines ws) refl x.answered
  where
    go : (o : Outcome) → reading w h bd cache cells lines ws ≡ o → r ≡ answer o → r.n ≤ 8
    go (back p) e q = rw q (facts w h bd cache p (list_of_read w h bd cache p cells lines ws e).0).few
    go (refused k) e q = rw q (omega arith)
