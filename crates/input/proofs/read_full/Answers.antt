use Rattle.std.proofs.Common.{◌≡◌, ℕ, ◌+◌, ◌≤◌, List, ◌++◌, length, take, refl, subst, rules}
use Rattle.std.proofs.lemmas.List.{take-append-le, length-take-le}
use Rattle.std.proofs.Math.Seq.{take-append-add}
use Rattle.std.specs.Io.KnownBytes.{Consumes}
use Rattle.std.proofs.KnownBytes.{Consumes-trans}
use Rattle.input.proofs.read_full.Goals as goal

-- the front, and n more of what was put behind it
take_more : (a n : ℕ) (front part rest : List ℕ) → length front ≡ a → n ≤ length part
    → front ++ take n part ≡ take (a + n) (front ++ (part ++ rest))
take_more a n front part rest long fits = rw (← long, take-append-add, take-append-le) refl

pub loop-done-preserved : goal.loop-done-preserved
loop-done-preserved g c =
    let within = c.loop-done.invariant.0 in
    let fits = c.in_ok-n.ensures.bound.0 in
    let whole = take_more c.loop-done.done c.in_ok-n.n (take c.loop-done.done c.loop-done.buf) c.read.new.buf _ (length-take-le _ _ within) fits in
    (search rules, subst (Consumes _ _) whole (Consumes-trans _ _ _ _ _ c.loop-done.invariant.1 c.in_ok-n.ensures.bytes.0))
