-- Behind what was moved stands what was read, and nothing of it was read over.
use Rattle.std.proofs.Common.{◌≡◌, ℕ, ◌+◌, ◌≤◌, List, ◌++◌, length, take, drop, Option, ap, ◌∙◌, arith}
use Rattle.std.proofs.lemmas.List.{take-append-le, drop-take, drop_at, length-take-le}
use Rattle.std.specs.Io.KnownBytes.{Consumes}
use Rattle.window.proofs.Kept.{front_kept}
use Rattle.window.proofs.refill.Goals as goal

pub returns-in_err-read-clause-buf_after : goal.returns-in_err-read-clause-buf_after
returns-in_err-read-clause-buf_after g c =
    let moved = c.move_down-left in
    front_kept c.args.w c.args.buf.now c.requires moved.new.buf _ moved.result moved.ensures.value moved.ensures.buf_after

pub returns-clause-buf_after : goal.returns-clause-buf_after
returns-clause-buf_after g c =
    let moved = c.move_down-left in
    front_kept c.args.w c.args.buf.now c.requires moved.new.buf _ moved.result moved.ensures.value moved.ensures.buf_after

-- of a front of m bytes and a part behind it, the n bytes of the part
read_behind : (a b : Option (List ℕ)) (front part rest : List ℕ) (k m n : ℕ) → length front ≡ m → m ≡ k → n ≤ length part
    → Consumes a b (take n part) → Consumes a b (drop k (take (m + n) (front ++ (part ++ rest))))
read_behind a b front part rest k m n long same fits read =
    let behind = drop-take m n (front ++ (part ++ rest)) ∙ ap (take n) (drop_at front (part ++ rest) m long) ∙ take-append-le n part rest fits in
    rw (← same, behind) read

pub returns-clause-bytes : goal.returns-clause-bytes
returns-clause-bytes g c =
    let moved = c.move_down-left in
    let got = c.in_ok-read in
    let within : moved.result ≤ length moved.new.buf = omega arith in
    read_behind _ _ (take moved.result moved.new.buf) c.read_full.new.buf _ _ moved.result got.read (length-take-le moved.result moved.new.buf within)
    moved.ensures.value got.ensures.in_bounds.0 got.ensures.bytes
