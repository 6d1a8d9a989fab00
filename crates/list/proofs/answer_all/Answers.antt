-- What is read is enough, and what is answered lies within the buffer. Assumes nothing.
use Rattle.std.proofs.Common.{Bool, true, false, ltb, ltb-true, ltb-false, ◌≡◌, ℕ, ◌<◌, ◌≤◌, ◌++◌, List, [], length, take, None, Some, Result, Ok, Err, IfSome, refl, sym, ap, ◌∙◌, subst, append-nil, arith}
use Rattle.std.proofs.lemmas.List.{length-take-le}
use lib.Seq.{take-append_seam}
use Rattle.std.specs.Result.{OnOk}
use Rattle.std.specs.Io.KnownBytes.{Appends, Consumes, IsAtEnd}
use Rattle.std.specs.declared.option.Option.{Option}
use Rattle.lists.specs.Written.{written}
use Rattle.lists.proofs.Written.{length_written, written_take}
use Rattle.text.specs.Answer.{answer}
use Rattle.text.proofs.Answered.{answer_most}
use Rattle.text.proofs.Long.{answer_cut}
use Rattle.list.proofs.answer_all.Goals as goal

-- the buffer's 65,536 bytes of an input of any length have the whole input's answer
pub read_enough : (input : List ℕ) → answer (take 65536 input) ≡ answer input
read_enough input = answer_cut 65536 input (omega arith)

fits : (count : ℕ) (input : List ℕ) → count ≡ length (answer input) → count ≤ 105859
fits count input e = rw e (answer_most input)

-- what was read has the answer of all that the input had: it is the whole input, or as many of its bytes as are enough
read_by : (x y front : List ℕ) → x ≡ front ++ y → length front ≤ 65536 → (length front < 65536 → y ≡ [])
    → (t : Bool) → ltb (length front) 65536 ≡ t → answer front ≡ answer x
read_by x y front c most end true e =
    ap answer (sym (c ∙ ap (λ l. front ++ l) (end (ltb-true (length front) 65536 e)) ∙ append-nil front))
read_by x y front c most end false e =
    let full : length front ≡ 65536 = omega (arith, ltb-false (length front) 65536 e) in
    let all : take 65536 x ≡ front = ap (λ l. take 65536 l) c ∙ subst (λ k. take k (front ++ y) ≡ front) full (take-append_seam front y) in
    ap answer (sym all) ∙ read_enough x

read_whole : (a b : Option (List ℕ)) (front : List ℕ) → Consumes a b front → length front ≤ 65536 → (length front < 65536 → IsAtEnd b)
    → IfSome a (λ text. answer front ≡ answer text)
read_whole None b front c most end = tt
read_whole (Some x) None front c most end = absurd c
read_whole (Some x) (Some y) front c most end = read_by x y front c most end (ltb (length front) 65536) refl

written_whole : (a o v : Option (List ℕ)) (front bytes : List ℕ) → Appends o v bytes → bytes ≡ answer front
    → IfSome a (λ text. answer front ≡ answer text) → IfSome a (λ text. Appends o v (answer text))
written_whole None o v front bytes p e h = tt
written_whole (Some x) o v front bytes p e h = subst (Appends o v) (e ∙ h) p

answered : {E : Type 0} (r : Result Unit E) (a o v : Option (List ℕ)) (front bytes : List ℕ) → OnOk r (Appends o v bytes)
    → bytes ≡ answer front → IfSome a (λ text. answer front ≡ answer text) → OnOk r (IfSome a (λ text. Appends o v (answer text)))
answered (Ok u) a o v front bytes p e h = written_whole a o v front bytes p e h
answered (Err e) a o v front bytes p s h = tt

-- the front of what was written is the answer
shown : (count : ℕ) (old new front : List ℕ) → count ≡ length (answer front) → new ≡ written old 0 (answer front)
    → length new ≡ 105859 → take count new ≡ answer front
shown count old new front c e long =
    let room : length (answer front) ≤ length old =
    omega (arith, answer_most front, ap length e, length_written old 0 (answer front), long) in
    rw (c, e) (written_take old (answer front) room)

pub slice_bounds-calls-end : goal.slice_bounds-calls-end
slice_bounds-calls-end g c = let r = c.respond-count in omega (arith, r.auto.out, fits _ _ r.ensures.value)

pub slice_bounds-write_all-end : goal.slice_bounds-write_all-end
slice_bounds-write_all-end g c =
    let r = c.respond-count in
    sym (length-take-le _ r.new.out (omega (arith, r.auto.out, fits _ _ r.ensures.value)))

pub returns : goal.returns
returns g c =
    let r = c.respond-count in
    let read = c.in_ok-n in
    let n = read.n in
    let buf = c.read_full.new.buf in
    let bound = read.ensures.in_bounds in
    let fits_buf : n ≤ 65536 = omega (arith, bound.0, c.read_full.auto.buf) in
    let long = length-take-le n buf bound.0 in
    let whole = read_whole _ (g.R.Read.remaining c.read_full.new.input) (take n buf) read.ensures.bytes (rw long fits_buf)
    (λ less. read.ensures.end (omega (arith, less, long, c.read_full.auto.buf))) in
    answered _ _ _ _ (take n buf) _ c.write_all.ensures.bytes
    (shown _ _ r.new.out _ r.ensures.value r.ensures.out_after r.auto.out) whole
