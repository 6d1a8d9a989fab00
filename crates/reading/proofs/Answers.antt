-- The numbers of a reading, one by one, and what `read` answers for each. Assumes nothing.
use mathlib.Core.Path.{◌≡◌, refl, sym, ap, ◌∙◌}
use mathlib.Core.Bool.{Bool, true, false, cond}
use mathlib.Core.List.{List}
use Prim.Native.Nat.{ℕ, ◌*◌, ◌<◌, ◌≤◌, max}
use native.Mathlib.Omega.{arith}
use lib.Dec.{eqb, leb}
use lib.ListN.{length, take, drop, drop_of_length-le}
use lib.Seq.{drop-cons, take_all}
use Rattle.std.specs.Prelude.{Result, Ok, Err, IsErrAnd}
use borrow.Author.Tests.{leb-true}
use Rattle.lists.specs.Written.{front, written}
use Rattle.lists.proofs.Written.{written_front}
use Rattle.lists.proofs.Choice.{held, and_l, and_r}
use Rattle.lists.proofs.Counted.{within_at}
use Rattle.accept.specs.Palette as rules
use Rattle.accept.specs.Accepted.{sides_ok, depth_ok, cache_ok}
use Rattle.accept.specs.Answer.{rooms_ok, refused_by}
use Rattle.accept.specs.declared.Palette.{Palette}
use Rattle.accept.proofs.Accepted.{sides_at}
use Rattle.refusals.specs.declared.Refusal.{Refusal}
use Rattle.refusals.specs.declared.Refusal.TheVariants.{
  Side,
  Depth,
  SampleCount,
  Lambda,
  Costs,
  Sample,
  Room,
  Small,
  OneLevel,
  ManyLevels,
  Colors,
  Orientation,
  Cache,
  Lengths,
  Map,
  WordRoom,
  Text,
  Context,
  BlockCount,
  ListEnd,
  Word,
  WordsLeft,
  NotListed,
  AdaptedLength,
  AdaptedRows,
}
use Rattle.refusals.specs.Numbers.{number_of}
use Rattle.reader.specs.Reader.{Got, got, fault}
use Rattle.reading.specs.Steps.{outcome, answer_of}
use Rattle.reading.specs.declared.Head.{Head}
use Rattle.reading.specs.Reading.{read_palette, relists, Outcome, back, refused, judge, limits, reading, answer, Reads}

-- ---- the answers

pub reads_refused : (o : Outcome) (k : ℕ) (r : Palette) (m f : List ℕ) → o ≡ refused k → r ≡ answer (refused k) → Reads o m m f f r
reads_refused o k r m f e a = rw e (record { answered = a; map = refl; flags = refl })

pub reads_back : (o : Outcome) (p : rules.Palette) (r : Palette) (m m' f f' : List ℕ) → o ≡ back p → r ≡ answer (back p)
    → m' ≡ front p.map m → f' ≡ front p.flags f → Reads o m m' f f' r
reads_back o p r m m' f f' e a x y = rw e (record { answered = a; map = x; flags = y })

-- a refusal passed on
pub outcome_err : (b : Head) (cells lines : List ℕ) (o : Outcome) (r : Result (Unit {0}) Refusal) (e : Refusal) → IsErrAnd r (λ x. x ≡ e)
    → o ≡ refused (number_of e) → o ≡ outcome b cells lines r
outcome_err b cells lines o (Ok u) e h k = absurd h
outcome_err b cells lines o (Err x) e h k = k ∙ ap (λ (y : Refusal). refused (number_of y)) (sym h)

pub reads_err : (o : Outcome) (m f : List ℕ) (r : Result Palette Refusal) (e : Refusal) → IsErrAnd r (λ x. x ≡ e)
    → o ≡ refused (number_of e) → Reads o m m f f (answer_of r)
reads_err o m f (Ok p) e h k = absurd h
reads_err o m f (Err x) e h k = reads_refused o (number_of e) (refused_by (number_of x)) m f k (ap (λ (y : Refusal). refused_by (number_of y)) h)

-- no refusal has the number 0
refusal_some : (e : Refusal) → eqb (number_of e) 0 ≡ false
refusal_some = elim [
  | Side ↦ refl
  | Depth ↦ refl
  | SampleCount ↦ refl
  | Lambda ↦ refl
  | Costs ↦ refl
  | Sample ↦ refl
  | Room ↦ refl
  | Small ↦ refl
  | OneLevel ↦ refl
  | ManyLevels ↦ refl
  | Colors ↦ refl
  | Orientation ↦ refl
  | Cache ↦ refl
  | Lengths ↦ refl
  | Map ↦ refl
  | WordRoom ↦ refl
  | Text ↦ refl
  | Context ↦ refl
  | BlockCount ↦ refl
  | ListEnd ↦ refl
  | Word ↦ refl
  | WordsLeft ↦ refl
  | NotListed ↦ refl
  | AdaptedLength ↦ refl
  | AdaptedRows ↦ refl
]

-- ---- the numbers

module _ (w h bd : ℕ) (cache : List ℕ) (cells lines : ℕ) (ws : List ℕ) where
  pub limited : (e : Refusal) → number_of e ≡ limits w h bd (length cache) cells lines → reading w h bd cache cells lines ws ≡ refused (number_of e)
  unfolding reading
  limited e k = rw (← k, refusal_some e) refl

  pub passed_on : limits w h bd (length cache) cells lines ≡ 0 → reading w h bd cache cells lines ws ≡ judge w h bd cache ws (read_palette w h bd cache ws)
  unfolding reading
  passed_on passed = rw passed refl

-- ---- what a reading to its end is judged

module _ (w h bd : ℕ) (cache ws : List ℕ) (g : Got rules.Palette) (e : read_palette w h bd cache ws ≡ g) where
  judged_as : judge w h bd cache ws (read_palette w h bd cache ws) ≡ judge w h bd cache ws g
  judged_as = ap (judge w h bd cache ws) e

pub judged_fault : (w h bd : ℕ) (cache ws : List ℕ) (k : ℕ) → read_palette w h bd cache ws ≡ fault k
    → judge w h bd cache ws (read_palette w h bd cache ws) ≡ refused k
unfolding judge
judged_fault w h bd cache ws k e = judged_as w h bd cache ws (fault k) e

module _ (w h bd : ℕ) (cache ws : List ℕ) (p : rules.Palette) (at : ℕ) (vs : List ℕ) (e : read_palette w h bd cache ws ≡ got p (drop at vs)) where
  pub judged_more : at < length vs → judge w h bd cache ws (read_palette w h bd cache ws) ≡ refused 22
  unfolding judge
  judged_more k = judged_as w h bd cache ws (got p (drop at vs)) e ∙ rw (drop-cons vs at 0 k) refl

  pub judged_whole : length vs ≤ at → (b : Bool) → b ≡ relists w h bd cache p ws
      → judge w h bd cache ws (read_palette w h bd cache ws) ≡ cond b (back p) (refused 23)
  unfolding judge
  judged_whole k b r = judged_as w h bd cache ws (got p (drop at vs)) e ∙ rw (drop_of_length-le vs {i = at} k, r) refl

-- ---- what the limits say

pub record Sizes (w h bd cached cells lines : ℕ) : Type 0 where
  pub inside : sides_ok w h ≡ true
  pub sides : ((1 ≤ w) × (w ≤ 64)) × ((1 ≤ h) × (h ≤ 64))
  pub deep : (8 ≤ bd) × (bd ≤ 12)
  pub room : w * h ≤ cells
  pub rows : max w h ≤ lines

pub sizes : (w h bd cached cells lines : ℕ) → limits w h bd cached cells lines ≡ 0 → Sizes w h bd cached cells lines
unfolding limits depth_ok
sizes w h bd cached cells lines e =
    let s = held (sides_ok w h) 0 _ e in
    let d = held (depth_ok bd) 1 _ s.1 in
    let k = held (cache_ok cached) 12 _ d.1 in
    let r = held (rooms_ok w h cells lines) 6 _ k.1 in
    record {
      inside = s.0;
      sides = sides_at w h s.0;
      deep = within_at 8 12 bd d.0;
      room = leb-true (w * h) cells (and_l (leb (w * h) cells) (leb (max w h) lines) r.0);
      rows = leb-true (max w h) lines (and_r (leb (w * h) cells) (leb (max w h) lines) r.0);
    }

-- ---- a lent buffer that was written from the front

pub copied : (m m' from : List ℕ) → m' ≡ written m 0 (take (length from) from) → length from ≤ length m → m' ≡ front from m
copied m m' from e h = e ∙ ap (written m 0) (take_all (length from) from (omega arith)) ∙ written_front m from h
