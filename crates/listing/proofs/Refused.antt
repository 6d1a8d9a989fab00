-- A refusal has a number above 0, and `?` hands it on. Assumes nothing.
use Rattle.std.proofs.Common.{Result, Ok, Err, ◌≡◌, ap, arith}
use Rattle.std.specs.Result.{IsErrAnd}
use Rattle.refusals.specs.declared.Refusal.{Refusal}
use Rattle.refusals.specs.declared.Refusal.TheVariants.{Side, Depth, SampleCount, Lambda, Costs, Sample, Room, Small, OneLevel, ManyLevels, Colors, Orientation, Cache, Lengths, Map, WordRoom, Text, Context, BlockCount, ListEnd, Word, WordsLeft, NotListed, AdaptedLength, AdaptedRows}
use Rattle.refusals.specs.Numbers.{number, number_of}
use Rattle.listing.specs.declared.Made.{Made}
use Rattle.listing.specs.Listing.{refused_by}
use Rattle.listing.specs.Made.{listed_of}

pub some : (refusal : Refusal) → number_of refusal ≡ 0 → ⊥
some Side e = absurd (omega arith)
some Depth e = absurd (omega arith)
some SampleCount e = absurd (omega arith)
some Lambda e = absurd (omega arith)
some Costs e = absurd (omega arith)
some Sample e = absurd (omega arith)
some Room e = absurd (omega arith)
some Small e = absurd (omega arith)
some OneLevel e = absurd (omega arith)
some ManyLevels e = absurd (omega arith)
some Colors e = absurd (omega arith)
some Orientation e = absurd (omega arith)
some Cache e = absurd (omega arith)
some Lengths e = absurd (omega arith)
some Map e = absurd (omega arith)
some WordRoom e = absurd (omega arith)
some Text e = absurd (omega arith)
some Context e = absurd (omega arith)
some BlockCount e = absurd (omega arith)
some ListEnd e = absurd (omega arith)
some Word e = absurd (omega arith)
some WordsLeft e = absurd (omega arith)
some NotListed e = absurd (omega arith)
some AdaptedLength e = absurd (omega arith)
some AdaptedRows e = absurd (omega arith)

pub number_passed : {A : Type 0} (r : Result A Refusal) (e : Refusal) → IsErrAnd r (λ x. x ≡ e) → number r ≡ number_of e
number_passed (Ok a) e h = absurd h
number_passed (Err x) e h = ap number_of h

pub listed_passed : (r : Result Made Refusal) (e : Refusal) → IsErrAnd r (λ x. x ≡ e) → listed_of r ≡ refused_by (number_of e)
listed_passed (Ok a) e h = absurd h
listed_passed (Err x) e h = ap (λ (y : Refusal). refused_by (number_of y)) h
