use mathlib.Core.Path.{refl, sym, ◌∙◌}
use borrow.Author.Tests.{le-leb, lt-leb}
use Rattle.accept.specs.Accepted.{depth_ok, cache_ok}
use Rattle.accept.proofs.Accepted.{sides_at}
use Rattle.reading.specs.Reading.{limits}
use Rattle.reading.proofs.limits.Goals as goal

pub returns-then-not-sides_ok : goal.returns-then-not-sides_ok
unfolding limits depth_ok cache_ok
returns-then-not-sides_ok c = rw (sym c.sides_ok.ensures ∙ c.if-not-sides_ok.true) refl

pub returns-then-not-within : goal.returns-then-not-within
unfolding limits depth_ok cache_ok
returns-then-not-within c = rw (
  sym c.sides_ok.ensures ∙ c.if-not-sides_ok.false,
  sym c.within.ensures ∙ c.if-not-within.true,
) refl

pub returns-then-cached-gt64 : goal.returns-then-cached-gt64
unfolding limits depth_ok cache_ok
returns-then-cached-gt64 c = rw (
  sym c.sides_ok.ensures ∙ c.if-not-sides_ok.false,
  sym c.within.ensures ∙ c.if-not-within.false,
  lt-leb _ _ c.if-cached-gt64.true,
) refl

pub rooms_ok-requires : goal.rooms_ok-requires
rooms_ok-requires c =
    let s = sides_at _ _ (sym c.sides_ok.ensures ∙ c.if-not-sides_ok.false) in
    (s.0.1, s.1.1)

pub returns-then-not-rooms_ok : goal.returns-then-not-rooms_ok
unfolding limits depth_ok cache_ok
returns-then-not-rooms_ok c = rw (
  sym c.sides_ok.ensures ∙ c.if-not-sides_ok.false,
  sym c.within.ensures ∙ c.if-not-within.false,
  le-leb _ _ c.if-cached-gt64.false,
  sym c.rooms_ok.ensures ∙ c.if-not-rooms_ok.true,
) refl

pub returns : goal.returns
unfolding limits depth_ok cache_ok
returns c = rw (
  sym c.sides_ok.ensures ∙ c.if-not-sides_ok.false,
  sym c.within.ensures ∙ c.if-not-within.false,
  le-leb _ _ c.if-cached-gt64.false,
  sym c.rooms_ok.ensures ∙ c.if-not-rooms_ok.false,
) refl
