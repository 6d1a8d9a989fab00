use borrow.Author.Tests.{le-leb, lt-leb}
use mathlib.Core.Path.{sym, ◌∙◌}
use Rattle.accept.specs.Accepted.{depth_ok, cache_ok}
use Rattle.text.specs.Text.{header_fault}
use Rattle.text.proofs.header_fault.Goals as goal

pub returns-then-not-sides_ok : goal.returns-then-not-sides_ok
unfolding header_fault depth_ok
returns-then-not-sides_ok c = sym (simp (sym c.sides_ok.ensures ∙ c.if-not-sides_ok.true))

pub returns-then-not-within : goal.returns-then-not-within
unfolding header_fault depth_ok
returns-then-not-within c = sym (simp (sym c.sides_ok.ensures ∙ c.if-not-sides_ok.false, sym c.within.ensures ∙ c.if-not-within.true))

pub returns-then-not-within-2 : goal.returns-then-not-within-2
unfolding header_fault depth_ok
returns-then-not-within-2 c =
    sym
    (simp (
      sym c.sides_ok.ensures ∙ c.if-not-sides_ok.false,
      sym c.within.ensures ∙ c.if-not-within.false,
      sym c.within-2.ensures ∙ c.if-not-within-2.true,
    ))

pub returns-then-not-orient_ok : goal.returns-then-not-orient_ok
unfolding header_fault depth_ok
returns-then-not-orient_ok c =
    sym
    (simp (
      sym c.sides_ok.ensures ∙ c.if-not-sides_ok.false,
      sym c.within.ensures ∙ c.if-not-within.false,
      sym c.within-2.ensures ∙ c.if-not-within-2.false,
      sym c.orient_ok.ensures ∙ c.if-not-orient_ok.true,
    ))

pub returns-then-h-gt64 : goal.returns-then-h-gt64
unfolding header_fault depth_ok cache_ok
returns-then-h-gt64 c =
    sym
    (simp (
      sym c.sides_ok.ensures ∙ c.if-not-sides_ok.false,
      sym c.within.ensures ∙ c.if-not-within.false,
      sym c.within-2.ensures ∙ c.if-not-within-2.false,
      sym c.orient_ok.ensures ∙ c.if-not-orient_ok.false,
      lt-leb _ _ c.if-h-gt64.true,
    ))

pub returns : goal.returns
unfolding header_fault depth_ok cache_ok
returns c =
    sym
    (simp (
      sym c.sides_ok.ensures ∙ c.if-not-sides_ok.false,
      sym c.within.ensures ∙ c.if-not-within.false,
      sym c.within-2.ensures ∙ c.if-not-within-2.false,
      sym c.orient_ok.ensures ∙ c.if-not-orient_ok.false,
      le-leb _ _ c.if-h-gt64.false,
    ))
