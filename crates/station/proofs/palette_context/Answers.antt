use Rattle.station.proofs.Arrays.{context_small}
use Rattle.color_ctx.specs.declared.Context.{Context}
use native.Mathlib.Omega.{arith}
use Prim.Native.Nat.{◌<◌}
use Rattle.station.specs.Context.{context_words}
use mathlib.Core.Path.{ap, ◌∙◌}
use Rattle.station.proofs.palette_context.Goals as goal

pub overflow_cast-found : goal.overflow_cast-found
overflow_cast-found c =
    let found = c.color_ctx-found in
    let h : found.result.ctx < 5 = rw found.ensures (context_small _ _ _ _ _) in
    omega arith

pub returns : goal.returns
returns c = let e = c.color_ctx-found.ensures in
    record { value = ap (λ (a : Context). a.number) e; context_after = c.in_words.ensures ∙ ap context_words e }
