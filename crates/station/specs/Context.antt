-- What `palette_context` writes: the context, the index of each rank, the rank of each index.
use Rattle.std.specs.Prelude.{ℕ, List, ◌∷◌, ◌++◌}
use Rattle.color_ctx.specs.declared.Context.{Context}

abbrev pub context_words : Context → List ℕ
context_words c = c.ctx ∷ c.order ++ c.ranks
