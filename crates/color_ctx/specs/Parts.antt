-- What the steps of `color_ctx` answer.
use Rattle.std.specs.Prelude.{ℕ, cond, List, [], ◌∷◌, get_or, Option, Some, None}
use Rattle.lists.specs.Counted.{all_in}
use Rattle.context.specs.Order.{by_three}
use Rattle.color_ctx.specs.Context.{usable, answered, refused}
use Rattle.color_ctx.specs.declared.Context.{Context}
use Rattle.context.specs.declared.Index.{Index}

abbrev pub neighbour_at : List ℕ → ℕ → ℕ → Option Index
neighbour_at map n p = cond (usable map n p) (Some (record { 0 = get_or map p 0 })) None

-- the answer as it is handed out
abbrev pub told : Option Context → Context
told (Some c) = c
told None = refused

-- from the neighbour at place p, on the top row or in the left column
unfoldable pub one_at : List ℕ → ℕ → ℕ → Context
one_at map n p = cond (all_in (usable map n) (p ∷ [])) (answered (record { ctx = 0; firsts = get_or map p 0 ∷ [] }) n) refused

-- from the neighbours at the places l, t and d, elsewhere
unfoldable pub three_at : List ℕ → ℕ → ℕ → ℕ → ℕ → Context
three_at map n l t d =
    cond (all_in (usable map n) (l ∷ t ∷ d ∷ []))
    (answered (by_three (get_or map l 0) (get_or map t 0) (get_or map d 0)) n) refused
