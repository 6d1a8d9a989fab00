-- `palette_read` answers as `read`, with n, colours and orientation in an array of ten.
use Rattle.std.specs.Prelude.{◌≡◌, List, ℕ}
use Rattle.reading.specs.Reading.{Outcome, answer, map_after_read, flags_after_read}
use Rattle.station.specs.Searched.{fields_of}

pub record ReadsTo (o : Outcome) (map₀ map flags₀ flags read : List ℕ) (r : ℕ) : Type 0 where
  pub number : r ≡ (answer o).number
  pub fields : let p = answer o in read ≡ fields_of p.n p.colors p.transposed
  pub cells : map ≡ map_after_read o map₀
  pub signs : flags ≡ flags_after_read o flags₀
