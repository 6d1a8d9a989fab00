-- What reading by a plan asks of the map.
use Rattle.std.specs.Prelude.{ℕ, List, length}
use Rattle.near.specs.Near.{Below}
use Rattle.scan.specs.Scan.{Sound}
use Rattle.read_map.specs.declared.Plan.{Plan}

-- the map has a place for each cell of the scan, and no index that is not below n
pub record Ready (p : Plan) (map : List ℕ) : Type 0 where
  pub sound : Sound p.scan (length map)
  pub below : Below map p.n
