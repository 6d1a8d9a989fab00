-- A found block of a strip is listed as one that a separate search found. Assumes nothing.
use Rattle.strip.proofs.Same.{block}
use Rattle.found.specs.Strip.{StripIsListed}
use Rattle.found.proofs.Listed.{found_is_listed}

pub strip_is_listed : StripIsListed
strip_is_listed sides samples costs bd lambda map₀ map flags₀ flags r s z i h =
    found_is_listed _ costs _ _ _ _ _ _ (block sides samples costs bd lambda map₀ map flags₀ flags r s z i h)
