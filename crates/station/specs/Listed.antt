-- `palette_list` answers as `list`, with count and raw width in an array of two.
use Rattle.std.specs.Prelude.{◌≡◌, cond, List, [], ◌∷◌, ℕ, eqb, length}
use Rattle.lists.specs.Written.{front}
use Rattle.literals.specs.Words.{raw_width_of}
use Rattle.accept.specs.Palette.{Palette}
use Rattle.listing.specs.Listing.{call_list, list_number}

pub record ListsTo (w h bd : ℕ) (cache : List ℕ) (p : Palette) (before after listed : List ℕ) (r : ℕ) : Type 0 where
  pub number : r ≡ list_number w h bd cache p (length before)
  pub fields : listed ≡ cond (eqb r 0) (length (call_list w h bd cache p)) 0 ∷ cond (eqb r 0) (raw_width_of (call_list w h bd cache p)) 0 ∷ []
  pub words : after ≡ cond (eqb r 0) (front (call_list w h bd cache p) before) before
