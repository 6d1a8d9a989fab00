-- The answer of `list`, as it is made inside.
use Rattle.std.specs.Prelude.{Result, Ok, Err}
use Rattle.refusals.specs.declared.Refusal.{Refusal}
use Rattle.refusals.specs.Numbers.{number_of}
use Rattle.listing.specs.declared.Listed.{Listed}
use Rattle.listing.specs.declared.Made.{Made}
use Rattle.listing.specs.Listing.{refused_by}

abbrev pub listed_of : Result Made Refusal → Listed
listed_of (Ok made) = record { number = 0; count = made.count; raw_width = made.raw_width }
listed_of (Err refusal) = refused_by (number_of refusal)
