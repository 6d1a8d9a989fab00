use mathlib.Core.Path.{◌≡◌}
use lib.ListN.{length}
use Rattle.strip.specs.Strip.{Searched}
use Rattle.strip.specs.Steps.{places_to}
use Rattle.strip.proofs.Shared.search_all.Given as goal

abbrev pub invariant-loop-i : goal.invariant-loop-i
invariant-loop-i l = record {
  map_len : length l.map ≡ length l.initial.map;
  flags_len : length l.flags ≡ length l.initial.flags;
  answers_len : length l.answers ≡ 64;
  places : l.at ≡ places_to l.sides l.i;
  searched : Searched l.sides l.self.samples.now l.self.costs.now l.self.bd l.self.lambda l.initial.map l.map l.initial.flags l.flags
      l.i l.answers;
}
