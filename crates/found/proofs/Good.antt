-- L9 of the search: whatever block it accepts, and the colours that it hands over. Assumes nothing.
use mathlib.Core.Path.{◌≡◌, refl, ap, ◌∙◌}
use native.Mathlib.Omega.{arith}
use lib.ListN.{length, take}
use Rattle.groups.specs.Groups.{centers_of}
use Rattle.groups.proofs.Colors.{colors_take}
use Rattle.quality.proofs.Quality.{all_groups_are_good}
use Rattle.strip.proofs.Same.{block}
use Rattle.search.specs.Search.{histogram_in, found_in, search_number}
use Rattle.search.proofs.Passed.{all_passed}
use Rattle.search.proofs.Colors.{levels_in, is_histogram}
use Rattle.search.proofs.Finds.{finds}
use Rattle.search.proofs.Answer.{answer_zero}
use Rattle.found.specs.Good.{AcceptedIsGood, FoundIsGood, StripIsGood}

pub accepted_is_good : AcceptedIsGood
accepted_is_good samples costs b mapRoom flagRoom zero =
    let passed = all_passed samples costs b mapRoom flagRoom zero in
    all_groups_are_good (levels_in samples) (histogram_in samples) (is_histogram passed.0 refl passed.2)

pub found_is_good : FoundIsGood
found_is_good samples costs b map₀ map flags₀ flags r answered zero =
    let h = histogram_in samples in
    let best = (found_in samples costs b).best in
    let handed = answer_zero (search_number samples costs b (length map₀) (length flags₀)) best r answered.answer zero in
    let passed = all_passed samples costs b (length map₀) (length flags₀) handed.0 in
    let kept = finds passed.0 refl passed.1 passed.2 in
    let own : take best.n best.colors ≡ centers_of h best.n =
    ap (λ c. take best.n c) kept.colors
    ∙ colors_take (levels_in samples) h (is_histogram passed.0 refl passed.2) best.n (omega (arith, kept.two)) kept.few
    kept.eight in
    record {
      each = accepted_is_good samples costs b (length map₀) (length flags₀) handed.0;
      size = rw handed.1 (kept.two, kept.eight, kept.few);
      colors = rw handed.1 own;
    }

pub strip_is_good : StripIsGood
strip_is_good sides samples costs bd lambda map₀ map flags₀ flags r s z i h =
    found_is_good _ costs _ _ _ _ _ _ (block sides samples costs bd lambda map₀ map flags₀ flags r s z i h)
