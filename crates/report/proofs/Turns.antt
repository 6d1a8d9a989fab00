-- A turn from the window and the step; that the reading ends at the 9,999th palette at the latest; and the theorem at the
-- program's room. Assumes nothing.
use Prim.Native.Nat.{ℕ, ◌+◌, ◌-◌, ◌≤◌}
use mathlib.Core.Path.{◌≡◌, refl, sym, ap, ◌∙◌, subst}
use mathlib.Core.Bool.{Bool, true, false}
use mathlib.Core.List.{List, []}
use native.Mathlib.Omega.{arith}
use lib.Dec.{eqb}
use lib.ListN.{length, take, drop}
use lib.Seq.{drop-drop}
use borrow.Author.Tests.{eq-eqb}
use Rattle.window.specs.declared.Window.{Window}
use Rattle.window.specs.Window.{Inside, Holds}
use Rattle.window.proofs.Kept.{lent, length_view}
use Rattle.reporting.specs.declared.Page.{Page}
use Rattle.reporting.specs.declared.Stepped.{Stepped}
use Rattle.reporting.specs.Report.{report}
use Rattle.reporting.specs.Steps.{blank, next_block, taken_of, Steps}
use Rattle.reporting.specs.Stream.{run, filling}
use Rattle.reporting.proofs.Stream.{lines_after, filled_report}
use Rattle.report.specs.declared.Turned.{Turned}
use Rattle.report.specs.Turn.{Turns}

-- turns through the buffer's 65,536 bytes print the report of an input of any length
pub read_enough : (input : List ℕ) → run (filling 65536) 10000 blank [] input ≡ report input
read_enough = filled_report 65536 (omega arith)

module _ (w : Window) (p : Page) (old before after : List ℕ) (need : ℕ) (held : Window) (new : List ℕ) (h : Holds need w old held new)
    (s : Stepped) (e : Steps (take (held.end - held.at) (drop held.at new)) p before after s)
    (l : s.taken ≤ length (take (held.end - held.at) (drop held.at new))) where
  abbrev i : Inside held new
  i = h.inside

  within : held.at + s.taken ≤ held.end
  within = omega (arith, l, ap length (lent held.at held.end new i.order), length_view held new i, i.order)

  pub turn_whole : 33972 ≤ need → (r : Turned) → r.count ≡ s.count → r.taken ≡ s.taken → r.page ≡ s.page
      → r.window.at ≡ held.at + s.taken → r.window.end ≡ held.end → r.window.more ≡ held.more
      → Turns w p old new before after r
  turn_whole wide r c t q a b m =
      let same : s ≡ record { count = r.count; taken = r.taken; page = r.page } = rw (c, t, q) refl in
      let told = subst (λ (u : List ℕ). Steps u p before after s) (lent held.at held.end new i.order) e in
      record {
        need = need;
        palette = wide;
        held = held;
        holds = h;
        steps = subst (λ (x : Stepped). Steps (drop held.at (take held.end new)) p before after x) same told;
        left = rw (a, b, t) (sym (drop-drop s.taken held.at (take held.end new)));
        inside = record { order = omega (arith, a, b, within); end = omega (arith, b, i.end) };
        more = m;
      }

-- ---- a turn that takes something leaves a page of at most 9,999 lines

full_by : (p : Page) (s : List ℕ) (t : Bool) → eqb (length s) 0 ≡ t → p.lines ≡ 9999 → taken_of p s ≡ 0
unfolding taken_of next_block
full_by p s true e f = simp e
full_by p s false e f = simp (e, eq-eqb p.lines 9999 f)

pub page_next : (p : Page) (s before after : List ℕ) (r : Stepped) → Steps s p before after r → p.lines ≤ 9999 → (r.taken ≡ 0 → ⊥)
    → (r.page.lines ≡ p.lines + 1) × (r.page.lines ≤ 9999)
page_next p s before after r e h n =
    let more : r.page.lines ≡ p.lines + 1 = ap (λ (x : Page). x.lines) e.page ∙ lines_after p s (λ z. n (e.taken ∙ z)) in
    let room : p.lines ≡ 9999 → ⊥ = λ f. n (e.taken ∙ full_by p s (eqb (length s) 0) refl f) in
    (more, omega (arith, more, h, room))
