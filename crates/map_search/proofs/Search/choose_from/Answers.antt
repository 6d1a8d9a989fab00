use mathlib.Core.Bool.{true, false}
use Prim.Native.Nat.{ℕ, ◌≤◌}
use mathlib.Core.List.{List}
use mathlib.Core.Path.{◌≡◌, sym, ap, subst, ◌∙◌}
use native.Mathlib.Omega.{arith}
use lib.Ieee.{Float, lt}
use lib.ListN.{length}
use Rattle.cells.specs.Cell.{total_of}
use Rattle.map_search.specs.Parts.{Halted, best_of}
use Rattle.map_search.specs.declared.Choice.{Choice}
use Rattle.scan.specs.declared.Scan.{Scan}
use Rattle.scan.specs.Scan.{Sound}
use Rattle.scan.proofs.Scans.{sound_mono}
use Rattle.map_search.proofs.LineCells.{length_cells}
use Rattle.map_search.proofs.LineChoice.{Plain, best_plain}
use Rattle.map_search.proofs.PutLine.{put_plain}
use Rattle.map_search.proofs.Stop.{own_wins, own_loses}
use Rattle.map_search.proofs.Search.choose_from.Goals as goal

plain : (src costs colors : List Float) (n : ℕ) (lambda : Float) (s : Scan) (map : List ℕ) (l ctx : ℕ) (best : Choice)
    → 2 ≤ n → best ≡ best_of src costs colors n lambda s map l ctx → Plain n l best
plain src costs colors n lambda s map l ctx best few e =
    subst (Plain n l) (sym e) (best_plain src costs colors n lambda s map l ctx (omega arith))

pub returns-then-total-limit : goal.returns-then-total-limit
returns-then-total-limit c =
    let a = c.args in
    let s = a.self.now in
    let p = s.pricing.now in
    let own = c.cell_by_cell-own in
    -- the cost begins with that of flag 0
    let halted = subst
    (λ (row : Float). Halted s.samples.now p.costs.now p.colors p.n p.lambda s.scan a.map.now a.l row
    c.total-limit.result own.result own.new.map)
    c.row_cost-row.ensures
    own.ensures in
    let less : lt (total_of own.result p.lambda) c.total-limit.result ≡ true =
    rw c.total.ensures at c.if-total-limit.true in
    let w = own_wins s.samples.now p.costs.now p.colors p.n p.lambda s.scan c.requires.6 p.few.0
    a.map.now a.l a.ctx own.result a.best own.new.map c.total-limit.result
    c.requires.5 c.total-limit.ensures halted less in
    record { value = w.0; map_after = w.1 }

pub put_best-requires : goal.put_best-requires
put_best-requires c =
    let a = c.args in
    let s = a.self.now in
    let p = s.pricing.now in
    let walked = c.cell_by_cell-own.new.map in
    let e : length walked ≡ length a.map.now =
    ap length c.cell_by_cell-own.ensures.put ∙ length_cells _ _ _ _ _ _ _ _ _ _ in
    let h : Sound s.scan (length walked) =
    sound_mono s.scan (length s.samples.now) (length walked) s.sound (omega (arith, e, c.requires.0)) (omega (arith, e, c.requires.1)) in
    (h, c.requires.2, (plain s.samples.now p.costs.now p.colors p.n p.lambda s.scan a.map.now a.l a.ctx a.best p.few.0 c.requires.5).2)

pub returns : goal.returns
returns c =
    let a = c.args in
    let s = a.self.now in
    let p = s.pricing.now in
    let own = c.cell_by_cell-own in
    let halted = subst
    (λ (row : Float). Halted s.samples.now p.costs.now p.colors p.n p.lambda s.scan a.map.now a.l row
    c.total-limit.result own.result own.new.map)
    c.row_cost-row.ensures
    own.ensures in
    let not-less : lt (total_of own.result p.lambda) c.total-limit.result ≡ false =
    rw c.total.ensures at c.if-total-limit.false in
    record {
      value = own_loses s.samples.now p.costs.now p.colors p.n p.lambda s.scan c.requires.6 p.few.0
          a.map.now a.l a.ctx own.result a.best own.new.map c.total-limit.result
          c.requires.5 c.total-limit.ensures halted not-less;
      map_after = c.put_best.ensures
          ∙ rw halted.put
          (put_plain s.samples.now p.costs.now p.colors p.n p.lambda s.scan a.map.now a.l a.ctx
          (length s.samples.now) s.sound c.requires.2 halted.cells halted.few a.best
          (plain s.samples.now p.costs.now p.colors p.n p.lambda s.scan a.map.now a.l a.ctx a.best p.few.0 c.requires.5));
    }
