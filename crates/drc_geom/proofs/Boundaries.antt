-- Sets that are the same have the same boundary, and the same maximal runs.
use Rattle.std.proofs.Common.{◌≡◌, Bool, ◌&&◌, ℤ, sym, ap, ◌∙◌}
use Rattle.std.specs.Prelude.{not}
use Rattle.drc_geom.specs.declared.run.Run.{Run}
use Rattle.drc_geom.specs.Squares.{Squares}
use Rattle.drc_geom.specs.Units.{Units, AreSameUnits, boundary, has_unit, outside_x, outside_y, square_x, square_y}
use Rattle.drc_geom.specs.Runs.{IsMaximalRun}

pub boundary_same : (a b : Squares) → ((x y : ℤ) → a x y ≡ b x y) → AreSameUnits (boundary a) (boundary b)
boundary_same a b same x y side =
    ap (λ (p : Bool). p && not (a (outside_x side x y) (outside_y side x y))) (same x y)
    ∙ ap (λ (p : Bool). b x y && not p) (same (outside_x side x y) (outside_y side x y))

pub maximal_same : (a b : Units) (run : Run) → AreSameUnits a b → IsMaximalRun a run → IsMaximalRun b run
maximal_same a b run e m =
    let same : (column : ℤ) → has_unit a run.side run.line column ≡ has_unit b run.side run.line column = λ column. e (square_x run.side run.line column) (square_y run.side run.line column) run.side in
    record {
      not_empty = m.not_empty;
      inside = λ column p q. sym (same column) ∙ m.inside column p q;
      before = sym (same _) ∙ m.before;
      after = sym (same _) ∙ m.after;
    }
