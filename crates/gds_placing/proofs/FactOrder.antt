-- The facts of a reference stand by their numbers.
use Rattle.std.proofs.Common.{ℕ, ◌<◌, Bool, true, false, List, [], ◌∷◌, ◌++◌, Option, None, Some, arith}
use Rattle.std.specs.Option.{option_map_or}
use Rattle.gds_records.specs.declared.fault.LayoutKind.{LayoutKind}
use Rattle.gds_records.specs.declared.fault.LayoutKind.TheVariants as kinds
use Rattle.gds_records.specs.declared.fault.LayoutRefusal.{LayoutRefusal}
use Rattle.gds_records.specs.LayoutKinds.{layout_number}
use Rattle.gds_library.specs.declared.element.Instance.{Instance}
use Rattle.gds_library.specs.declared.element.Point.{Point}
use Rattle.gds_placing.specs.declared.place.Placement.{Placement}
use Rattle.gds_placing.specs.Facts.{Rise, fact_if, facts_of, range_facts, pitch_facts, angle_facts, magnification_facts}

lower : (k l : ℕ) (facts : List LayoutRefusal) → l < k → Rise k facts → Rise l facts
lower k l [] h r = tt
lower k l (fact ∷ facts) h r = (omega (arith, r.0), r.1)

rise_if : (b : Bool) (at : ℕ) (kind : LayoutKind) (above : ℕ) (facts : List LayoutRefusal)
    → above < layout_number kind → Rise (layout_number kind) facts → Rise above (fact_if b at kind ++ facts)
rise_if true at kind above facts h r = (h, r)
rise_if false at kind above facts h r = lower (layout_number kind) above facts h r

rise_given : {V : Type 0} (test : V → Bool) (at : V
    → ℕ) (kind : LayoutKind) (o : Option V) (above : ℕ) (facts : List LayoutRefusal)
    → above < layout_number kind → Rise (layout_number kind) facts
    → Rise above (option_map_or (λ given. fact_if (test given) (at given) kind) o [] ++ facts)
rise_given test at kind None above facts h r = lower (layout_number kind) above facts h r
rise_given test at kind (Some given) above facts h r = rise_if (test given) (at given) kind above facts h r

rise_last : (b : Bool) (at : ℕ) (kind : LayoutKind) (above : ℕ) → above < layout_number kind
    → Rise above (fact_if b at kind)
rise_last true at kind above h = (h, tt)
rise_last false at kind above h = tt

pub facts_rise : (outer : Placement) (instance : Instance) (points : List Point) → Rise 0 (facts_of outer instance points)
facts_rise outer instance points =
    rise_given _ (λ given. given.at) kinds.AbsoluteFlag instance.transform 0
    (magnification_facts outer instance ++ (angle_facts instance ++ (pitch_facts instance points
    ++ range_facts outer instance points))) (omega arith)
    (rise_given _ (λ given. given.at) kinds.Magnification instance.magnification 12
    (angle_facts instance ++ (pitch_facts instance points ++ range_facts outer instance points)) (omega arith)
    (rise_given _ (λ given. given.at) kinds.AngleNotRight instance.angle 13 (pitch_facts instance points
    ++ range_facts outer instance points) (omega arith)
    (rise_given _ (λ given. instance.points_at) kinds.ArrayPitch instance.counts 14
    (range_facts outer instance points) (omega arith)
    (rise_last _ instance.points_at kinds.CoordinateRange 15 (omega arith)))))
