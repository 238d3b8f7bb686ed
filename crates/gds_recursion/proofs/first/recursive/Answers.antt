use Rattle.std.proofs.Common.{subst}
use Rattle.gds_reach.specs.References.{Reaches}
use Rattle.gds_reach.specs.Facts.{IsFirstPlace}
use Rattle.gds_recursion.specs.Working.Circles.{IsOnCircle, LeadsBack}
use Rattle.gds_recursion.proofs.Backward.{circle_there, first_recursive, never_none, none_recursive}
use Rattle.gds_recursion.proofs.first.recursive.Goals as goal

pub returns-in_default : goal.returns-in_default
returns-in_default c =
    let links = c.args.links.now in
    let primary = c.args.primary in
    none_recursive links primary (subst (IsFirstPlace (λ i. Reaches links primary i × IsOnCircle links i)) c.in_default.is c.in_ok-structure.ensures)

pub first_back-requires-clause-there : goal.first_back-requires-clause-there
first_back-requires-clause-there c =
    let links = c.args.links.now in
    let primary = c.args.primary in
    circle_there links primary c.in-Some.structure (subst (IsFirstPlace (λ i. Reaches links primary i × IsOnCircle links i)) c.in-Some.is c.in_ok-structure.ensures)

pub returns-in_default-2 : goal.returns-in_default-2
returns-in_default-2 c =
    let links = c.args.links.now in
    let primary = c.args.primary in
    absurd (never_none links primary c.in-Some.structure
    (subst (IsFirstPlace (λ i. Reaches links primary i × IsOnCircle links i)) c.in-Some.is c.in_ok-structure.ensures)
    (subst (IsFirstPlace (LeadsBack links c.in-Some.structure)) c.in_default-2.is c.in_ok-place.ensures))

pub returns : goal.returns
returns c =
    let links = c.args.links.now in
    let primary = c.args.primary in
    first_recursive links primary c.in-Some.structure c.in-Some-2.place
    (subst (IsFirstPlace (λ i. Reaches links primary i × IsOnCircle links i)) c.in-Some.is c.in_ok-structure.ensures)
    (subst (IsFirstPlace (LeadsBack links c.in-Some.structure)) c.in-Some-2.is c.in_ok-place.ensures)
