use Rattle.std.proofs.Common.{◌≡◌, sym, ◌∙◌, ap, ℕ, ◌-◌, List, [], ◌∷◌, ◌++◌, length, map}
use Rattle.gds_library.specs.declared.element.Point.{Point}
use Rattle.gds_library.specs.declared.structure.Entry.{Entry}
use Rattle.gds_library.specs.Library.{Drawing, Structure}
use Rattle.gds_library.specs.Fields.{points}
use Rattle.gds_library.specs.Meanings.{with_points, drawing_of}
use Rattle.gds_library.proofs.Spans.{one_more}
use Rattle.gds_library.proofs.structure.Structure.push.Goals as goal

pub returns : goal.returns
returns c =
    let spots = c.self.inside.points.items in
    let entries = c.self.inside.entries.items in
    let more = points c.args.body.now in
    let longer = c.in_ok-push_points.ensures.pushed in
    let new = c.push_points.new.points.items in
    let entry : ℕ → ℕ → Entry = λ first count. record { element = c.args.element; first = first; count = count } in
    let put : ℕ → ℕ → List Drawing = λ first count. map (drawing_of new) (entries ++ entry first count ∷ []) in
    let drawn = ap (map (drawing_of new)) c.in_ok-push.ensures.items
    ∙ ap (λ n. put n (c.len.result - n)) (c.len-first.ensures ∙ c.self.inside.points.ok.0) ∙ ap (λ n. put (length spots) (n - length spots)) (c.len.ensures ∙ c.push_points.new.points.ok.0)
    ∙ ap (λ (those : List Point). map (drawing_of those) (entries ++ entry (length spots) (length those - length spots) ∷ [])) longer
    ∙ one_more spots more entries c.args.element c.self.invariant in
    let with : List Drawing → Structure = λ those. record { name = c.self.inside.name; at = c.self.inside.at; elements = those } in
    ap with drawn ∙ ap (λ (s : Structure). let r : Structure = record s { elements = s.elements ++ with_points c.args.element more ∷ [] } in r) c.self.view_is
