use Rattle.std.proofs.Common.{◌≡◌, ◌++◌, [], List, ◌∷◌, ap, sym, ◌∙◌}
use Rattle.std.proofs.lemmas.List.{append-nil}
use Rattle.gds_records.specs.Stream.{item_of}
use Rattle.drc_geom.specs.declared.rect.Rect.{Rect}
use Rattle.drc_cli.specs.declared.layout.reader.Reader.{Reader}
use Rattle.drc_cli.specs.Layout.{rect_in}
use Rattle.drc_cli.proofs.LayoutSlots.{rects_here, rects_elsewhere}
use Rattle.drc_cli.proofs.layout.reader.Reader.accept.Goals as goal
use Rattle.drc_cli.proofs.layout.reader.Reader.accept.Goals.{then-is_points_on+in_ok-push, else-is_points_on}

pub returns-clause-rects : goal.returns-clause-rects
returns-clause-rects c =
    let had = c.args.self.now.rects.items in
    let with_more = λ (rects : List Rect). had ++ rects in
    elim c.if-is_points_on.branch [
      | then-is_points_on+in_ok-push w ↦ λ _.
          let rect : w.rect_in.result ≡ rect_in c.args.taken.now.body.items = w.rect_in.ensures ∙ ap rect_in w.deref.ensures.value in
          ap (λ (r : Reader). r.rects.items) w.self-is ∙ w.in_ok-push.ensures.items ∙ ap (λ (r : Rect). had ++ r ∷ []) rect
          ∙ ap with_more (sym (rects_here c.args.number c.args.self.now.slot (item_of c.args.taken.now) w.if-is_points_on.ensures))
      | else-is_points_on w ↦ λ _.
          ap (λ (r : Reader). r.rects.items) w.self-is ∙ sym (append-nil had)
          ∙ ap with_more (sym (rects_elsewhere c.args.number c.args.self.now.slot (item_of c.args.taken.now) w.if-is_points_on.ensures))
    ]
