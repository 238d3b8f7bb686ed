use Rattle.std.proofs.Common.{◌≡◌, ◌++◌, ◌<ℤ◌, int_le, int_lt, cond, to_z, of_z, w64, ap, sym, subst, ◌∙◌}
use Rattle.std.proofs.lemmas.Int.{to_z-of_z}
use Rattle.std.specs.List.{before_first}
use Rattle.std.specs.Option.{option_to_list}
use Rattle.list_facts.specs.Between.{between}
use Rattle.chunked_list.specs.Stretches.{from_first}
use Rattle.row_state.specs.declared.entry.Entry.{Entry}
use Rattle.row_state.specs.Entries.{value_from, last_value, IsRowState}
use Rattle.row_state.specs.Pieces.{Tile}
use Rattle.row_state.specs.Working.Walks.{entries_of, pieces_of}
use Rattle.row_state.proofs.Changed.{monotone_at, split, last_option, new_form, new_row, put_together, tiles_row}
use Rattle.row_state.proofs.row.RowState.change.Goals as goal

pub read-requires : goal.read-requires
read-requires g c = monotone_at _ c.self.inside.entries c.self.invariant.ascend

pub replace-requires-clause-order : goal.replace-requires-clause-order
replace-requires-clause-order g c = monotone_at _ c.self.inside.entries c.self.invariant.ascend

pub invariant_of-self-2 : goal.invariant_of-self-2
invariant_of-self-2 g c =
    let V = g.row.V.Denot in
    let zero = g.V.Value.zero in
    let same = g.V.Value.same in
    let makes = g.C.Change.makes c.args.change.now in
    let a = to_z w64 (of_z w64 c.args.x0) in
    let b = to_z w64 (of_z w64 c.args.x1) in
    let at_a : a ≡ c.args.x0 = to_z-of_z w64 c.args.x0 c.ranges.x0 in
    let at_b : b ≡ c.args.x1 = to_z-of_z w64 c.args.x1 c.ranges.x1 in
    let wide : a <ℤ b = subst (λ x. x <ℤ b) (sym at_a) (subst (λ x. c.args.x0 <ℤ x) (sym at_b) c.requires) in
    let row = c.self.inside.entries in
    let before = before_first (λ (e : Entry V). int_le a e.column) row in
    let rest = from_first (λ (e : Entry V). int_le a e.column) row in
    let stretch = before_first (λ (e : Entry V). int_lt b e.column) rest in
    let behind = from_first (λ (e : Entry V). int_lt b e.column) rest in
    let left = c.value_of-left.result in
    let is_left : left ≡ last_value zero before =
    c.value_of-left.ensures ∙ (ap (λ o. last_value zero (option_to_list o)) c.in_ok-before.ensures.before ∙ last_option zero before) in
    let is_stretch : c.deref.result.now ≡ stretch = c.deref.ensures.value ∙ (c.in_ok-before.ensures.stretch ∙ ap (λ es. es ++ stretch) c.clear.ensures.items) in
    let is_made = c.deref-2.ensures.value ∙ (c.in_ok-walk_over.ensures.new ∙ ap (λ es. es ++ entries_of same makes b (record { at = a; value = left; last = left }) c.deref.result.now) c.clear-2.ensures.items) in
    let is_count = c.len-count.ensures ∙ sym c.deref.ensures.len in
    let is_new = put_together zero a b row same makes left c.deref.result.now c.deref-2.result.now c.replace.new.self c.len-count.result is_left is_stretch is_made is_count c.in_ok-replace.ensures.ok in
    let cut = split a b row c.self.invariant.ascend in
    subst (IsRowState zero) (sym is_new) (new_form zero a b wide row before stretch behind c.self.invariant cut same makes g.met.V.Value.same_equal g.met.V.Value.equal_same)

pub returns-clause-row : goal.returns-clause-row
returns-clause-row g c =
    let V = g.row.V.Denot in
    let zero = g.V.Value.zero in
    let same = g.V.Value.same in
    let makes = g.C.Change.makes c.args.change.now in
    let a = to_z w64 (of_z w64 c.args.x0) in
    let b = to_z w64 (of_z w64 c.args.x1) in
    let at_a : a ≡ c.args.x0 = to_z-of_z w64 c.args.x0 c.ranges.x0 in
    let at_b : b ≡ c.args.x1 = to_z-of_z w64 c.args.x1 c.ranges.x1 in
    let wide : a <ℤ b = subst (λ x. x <ℤ b) (sym at_a) (subst (λ x. c.args.x0 <ℤ x) (sym at_b) c.requires) in
    let row = c.self.inside.entries in
    let before = before_first (λ (e : Entry V). int_le a e.column) row in
    let rest = from_first (λ (e : Entry V). int_le a e.column) row in
    let stretch = before_first (λ (e : Entry V). int_lt b e.column) rest in
    let behind = from_first (λ (e : Entry V). int_lt b e.column) rest in
    let left = c.value_of-left.result in
    let is_left : left ≡ last_value zero before =
    c.value_of-left.ensures ∙ (ap (λ o. last_value zero (option_to_list o)) c.in_ok-before.ensures.before ∙ last_option zero before) in
    let is_stretch : c.deref.result.now ≡ stretch = c.deref.ensures.value ∙ (c.in_ok-before.ensures.stretch ∙ ap (λ es. es ++ stretch) c.clear.ensures.items) in
    let is_made = c.deref-2.ensures.value ∙ (c.in_ok-walk_over.ensures.new ∙ ap (λ es. es ++ entries_of same makes b (record { at = a; value = left; last = left }) c.deref.result.now) c.clear-2.ensures.items) in
    let is_count = c.len-count.ensures ∙ sym c.deref.ensures.len in
    let is_new = put_together zero a b row same makes left c.deref.result.now c.deref-2.result.now c.replace.new.self c.len-count.result is_left is_stretch is_made is_count c.in_ok-replace.ensures.ok in
    let cut = split a b row c.self.invariant.ascend in
    λ x.
    ap (λ es. value_from zero es x) is_new
    ∙ (new_row zero a b wide row before stretch behind c.self.invariant cut same makes g.met.V.Value.same_equal g.met.V.Value.equal_same x
    ∙ (ap (λ t. cond t (makes (value_from zero row x)) (value_from zero row x)) (ap (λ y. between y b x) at_a ∙ ap (λ y. between c.args.x0 y x) at_b)
    ∙ ap (λ es. cond (between c.args.x0 c.args.x1 x) (makes (value_from zero es x)) (value_from zero es x)) c.self.view_is))

pub returns-clause-pieces : goal.returns-clause-pieces
returns-clause-pieces g c =
    let V = g.row.V.Denot in
    let zero = g.V.Value.zero in
    let same = g.V.Value.same in
    let makes = g.C.Change.makes c.args.change.now in
    let a = to_z w64 (of_z w64 c.args.x0) in
    let b = to_z w64 (of_z w64 c.args.x1) in
    let at_a : a ≡ c.args.x0 = to_z-of_z w64 c.args.x0 c.ranges.x0 in
    let at_b : b ≡ c.args.x1 = to_z-of_z w64 c.args.x1 c.ranges.x1 in
    let wide : a <ℤ b = subst (λ x. x <ℤ b) (sym at_a) (subst (λ x. c.args.x0 <ℤ x) (sym at_b) c.requires) in
    let row = c.self.inside.entries in
    let before = before_first (λ (e : Entry V). int_le a e.column) row in
    let rest = from_first (λ (e : Entry V). int_le a e.column) row in
    let stretch = before_first (λ (e : Entry V). int_lt b e.column) rest in
    let behind = from_first (λ (e : Entry V). int_lt b e.column) rest in
    let left = c.value_of-left.result in
    let is_left : left ≡ last_value zero before =
    c.value_of-left.ensures ∙ (ap (λ o. last_value zero (option_to_list o)) c.in_ok-before.ensures.before ∙ last_option zero before) in
    let is_stretch : c.deref.result.now ≡ stretch = c.deref.ensures.value ∙ (c.in_ok-before.ensures.stretch ∙ ap (λ es. es ++ stretch) c.clear.ensures.items) in
    let cut = split a b row c.self.invariant.ascend in
    let is_pieces = c.in_ok-walk_over.ensures.pieces ∙ (ap (λ ps. ps ++ pieces_of b a left c.deref.result.now) c.clear-3.ensures.items ∙ (ap (λ v. pieces_of b a v c.deref.result.now) is_left ∙ ap (pieces_of b a (last_value zero before)) is_stretch)) in
    let tiles = subst (Tile (value_from zero row) a b) (sym is_pieces) (tiles_row zero a b wide row before stretch behind c.self.invariant cut) in
    let tiles_here = subst (λ x. Tile (value_from zero row) x c.args.x1 c.walk_over.new.pieces.items) at_a (subst (λ x. Tile (value_from zero row) a x c.walk_over.new.pieces.items) at_b tiles) in
    subst (λ es. Tile (value_from zero es) c.args.x0 c.args.x1 c.walk_over.new.pieces.items) c.self.view_is tiles_here
