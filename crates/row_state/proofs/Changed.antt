-- A row, and what a change of a stretch makes of it: the entries before the stretch, those that a walk makes, and those
-- behind it.
use Rattle.std.proofs.Common.{◌≡◌, Bool, true, false, cond, ℕ, ◌-◌, ℤ, ◌<ℤ◌, ◌≤ℤ◌, int_le, int_lt, List, [], ◌∷◌, ◌++◌, length, drop, slice_get, refl, sym, subst, ap, ◌∙◌, append_assoc, arith}
use Rattle.std.proofs.lemmas.Int.{ints, by_lt_z}
use Rattle.std.specs.List.{before_first}
use Rattle.std.specs.Option.{option_to_list}
use Rattle.list_facts.specs.Between.{between}
use Rattle.list_facts.proofs.Members.{all_weaker}
use Rattle.list_facts.proofs.Tests.{between_before, between_past, between_true, le_from_false, le_from_true, le_true, lt_from_false, lt_from_true, lt_true}
use Rattle.chunked_list.specs.Stretches.{from_first, last, IsMonotone}
use Rattle.chunked_list.proofs.Stretches.{before_and_from, before_fails, drop_before, from_passes}
use Rattle.row_state.specs.declared.entry.Entry.{Entry}
use Rattle.row_state.specs.Entries.{value_from, last_value, Ascend, Differ, IsRowState}
use Rattle.row_state.specs.Pieces.{Tile}
use Rattle.row_state.specs.Working.Walks.{entries_of, pieces_of}
use Rattle.row_state.proofs.Entries.{AllBefore, AllBehind, AllFrom, all_left, all_join, ascend_above, ascend_join, ascend_left, ascend_right, before_up_to, behind, behind_more, differ_join, differ_left, differ_right, from_behind, last_join, value_before, value_behind, value_join}
use Rattle.row_state.proofs.Walks.{AreAhead, AreMade, are_made, has_values, tiles}

module _ {V : Type 0} where
  last_from : (v : V) (e : Entry V) (es : List (Entry V)) → last_value v (option_to_list (slice_get (e ∷ es) (length es))) ≡ last_value e.value es
  last_from v e [] = refl
  last_from v e (f ∷ fs) = last_from v f fs

  -- the value of the last entry is the value behind all
  pub last_option : (v : V) (es : List (Entry V)) → last_value v (option_to_list (last es)) ≡ last_value v es
  last_option v [] = refl
  last_option v (e ∷ es) =
      let n : length (e ∷ es) - 1 ≡ length es = omega arith in
      ap (λ k. last_value v (option_to_list (slice_get (e ∷ es) k))) n ∙ last_from v e es

  -- entries in order stand in order for both tests
  pub monotone_at : (a : ℤ) (es : List (Entry V)) → Ascend es → IsMonotone (λ (e : Entry V). int_le a e.column) es
  monotone_at a [] h = tt
  monotone_at a (e ∷ es) h = (
    λ t.
        let l : a ≤ℤ e.column = le_from_true a e.column t in
        all_weaker (λ f. e.column <ℤ f.column) (λ f. int_le a f.column ≡ true) (λ f k. le_true a f.column (omega (arith, ints))) es h.0,
    monotone_at a es h.1,
  )

  monotone_behind : (b : ℤ) (es : List (Entry V)) → Ascend es → IsMonotone (λ (e : Entry V). int_lt b e.column) es
  monotone_behind b [] h = tt
  monotone_behind b (e ∷ es) h = (
    λ t.
        let l : b <ℤ e.column = lt_from_true b e.column t in
        all_weaker (λ f. e.column <ℤ f.column) (λ f. int_lt b f.column ≡ true) (λ f k. lt_true b f.column (omega (arith, ints))) es h.0,
    monotone_behind b es h.1,
  )

  -- a row as the entries before a stretch, those from its begin up to its end, and those behind it
  pub record IsSplit (a b : ℤ) (row before stretch behind : List (Entry V)) : Type 0 where
    pub parts : row ≡ before ++ (stretch ++ behind)
    pub lower : AllBefore a before
    pub ahead : AreAhead b a stretch
    pub upper : AllBehind b behind

  pub split : (a b : ℤ) (row : List (Entry V)) → Ascend row → IsSplit a b row (before_first (λ (e : Entry V). int_le a e.column) row) (before_first (λ (e : Entry V). int_lt b e.column) (from_first (λ (e : Entry V). int_le a e.column) row)) (from_first (λ (e : Entry V). int_lt b e.column) (from_first (λ (e : Entry V). int_le a e.column) row))
  split a b row h =
      let p : Entry V → Bool = λ e. int_le a e.column in
      let q : Entry V → Bool = λ e. int_lt b e.column in
      let rest = from_first p row in
      let whole : before_first p row ++ rest ≡ row = before_and_from p row in
      let cut : before_first q rest ++ from_first q rest ≡ rest = before_and_from q rest in
      let ascend : Ascend rest = ascend_right (before_first p row) rest (subst Ascend (sym whole) h) in
      let fromwards : AllFrom a rest = all_weaker (λ e. p e ≡ true) (λ e. a ≤ℤ e.column) (λ e t. le_from_true a e.column t) rest (from_passes p row (monotone_at a row h)) in
      record {
        parts = sym (ap (λ xs. before_first p row ++ xs) cut ∙ whole);
        lower = all_weaker (λ e. p e ≡ false) (λ e. e.column <ℤ a) (λ e f. lt_from_false a e.column f) (before_first p row) (before_fails p row);
        ahead = record {
          ascend = ascend_left (before_first q rest) (from_first q rest) (subst Ascend (sym cut) ascend);
          from = all_left (λ e. a ≤ℤ e.column) (before_first q rest) (from_first q rest) (subst (AllFrom a) (sym cut) fromwards);
          up_to = all_weaker (λ e. q e ≡ false) (λ e. e.column ≤ℤ b) (λ e f. le_from_false b e.column f) (before_first q rest) (before_fails q rest);
        };
        upper = all_weaker (λ e. q e ≡ true) (λ e. b <ℤ e.column) (λ e t. lt_from_true b e.column t) (from_first q rest) (from_passes q rest (monotone_behind b rest ascend));
      }

  module _ (zero : V) (a b : ℤ) (wide : a <ℤ b) (row before stretch behind_all : List (Entry V)) (form : IsRowState zero row) (s : IsSplit a b row before stretch behind_all) where
    value_of_row : (x : ℤ) → value_from zero row x ≡ value_from (value_from (value_from zero before x) stretch x) behind_all x
    value_of_row x =
        ap (λ es. value_from zero es x) s.parts
        ∙ (value_join zero before (stretch ++ behind_all) x ∙ value_join (value_from zero before x) stretch behind_all x)

    at_left : (x : ℤ) → a ≤ℤ x → value_from zero before x ≡ last_value zero before
    at_left x l = value_behind zero before x (before_up_to a x before l s.lower)

    -- on the stretch the entries behind it don't count
    pub value_on : (x : ℤ) → a ≤ℤ x → x <ℤ b → value_from zero row x ≡ value_from (last_value zero before) stretch x
    value_on x p q =
        value_of_row x
        ∙ (value_before _ behind_all x (behind_more x b behind_all (omega (arith, ints)) s.upper)
        ∙ ap (λ v. value_from v stretch x) (at_left x p))

    pub tiles_row : Tile (value_from zero row) a b (pieces_of b a (last_value zero before) stretch)
    tiles_row = tiles b (value_from zero row) a (last_value zero before) stretch (omega (arith, ints)) s.ahead value_on

    module _ (same : V → V → Bool) (makes : V → V) (same_equal : (u v : V) → same u v ≡ true → u ≡ v) (equal_same : (v : V) → same v v ≡ true) where
      abbrev made : List (Entry V)
      made = entries_of same makes b (record { at = a; value = last_value zero before; last = last_value zero before }) stretch

      facts : AreMade b same makes same_equal equal_same a (last_value zero before) (last_value (last_value zero before) stretch) made
      facts = are_made b same makes same_equal equal_same (record { at = a; value = last_value zero before; last = last_value zero before }) stretch (omega (arith, ints)) s.ahead

      value_of_new : (x : ℤ) → value_from zero (before ++ made ++ behind_all) x ≡ value_from (value_from (value_from zero before x) made x) behind_all x
      value_of_new x =
          value_join zero (before ++ made) behind_all x ∙ ap (λ v. value_from v behind_all x) (value_join zero before made x)

      pub new_row : (x : ℤ) → value_from zero (before ++ made ++ behind_all) x ≡ cond (between a b x) (makes (value_from zero row x)) (value_from zero row x)
      new_row x =
          let values = has_values b same makes same_equal equal_same (record { at = a; value = last_value zero before; last = last_value zero before }) stretch (omega (arith, ints)) s.ahead in
          value_of_new x
          ∙ by_lt_z x a
          (λ l.
          let far = λ (v : V). value_before v behind_all x (behind_more x b behind_all (omega (arith, ints)) s.upper) in
          let new : value_from (value_from (value_from zero before x) made x) behind_all x ≡ value_from zero before x =
          far _ ∙ value_before (value_from zero before x) made x (behind x a made l facts.from) in
          let old : value_from zero row x ≡ value_from zero before x =
          value_of_row x ∙ (far _ ∙ value_before (value_from zero before x) stretch x (behind x a stretch l s.ahead.from)) in
          new ∙ (sym old ∙ ap (λ c. cond c (makes (value_from zero row x)) (value_from zero row x)) (sym (between_before a b x l))))
          (λ l.
          by_lt_z x b
          (λ k.
          value_before _ behind_all x (behind_more x b behind_all (omega (arith, ints)) s.upper)
          ∙ (ap (λ v. value_from v made x) (at_left x l)
          ∙ (values.on x l k
          ∙ (ap makes (sym (value_on x l k))
          ∙ ap (λ c. cond c (makes (value_from zero row x)) (value_from zero row x)) (sym (between_true a b x l k))))))
          (λ k.
          ap (λ v. value_from v behind_all x) (ap (λ v. value_from v made x) (at_left x l) ∙ (values.past x l k ∙ sym (ap (λ v. value_from v stretch x) (at_left x l))))
          ∙ (sym (value_of_row x)
          ∙ ap (λ c. cond c (makes (value_from zero row x)) (value_from zero row x)) (sym (between_past a b x k)))))

      pub new_form : IsRowState zero (before ++ made ++ behind_all)
      new_form =
          let old : IsRowState zero (before ++ (stretch ++ behind_all)) = subst (IsRowState zero) s.parts form in
          let far : AllFrom a behind_all = from_behind a b behind_all (omega (arith, ints)) s.upper in
          let rest = ascend_right before (stretch ++ behind_all) old.ascend in
          let upper = ascend_right stretch behind_all rest in
          let past = differ_right zero before (stretch ++ behind_all) old.differ in
          let final : last_value (last_value zero before) made ≡ last_value (last_value zero before) stretch = facts.after in
          let new : IsRowState zero (before ++ (made ++ behind_all)) = record {
            ascend = ascend_join a before (made ++ behind_all) (ascend_left before (stretch ++ behind_all) old.ascend) (ascend_above b made behind_all facts.ascend upper facts.up_to s.upper) s.lower (all_join (λ e. a ≤ℤ e.column) made behind_all facts.from far);
            differ = differ_join zero before (made ++ behind_all) (differ_left zero before (stretch ++ behind_all) old.differ) (differ_join (last_value zero before) made behind_all facts.differ (subst (λ v. Differ v behind_all) (sym final) (differ_right (last_value zero before) stretch behind_all past)));
            closed = last_join zero before (made ++ behind_all) ∙ (last_join (last_value zero before) made behind_all ∙ (ap (λ v. last_value v behind_all) final ∙ (sym (last_join (last_value zero before) stretch behind_all) ∙ (sym (last_join zero before (stretch ++ behind_all)) ∙ old.closed))));
          } in
          subst (IsRowState zero) (sym (append_assoc before made behind_all)) new

  -- the row that is put together of what was read and what the walk made
  pub put_together : (zero : V) (a b : ℤ) (row : List (Entry V)) (same : V → V → Bool) (makes : V → V) (left : V) (stretch made new : List (Entry V)) (count : ℕ) → left ≡ last_value zero (before_first (λ (e : Entry V). int_le a e.column) row) → stretch ≡ before_first (λ (e : Entry V). int_lt b e.column) (from_first (λ (e : Entry V). int_le a e.column) row) → made ≡ entries_of same makes b (record { at = a; value = left; last = left }) stretch → count ≡ length stretch → new ≡ before_first (λ (e : Entry V). int_le a e.column) row ++ made ++ drop count (from_first (λ (e : Entry V). int_le a e.column) row) → new ≡ before_first (λ (e : Entry V). int_le a e.column) row ++ entries_of same makes b (record { at = a; value = last_value zero (before_first (λ (e : Entry V). int_le a e.column) row); last = last_value zero (before_first (λ (e : Entry V). int_le a e.column) row) }) (before_first (λ (e : Entry V). int_lt b e.column) (from_first (λ (e : Entry V). int_le a e.column) row)) ++ from_first (λ (e : Entry V). int_lt b e.column) (from_first (λ (e : Entry V). int_le a e.column) row)
  put_together zero a b row same makes left stretch made new count is_left is_stretch is_made is_count is_new =
      let p : Entry V → Bool = λ e. int_le a e.column in
      let q : Entry V → Bool = λ e. int_lt b e.column in
      let rest = from_first p row in
      is_new
      ∙ (ap (λ n. before_first p row ++ made ++ drop n rest) (is_count ∙ ap length is_stretch)
      ∙ (ap (λ es. before_first p row ++ made ++ es) (drop_before q rest)
      ∙ ap (λ es. before_first p row ++ es ++ from_first q rest) (is_made ∙ (ap (λ v. entries_of same makes b (record { at = a; value = v; last = v }) stretch) is_left ∙ ap (entries_of same makes b (record { at = a; value = last_value zero (before_first p row); last = last_value zero (before_first p row) })) is_stretch))))
