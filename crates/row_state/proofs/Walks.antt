-- What a walk over the entries of a stretch makes: pieces that tile it, and entries of the changed values.
use Rattle.std.proofs.Common.{◌≡◌, Bool, true, false, cond, ℤ, ◌<ℤ◌, ◌≤ℤ◌, List, [], ◌∷◌, ◌++◌, refl, sym, subst, ap, ◌∙◌, arith}
use Rattle.std.proofs.lemmas.Int.{ints, by_lt_z}
use mathlib.Core.Bool.{true≢false}
use Rattle.list_facts.proofs.Members.{all_weaker}
use Rattle.list_facts.proofs.Tests.{by_test, lt_false, lt_true}
use Rattle.row_state.specs.declared.entry.Entry.{Entry}
use Rattle.row_state.specs.declared.piece.Piece.{Piece}
use Rattle.row_state.specs.declared.walk.Walk.{Walk}
use Rattle.row_state.specs.Entries.{value_from, last_value, Ascend, Differ}
use Rattle.row_state.specs.Pieces.{Tile}
use Rattle.row_state.specs.Working.Walks.{entry_of, entries_of, pieces_of}
use Rattle.row_state.proofs.Entries.{AllFrom, AllUpTo, AllBefore, all_join, ascend_join, behind, differ_join, last_join, value_before, value_first, value_join, from_more}

module _ {V : Type 0} (end : ℤ) where
  -- the entries from where a walk stands up to the end
  pub record AreAhead (at : ℤ) (es : List (Entry V)) : Type 0 where
    pub ascend : Ascend es
    pub from : AllFrom at es
    pub up_to : AllUpTo end es

  ahead_rest : (at : ℤ) (e : Entry V) (es : List (Entry V)) → AreAhead at (e ∷ es) → AreAhead at es
  ahead_rest at e es a = record { ascend = a.ascend.1; from = a.from.1; up_to = a.up_to.1 }

  ahead_next : (at : ℤ) (e : Entry V) (es : List (Entry V)) → AreAhead at (e ∷ es) → AreAhead e.column es
  ahead_next at e es a = record { ascend = a.ascend.1; from = all_weaker (λ f. e.column <ℤ f.column) (λ f. e.column ≤ℤ f.column) (λ f h. omega (arith, ints)) es a.ascend.0; up_to = a.up_to.1 }

  -- ---- the pieces

  -- where no entry lies in between, a piece reaches up to the next
  piece_rest : (at : ℤ) (value : V) (e : Entry V) (es : List (Entry V)) → at <ℤ e.column → pieces_of end at value (e ∷ es) ≡ record { x0 = at; x1 = e.column; old = value } ∷ pieces_of end e.column e.value es
  piece_rest at value e es l = ap (λ b. cond b (record { x0 = at; x1 = e.column; old = value } ∷ pieces_of end e.column e.value es) (pieces_of end at e.value es)) (lt_true at e.column l)

  piece_none : (at : ℤ) (value : V) (e : Entry V) (es : List (Entry V)) → e.column ≤ℤ at → pieces_of end at value (e ∷ es) ≡ pieces_of end at e.value es
  piece_none at value e es l = ap (λ b. cond b (record { x0 = at; x1 = e.column; old = value } ∷ pieces_of end e.column e.value es) (pieces_of end at e.value es)) (lt_false at e.column l)

  piece_last : (at : ℤ) (value : V) → at <ℤ end → pieces_of end at value [] ≡ record { x0 = at; x1 = end; old = value } ∷ []
  piece_last at value l =
      let none : List (Piece V) = [] in
      ap (λ b. cond b (record { x0 = at; x1 = end; old = value } ∷ []) none) (lt_true at end l)

  piece_end : (at : ℤ) (value : V) → end ≤ℤ at → pieces_of end at value [] ≡ []
  piece_end at value l =
      let none : List (Piece V) = [] in
      ap (λ b. cond b (record { x0 = at; x1 = end; old = value } ∷ []) none) (lt_false at end l)

  pub tiles : (values : ℤ → V) (at : ℤ) (value : V) (es : List (Entry V)) → at ≤ℤ end → AreAhead at es → ((x : ℤ) → at ≤ℤ x → x <ℤ end → values x ≡ value_from value es x) → Tile values at end (pieces_of end at value es)
  tiles values at value [] l a h =
      by_lt_z at end
      (λ m. subst (Tile values at end) (sym (piece_last at value m)) (refl, m, λ x p q. h x p q, refl))
      (λ m. subst (Tile values at end) (sym (piece_end at value m)) (omega (arith, ints)))
  tiles values at value (e ∷ es) l a h =
      let within : e.column ≤ℤ end = a.up_to.0 in
      let begins : at ≤ℤ e.column = a.from.0 in
      by_lt_z at e.column
      (λ m.
      subst (Tile values at end) (sym (piece_rest at value e es m)) (
        refl,
        m,
        λ x p q. h x p (omega (arith, ints)) ∙ value_before value (e ∷ es) x (q, all_weaker (λ f. e.column <ℤ f.column) (λ f. x <ℤ f.column) (λ f k. omega (arith, ints)) es a.ascend.0),
        tiles values e.column e.value es within (ahead_next at e es a) (λ x p q. h x (omega (arith, ints)) q ∙ value_first value e es x p),
      ))
      (λ m.
      subst (Tile values at end) (sym (piece_none at value e es m))
      (tiles values at e.value es l (ahead_rest at e es a) (λ x p q. h x p q ∙ value_first value e es x (omega (arith, ints)))))

  -- ---- the new entries

  module _ (same : V → V → Bool) (makes : V → V) (same_equal : (a b : V) → same a b ≡ true → a ≡ b) (equal_same : (a : V) → same a a ≡ true) where
    put_none : (last value : V) (column : ℤ) → same last value ≡ true → entry_of same last column value ≡ []
    put_none last value column e =
        let none : List (Entry V) = [] in
        ap (λ b. cond b none (record { column = column; value = value } ∷ [])) e

    put_one : (last value : V) (column : ℤ) → same last value ≡ false → entry_of same last column value ≡ record { column = column; value = value } ∷ []
    put_one last value column e =
        let none : List (Entry V) = [] in
        ap (λ b. cond b none (record { column = column; value = value } ∷ [])) e

    -- what is known of the new entries from where a walk stands
    pub record AreMade (at : ℤ) (last : V) (final : V) (made : List (Entry V)) : Type 0 where
      pub ascend : Ascend made
      pub from : AllFrom at made
      pub up_to : AllUpTo end made
      pub differ : Differ last made
      pub after : last_value last made ≡ final

    differs : (a b : V) → same a b ≡ false → a ≡ b → ⊥
    differs a b e q = true≢false (sym (equal_same a) ∙ (ap (same a) q ∙ e))

    put_made : (at : ℤ) (last value : V) → at ≤ℤ end → AreMade at last value (entry_of same last at value)
    put_made at last value l =
        by_test (same last value)
        (λ e. subst (AreMade at last value) (sym (put_none last value at e)) (record { ascend = tt; from = tt; up_to = tt; differ = tt; after = same_equal last value e }))
        (λ e. subst (AreMade at last value) (sym (put_one last value at e)) (record { ascend = (tt, tt); from = (omega (arith, ints), tt); up_to = (l, tt); differ = (differs last value e, tt); after = refl }))

    put_before : (at next : ℤ) (last value : V) → at <ℤ next → AllBefore next (entry_of same last at value)
    put_before at next last value l =
        by_test (same last value)
        (λ e. subst (AllBefore next) (sym (put_none last value at e)) tt)
        (λ e. subst (AllBefore next) (sym (put_one last value at e)) (l, tt))

    put_value : (at : ℤ) (last value : V) (x : ℤ) → at ≤ℤ x → value_from last (entry_of same last at value) x ≡ value
    put_value at last value x l =
        by_test (same last value)
        (λ e. ap (λ es. value_from last es x) (put_none last value at e) ∙ same_equal last value e)
        (λ e. ap (λ es. value_from last es x) (put_one last value at e) ∙ value_first last (record { column = at; value = value }) [] x l)

    -- one more entry before those that are made from the next column on
    made_join : (at next : ℤ) (last mid after : V) (rest : List (Entry V)) → at <ℤ next → next ≤ℤ end → AreMade next mid after rest → AreMade at last after (entry_of same last at mid ++ rest)
    made_join at next last mid after rest l m r =
        let first = put_made at last mid (omega (arith, ints)) in
        record {
          ascend = ascend_join next (entry_of same last at mid) rest first.ascend r.ascend (put_before at next last mid l) r.from;
          from = all_join (λ e. at ≤ℤ e.column) (entry_of same last at mid) rest first.from (from_more at next rest (omega (arith, ints)) r.from);
          up_to = all_join (λ e. e.column ≤ℤ end) (entry_of same last at mid) rest first.up_to r.up_to;
          differ = differ_join last (entry_of same last at mid) rest first.differ (subst (λ v. Differ v rest) (sym first.after) r.differ);
          after = last_join last (entry_of same last at mid) rest ∙ (ap (λ v. last_value v rest) first.after ∙ r.after);
        }

    entries_rest : (w : Walk V) (e : Entry V) (es : List (Entry V)) → w.at <ℤ e.column → entries_of same makes end w (e ∷ es) ≡ entry_of same w.last w.at (makes w.value) ++ entries_of same makes end (record { at = e.column; value = e.value; last = makes w.value }) es
    entries_rest w e es l = ap (λ b. cond b (entry_of same w.last w.at (makes w.value) ++ entries_of same makes end (record { at = e.column; value = e.value; last = makes w.value }) es) (entries_of same makes end (record w { value = e.value }) es)) (lt_true w.at e.column l)

    entries_none : (w : Walk V) (e : Entry V) (es : List (Entry V)) → e.column ≤ℤ w.at → entries_of same makes end w (e ∷ es) ≡ entries_of same makes end (record w { value = e.value }) es
    entries_none w e es l = ap (λ b. cond b (entry_of same w.last w.at (makes w.value) ++ entries_of same makes end (record { at = e.column; value = e.value; last = makes w.value }) es) (entries_of same makes end (record w { value = e.value }) es)) (lt_false w.at e.column l)

    entries_last : (w : Walk V) → w.at <ℤ end → entries_of same makes end w [] ≡ entry_of same w.last w.at (makes w.value) ++ entry_of same (makes w.value) end w.value
    entries_last w l = ap (λ b. cond b (entry_of same w.last w.at (makes w.value) ++ entry_of same (makes w.value) end w.value) (entry_of same w.last end w.value)) (lt_true w.at end l)

    entries_end : (w : Walk V) → end ≤ℤ w.at → entries_of same makes end w [] ≡ entry_of same w.last end w.value
    entries_end w l = ap (λ b. cond b (entry_of same w.last w.at (makes w.value) ++ entry_of same (makes w.value) end w.value) (entry_of same w.last end w.value)) (lt_false w.at end l)

    made_from : (at : ℤ) (last after : V) (made : List (Entry V)) → at ≤ℤ end → AreMade end last after made → AreMade at last after made
    made_from at last after made l m =
        record { ascend = m.ascend; from = from_more at end made l m.from; up_to = m.up_to; differ = m.differ; after = m.after }

    pub are_made : (w : Walk V) (es : List (Entry V)) → w.at ≤ℤ end → AreAhead w.at es → AreMade w.at w.last (last_value w.value es) (entries_of same makes end w es)
    are_made w [] l a =
        by_lt_z w.at end
        (λ m. subst (AreMade w.at w.last w.value) (sym (entries_last w m)) (made_join w.at end w.last (makes w.value) w.value (entry_of same (makes w.value) end w.value) m (omega (arith, ints)) (put_made end (makes w.value) w.value (omega (arith, ints)))))
        (λ m. subst (AreMade w.at w.last w.value) (sym (entries_end w m)) (made_from w.at w.last w.value (entry_of same w.last end w.value) l (put_made end w.last w.value (omega (arith, ints)))))
    are_made w (e ∷ es) l a =
        let within : e.column ≤ℤ end = a.up_to.0 in
        by_lt_z w.at e.column
        (λ m. subst (AreMade w.at w.last (last_value e.value es)) (sym (entries_rest w e es m)) (made_join w.at e.column w.last (makes w.value) (last_value e.value es) (entries_of same makes end (record { at = e.column; value = e.value; last = makes w.value }) es) m within (are_made (record { at = e.column; value = e.value; last = makes w.value }) es within (ahead_next w.at e es a))))
        (λ m. subst (AreMade w.at w.last (last_value e.value es)) (sym (entries_none w e es m)) (are_made (record w { value = e.value }) es l (ahead_rest w.at e es a)))

    -- the new values, on the stretch and behind it
    pub record HasValues (w : Walk V) (es made : List (Entry V)) : Type 0 where
      pub on : (x : ℤ) → w.at ≤ℤ x → x <ℤ end → value_from w.last made x ≡ makes (value_from w.value es x)
      pub past : (x : ℤ) → w.at ≤ℤ x → end ≤ℤ x → value_from w.last made x ≡ value_from w.value es x

    pub has_values : (w : Walk V) (es : List (Entry V)) → w.at ≤ℤ end → AreAhead w.at es → HasValues w es (entries_of same makes end w es)
    has_values w [] l a =
        by_lt_z w.at end
        (λ m.
        let mid = makes w.value in
        let first = entry_of same w.last w.at mid in
        let second = entry_of same mid end w.value in
        let made = put_made end mid w.value (omega (arith, ints)) in
        subst (HasValues w []) (sym (entries_last w m)) (record {
          on = λ x p q. value_join w.last first second x ∙ (ap (λ v. value_from v second x) (put_value w.at w.last mid x p) ∙ value_before mid second x (behind x end second q made.from));
          past = λ x p q. value_join w.last first second x ∙ (ap (λ v. value_from v second x) (put_value w.at w.last mid x p) ∙ put_value end mid w.value x q);
        }))
        (λ m. subst (HasValues w []) (sym (entries_end w m)) (record {
          on = λ x p q. absurd (omega (arith, ints));
          past = λ x p q. put_value end w.last w.value x q;
        }))
    has_values w (e ∷ es) l a =
        let within : e.column ≤ℤ end = a.up_to.0 in
        by_lt_z w.at e.column
        (λ m.
        let mid = makes w.value in
        let next : Walk V = record { at = e.column; value = e.value; last = mid } in
        let first = entry_of same w.last w.at mid in
        let rest = entries_of same makes end next es in
        let made = are_made next es within (ahead_next w.at e es a) in
        let values = has_values next es within (ahead_next w.at e es a) in
        let before = λ (x : ℤ) (k : x <ℤ e.column). value_before w.value (e ∷ es) x (k, all_weaker (λ f. e.column <ℤ f.column) (λ f. x <ℤ f.column) (λ f h. omega (arith, ints)) es a.ascend.0) in
        let start = λ (x : ℤ) (p : w.at ≤ℤ x). value_join w.last first rest x ∙ ap (λ v. value_from v rest x) (put_value w.at w.last mid x p) in
        subst (HasValues w (e ∷ es)) (sym (entries_rest w e es m)) (record {
          on = λ x p q. start x p ∙ by_lt_z x e.column
              (λ k. value_before mid rest x (behind x e.column rest k made.from) ∙ ap makes (sym (before x k)))
              (λ k. values.on x k q ∙ ap makes (sym (value_first w.value e es x k)));
          past = λ x p q. start x p ∙ (values.past x (omega (arith, ints)) q ∙ sym (value_first w.value e es x (omega (arith, ints))));
        }))
        (λ m.
        let next : Walk V = record w { value = e.value } in
        let values = has_values next es l (ahead_rest w.at e es a) in
        subst (HasValues w (e ∷ es)) (sym (entries_none w e es m)) (record {
          on = λ x p q. values.on x p q ∙ ap makes (sym (value_first w.value e es x (omega (arith, ints))));
          past = λ x p q. values.past x p q ∙ sym (value_first w.value e es x (omega (arith, ints)));
        }))
