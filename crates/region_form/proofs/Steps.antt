-- One step of a climb and one of a builder: the place where it stands then, and the squares that it sees.
use Rattle.std.proofs.Common.{◌≡◌, ◌&&◌, cond, ℤ, ◌≤ℤ◌, int_le, List, [], ◌++◌, sym, ◌∙◌, ap}
use Rattle.std.proofs.lemmas.Int.{by_lt_z}
use Rattle.list_facts.proofs.EitherOr.{one_assoc, one_back, one_right_false, one_twice}
use Rattle.list_facts.proofs.Tests.{le_false, le_true}
use Rattle.list_facts.specs.EitherOr.{exactly_one}
use Rattle.interval_row.specs.declared.span.Span.{Span}
use Rattle.interval_row.specs.Rows.{has, IsRow}
use Rattle.interval_row.proofs.SamePlaces.{same_rows}
use Rattle.region_form.specs.Flips.{squares, is_odd, AreBelow}
use Rattle.region_form.specs.Climbs.{Standpoint, IsStandpoint, ahead, flips_above}
use Rattle.region_form.specs.Working.Changes.{spans_up_to}
use Rattle.region_form.specs.LineFlips.{flips_on}
use Rattle.region_form.proofs.Parity.{is_odd_append, squares_append, squares_above_all}
use Rattle.region_form.proofs.FlipLines.{StandsFrom, sorted_above}
use Rattle.region_form.proofs.Changes.{is_odd_passed, squares_passed, sorted_append}
use Rattle.region_form.proofs.LineFlips.{odd_on, squares_of_line}

-- a climb passes the line, where its row changes
module _ (place : Standpoint) (line : ℤ) (row : List Span) (p : IsStandpoint place) (f : StandsFrom line place.flips) (h : (x : ℤ) → has row x ≡ exactly_one (has place.row x) (has (spans_up_to line place.flips) x)) where
  pub passed_place : IsStandpoint (record { row = row; flips = flips_above line place.flips })
  passed_place =
      record {
        sorted = sorted_above line place.flips p.sorted;
        undone = λ x.
            let c = has (spans_up_to line place.flips) x in
            let o = is_odd (flips_above line place.flips) x in
            h x ∙ (ap (λ b. exactly_one b c) (p.undone x ∙ is_odd_passed line place.flips x p.sorted f) ∙ one_back c o);
      }

  pub passed_ahead : (x y : ℤ) → line ≤ℤ y → ahead (record { row = row; flips = flips_above line place.flips }) x y ≡ ahead place x y
  passed_ahead x y k =
      let c = has (spans_up_to line place.flips) x in
      let s = squares (flips_above line place.flips) x y in
      ap (λ b. exactly_one b s) (h x)
      ∙ (sym (one_assoc (has place.row x) c s)
      ∙ ap (exactly_one (has place.row x)) (sym (squares_passed line place.flips x y p.sorted f k)))

-- a builder rises to the line, where its row changes
module _ (place : Standpoint) (line : ℤ) (change row : List Span) (p : IsStandpoint place) (b : AreBelow line place.flips) (r : IsRow change) (h : (x : ℤ) → has change x ≡ exactly_one (has place.row x) (has row x)) where
  changed : (x : ℤ) → exactly_one (has place.row x) (has change x) ≡ has row x
  changed x = ap (exactly_one (has place.row x)) (h x) ∙ one_twice (has place.row x) (has row x)

  pub risen_place : IsStandpoint (record { row = row; flips = place.flips ++ flips_on line change })
  risen_place =
      record {
        sorted = sorted_append line place.flips change p.sorted b r;
        undone = λ x.
            sym
            (is_odd_append place.flips (flips_on line change) x
            ∙ (ap (λ q. exactly_one q (is_odd (flips_on line change) x)) (sym (p.undone x))
            ∙ (ap (exactly_one (has place.row x)) (odd_on line change x r) ∙ changed x)));
      }

  split_squares : (x y : ℤ) → squares (place.flips ++ flips_on line change) x y ≡ exactly_one (squares place.flips x y) (int_le line y && has change x)
  split_squares x y =
      squares_append place.flips (flips_on line change) x y
      ∙ ap (exactly_one (squares place.flips x y)) (squares_of_line line change x y r)

  pub risen_squares : (x y : ℤ) → squares (place.flips ++ flips_on line change) x y ≡ cond (int_le line y) (has row x) (squares place.flips x y)
  risen_squares x y =
      by_lt_z y line
      (λ l.
      let e = le_false line y l in
      split_squares x y
      ∙ (ap (λ q. exactly_one (squares place.flips x y) (q && has change x)) e
      ∙ (one_right_false (squares place.flips x y) ∙ ap (λ q. cond q (has row x) (squares place.flips x y)) (sym e))))
      (λ l.
      let e = le_true line y l in
      split_squares x y
      ∙ (ap (λ q. exactly_one (squares place.flips x y) (q && has change x)) e
      ∙ (ap (λ q. exactly_one q (has change x)) (squares_above_all line place.flips x y b l ∙ sym (p.undone x))
      ∙ (changed x ∙ ap (λ q. cond q (has row x) (squares place.flips x y)) (sym e)))))

-- where no flip is left, the row is empty
pub empty_at_end : (place : Standpoint) → IsStandpoint place → place.flips ≡ [] → IsRow place.row → place.row ≡ []
empty_at_end place p e r = same_rows place.row [] r tt (λ x. p.undone x ∙ ap (λ fs. is_odd fs x) e)
