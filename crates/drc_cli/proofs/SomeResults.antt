-- A layout that is accepted has results: the short runs of what is drawn can be listed.
use Rattle.std.proofs.Common.{ℕ, List, [], ◌∷◌, refl, sym, subst}
use Rattle.std.specs.List.{AllByRecursion}
use Rattle.drc_geom.specs.Squares.{covered}
use Rattle.run_lists.proofs.Bounds.{boundary_listed}
use Rattle.gds_records.specs.Records.{Item}
use Rattle.drc_cli.specs.CheckMeaning.{Reports, results_of}
use Rattle.first_form.specs.FirstForm.{ServedDeck, input_of, units_of, precision}
use Rattle.drc_cli.specs.Layout.{Element, Accepts, AreElements, FirstForm, drawn}
use Rattle.drc_cli.specs.Text.{results_text, said_text}
use Rattle.drc_cli.specs.Working.LayoutReading.{rects_on}
use Rattle.drc_cli.specs.Working.ShortRuns.{short_of}
use Rattle.drc_cli.proofs.LayoutAnswers.{IsDrawn, covers}
use Rattle.drc_cli.proofs.ShortRuns.{short_in_order, short_same}

all_drawn : (items : List Item) (elements : List Element) → AreElements items elements → AllByRecursion IsDrawn elements
all_drawn items [] are = tt
all_drawn [] (element ∷ elements) are = absurd are
all_drawn (a ∷ []) (element ∷ elements) are = absurd are
all_drawn (a ∷ b ∷ []) (element ∷ elements) are = absurd are
all_drawn (a ∷ b ∷ c ∷ []) (element ∷ elements) are = absurd are
all_drawn (a ∷ b ∷ c ∷ d ∷ []) (element ∷ elements) are = absurd are
all_drawn (boundary ∷ layer ∷ type ∷ points ∷ end ∷ items) (element ∷ elements) (b, l, t, p, e, same, rest) =
    (subst IsDrawn (sym same) (record { outlines = p.1.points; area = p.1.area }), all_drawn items elements rest)

form_drawn : (primary : List ℕ) (items : List Item) (elements : List Element) → FirstForm primary items elements → AllByRecursion IsDrawn elements
form_drawn primary [] elements form = absurd form
form_drawn primary (a ∷ []) elements form = absurd form
form_drawn primary (a ∷ b ∷ []) elements form = absurd form
form_drawn primary (a ∷ b ∷ c ∷ []) elements form = absurd form
form_drawn primary (a ∷ b ∷ c ∷ d ∷ []) elements form = absurd form
form_drawn primary (a ∷ b ∷ c ∷ d ∷ e ∷ []) elements form = absurd form
form_drawn primary (header ∷ library ∷ library_name ∷ units ∷ structure ∷ name ∷ items) elements (h, l, m, u, s, n, are) = all_drawn items elements are

pub has_results : (d : ServedDeck) (bytes date : List ℕ) (elements : List Element) → Accepts d.primary bytes elements → (text line : List ℕ) × Reports d bytes date text line
has_results d bytes date elements accepted =
    let number = (input_of d).number in
    let rects = rects_on number elements in
    let all = boundary_listed rects in
    let runs = short_of (units_of d.bound) all.0 in (
      results_text d.primary precision (results_of d date runs ∷ []),
      said_text (results_of d date runs ∷ []),
      record {
        elements = elements;
        runs = runs;
        accepted = accepted;
        reported = short_same (covered rects) (drawn number elements) (units_of d.bound) runs
            (covers number elements (form_drawn d.primary accepted.items elements accepted.form)) (short_in_order (covered rects) (units_of d.bound) all.0 all.1);
        text_is = refl;
        line_is = refl;
      },
    )
