-- What is known of a layout where its reading has ended.
use Rattle.std.proofs.Common.{◌≡◌, ℕ, ℤ, pos, Bool, true, false, cond, List, [], ◌∷◌, ◌++◌, ◌&&◌, ◌||◌, map, refl, sym, ap, subst, ◌∙◌, arith}
use Rattle.std.specs.Prelude.{◌==◌, not, filter, if◌then◌else◌}
use Rattle.std.specs.List.{AllByRecursion}
use Rattle.std.specs.Ordering.{int_eq}
use Rattle.std.proofs.lemmas.Int.{ints}
use Rattle.drc_geom.specs.declared.point.Pt.{Pt}
use Rattle.drc_geom.specs.declared.rect.Rect.{Rect}
use Rattle.drc_geom.specs.Squares.{IsRect, squares_of, covered}
use Rattle.drc_geom.specs.Winding.{winding, outline}
use Rattle.gds_records.specs.Records.{Item}
use Rattle.drc_cli.specs.declared.layout.slot.Slot.{Slot}
use Rattle.drc_cli.specs.declared.layout.slot.Slot.TheVariants.{Header, Points}
use Rattle.drc_cli.specs.declared.layout.reader.Stop.{Stop}
use Rattle.drc_cli.specs.declared.layout.reader.Stop.TheVariants.{Ended}
use Rattle.drc_cli.specs.Layout.{Element, Stands, following, AllStand, Accepts, drawn}
use Rattle.drc_cli.specs.Working.LayoutReading.{Sought, HasStopped, elements_at, elements_from, elements_of, rect_of, rects_on}
use Rattle.drc_cli.proofs.LayoutForms.{form_from_slots}

-- ---- Each element's points are the outline of its rectangle

pub record IsDrawn (element : Element) : Type 0 where
  pub outlines : element.points ≡ outline (rect_of element.points)
  pub area : IsRect (rect_of element.points)

drawn-at : (primary : List ℕ) (slot : Slot) (item : Item) → Stands primary slot item → AllByRecursion IsDrawn (elements_at slot item)
drawn-at primary (Points layer) item stands = (record { outlines = stands.1.points; area = stands.1.area }, tt)
drawn-at primary slot item stands = tt

both : (xs ys : List Element) → AllByRecursion IsDrawn xs → AllByRecursion IsDrawn ys → AllByRecursion IsDrawn (xs ++ ys)
both [] ys p q = q
both (x ∷ xs) ys p q = (p.0, both xs ys p.1 q)

drawn-from : (primary : List ℕ) (slot : Slot) (items : List Item) → AllStand primary slot items → AllByRecursion IsDrawn (elements_from slot items)
drawn-from primary slot [] all = tt
drawn-from primary slot (item ∷ items) all = both (elements_at slot item) _ (drawn-at primary slot item all.0) (drawn-from primary (following slot item) items all.1)

-- ---- The rectangles of a layer cover what is drawn on it

-- whether points wind round a square
abbrev inside : List Pt → (x y : ℤ) → Bool
inside points x y = not (int_eq (winding points x y) (pos 0))

once : (b : Bool) (n : ℤ) → n ≡ (if b then pos 1 else pos 0) → not (int_eq n (pos 0)) ≡ b
once true n e = ap (λ (m : ℤ). not (int_eq m (pos 0))) e
once false n e = ap (λ (m : ℤ). not (int_eq m (pos 0))) e

winds_round : (r : Rect) → IsRect r → (x y : ℤ) → inside (outline r) x y ≡ squares_of r x y
winds_round r area x y = once (squares_of r x y) (winding (outline r) x y) (grind (arith, ints))

abbrev rects : List Element → List Rect
rects elements = map (λ (element : Element). rect_of element.points) elements

one_area : (b : Bool) (element : Element) (others : List Element) → IsRect (rect_of element.points) → AllByRecursion IsRect (rects others)
    → AllByRecursion IsRect (rects (cond b (element ∷ others) others))
one_area true element others area areas = (area, areas)
one_area false element others area areas = areas

areas : (number : ℕ) (elements : List Element) → AllByRecursion IsDrawn elements → AllByRecursion IsRect (rects_on number elements)
areas number [] all = tt
areas number (element ∷ elements) all = one_area (element.number == number) element (filter (λ e. e.number == number) elements) all.0.area (areas number elements all.1)

one_covers : (b : Bool) (element : Element) (others : List Element) (x y : ℤ)
    → covered (rects (cond b (element ∷ others) others)) x y ≡ ((b && squares_of (rect_of element.points) x y) || covered (rects others) x y)
one_covers true element others x y = refl
one_covers false element others x y = refl

pub covers : (number : ℕ) (elements : List Element) → AllByRecursion IsDrawn elements → (x y : ℤ) → covered (rects_on number elements) x y ≡ drawn number elements x y
covers number [] all x y = refl
covers number (element ∷ elements) all x y =
    let b = element.number == number in
    let others = filter (λ (e : Element). e.number == number) elements in
    let round : squares_of (rect_of element.points) x y ≡ inside element.points x y =
    sym (winds_round (rect_of element.points) all.0.area x y) ∙ ap (λ (points : List Pt). inside points x y) (sym all.0.outlines) in
    one_covers b element others x y ∙ ap (λ (w : Bool). (b && w) || covered (rects others) x y) round
    ∙ ap (λ (rest : Bool). (b && inside element.points x y) || rest) (covers number elements all.1 x y)

module _ (of : Sought) (bytes : List ℕ) (found : List Rect) (stop : Stop) (stopped : HasStopped of bytes found stop) where
  all_drawn : AllByRecursion IsDrawn (elements_of stopped.items)
  all_drawn = drawn-from of.primary Header stopped.items stopped.tracks.front

  pub stopped_areas : AllByRecursion IsRect found
  stopped_areas = subst (λ (rs : List Rect). AllByRecursion IsRect rs) (sym stopped.tracks.rects_are) (areas of.number (elements_of stopped.items) all_drawn)

  pub stopped_covers : (x y : ℤ) → covered found x y ≡ drawn of.number (elements_of stopped.items) x y
  stopped_covers x y = ap (λ (rs : List Rect). covered rs x y) stopped.tracks.rects_are ∙ covers of.number (elements_of stopped.items) all_drawn x y

-- ---- At ENDLIB

pub accepts : (of : Sought) (bytes : List ℕ) (found : List Rect) (stopped : HasStopped of bytes found Ended) → Accepts of.primary bytes (elements_of stopped.items)
accepts of bytes found stopped = record {
  items = stopped.items;
  rest = stopped.rest;
  cut = stopped.tracks.cut;
  form = form_from_slots of.primary stopped.items stopped.tracks.front stopped.why;
}
