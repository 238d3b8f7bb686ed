-- Laws of the slots: how a front grows at its end, and what its parts are.
use Rattle.std.proofs.Common.{◌≡◌, ℕ, Bool, cond, List, [], ◌∷◌, ◌++◌, map, refl, sym, ap, ◌∙◌, arith, append_assoc, eq-eqb}
use Rattle.std.specs.Prelude.{filter, ◌==◌}
use Rattle.std.proofs.lemmas.List.{append-nil, map-append}
use Rattle.std.proofs.lemmas.List.Elements.{filter-append}
use Rattle.std.proofs.lemmas.Bool.Decides.{nat_tests}
use Rattle.gds_records.specs.Records.{Item}
use Rattle.drc_cli.specs.declared.layout.slot.Slot.{Slot}
use Rattle.drc_cli.specs.declared.layout.slot.Slot.TheVariants.{Points}
use Rattle.drc_cli.specs.Layout.{Element, points_in, rect_in, Stands, following, AllStand}
use Rattle.drc_cli.specs.Working.LayoutReading.{elements_at, elements_from, slot_after, rect_of, rects_on}

pub rects_on-append : (number : ℕ) (xs ys : List Element) → rects_on number (xs ++ ys) ≡ rects_on number xs ++ rects_on number ys
rects_on-append number xs ys =
    let test = λ (e : Element). e.number == number in
    let rect = λ (e : Element). rect_of e.points in
    ap (map rect) (filter-append test xs ys) ∙ map-append rect (filter test xs) (filter test ys)

-- ---- A front grows at its end

pub slot_after-append : (slot : Slot) (items more : List Item) → slot_after slot (items ++ more) ≡ slot_after (slot_after slot items) more
slot_after-append slot [] more = refl
slot_after-append slot (item ∷ items) more = slot_after-append (following slot item) items more

pub elements_from-push : (slot : Slot) (items : List Item) (item : Item) → elements_from slot (items ++ item ∷ []) ≡ elements_from slot items ++ elements_at (slot_after slot items) item
elements_from-push slot [] item = append-nil (elements_at slot item)
elements_from-push slot (first ∷ items) item =
    ap (λ (t : List Element). elements_at slot first ++ t) (elements_from-push (following slot first) items item)
    ∙ sym (append_assoc (elements_at slot first) (elements_from (following slot first) items) (elements_at (slot_after (following slot first) items) item))

pub all_stand-push : (primary : List ℕ) (slot : Slot) (items : List Item) (item : Item) → AllStand primary slot items → Stands primary (slot_after slot items) item
    → AllStand primary slot (items ++ item ∷ [])
all_stand-push primary slot [] item all here = (here, tt)
all_stand-push primary slot (first ∷ items) item all here = (all.0, all_stand-push primary (following slot first) items item all.1 here)

pub all_stand-last : (primary : List ℕ) (slot : Slot) (items : List Item) (item : Item) → AllStand primary slot (items ++ item ∷ []) → Stands primary (slot_after slot items) item
all_stand-last primary slot [] item all = all.0
all_stand-last primary slot (first ∷ items) item all = all_stand-last primary (following slot first) items item all.1

pub all_stand-front : (primary : List ℕ) (slot : Slot) (items more : List Item) → AllStand primary slot (items ++ more) → AllStand primary slot items
all_stand-front primary slot [] more all = tt
all_stand-front primary slot (first ∷ items) more all = (all.0, all_stand-front primary (following slot first) items more all.1)

-- ---- Which records add a rectangle to a layer

here : (number : ℕ) (element : Element) → element.number ≡ number → rects_on number (element ∷ []) ≡ rect_of element.points ∷ []
here number element e = ap (λ b. map (λ (e : Element). rect_of e.points) (cond b (element ∷ []) [])) (eq-eqb element.number number e)

elsewhere : (number : ℕ) (element : Element) → (element.number ≡ number → ⊥) → rects_on number (element ∷ []) ≡ []
elsewhere number element ne =
    let P : Bool → Type 0 = λ b. map (λ (e : Element). rect_of e.points) (cond b (element ∷ []) []) ≡ [] in
    grind (arith, nat_tests)

pub rects_here : (number : ℕ) (slot : Slot) (item : Item) → slot ≡ Points number → rects_on number (elements_at slot item) ≡ rect_in item.body ∷ []
rects_here number slot item is = ap (λ (p : Slot). rects_on number (elements_at p item)) is ∙ here number (record { number = number; points = points_in item.body }) refl

pub rects_elsewhere : (number : ℕ) (slot : Slot) (item : Item) → (slot ≡ Points number → ⊥) → rects_on number (elements_at slot item) ≡ []
rects_elsewhere number (Points layer) item other = elsewhere number (record { number = layer; points = points_in item.body }) (λ e. other (ap Points e))
rects_elsewhere number slot item other = refl
