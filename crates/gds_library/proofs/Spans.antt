-- Points behind those of a structure leave its elements as they are.
use Rattle.std.proofs.Common.{◌≡◌, refl, sym, ◌∙◌, ap, ℕ, zero, suc, ◌+◌, ◌-◌, ◌≤◌, ◌<◌, List, [], ◌∷◌, ◌++◌, length, length-append, take, drop, map, arith}
use Rattle.std.specs.List.{All}
use Rattle.std.proofs.lemmas.List.{take-append-le, drop_at, take_all, map-append}
use Rattle.gds_library.specs.declared.element.Point.{Point}
use Rattle.gds_library.specs.declared.element.Element.{Element}
use Rattle.gds_library.specs.declared.structure.Entry.{Entry}
use Rattle.gds_library.specs.Library.{Drawing}
use Rattle.gds_library.specs.Meanings.{with_points, drawing_of, IsWithin}

span_stays : (spots more : List Point) (first count : ℕ) → first + count ≤ length spots → take count (drop first (spots ++ more)) ≡ take count (drop first spots)
span_stays spots more zero count l = take-append-le count spots more (omega (arith, l))
span_stays [] more (suc first) zero l = refl
span_stays [] more (suc first) (suc count) l = absurd (omega arith)
span_stays (spot ∷ spots) more (suc first) count l = span_stays spots more first count (omega arith)

drawings_stay : (spots more : List Point) (entries : List Entry) → All (IsWithin (length spots)) entries → map (drawing_of (spots ++ more)) entries ≡ map (drawing_of spots) entries
drawings_stay spots more [] all = refl
drawings_stay spots more (entry ∷ entries) all =
    let here : entry.first + entry.count ≤ length spots = all 0 entry (omega arith) in
    let rest : All (IsWithin (length spots)) entries = λ k d l. all (suc k) d (let m : k < length entries = l in omega arith) in
    ap (λ those. with_points entry.element those ∷ map (drawing_of (spots ++ more)) entries) (span_stays spots more entry.first entry.count here)
    ∙ ap (λ those. drawing_of spots entry ∷ those) (drawings_stay spots more entries rest)

last_span : (spots more : List Point) → take (length (spots ++ more) - length spots) (drop (length spots) (spots ++ more)) ≡ more
last_span spots more =
    ap (take (length (spots ++ more) - length spots)) (drop_at spots more (length spots) refl)
    ∙ take_all (length (spots ++ more) - length spots) more (omega (arith, length-append spots more))

pub one_more : (spots more : List Point) (entries : List Entry) (element : Element) → All (IsWithin (length spots)) entries
    → map (drawing_of (spots ++ more)) (entries ++ (let e : Entry = record { element = element; first = length spots; count = length (spots ++ more) - length spots } in e) ∷ [])
    ≡ map (drawing_of spots) entries ++ with_points element more ∷ []
one_more spots more entries element all =
    let entry : Entry = record { element = element; first = length spots; count = length (spots ++ more) - length spots } in
    map-append (drawing_of (spots ++ more)) entries (entry ∷ [])
    ∙ ap (λ those. those ++ drawing_of (spots ++ more) entry ∷ []) (drawings_stay spots more entries all)
    ∙ ap (λ those. map (drawing_of spots) entries ++ with_points element those ∷ []) (last_span spots more)
