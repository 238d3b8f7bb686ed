-- What kept names stand for is what names of the structures stand for, and is one of them.
use Rattle.std.proofs.Common.{◌≡◌, ℕ, zero, suc, ◌<◌, Bool, List, [], ◌∷◌, length, map, Option, Some, None, refl, sym, ap, subst, ◌∙◌, arith}
use Rattle.std.proofs.lemmas.List.{length-map}
use Rattle.std.proofs.lemmas.Option.{none-some, same_Some}
use Rattle.std.specs.Prelude.{nat_eq, ◌&&◌, slice_get, IfSome}
use Rattle.std.specs.Cmp.Lexicographic.{pointwise}
use Rattle.std.specs.Global.{Vec}
use Rattle.std.specs.List.{filter_map, position_from}
use Rattle.std.specs.Str.{bytes_eq}
use Rattle.deck_names.specs.declared.definition.Definition.{Definition}
use Rattle.deck_names.specs.declared.definition.Scope.{Scope}
use Rattle.deck_names.specs.declared.definition.Scope.TheVariants as scope
use Rattle.deck_names.specs.Definitions.{is_seen, stands_for}
use Rattle.gds_library.specs.declared.element.Instance.{Instance}
use Rattle.gds_library.specs.Library.{Drawing, boundary, box, path, instance, Structure}
use Rattle.gds_reach.specs.References.{AreWithin, Refers}
use Rattle.gds_links.specs.Links.{number_of, reference, references_in, links_of, listed, AreLinks}
use Rattle.gds_links.specs.Working.Naming.{AreNames, key_of, kept_key, link_by, links_by}
use Rattle.list_facts.proofs.Positions.{position-map, position_below}

-- ---- links

abbrev is_for : List ℕ → List ℕ × Scope → Bool
is_for q key = is_seen key.1 scope.Everywhere && pointwise nat_eq q key.0

pub same_number : (kept : List Definition) (structures : List Structure) → AreNames kept structures → (q : List ℕ) → stands_for kept scope.Everywhere q ≡ number_of structures q
same_number kept structures are q =
    position-map kept_key (is_for q) 0 kept
    ∙ (ap (position_from (is_for q) 0) are ∙ sym (position-map key_of (is_for q) 0 structures))

module _ (kept : List Definition) (structures : List Structure) (are : AreNames kept structures) where
  linked : (drawings : List Drawing) → filter_map (link_by kept) drawings ≡ map (λ (placed : Instance). number_of structures placed.name) (filter_map reference drawings)
  linked [] = refl
  linked (boundary outline points ∷ drawings) = linked drawings
  linked (box outline points ∷ drawings) = linked drawings
  linked (path drawn points ∷ drawings) = linked drawings
  linked (instance placed points ∷ drawings) =
      ap (λ link. link ∷ filter_map (link_by kept) drawings) (same_number kept structures are placed.name)
      ∙ ap (λ links. number_of structures placed.name ∷ links) (linked drawings)

  all_linked : (those : List Structure) → map (links_by kept) those ≡ map (links_of structures) those
  all_linked [] = refl
  all_linked (s ∷ those) = ap (λ links. links ∷ map (links_by kept) those) (linked s.elements) ∙ ap (λ lists. links_of structures s ∷ lists) (all_linked those)

  pub are_links : (links : List (Vec (Option ℕ))) → listed links ≡ map (links_by kept) structures → AreLinks structures links
  are_links links e = e ∙ all_linked structures

-- ---- each link is to one of the structures

names_below : (all : List Structure) (placed : List Instance) (place j : ℕ) → slice_get (map (λ (p : Instance). number_of all p.name) placed) place ≡ Some (Some j) → j < length all
names_below all [] place j e = absurd (none-some (Some j) e)
names_below all (p ∷ placed) zero j e =
    let below = position_below (λ (s : Structure). bytes_eq p.name s.name) 0 all j (same_Some (number_of all p.name) (Some j) e) in omega (arith, below)
names_below all (p ∷ placed) (suc place) j e = names_below all placed place j e

links_below : (all those : List Structure) (links : List (Vec (Option ℕ))) → listed links ≡ map (links_of all) those → (i j : ℕ) → Refers links i j → j < length all
links_below all those [] e i j (place, h) = absurd (none-some (Some j) h)
links_below all [] (v ∷ vs) e i j refers = absurd (cc)
links_below all (s ∷ those) (v ∷ vs) e zero j (place, h) =
    let same : v.items ≡ links_of all s = cc in
    names_below all (references_in s) place j (ap (λ xs. slice_get xs place) (sym same) ∙ h)
links_below all (s ∷ those) (v ∷ vs) e (suc i) j refers = let same : listed vs ≡ map (links_of all) those = cc in links_below all those vs same i j refers

pub as_many : (structures : List Structure) (links : List (Vec (Option ℕ))) → AreLinks structures links → length links ≡ length structures
as_many structures links e = sym (length-map links (λ (v : Vec (Option ℕ)). v.items)) ∙ (ap length e ∙ length-map structures (links_of structures))

pub links_within : (structures : List Structure) (links : List (Vec (Option ℕ))) → AreLinks structures links → AreWithin links
links_within structures links e i j refers = subst (λ n. j < n) (sym (as_many structures links e)) (links_below structures structures links e i j refers)

pub primary_below : (structures : List Structure) (links : List (Vec (Option ℕ))) (q : List ℕ) → AreLinks structures links → (o : Option ℕ) → o ≡ number_of structures q → IfSome o (λ p. p < length links)
primary_below structures links q e None is = tt
primary_below structures links q e (Some p) is =
    let size = as_many structures links e in
    let below = position_below (λ (s : Structure). bytes_eq q s.name) 0 structures p (sym is) in
    omega (arith, size, below)
