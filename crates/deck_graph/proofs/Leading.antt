-- Where uses lead that are listed by number, and where the uses of definitions lead.
use Rattle.std.proofs.Common.{◌≡◌, ℕ, zero, suc, List, [], ◌∷◌, map, Some, refl, sym, ap, ◌∙◌}
use Rattle.std.specs.Prelude.{slice_get}
use Rattle.std.specs.Global.{Vec}
use Rattle.std.proofs.lemmas.Option.{none-some, same_Some}
use Rattle.deck_order.specs.Uses.{used_by, IsUse, Leads, at_once, by}
use Rattle.deck_definitions.specs.Definitions.{Entry}
use Rattle.deck_graph.specs.Graphs.{uses_of, numbers, Uses, LeadsTo, at_once as leads_at_once, by as leads_by}
use Rattle.deck_graph.proofs.Graphs.{at_or_none, used_at}

mapped_at : (f : Entry → List ℕ) (these : List Entry) (i : ℕ) (e : Entry) → slice_get these i ≡ Some e → at_or_none (map f these) i ≡ f e
mapped_at f [] i e h = absurd (none-some e h)
mapped_at f (d ∷ more) zero e h = ap f (same_Some d e h)
mapped_at f (d ∷ more) (suc i) e h = mapped_at f more i e h

mapped_there : (f : Entry → List ℕ) (these : List Entry) (i k j : ℕ) → slice_get (at_or_none (map f these) i) k ≡ Some j → (e : Entry) × (slice_get these i ≡ Some e)
mapped_there f [] i k j e = absurd (none-some j e)
mapped_there f (x ∷ xs) zero k j e = (x, refl)
mapped_there f (x ∷ xs) (suc i) k j e = mapped_there f xs i k j e

module _ (all : List Entry) (uses : List (Vec ℕ)) (are : numbers uses ≡ map (uses_of all) all) where
  listed : (i : ℕ) → used_by uses i ≡ at_or_none (map (uses_of all) all) i
  listed i = used_at uses i ∙ ap (λ lists. at_or_none lists i) are

  pub used : (i j : ℕ) → IsUse uses i j → Uses all i j
  used i j (place, h) =
      let here = ap (λ those. slice_get those place) (sym (listed i)) ∙ h in
      let found = mapped_there (uses_of all) all i place j here in
      record {
        entry = found.0;
        there = found.1;
        place = place;
        use_there = ap (λ those. slice_get those place) (sym (mapped_at (uses_of all) all i found.0 found.1)) ∙ here;
      }

  pub use_back : (i j : ℕ) → Uses all i j → IsUse uses i j
  use_back i j u = (u.place, ap (λ those. slice_get those u.place) (listed i ∙ mapped_at (uses_of all) all i u.entry u.there) ∙ u.use_there)

  pub leads_to : {i j : ℕ} → Leads uses i j → LeadsTo all i j
  leads_to (at_once u) = leads_at_once (used _ _ u)
  leads_to (by u more) = leads_by (used _ _ u) (leads_to more)

  pub leads_back : {i j : ℕ} → LeadsTo all i j → Leads uses i j
  leads_back (leads_at_once u) = at_once (use_back _ _ u)
  leads_back (leads_by u more) = by (use_back _ _ u) (leads_back more)
