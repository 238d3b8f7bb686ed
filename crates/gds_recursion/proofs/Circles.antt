-- Where uses lead, references lead.
use Rattle.std.proofs.Common.{◌≡◌, ℕ, Bool, true, false, List, [], ◌∷◌, length, get_or, Option, Some, refl, sym, ap, subst, ◌∙◌, arith}
use Rattle.std.proofs.lemmas.Option.{slice_get-get_or}
use Rattle.std.specs.Prelude.{slice_get}
use Rattle.std.specs.Global.{Vec}
use Rattle.deck_order.specs.Orders.{TellCyclic}
use Rattle.deck_order.specs.Uses.{IsUse, Leads, at_once, by}
use Rattle.gds_reach.specs.declared.reference.Reference.{Reference}
use Rattle.gds_reach.specs.References.{named_in, IsPath, Reaches, Refers, Tell}
use Rattle.gds_reach.proofs.Paths.{reference_at, stands_within}
use Rattle.gds_recursion.specs.Working.Circles.{AreUses, IsOnCircle}

module _ (links : List (Vec (Option ℕ))) (uses : List (Vec ℕ)) (are : AreUses links (length links) uses) where
  used : (i j : ℕ) → Refers links i j → IsUse uses i j
  used i j refers = (are i j).1 (stands_within links i refers.0 (Some j) refers.1, refers)

  references_lead : {i j : ℕ} → Leads uses i j → (k : ℕ) × Refers links i k × Reaches links k j
  references_lead {i} {j} (at_once u) = (j, ((are i j).0 u).1, ([], refl))
  references_lead {i} {j} (by {k = k} u l) =
      let (m, (place, e), (path, p)) = references_lead l in
      (k, ((are i k).0 u).1, (reference_at k place ∷ path, (refl, m, e, p)))

  uses_lead : (i j k : ℕ) (path : List Reference) → Refers links i k → IsPath links k path j → Leads uses i j
  uses_lead i j k [] refers p = at_once (used i j (subst (Refers links i) p refers))
  uses_lead i j k (r ∷ path) refers (s, m, e, p) =
      by (used i k refers) (uses_lead k j m path (r.place, ap (λ x. slice_get (named_in links x) r.place) (sym s) ∙ e) p)

  pub circles_told : (flags : List Bool) → length uses ≡ length links → TellCyclic uses flags → Tell links (IsOnCircle links) flags
  circles_told flags all told = record {
    all = told.all ∙ all;
    each = λ i there. (
      λ on. references_lead ((told.each i true on).0 refl),
      λ (k, refers, (path, p)).
          let at : slice_get flags i ≡ Some (get_or flags i false) = slice_get-get_or flags i false (let n = told.all in omega arith) in
          at ∙ ap (λ b. Some b) ((told.each i (get_or flags i false) at).1 (uses_lead i i k path refers p)),
    );
  }
