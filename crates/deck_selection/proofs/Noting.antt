-- What one statement more says, and what those behind it say.
use Rattle.std.proofs.Common.{◌≡◌, ℕ, Bool, true, false, ◌||◌, List, ◌∷◌, refl, sym, ap, ◌∙◌}
use Rattle.std.specs.Prelude.{nat_eq}
use Rattle.std.specs.Cmp.Lexicographic.{pointwise}
use Rattle.std.specs.List.{flat_map, list_any}
use Rattle.std.proofs.lemmas.List.Folds.{list_any-append}
use Rattle.deck_tree.specs.declared.name_at.NameAt.{NameAt}
use Rattle.deck_selection.specs.Selection.{is_named}

noted : (old one rest : Bool) → ((old || one) || rest) ≡ (old || (one || rest))
noted true one rest = refl
noted false one rest = refl

pub flag_more : {X : Type 0} (test : X → Bool) (from rest : List X) (x : X) (old new whole : Bool) → from ≡ x ∷ rest → new ≡ (old || test x) → (old || list_any test from) ≡ whole → (new || list_any test rest) ≡ whole
flag_more test from rest x old new whole more e w =
    ap (λ b. b || list_any test rest) e
    ∙ (noted old (test x) (list_any test rest) ∙ (ap (λ l. old || list_any test l) (sym more) ∙ w))

pub names_more : {X : Type 0} (names : X → List NameAt) (q : List ℕ) (from rest : List X) (x : X) (old new whole : Bool) → from ≡ x ∷ rest → new ≡ (old || is_named q (names x)) → (old || is_named q (flat_map names from)) ≡ whole → (new || is_named q (flat_map names rest)) ≡ whole
names_more names q from rest x old new whole more e w =
    ap (λ b. b || is_named q (flat_map names rest)) e
    ∙ (noted old (is_named q (names x)) (is_named q (flat_map names rest))
    ∙ (ap (λ b. old || b) (sym (list_any-append (λ (n : NameAt). pointwise nat_eq q n.name) (names x) (flat_map names rest)))
    ∙ (ap (λ l. old || is_named q (flat_map names l)) (sym more) ∙ w)))
