-- What a signature gives is the type that the table gives.
use Rattle.std.proofs.Common.{◌≡◌, ◌⊎◌, ◌&&◌, Bool, true, false, cond, refl, sym, ◌∙◌, ap, subst, inl, inr, Option, Some, None}
use Rattle.std.specs.Prelude.{IfSome, IfNone}
use Rattle.std.proofs.lemmas.Bool.{cases_Bool, and_parts, and_from}
use Rattle.std.proofs.lemmas.Option.{same_Some}
use Rattle.layer_model.specs.declared.op.Op.{Op}
use Rattle.operation_types.specs.declared.layer_type.LayerType.{LayerType}
use Rattle.operation_types.specs.declared.signature.Signature.{Signature}
use Rattle.operation_types.specs.TypeTable.{HasType, signature_of, takes, given_by}

taken : (line : Signature) (first second : Option LayerType) → (takes line.first first && takes line.second second) ≡ true → given_by line first second ≡ Some line.gives
taken line first second h = ap (λ t. cond t (Some line.gives) None) h

not_taken : (line : Signature) (first second : Option LayerType) → (takes line.first first && takes line.second second) ≡ false → given_by line first second ≡ None
not_taken line first second h = ap (λ t. cond t (Some line.gives) None) h

pub has_type : (operation : Op) (first second : Option LayerType) (line : Signature) → signature_of operation ≡ Some line → (r : Option LayerType) → r ≡ given_by line first second → IfSome r (HasType operation first second)
has_type operation first second line e None g = tt
has_type operation first second line e (Some t) g =
    elim (cases_Bool (takes line.first first && takes line.second second)) [
      | inl passes ↦ record {
        line = line;
        its_line = e;
        takes_first = (and_parts _ _ passes).0;
        takes_second = (and_parts _ _ passes).1;
        given = same_Some line.gives t (sym (g ∙ taken line first second passes));
      }
      | inr fails ↦ absurd (let x : Some t ≡ None = g ∙ not_taken line first second fails in cc)
    ]

pub has_none : (operation : Op) (first second : Option LayerType) (line : Signature) → signature_of operation ≡ Some line → (r : Option LayerType) → r ≡ given_by line first second → IfNone r ((t : LayerType) → HasType operation first second t → ⊥)
has_none operation first second line e (Some t) g = tt
has_none operation first second line e None g = λ t h.
    let same : h.line ≡ line = same_Some h.line line (sym h.its_line ∙ e) in
    let passes = and_from (takes h.line.first first) (takes h.line.second second) h.takes_first h.takes_second in
    let x : None ≡ Some h.line.gives = g ∙ ap (λ l. given_by l first second) (sym same) ∙ taken h.line first second passes in cc

pub no_row : (operation : Op) (first second : Option LayerType) → signature_of operation ≡ None → (t : LayerType) → HasType operation first second t → ⊥
no_row operation first second e t h = let x : Some h.line ≡ None = sym h.its_line ∙ e in cc
